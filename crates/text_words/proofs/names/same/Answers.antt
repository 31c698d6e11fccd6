-- `same` meets its contract: what the chain makes of two lists of one length, and lists of two lengths. The chain may
-- go over the front of a that is all of it.
use Rattle.std.proofs.Common.{length, sym, ◌∙◌, ne_eqb, rules, tests}
use Rattle.std.proofs.Math.Seq.{take-length}
use Rattle.std.proofs.lemmas.Iterator.{YieldsList-from_slice, YieldsList-from_zip, same_from_all}
use Rattle.text_words.specs.Laws.Walk.{same_length, same_decides}
use Rattle.text_words.proofs.names.same.Goals as goal

pub returns-then-a-b : goal.returns-then-a-b
returns-then-a-b c =
    same_decides _ _ _ (same_from_all {s = c.zip.result} c.all.new.self _ c.all.result c.args.a.now c.args.b.now c.all.ensures.ran
    (YieldsList-from_zip (YieldsList-from_slice c.args.a.now (cc (take-length c.args.a.now))) (YieldsList-from_slice c.args.b.now (cc))) (search (rules, tests)) (λ x q k. search (rules, tests)) (λ x q k. search (rules, tests)))

pub returns-else-a-b : goal.returns-else-a-b
returns-else-a-b c = ne_eqb (length c.args.a.now) (length c.args.b.now) c.if-a-b.false ∙ sym (same_length c.args.a.now c.args.b.now c.if-a-b.false)
