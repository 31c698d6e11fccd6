-- `all_known` meets its contract: what the chain makes.
use Rattle.std.proofs.Common.{ap, ◌∙◌, rules, tests, arith}
use Rattle.std.proofs.lemmas.Iterator.{YieldsList-from_range}
use Rattle.std.proofs.lemmas.Iterator.Search.{all_from_yields_List}
use Rattle.text_words.specs.Parts.{part_at, all_of}
use Rattle.text_grammar.specs.Grammar.{kind_at, pass_from}
use Rattle.text_grammar.specs.Laws.{pass_made}
use Rattle.text_known.specs.Known.{known_by}
use Rattle.text_known.proofs.all_known.Goals as goal

pub returns : goal.returns
returns c =
    let l = c.args.line in
    let t = known_by c.args.declared in
    let r = c.pattern_of-pattern.result in
    all_from_yields_List (λ i. t (kind_at r i) (part_at l.text.now l.table.now i)) _ _ c.all.result c.all.ensures.ran (YieldsList-from_range 0 l.count l.count (cc) (omega arith)) (λ x b q k. search (rules, tests))
    ∙ pass_made t r l.text.now l.table.now 0 l.count
    ∙ ap (λ p. pass_from t p 0 (all_of l)) c.pattern_of-pattern.ensures
