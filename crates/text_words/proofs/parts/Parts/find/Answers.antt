-- `find` meets its contract: what the chain makes.
use Rattle.std.proofs.Common.{◌≡◌, ap, ◌∙◌, rules, tests, arith}
use Rattle.std.specs.List.{position, range_with_len}
use Rattle.std.specs.Option.{unwrap_or}
use Rattle.std.proofs.lemmas.Iterator.{YieldsList-from_range}
use Rattle.std.proofs.lemmas.Iterator.Search.{position_from_yields_List}
use Rattle.text_words.specs.Bytes.{same}
use Rattle.text_words.specs.Parts.{part_at}
use Rattle.text_words.specs.Laws.Parts.{found_at}
use Rattle.text_words.proofs.parts.Parts.find.Goals as goal

pub returns : goal.returns
returns c =
    let p = c.args.self in
    let at : c.position.result ≡ position (λ i. same (part_at p.text.now p.table.now i) c.args.w.now) (range_with_len 0 p.count) =
    position_from_yields_List (λ i. same (part_at p.text.now p.table.now i) c.args.w.now) _ _ c.position.result c.position.ensures.ran (YieldsList-from_range 0 p.count p.count (cc) (omega arith)) (λ x b q k. search (rules, tests)) in
    c.unwrap_or.ensures ∙ ap (λ r. unwrap_or r p.count) at ∙ found_at p.text.now p.table.now c.args.w.now p.count
