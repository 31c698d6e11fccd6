-- `find_byte` meets its contract: what is left from the place on, and where the byte stands in it.
use Rattle.std.proofs.Common.{◌≡◌, ◌+◌, ap, ◌∙◌, eqb, drop, rules, tests}
use Rattle.std.specs.List.{position}
use Rattle.std.proofs.lemmas.Iterator.{YieldsList-from_slice}
use Rattle.std.proofs.lemmas.Iterator.Search.{position_from_yields_List}
use Rattle.text_words.specs.Laws.Names.{to_end, up_to_found}
use Rattle.text_words.proofs.names.find_byte.Goals as goal

pub returns : goal.returns
returns c =
    let a = c.args in
    let rest : c.between-rest.result.now ≡ drop a.from a.s.now = c.between-rest.ensures ∙ to_end a.s.now a.from in
    let at : c.position.result ≡ position (λ x. eqb x a.b) (drop a.from a.s.now) =
    position_from_yields_List (λ x. eqb x a.b) _ _ c.position.result c.position.ensures.ran (YieldsList-from_slice (drop a.from a.s.now) (cc)) (λ x b q k. search (rules, tests)) in
    ap (λ n. a.from + n) (c.unwrap_or.ensures ∙ rw (at, rest) (up_to_found a.b (drop a.from a.s.now)))
