-- `has_function` meets its contract: what the chain makes.
use Rattle.std.proofs.Common.{◌∙◌, rules, tests, arith}
use Rattle.std.proofs.lemmas.Iterator.{YieldsList-from_range}
use Rattle.std.proofs.lemmas.Iterator.Search.{any_from_yields_List}
use Rattle.rule_heads.specs.Alternatives.{is_function}
use Rattle.text_known.specs.Laws.{function_made}
use Rattle.text_known.proofs.has_function.Goals as goal

pub returns : goal.returns
returns c =
    let a = c.args in
    any_from_yields_List (is_function a.signatures.now a.head) _ _ _ c.any.ensures.ran (YieldsList-from_range 0 a.n a.n (cc) (omega arith)) (λ x b q k. search (rules, tests))
    ∙ function_made a.signatures.now a.n a.head
