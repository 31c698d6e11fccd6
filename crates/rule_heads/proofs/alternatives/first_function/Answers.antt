-- `first_function` meets its contract.
use Rattle.std.proofs.Common.{rules, tests, arith}
use Rattle.std.proofs.lemmas.Iterator.{YieldsList-from_range}
use Rattle.std.proofs.lemmas.Iterator.Search.{find_from_yields_List}
use Rattle.rule_heads.specs.Alternatives.{is_function}
use Rattle.rule_heads.specs.Laws.{found_first}
use Rattle.rule_heads.proofs.alternatives.first_function.Goals as goal

pub returns : goal.returns
returns c =
    let a = c.args in
    found_first a.signatures.now a.declared a.head c.find.result
    (find_from_yields_List (is_function a.signatures.now a.head) _ _ _ c.find.ensures.ran (YieldsList-from_range 0 a.declared a.declared (cc) (omega arith)) (λ x b q k. search (rules, tests)))
