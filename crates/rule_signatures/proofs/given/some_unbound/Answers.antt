-- `some_unbound` meets its contract.
use Rattle.std.proofs.Common.{rules, tests, ◌∙◌}
use Rattle.std.proofs.lemmas.Iterator.{YieldsList-from_slice}
use Rattle.std.proofs.lemmas.Iterator.Search.{any_from_yields_List}
use Rattle.rule_signatures.specs.Laws.{any_made}
use Rattle.rule_signatures.specs.Tables.{unbound}
use Rattle.rule_signatures.proofs.given.some_unbound.Goals as goal

pub returns : goal.returns
returns c =
    let a = c.args in
    any_from_yields_List (unbound a.scope.terms.now a.scope.globals.now) _ _ _ c.any.ensures.ran (YieldsList-from_slice a.args.now cc) (λ x b q k. search (rules, tests))
    ∙ any_made _ _
