-- `some_empty` meets its contract.
use Rattle.std.proofs.Common.{rules, tests, ◌∙◌}
use Rattle.std.proofs.lemmas.Iterator.{YieldsList-from_slice}
use Rattle.std.proofs.lemmas.Iterator.Search.{any_from_yields_List}
use Rattle.rule_signatures.specs.Laws.{any_made}
use Rattle.rule_signatures.specs.Tables.{signature_at}
use Rattle.rule_signatures.specs.Gives.{empty}
use Rattle.rule_heads.proofs.alternatives.some_empty.Goals as goal

pub returns : goal.returns
returns c =
    let a = c.args in
    any_from_yields_List (λ y. empty (signature_at a.signatures.now y)) _ _ _ c.any.ensures.ran (YieldsList-from_slice a.found.now cc) (λ x b q k. search (rules, tests))
    ∙ any_made _ _
