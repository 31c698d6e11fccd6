-- `laid_equal` meets its contract.
use Rattle.rule_signatures.specs.Cases.{exact_none, exact_right, exact_wrong}
use Rattle.rule_signatures.proofs.given.laid_equal.Goals as goal
use Rattle.rule_signatures.proofs.given.laid_equal.Goals.{in_default-via-in-Some+else-statement-expected, in_default-via-in_default}

pub returns-in-Some : goal.returns-in-Some
returns-in-Some c = exact_wrong _ _ _ _ _ _ _ _ _ _ c.in-Some.is c.if-statement-expected.true c.laid_arity.ensures

pub returns-in_default : goal.returns-in_default
returns-in_default c =
    elim c.in_default.branch [
      | in_default-via-in-Some+else-statement-expected w ↦ exact_right _ _ _ _ _ _ _ _ _ _ w.in-Some.is w.if-statement-expected.false c.laid_output.ensures
      | in_default-via-in_default w ↦ exact_none _ _ _ _ _ _ _ _ _ w.in_default.is c.laid_output.ensures
    ]
