-- `laid_simple` meets its contract.
use Rattle.rule_signatures.specs.Cases.{simple_right, simple_wrong}
use Rattle.rule_signatures.proofs.given.laid_simple.Goals as goal

pub returns-then-statement-own : goal.returns-then-statement-own
returns-then-statement-own c = simple_right _ _ _ _ _ _ _ _ c.part-own.ensures c.if-statement-own.true c.assign_each.ensures

pub returns : goal.returns
returns c = simple_wrong _ _ _ _ _ _ _ _ _ c.part-own.ensures c.if-statement-own.false c.laid_arity.ensures
