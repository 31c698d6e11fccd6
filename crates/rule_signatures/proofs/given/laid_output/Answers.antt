-- `laid_output` meets its contract.
use Rattle.std.proofs.Common.{refl, arith, take, length-take}
use Rattle.rule_signatures.specs.Cases.{output_some, output_none, alike_few}
use Rattle.rule_signatures.proofs.given.laid_output.Goals as goal

pub overflow_add-result : goal.overflow_add-result
overflow_add-result c = let rest = take c.saturating_sub-left.result c.args.statement.args.now in omega (arith, c.laid_alike-2.ensures.count, alike_few c.args.signature.common rest, length-take c.saturating_sub-left.result c.args.statement.args.now)

pub returns : goal.returns
returns c = output_some _ _ _ _ _ _ _ _ _ _ _ _ _ c.in-Some.is c.saturating_sub-left.ensures c.cell.ensures c.put_assign.ensures refl c.laid_alike-2.ensures

pub returns-in_default : goal.returns-in_default
returns-in_default c = output_none _ _ _ _ _ _ _ _ c.in_default.is c.laid_alike.ensures
