-- `put_assign` meets its contract.
use Rattle.rule_cells.specs.Put.{cells}
use Rattle.rule_signatures.proofs.given.put_assign.Goals as goal

pub returns : goal.returns
unfolding cells
returns c = rw c.number.ensures at c.put_record.ensures
