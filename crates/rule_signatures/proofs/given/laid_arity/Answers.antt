-- `laid_arity` meets its contract.
use Rattle.std.proofs.Common.{refl}
use Rattle.rule_cells.specs.Put.{lay, cells}
use Rattle.rule_signatures.proofs.given.laid_arity.Goals as goal

pub returns : goal.returns
unfolding lay cells
returns c = record { records = rw c.number.ensures at c.put_record.ensures; count = refl }
