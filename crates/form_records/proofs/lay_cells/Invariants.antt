-- The list with the cells of the records passed.
use Rattle.std.proofs.Common.{◌≡◌}
use Rattle.form_records.specs.Cells.{laid}
use Rattle.form_records.proofs.lay_cells.Given as goal

abbrev pub invariant-loop-number : goal.invariant-loop-number
invariant-loop-number l = l.list ≡ laid l.records l.number l.initial.list
