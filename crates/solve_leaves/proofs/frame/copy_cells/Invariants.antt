-- `copy_cells` meets its contract. After i turns the first i cells of the source stand at the target.
use mathlib.Core.Path.{◌≡◌}
use lib.ListN.{length, drop}
use lib.Seq.{paste}
use Rattle.solve_leaves.proofs.frame.copy_cells.Given as goal

abbrev pub invariant-loop-i : goal.invariant-loop-i
invariant-loop-i l = (length l.cells ≡ length l.initial.cells) × (l.cells ≡ paste l.initial.cells l.to (drop l.from l.initial.cells) l.i)
