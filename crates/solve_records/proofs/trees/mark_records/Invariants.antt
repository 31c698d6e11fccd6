-- The loop marks the children of what is left of the records; the marks with what is left give the counts of all children.
use Prim.Native.Nat.{◌-◌}
use mathlib.Core.Path.{◌≡◌}
use lib.ListN.{length}
use Rattle.definition.specs.Refusal.{children_below}
use Rattle.definition.specs.Lists.{all, from, joined}
use Rattle.solve_records.specs.Lent.{lists, children_of}
use Rattle.solve_records.proofs.Marking.{Going}
use Rattle.solve_records.proofs.trees.mark_records.Given as goal

abbrev pub invariant-loop-i : goal.invariant-loop-i
invariant-loop-i l =
    (length l.marks ≡ length l.initial.marks) × Going (all (children_below (lists l.records l.side)) (from l.i (l.count - l.i)))
    (all (children_below (lists l.records l.side)) (from 0 l.count)) (joined (children_of l.records l.side) (from l.i (l.count - l.i)))
    (joined (children_of l.records l.side) (from 0 l.count)) l.initial.marks l.marks
