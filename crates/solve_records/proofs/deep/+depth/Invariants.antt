-- The measure is the record's number: children have smaller ones. The loop: the deepest so far and the children that are left
-- have the same largest depth as all children.
use Rattle.std.specs.Prelude.{◌≡◌, max, drop}
use Rattle.definition.specs.Refusal.{depth as depth_of}
use Rattle.definition.specs.Lists.{largest}
use Rattle.solve_records.specs.Lent.{lists}
use Rattle.solve_records.proofs.deep.+depth.Given as goal

abbrev pub decreases-depth : goal.decreases-depth
decreases-depth l = l.number

abbrev pub invariant-loop-child : goal.invariant-loop-child
invariant-loop-child l =
    max l.deepest (largest (depth_of (lists l.records l.side)) (drop l.child-index l.child-items)) ≡ largest (depth_of (lists l.records l.side)) l.child-items
