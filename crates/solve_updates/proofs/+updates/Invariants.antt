-- Six steps for each level of depth that is left, in which a record comes after the list that it is in, and that after who
-- lends the list.
use Rattle.std.proofs.Common.{length, ◌-◌, ◌+◌, ◌*◌}
use Rattle.solve_leaves.specs.Room.{bare}
use Rattle.solve_updates.proofs.Steps.{Passing}
use Rattle.solve_updates.proofs.Trials.{Trying}
use Rattle.solve_updates.proofs.+updates.Given as goal

abbrev pub decreases-try_children : goal.decreases-try_children
decreases-try_children l = 6 * l.depth + 3

abbrev pub decreases-update : goal.decreases-update
decreases-update l = 6 * l.depth

abbrev pub decreases-update_and : goal.decreases-update_and
decreases-update_and l = 6 * l.depth + 1

abbrev pub decreases-update_child : goal.decreases-update_child
decreases-update_child l = 6 * l.depth + 3

abbrev pub decreases-update_implies : goal.decreases-update_implies
decreases-update_implies l = 6 * l.depth + 4

abbrev pub decreases-update_one : goal.decreases-update_one
decreases-update_one l = 6 * l.depth + 2

abbrev pub decreases-update_xor : goal.decreases-update_xor
decreases-update_xor l = 6 * l.depth + 4

-- what has been found so far, with the children that are left, gives what all give
abbrev pub invariant-try_children-loop-found : goal.invariant-try_children-loop-found
invariant-try_children-loop-found l =
    Trying (bare l.counts l.records l.side) l.depth l.children l.initial.work l.initial.errors l.work l.errors l.tried l.found l.i

abbrev pub decreases-try_children-loop-found : goal.decreases-try_children-loop-found
decreases-try_children-loop-found l = length l.children - l.i

-- what is left of the children, from the frame now, answers for all of them from the frame at entry
abbrev pub invariant-update_and-loop-child : goal.invariant-update_and-loop-child
invariant-update_and-loop-child l =
    Passing (bare l.counts l.records l.side) l.depth l.children l.initial.work l.initial.errors l.work l.errors l.changed l.child-index
