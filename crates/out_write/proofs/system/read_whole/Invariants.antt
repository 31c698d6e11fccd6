-- What was read stands at the front of the room.
use Rattle.std.proofs.Common.{◌-◌, ◌≤◌, length}
use Rattle.out_write.proofs.system.read_whole.Given as goal

abbrev pub invariant-loop-at : goal.invariant-loop-at
invariant-loop-at g l = l.at ≤ length l.room

abbrev pub decreases-loop-at : goal.decreases-loop-at
decreases-loop-at g l = length l.room - l.at
