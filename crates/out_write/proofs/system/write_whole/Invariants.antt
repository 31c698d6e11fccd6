-- What was written is the front of the list.
use Rattle.std.proofs.Common.{◌-◌, ◌≤◌, length}
use Rattle.out_write.proofs.system.write_whole.Given as goal

abbrev pub invariant-loop-taken : goal.invariant-loop-taken
invariant-loop-taken g l = l.taken ≤ length l.bytes

abbrev pub decreases-loop-taken : goal.decreases-loop-taken
decreases-loop-taken g l = length l.bytes - l.taken
