use Rattle.std.proofs.Common.{◌≤◌, ◌-◌, length}
use Rattle.replay_texts.proofs.read_full.Given as goal

-- as many bytes are read
abbrev pub invariant-loop-count : goal.invariant-loop-count
invariant-loop-count l = l.done ≤ length l.list

abbrev pub decreases-loop-count : goal.decreases-loop-count
decreases-loop-count l = length l.list - l.done
