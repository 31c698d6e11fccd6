-- A count that is multiplied is at most the list's length.
use Rattle.std.proofs.Common.{◌≤◌}
use Rattle.replay_texts.proofs.count_of.Given as goal

abbrev pub invariant-loop-byte : goal.invariant-loop-byte
invariant-loop-byte l = l.count ≤ 20000000
