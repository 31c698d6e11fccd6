-- Each cell behind the index has its number.
use Rattle.std.proofs.Common.{◌≤◌}
use Rattle.replay_io.proofs.input.Input.line.Given as goal

abbrev pub invariant-loop-cell : goal.invariant-loop-cell
invariant-loop-cell l = l.count ≤ l.cell-index
