use Rattle.std.proofs.Common.{take}
use Rattle.replay_io.specs.Waits.{Puts, spaced}
use Rattle.replay_io.proofs.output.Output.put_spaced.Given as goal

abbrev pub invariant-loop-number : goal.invariant-loop-number
invariant-loop-number l = Puts l.initial.self (spaced (take l.number-index l.numbers)) l.self
