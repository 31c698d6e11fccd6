use Rattle.std.proofs.Common.{take}
use Rattle.replay_io.specs.Waits.{Puts}
use Rattle.replay_io.proofs.output.Output.put_all.Given as goal

abbrev pub invariant-loop-byte : goal.invariant-loop-byte
invariant-loop-byte l = Puts l.initial.self (take l.byte-index l.text) l.self
