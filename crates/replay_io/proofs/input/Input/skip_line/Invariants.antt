use Rattle.std.proofs.Common.{◌≡◌, IsNone}
use Rattle.replay_io.proofs.input.Input.skip_line.Given as goal

abbrev pub invariant-loop : goal.invariant-loop
invariant-loop l = IsNone l.initial.self.at_hand → l.self ≡ l.initial.self
