-- What is at hand of an input.
use Rattle.std.specs.Prelude.{◌≤◌, ◌≡◌, get_or, MatchOption}
use Rattle.replay_io.specs.declared.input.Input.{Input}

-- A block is begun: its first byte is at hand, or there is none.
abbrev pub Fresh : Input → Type 0
Fresh i = MatchOption i.at_hand (i.end ≤ i.at) (λ byte. (byte ≡ get_or i.block 0 0) × (i.at ≡ 1))
