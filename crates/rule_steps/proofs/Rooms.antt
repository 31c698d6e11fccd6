-- The test of the room, with lists divided.
use Rattle.std.specs.Prelude.{◌≡◌, ◌/◌, ◌&&◌, leb}
use Rattle.std.proofs.Common.{arith}
use Rattle.definition.specs.declared.Counts.{Counts}
use Rattle.rule_lent.proofs.Counts.{divided}
use Rattle.rule_steps.specs.declared.Lengths.{Lengths}
use Rattle.rule_steps.specs.Given.{room_for}

pub room_divided : (l : Lengths) (c : Counts) → room_for l c ≡
    (leb c.records 512 && leb c.records (l.records / 8)
    && (leb c.side 2048 && leb c.side l.side)
    && (leb c.tops 512 && leb c.tops l.tops)
    && (leb c.range 256 && leb c.range (l.range / 2))
    && (leb c.terms 256 && leb c.terms (l.terms / 2)))
unfolding room_for
room_divided l c =
    rw (divided c.records 8 l.records (omega arith), divided c.range 2 l.range (omega arith), divided c.terms 2 l.terms (omega arith))
