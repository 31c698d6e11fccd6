-- What refusal 10 leaves.
use Rattle.std.specs.Prelude.{ℕ, ◌*◌, ◌≤◌, ◌≡◌, Bool, true, ◌&&◌, leb}
use Rattle.std.proofs.Common.{leb-true}
use Rattle.definition.specs.declared.Counts.{Counts}
use Rattle.definition.proofs.Laws.Lists.{and_true}
use Rattle.rule_steps.specs.declared.Lengths.{Lengths}
use Rattle.rule_steps.specs.Given.{room_for}
use Rattle.rule_steps.specs.Step.{Few}

-- the counts that pass 10 are few
first : (a b : ℕ) (t : Bool) → leb a b && t ≡ true → a ≤ b
first a b t h = leb-true a b (and_true (leb a b) t h).0

pub room_few : (l : Lengths) (c : Counts) → room_for l c ≡ true → Few c
unfolding room_for
room_few l c h =
    let e : _ × _ = and_true _ _ h in
    let g : _ × _ = and_true _ _ e.0 in
    let t : _ × _ = and_true _ _ g.0 in
    let s : _ × _ = and_true _ _ t.0 in
    record {
      records = first c.records 512 (leb (c.records * 8) l.records) s.0;
      side = first c.side 2048 (leb c.side l.side) s.1;
      tops = first c.tops 512 (leb c.tops l.tops) t.1;
      range = first c.range 256 (leb (c.range * 2) l.range) g.1;
      terms = first c.terms 256 (leb (c.terms * 2) l.terms) e.1;
    }
