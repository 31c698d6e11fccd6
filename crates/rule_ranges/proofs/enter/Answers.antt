-- The invariant: `Going`, and that the range with the entries that are left is what it is to be.
use Rattle.std.proofs.Common.{refl, sym, ◌∙◌}
use Rattle.rule_ranges.proofs.Steps.{going_begin, going_fresh, going_seen, going_end, fresh_left, seen_left, entered, put_none, new_end}
use Rattle.rule_ranges.proofs.enter.Goals as goal
use Rattle.rule_ranges.proofs.enter.Goals.{then-mark, else-mark}

pub loop-term-init : goal.loop-term-init
loop-term-init c = record { going = going_begin _ _ _; entered = refl }

pub loop-term-preserved : goal.loop-term-preserved
loop-term-preserved c =
    let w = c.loop-term.invariant in
    let t = c.loop-term-test.true in
    let m = c.mark.ensures in
    elim c.if-mark.branch [
      | then-mark b ↦
          let left = fresh_left w.going t m b.if-mark.true in
          rw (b.range-is, b.n-is) (record { going = going_fresh w.going t m b.if-mark.true; entered = entered _ _ _ _ _ _ _ left b.put_all.ensures ∙ w.entered })
      | else-mark b ↦
          rw (b.range-is, b.n-is) (record { going = going_seen w.going t m b.if-mark.false; entered = rw (← seen_left w.going t m b.if-mark.false) w.entered })
    ]

pub returns : goal.returns
returns c =
    let g = c.loop-term.invariant in
    let h = c.loop-term-test.false in
    let e = going_end g.going h in
    record { value = e.0; range_after = sym (put_none _ _ _ _ (new_end _ _ _ h)) ∙ g.entered; marks_after = e.1 }
