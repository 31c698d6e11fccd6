-- The measure is the record's number: children have smaller ones. The loop: the deepest so far and the children that are left
-- have the same largest depth as all children.
use Rattle.std.specs.Prelude.{ℕ, suc, ◌+◌, ◌≡◌, Bool, true, false, eqb}
use Rattle.std.specs.Ordering.{ord_max}
use Rattle.std.proofs.lemmas.Grind.{common_steps}
use Rattle.std.proofs.Common.{max, nat_cmp, sym, ap, ◌∙◌, arith}
use Rattle.std.proofs.lemmas.Bool.{eqb-true, eqb-false}
use native.Mathlib.Nat.{le_refl}
use Rattle.definition.specs.Refusal.{depth as depth_of}
use Rattle.solve_records.specs.Lent.{lists}
use Rattle.solve_records.proofs.Depths.{depth_most, one_child, implied_child, implied_below, listed_children, listed_below, deeper, deepest_found, under_child}
use Rattle.solve_records.proofs.Values.{part_read}
use Rattle.solve_records.proofs.deep.+depth.Goals as goal

larger : (a b : ℕ) → ord_max nat_cmp a b ≡ max a b
larger a b = grind (arith, common_steps)

implies : {r : Bool} {k : ℕ} → r ≡ eqb k 5 → r ≡ true → k ≡ 5
implies {r} {k} e h = eqb-true k 5 (sym e ∙ h)

no_implies : {r : Bool} {k : ℕ} → r ≡ eqb k 5 → r ≡ false → k ≡ 5 → ⊥
no_implies {r} {k} e h = eqb-false k 5 (sym e ∙ h)

pub read_record-rec-requires : goal.read_record-rec-requires
read_record-rec-requires t c = (c.requires _ (le_refl _)).sound.inside

pub depth-requires : goal.depth-requires
depth-requires t c = under_child c.requires c.decreases (implied_below _ _ _ _ c.read_record-rec.ensures (implies c.is_implies.ensures c.if-is_implies.true) (c.requires _ (le_refl _)))

pub overflow_add-result : goal.overflow_add-result
overflow_add-result t c =
    omega (
      arith,
      c.depth.ensures,
      one_child _ _ _ c.requires _ (implied_child _ _ _ _ c.read_record-rec.ensures (implies c.is_implies.ensures c.if-is_implies.true)),
      depth_most (lists c.args.records.now c.args.side.now) (suc c.args.number) c.args.number,
      (c.requires _ (le_refl _)).sound.inside,
    )

pub returns-then-is_implies : goal.returns-then-is_implies
returns-then-is_implies t c =
    ap (λ (n : ℕ). n + 1) c.depth.ensures ∙ one_child _ _ _ c.requires _ (implied_child _ _ _ _ c.read_record-rec.ensures (implies c.is_implies.ensures c.if-is_implies.true))

pub listed-child-items-requires : goal.listed-child-items-requires
listed-child-items-requires t c = record {
  part_inside = part_read (c.requires _ (le_refl _)).sound c.read_record-rec.ensures;
  fact = (no_implies c.is_implies.ensures c.if-is_implies.false);
}

pub depth-requires-in-loop-child : goal.depth-requires-in-loop-child
depth-requires-in-loop-child t c =
    under_child c.requires c.decreases (listed_below _ _ _ _ _ (listed_children _ _ _ _ c.read_record-rec.ensures _ c.listed-child-items.ensures) (c.requires _ (le_refl _)) c.loop-child-test.true)

pub loop-child-preserved : goal.loop-child-preserved
loop-child-preserved t c =
    let a = c.args in
    let step = deeper (depth_of (lists a.records.now a.side.now)) c.listed-child-items.result.now c.loop-child.child-index c.loop-child.deepest c.loop-child-test.true in
    let most = larger c.loop-child.deepest c.depth-in-loop-child.result in
    rw (c.max-deepest.ensures, most, c.depth-in-loop-child.ensures) (step ∙ c.loop-child.invariant)

pub overflow_add-result-2 : goal.overflow_add-result-2
overflow_add-result-2 t c =
    omega (
      arith,
      deepest_found _ _ _ _ _ _ c.requires (listed_children _ _ _ _ c.read_record-rec.ensures _ c.listed-child-items.ensures) c.loop-child-test.false c.loop-child.invariant,
      (c.requires _ (le_refl _)).sound.inside,
    )

pub returns : goal.returns
returns t c =
    (deepest_found _ _ _ _ _ _ c.requires (listed_children _ _ _ _ c.read_record-rec.ensures _ c.listed-child-items.ensures) c.loop-child-test.false c.loop-child.invariant).1
