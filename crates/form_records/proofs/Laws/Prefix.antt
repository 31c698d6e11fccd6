-- Cells past the counted records are not looked at: two lists with the same cells in front are refused alike.
use Prim.Native.Nat.{ℕ, zero, suc, ◌+◌, ◌*◌, ◌≤◌, ◌<◌}
use Rattle.std.specs.Prelude.{◌≡◌, Bool, true, false, List, [], ◌∷◌, length, get_or, take}
use Rattle.std.proofs.Math.Path.{refl, ap}
use Rattle.std.proofs.Common.{sym, ◌∙◌, arith, get_or-take}
use mathlib.Core.List.Memᴰ
use Rattle.std.proofs.Math.Dec.{leb}
use borrow.Author.Tests.{le-leb}
use Rattle.definition.specs.declared.Counts.{Counts}
use Rattle.definition.specs.Sizes.{record_cells, max_depth}
use Rattle.definition.specs.Lists.{from, joined, Among}
use Rattle.definition.specs.Problem.{Problem, node, children, top_level}
use Rattle.definition.specs.Refusal.{counts_fit, record_fits, range_fits, cells_fit, children_below, named, named_once, trees_fit, depth_within, depth, depth_fits, unless, records_refusal}
use Rattle.definition.proofs.Laws.Lists.{all_same, from_member, largest_same}
use Rattle.definition.proofs.Laws.Refused.{child_below, top_below, values_same}
use Rattle.solve_records.specs.Lent.{lent}

joined_same : (f g : ℕ → List ℕ) (xs : List ℕ) → ((x : ℕ) → Among x xs → f x ≡ g x) → joined f xs ≡ joined g xs
unfolding joined
joined_same f g [] h = refl
joined_same f g (x ∷ xs) h = rw (h x (Memᴰ.head refl), joined_same f g xs (λ y m. h y (Memᴰ.tail m)))

module _ (c : Counts) (a b side tops range : List ℕ) where
  abbrev p : Problem
  p = lent c a side tops range

  abbrev q : Problem
  q = lent c b side tops range

  module _ (in_a : c.records * record_cells ≤ length a) (in_b : c.records * record_cells ≤ length b)
      (alike : (i : ℕ) → i < c.records * record_cells → get_or a i 0 ≡ get_or b i 0) where
    counts_same : counts_fit p ≡ counts_fit q
    unfolding counts_fit
    counts_same = rw (le-leb (c.records * record_cells) (length a) in_a, le-leb (c.records * record_cells) (length b) in_b)

    cell_same : (r k : ℕ) → r < c.records → k < record_cells → get_or a (r * record_cells + k) 0 ≡ get_or b (r * record_cells + k) 0
    cell_same r k l m = alike (r * record_cells + k) (omega arith)

    node_same : (r : ℕ) → r < c.records → node p r ≡ node q r
    unfolding node
    node_same r l = rw (alike (r * record_cells) (omega arith), cell_same r 1 l (omega arith), cell_same r 2 l (omega arith), cell_same r 3 l (omega arith))

    record_same : (r : ℕ) → r < c.records → record_fits p r ≡ record_fits q r
    unfolding record_fits
    record_same r l =
        rw (alike (r * record_cells) (omega arith), cell_same r 1 l (omega arith), cell_same r 2 l (omega arith))
        (values_same p q refl refl (get_or b (r * record_cells) 0) (get_or b (r * record_cells + 1) 0) (get_or b (r * record_cells + 2) 0))

    below : (r : ℕ) → Among r (from 0 c.records) → r < c.records
    below r m = omega (arith, from_member 0 c.records r m)

    cells_same : cells_fit p ≡ cells_fit q
    unfolding cells_fit range_fits
    cells_same = rw (all_same (record_fits p) (record_fits q) (from 0 c.records) (λ r m. record_same r (below r m)))

    children_same : (r : ℕ) → Among r (from 0 c.records) → children_below p r ≡ children_below q r
    unfolding children_below
    children_same r m = rw (node_same r (below r m))

    named_same : named p ≡ named q
    unfolding named
    named_same = rw (joined_same (λ r. children (node p r)) (λ r. children (node q r)) (from 0 c.records) (λ r m. ap children (node_same r (below r m))))

    trees_same : trees_fit p ≡ trees_fit q
    unfolding trees_fit named_once
    trees_same = rw (all_same (children_below p) (children_below q) (from 0 c.records) children_same, named_same)

    module _ (trees : trees_fit q ≡ true) where
      depth_same : (n r : ℕ) → r < c.records → depth_within p n r ≡ depth_within q n r
      unfolding depth_within
      depth_same zero r l = refl
      depth_same (suc n) r l = rw (node_same r l) (ap suc (largest_same (depth_within p n) (depth_within q n) (children (node q r)) (λ k m.
          let h : k < r = child_below q trees r k l m in
          depth_same n k (omega arith))))

      depths_same : depth_fits p ≡ depth_fits q
      unfolding depth_fits
      depths_same =
          all_same (λ r. leb (depth p r) max_depth) (λ r. leb (depth q r) max_depth) (top_level q)
          (λ r m. ap (λ (d : ℕ). leb d max_depth) (depth_same (suc r) r (top_below q trees r m)))

    -- the depth is looked at only past 3
    last_same : (t : Bool) → trees_fit q ≡ t → unless (trees_fit q) 3 (unless (depth_fits p) 4 0) ≡ unless (trees_fit q) 3 (unless (depth_fits q) 4 0)
    last_same true e = rw (depths_same e)
    last_same false e = rw e

    pub same_cells : records_refusal p ≡ records_refusal q
    unfolding records_refusal
    same_cells = rw (counts_same, cells_same, trees_same, last_same (trees_fit q) refl)
    -- where the front parts are equal

  pub same_front : c.records * record_cells ≤ length a → c.records * record_cells ≤ length b →
      take (c.records * record_cells) a ≡ take (c.records * record_cells) b → records_refusal p ≡ records_refusal q
  same_front in_a in_b e = same_cells in_a in_b (λ i l.
      sym (get_or-take (c.records * record_cells) a i 0 l) ∙ ap (λ (x : List ℕ). get_or x i 0) e ∙ get_or-take (c.records * record_cells) b i 0 l)
