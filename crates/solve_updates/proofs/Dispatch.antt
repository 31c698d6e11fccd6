-- The update of a record, by the record's kind: what each of the six asks, and that its answer is the record's.
use Prim.Native.Nat.{ℕ, zero, suc, ◌+◌, ◌-◌, ◌*◌, ◌<◌, ◌≤◌}
use mathlib.Core.Path.{◌≡◌, refl, sym, ap, subst, ◌∙◌}
use mathlib.Core.Bool.{true, false, false≢true, true≢false}
use mathlib.Core.List.Memᴰ
use mathlib.Core.List.{List, [], ◌∷◌}
use native.Mathlib.Omega.{arith}
use borrow.Author.Tests.{leb-true}
use lib.ListN.{length, take, drop}
use Rattle.definition.specs.Sizes.{record_cells}
use Rattle.definition.specs.Lists.{Among, all}
use Rattle.definition.specs.Problem.{Problem, Node, eq, assign, and, xor, implies, children, node, node_of, terms_of, place_of, part}
use Rattle.definition.specs.Update.{each, step, upd}
use Rattle.definition.specs.Refusal.{record_fits, values_fit, term_fits, part_fits}
use Rattle.definition.proofs.Laws.Passes.{fits_below}
use Rattle.definition.proofs.Laws.Lists.{and_true}
use Rattle.definition.proofs.Laws.Refused.{in_range_lem, record_terms}
use Rattle.solve_records.specs.Read.{HasCells, read_node}
use Rattle.solve_records.specs.declared.Rec.{Rec}
use Rattle.solve_leaves.specs.Room.{most_in_cell, frame_of}
use Rattle.solve_leaves.specs.Says.{Answer, Says, Ready}
use Rattle.solve_leaves.specs.Leaf.{LeafSays, LeafAsks, is_leaf, leaf_of}
use Rattle.solve_updates.proofs.Ready.{fits_deep, own, ready_kids}
use Rattle.solve_updates.proofs.Own.{term_in, entry_in}
use Rattle.solve_updates.proofs.Steps.{says_upd}

-- a part of the side list as it is lent
abbrev lent_part : List ℕ → ℕ → ℕ → List ℕ
lent_part side a b = take ((a + b) - a) (drop a side)

lent_is_part : (side : List ℕ) (a b : ℕ) → part side a b ≡ lent_part side a b
lent_is_part side a b = ap (λ (k : ℕ). take k (drop a side)) (sum a b)
  where
    sum : (a b : ℕ) → b ≡ (a + b) - a
    sum a b = omega arith

-- a kind that is neither a leaf nor one of the two whose children are listed
abbrev pub Other : ℕ → Type 0
Other k = (is_leaf k ≡ false) × (k ≡ 2 → ⊥) × (k ≡ 3 → ⊥)

module _ {p : Problem} {d r : ℕ} {work errors : List ℕ} (h : Ready p d (r ∷ []) work errors) where
  pub deep : d ≡ suc (d - 1)
  deep = fits_deep p d r (h.fits r (Memᴰ.head refl))

  pub record_in : r * record_cells + record_cells ≤ length p.records
  record_in = omega (arith, fits_below p d r (h.fits r (Memᴰ.head refl)), h.records)

  -- one level above its children
  pub above : Ready p (suc (d - 1)) (r ∷ []) work errors
  above = subst (λ (k : ℕ). Ready p k (r ∷ []) work errors) deep h

  module _ {rec : Rec} (cells : HasCells p.records r rec) where
    here : place_of p r ≡ rec.place
    here = sym cells.place

    -- what the record's test says of it
    sound : record_fits p r ≡ true
    sound = (own p (d - 1) r work errors above).values

    values : (k : ℕ) → rec.kind ≡ k → values_fit p k rec.first rec.second ≡ true
    unfolding record_fits
    values k e = rw (← e, cells.kind, cells.first, cells.second) sound

    -- the record by its kind
    node_of_lem : (k : ℕ) → rec.kind ≡ k → node p r ≡ node_of p.side k rec.first rec.second rec.third
    node_of_lem k e = read_node p r rec cells ∙ ap (λ (j : ℕ). node_of p.side j rec.first rec.second rec.third) e

    last_kind : (k : ℕ) → rec.kind ≡ k → Other k → k ≡ 5
    unfolding values_fit
    last_kind zero e o = absurd (true≢false o.0)
    last_kind (suc zero) e o = absurd (true≢false o.0)
    last_kind (suc (suc zero)) e o = absurd (o.1 refl)
    last_kind (suc (suc (suc zero))) e o = absurd (o.2 refl)
    last_kind (suc (suc (suc (suc zero)))) e o = absurd (true≢false o.0)
    last_kind (suc (suc (suc (suc (suc zero))))) e o = refl
    last_kind (suc (suc (suc (suc (suc (suc k)))))) e o = absurd (false≢true (values (suc (suc (suc (suc (suc (suc k)))))) e))

    as_and : rec.kind ≡ 2 → node p r ≡ and (part p.side rec.first rec.second)
    unfolding node_of
    as_and = node_of_lem 2

    as_xor : rec.kind ≡ 3 → node p r ≡ xor (part p.side rec.first rec.second)
    unfolding node_of
    as_xor = node_of_lem 3

    as_implies : Other rec.kind → node p r ≡ implies (part p.side rec.first rec.second) rec.third
    unfolding node_of
    as_implies o = node_of_lem 5 (last_kind rec.kind refl o)

    -- a leaf: the node, and what its update asks
    leaf_node : (k : ℕ) → rec.kind ≡ k → is_leaf k ≡ true → node p r ≡ leaf_of k rec.first rec.second
    unfolding node_of
    leaf_node zero e l = node_of_lem 0 e
    leaf_node (suc zero) e l = node_of_lem 1 e
    leaf_node (suc (suc zero)) e l = absurd (false≢true l)
    leaf_node (suc (suc (suc zero))) e l = absurd (false≢true l)
    leaf_node (suc (suc (suc (suc zero)))) e l = node_of_lem 4 e
    leaf_node (suc (suc (suc (suc (suc k))))) e l = absurd (false≢true l)

    pub leaf_asks : p.counts.sorts ≤ most_in_cell → LeafAsks rec.kind rec.first rec.second work errors
    leaf_asks few = go rec.kind refl
      where
        go : (k : ℕ) → rec.kind ≡ k → LeafAsks k rec.first rec.second work errors
        go zero e = let w = in_range_lem p r (eq rec.first rec.second) sound (leaf_node 0 e refl) in (term_in above w.0, term_in above w.1, entry_in above)
        go (suc zero) e = let w = in_range_lem p r (assign rec.first rec.second) sound (leaf_node 1 e refl) in (term_in above w.0, omega (arith, w.1), entry_in above)
        go (suc (suc k)) e = entry_in above

    -- the part of the side list
    pub part_in : is_leaf rec.kind ≡ false → rec.first + rec.second ≤ length p.side
    unfolding values_fit
    part_in l = omega (arith, go rec.kind refl l, h.side)
      where
        go : (k : ℕ) → rec.kind ≡ k → is_leaf k ≡ false → rec.first + rec.second ≤ p.counts.side
        go zero e f = absurd (true≢false f)
        go (suc zero) e f = absurd (true≢false f)
        go (suc (suc zero)) e f = leb-true (rec.first + rec.second) p.counts.side (values 2 e)
        go (suc (suc (suc zero))) e f = leb-true (rec.first + rec.second) p.counts.side (values 3 e)
        go (suc (suc (suc (suc zero)))) e f = absurd (true≢false f)
        go (suc (suc (suc (suc (suc zero))))) e f = leb-true (rec.first + rec.second) p.counts.side (and_true (part_fits p rec.first rec.second) (all (term_fits p) (part p.side rec.first rec.second)) (values 5 e)).0
        go (suc (suc (suc (suc (suc (suc k)))))) e f = absurd (false≢true (values (suc (suc (suc (suc (suc (suc k)))))) e))

    -- what each of the others asks
    pub and_asks : rec.kind ≡ 2 → Ready p (d - 1) (lent_part p.side rec.first rec.second) work errors
    and_asks k = ready_kids p (d - 1) r work errors above (lent_part p.side rec.first rec.second) (ap children (as_and k) ∙ lent_is_part p.side rec.first rec.second)

    pub xor_node : rec.kind ≡ 3 → (node p r ≡ xor (lent_part p.side rec.first rec.second)) × (place_of p r ≡ rec.place)
    xor_node k = (as_xor k ∙ ap xor (lent_is_part p.side rec.first rec.second), here)

    implies_node : Other rec.kind → node p r ≡ implies (lent_part p.side rec.first rec.second) rec.third
    implies_node o = as_implies o ∙ ap (λ (l : List ℕ). implies l rec.third) (lent_is_part p.side rec.first rec.second)

    pub implies_asks : Other rec.kind
        → (node p r ≡ implies (lent_part p.side rec.first rec.second) rec.third) × ((t : ℕ) → Among t (lent_part p.side rec.first rec.second) → t < p.counts.terms)
    implies_asks o = (implies_node o, (in_range_lem p r (implies (lent_part p.side rec.first rec.second) rec.third) sound (implies_node o)).1)

    -- what each says is what the record's update says
    module _ (a : Answer) (work' errors' : List ℕ) where
      abbrev Updated : Type 0
      Updated = Says a (upd p d r (frame_of p.counts work)) p.counts work' errors'

      by_node : (o : Node) → node p r ≡ o → Says a (step (upd p (d - 1)) p r o (frame_of p.counts work)) p.counts work' errors' → Updated
      by_node o e = says_upd a p d (d - 1) r o (frame_of p.counts work) p.counts work' errors' deep e

      pub leaf_says : is_leaf rec.kind ≡ true → LeafSays a (leaf_of rec.kind rec.first rec.second) r rec.place work work' errors' → Updated
      leaf_says l s =
          let o : node p r ≡ leaf_of rec.kind rec.first rec.second = leaf_node rec.kind refl l in
          by_node (leaf_of rec.kind rec.first rec.second) o (s p.counts p (upd p (d - 1)) (λ t m. record_terms p r t sound (subst (λ (n : Node). Among t (terms_of n)) (sym o) m)) here)

      pub and_says : rec.kind ≡ 2 → Says a (each (upd p (d - 1)) (lent_part p.side rec.first rec.second) (frame_of p.counts work)) p.counts work' errors' → Updated
      unfolding step
      and_says k = by_node (and (lent_part p.side rec.first rec.second)) (as_and k ∙ ap and (lent_is_part p.side rec.first rec.second))

      pub xor_says : rec.kind ≡ 3 → Says a (step (upd p (d - 1)) p r (xor (lent_part p.side rec.first rec.second)) (frame_of p.counts work)) p.counts work' errors' → Updated
      xor_says k = by_node (xor (lent_part p.side rec.first rec.second)) (xor_node k).0

      pub implies_says : Other rec.kind → Says a (step (upd p (d - 1)) p r (implies (lent_part p.side rec.first rec.second) rec.third) (frame_of p.counts work)) p.counts work' errors' → Updated
      implies_says o = by_node (implies (lent_part p.side rec.first rec.second) rec.third) (implies_node o)
