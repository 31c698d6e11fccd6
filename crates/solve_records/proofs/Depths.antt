-- The depth of a record from its children's, where children come first; and the deepest of a list, number by number.
use Prim.Native.Nat.{ℕ, zero, suc, max, ◌+◌, ◌≤◌, ◌<◌}
use mathlib.Core.Path.{◌≡◌, refl, ap, subst}
use mathlib.Core.Bool.{true}
use mathlib.Core.List.Memᴰ
use mathlib.Core.List.{List, [], ◌∷◌}
use native.Mathlib.Omega.{arith}
use lib.Dec.{leb, ltb}
use lib.ListN.{length, get_or, take, drop}
use borrow.Author.Tests.{ltb-true, lt-ltb}
use Rattle.definition.specs.declared.Counts.{Counts}
use Rattle.definition.specs.Sizes.{max_depth}
use Rattle.definition.specs.Lists.{all, largest, Among}
use Rattle.definition.specs.Problem.{Problem, node, node_of, children}
use Rattle.definition.specs.Refusal.{children_below, trees_fit, depth_within, depth, depth_fits}
use Rattle.definition.proofs.Laws.Refused as Refused
use Rattle.definition.proofs.Laws.Lists.{all_same, all_member, member_all, member_at, largest_bound, largest_same}
use Rattle.solve_records.specs.declared.Rec.{Rec}
use Rattle.solve_records.specs.Lent.{lent, lists, children_of, Readable, Tree}
use Rattle.solve_records.specs.Read.{HasCells, children_read, read_node}
use Rattle.definition.proofs.Laws.Left.{drop_step, drop_end}

pub child_below : (records side : List ℕ) (r c : ℕ) → Tree records side r → Among c (children_of records side r) → c < r
unfolding children_below
child_below records side r c h m = ltb-true c r (all_member _ c (children_of records side r) h.below m)

-- a depth within n is at most n
pub depth_most : (p : Problem) (n r : ℕ) → depth_within p n r ≤ n
unfolding depth_within
depth_most p zero r = omega arith
depth_most p (suc n) r = omega (arith, largest_bound (depth_within p n) n (children (node p r)) (λ c m. depth_most p n c))

-- the other lists and the counts do not matter
pub depth_lent : (c : Counts) (records side tops range : List ℕ) (n r : ℕ) →
    depth_within (lists records side) n r ≡ depth_within (lent c records side tops range) n r
unfolding depth_within node
depth_lent c records side tops range zero r = refl
depth_lent c records side tops range (suc n) r =
    ap suc (largest_same (depth_within (lists records side) n) (depth_within (lent c records side tops range) n) (children_of records side r)
    (λ k m. depth_lent c records side tops range n k))

module _ (records side : List ℕ) where
  -- any two bounds above the record's number give the same depth
  depth_same : (n k r : ℕ) → ((x : ℕ) → x ≤ r → Tree records side x) → r < n → r < k →
      depth_within (lists records side) n r ≡ depth_within (lists records side) k r
  unfolding depth_within
  depth_same zero k r t a b = absurd (omega arith)
  depth_same (suc n) zero r t a b = absurd (omega arith)
  depth_same (suc n) (suc k) r t a b =
      ap suc (largest_same (depth_within (lists records side) n) (depth_within (lists records side) k) (children_of records side r) (λ c m.
      let l : c < r = child_below records side r c (t r (omega arith)) m in
      depth_same n k c (λ x w. t x (omega arith)) (omega arith) (omega arith)))

  module _ (r : ℕ) (t : (x : ℕ) → x ≤ r → Tree records side x) where
    depth_step : depth (lists records side) r ≡ suc (largest (depth (lists records side)) (children_of records side r))
    unfolding depth_within
    depth_step =
        ap suc (largest_same (depth_within (lists records side) r) (depth (lists records side)) (children_of records side r) (λ c m.
        let l : c < r = child_below records side r c (t r (omega arith)) m in
        depth_same r (suc c) c (λ x w. t x (omega arith)) (omega arith) (omega arith)))

    -- with one child, and with the children in a list
    pub one_child : (c : ℕ) → children_of records side r ≡ c ∷ [] → depth (lists records side) c + 1 ≡ depth (lists records side) r
    unfolding largest
    one_child c e = let w = depth_step in omega (arith, ap (largest (depth (lists records side))) e)

    deepest_child : (cs : List ℕ) → cs ≡ children_of records side r →
        (largest (depth (lists records side)) cs ≤ r) × (largest (depth (lists records side)) cs + 1 ≡ depth (lists records side) r)
    deepest_child cs e =
        let w = depth_step in
        let m = depth_most (lists records side) (suc r) r in
        omega (arith, ap (largest (depth (lists records side))) e)

-- the children of a record that was read, and that they come first
module _ (records side : List ℕ) (r : ℕ) (rec : Rec) (h : HasCells records r rec) where
  pub implied_child : rec.kind ≡ 5 → children_of records side r ≡ rec.third ∷ []
  unfolding node_of
  implied_child e = rw (read_node (lists records side) r rec h, e)

  pub implied_below : rec.kind ≡ 5 → Tree records side r → rec.third < r
  implied_below e t = child_below records side r rec.third t (rw (implied_child e) (Memᴰ.head refl))

  pub listed_children : (cs : List ℕ) → cs ≡ children_read side rec → cs ≡ children_of records side r
  listed_children cs e = rw (read_node (lists records side) r rec h) e

pub listed_below : (records side cs : List ℕ) (r i : ℕ) → cs ≡ children_of records side r → Tree records side r → i < length cs → get_or cs i 0 < r
listed_below records side cs r i e t l = child_below records side r (get_or cs i 0) t (subst (Among (get_or cs i 0)) e (member_at cs i l))

-- one more of a list
pub deeper : (d : ℕ → ℕ) (xs : List ℕ) (i m : ℕ) → i < length xs →
    max (max m (d (get_or xs i 0))) (largest d (drop (i + 1) xs)) ≡ max m (largest d (drop i xs))
unfolding largest
deeper d xs i m h = rw (drop_step xs i h) (omega arith)

-- at the end of the list the deepest child is known
pub deepest_found : (records side cs : List ℕ) (r i m : ℕ) → ((x : ℕ) → x ≤ r → Tree records side x) → cs ≡ children_of records side r →
    length cs ≤ i → max m (largest (depth (lists records side)) (drop i cs)) ≡ largest (depth (lists records side)) cs →
    (m ≤ r) × (m + 1 ≡ depth (lists records side) r)
unfolding largest
deepest_found records side cs r i m t e l h =
    let w : max m 0 ≡ largest (depth (lists records side)) cs = rw (drop_end cs i l) at h in
    omega (arith, deepest_child records side r t cs e)

-- a child has a smaller measure, and what is known below its parent is known below it
pub under_child : {records side : List ℕ} {c r t : ℕ} → ((x : ℕ) → x ≤ r → Tree records side x) → r ≡ t → c < r →
    (c < t) × ((x : ℕ) → x ≤ c → Tree records side x)
under_child u e l = (omega arith, λ x k. u x (omega arith))

-- the test of the top-level records' depths, over the records alone
pub depths_lent : (c : Counts) (records side tops range : List ℕ) →
    all (λ r. leb (depth (lists records side) r) max_depth) (take c.tops tops) ≡ depth_fits (lent c records side tops range)
unfolding depth_fits
depths_lent c records side tops range =
    all_same (λ r. leb (depth (lists records side) r) max_depth) (λ r. leb (depth (lent c records side tops range) r) max_depth) (take c.tops tops)
    (λ r m. ap (λ (d : ℕ). leb d max_depth) (depth_lent c records side tops range (suc r) r))

-- past 3 every record is a tree, and so is every top-level entry
module _ (c : Counts) (records side tops range : List ℕ) (read : (r : ℕ) → r < c.records → Readable records side r)
    (trees : trees_fit (lent c records side tops range) ≡ true) where
  pub tree : (r : ℕ) → r < c.records → Tree records side r
  unfolding children_below node
  tree r l = record {
    sound = read r l;
    below = member_all (λ k. ltb k r) (children_of records side r) (λ k m. lt-ltb k r (Refused.child_below (lent c records side tops range) trees r k l m));
  }

  pub under_entry : (i : ℕ) → i < length (take c.tops tops) → (x : ℕ) → x ≤ get_or (take c.tops tops) i 0 → Tree records side x
  under_entry i l x k =
      tree x (omega (arith, Refused.top_below (lent c records side tops range) trees (get_or (take c.tops tops) i 0) (member_at (take c.tops tops) i l)))
