-- The records of the constraints: their values fit, each is named once, and none is deeper than 2.
use Prim.Native.Nat.{ℕ, suc, ◌+◌, ◌<◌, ◌≤◌}
use Rattle.std.specs.Prelude.{◌≡◌, Bool, ◌&&◌}
use Rattle.std.proofs.Math.Path.{refl, ap}
use Rattle.std.proofs.Common.{sym, ◌∙◌}
use Rattle.std.proofs.Math.Bool.{true}
use mathlib.Core.List.{List, [], ◌∷◌, ◌++◌}
use native.Mathlib.Omega.{arith}
use Rattle.std.proofs.Math.Dec.{eqb, leb, ltb}
use Rattle.std.proofs.Math.ListN.{length}
use borrow.Author.Tests.{eq-eqb, lt-ltb, le-leb}
use Rattle.definition.specs.Sizes.{max_depth}
use Rattle.definition.specs.Lists.{Among, from, all, count, largest, joined}
use Rattle.definition.specs.Problem.{Problem, node, part, children, top_level}
use Rattle.definition.specs.Refusal.{term_fits, part_fits, values_fit, record_fits, children_below, named, named_once, trees_fit, depth_within, depth, depth_fits}
use Rattle.definition.proofs.Laws.Lists.{from_add, from_member, all_append, from_all, member_all, true_and, count_append, joined_append, member_count, count_member}
use Rattle.definition.proofs.Laws.Sums.{count_from}
use Rattle.grounded_body.specs.Body.{Constraint, assigned, same, follows}
use Rattle.grounded_body.specs.Layout.{records_of, records_in, top_of, tops_in}
use Rattle.grounded_body.proofs.Laws.Standing.{Is, Along, Standing, RecordIs, Cells, along_map}

-- a test that passes on each constraint's records passes on all records
pub all_records : (P : ℕ → Bool) (n : ℕ) (gs : List Constraint) → Along (λ n g. all P (from n (records_of g)) ≡ true) n gs →
    all P (from n (records_in gs)) ≡ true
unfolding records_in from all
all_records P n [] q = refl
all_records P n (g ∷ gs) q =
    ap (all P) (from_add n (records_of g) (records_in gs))
    ∙ all_append P (from n (records_of g)) (from (n + records_of g) (records_in gs))
    ∙ true_and (all P (from n (records_of g))) (all P (from (n + records_of g) (records_in gs))) q.0 (all_records P (n + records_of g) gs q.1)

pub all_tops : (P : ℕ → Bool) (n : ℕ) (gs : List Constraint) → Along (λ n g. P (top_of n g) ≡ true) n gs → all P (tops_in n gs) ≡ true
unfolding tops_in all
all_tops P n [] q = refl
all_tops P n (g ∷ gs) q = true_and (P (top_of n g)) (all P (tops_in (n + records_of g) gs)) q.0 (all_tops P (n + records_of g) gs q.1)

-- one record, or two
one : (P : ℕ → Bool) (n : ℕ) → P n ≡ true → all P (from n 1) ≡ true
unfolding from all
one P n h = true_and (P n) true h refl

two : (P : ℕ → Bool) (n : ℕ) → P n ≡ true → P (suc n) ≡ true → all P (from n 2) ≡ true
unfolding from all
two P n h k = true_and (P n) (P (suc n) && true) h (true_and (P (suc n)) true k refl)

-- the terms of a constraint are below k
abbrev pub Below : ℕ → Constraint → Type 0
Below k (assigned t) = t < k
Below k (same x y) = (x < k) × (y < k)
Below k (follows ws t) = ((w : ℕ) → Among w ws → w < k) × (t < k)

module _ (p : Problem) where
  record_fits_lem : (n kind a b c : ℕ) → RecordIs p n kind a b c → values_fit p kind a b ≡ true → record_fits p n ≡ true
  unfolding record_fits
  record_fits_lem n kind a b c r h = rw (r.kind_is, r.first, r.second) h

  assign_fits : (n t : ℕ) → p.counts.sorts ≡ 1 → t < p.counts.terms → RecordIs p n 1 t 0 0 → record_fits p n ≡ true
  unfolding values_fit
  assign_fits n t s h r =
      record_fits_lem n 1 t 0 0 r (true_and (ltb t p.counts.terms) (ltb 0 p.counts.sorts) (lt-ltb t p.counts.terms h) (lt-ltb 0 p.counts.sorts (omega arith)))

  pub values_fit_lem : p.counts.sorts ≡ 1 → p.counts.side ≡ length p.side → (n : ℕ) (g : Constraint) →
      Below p.counts.terms g → Cells p n g → all (record_fits p) (from n (records_of g)) ≡ true
  unfolding values_fit
  values_fit_lem s e n (assigned t) h r = one (record_fits p) n (assign_fits n t s h r)
  values_fit_lem s e n (same x y) h r =
      one (record_fits p) n
      (record_fits_lem n 0 x y 0 r (true_and (ltb x p.counts.terms) (ltb y p.counts.terms) (lt-ltb x p.counts.terms h.0) (lt-ltb y p.counts.terms h.1)))
  values_fit_lem s e n (follows ws t) h r =
      let (k, first, second, whole, within) = r in
      let fits : all (term_fits p) (part p.side k (length ws)) ≡ true
      = rw whole (member_all (term_fits p) ws (λ w m. lt-ltb w p.counts.terms (h.0 w m))) in
      let room : leb (k + length ws) p.counts.side ≡ true = le-leb (k + length ws) p.counts.side (omega arith) in
      two (record_fits p) n (assign_fits n t s h.1 first)
      (record_fits_lem (suc n) 5 k (length ws) n second (true_and (part_fits p k (length ws)) (all (term_fits p) (part p.side k (length ws))) room fits))

  pub kids_below : (n : ℕ) (g : Constraint) → Is p n g → all (children_below p) (from n (records_of g)) ≡ true
  unfolding children_below all
  kids_below n (assigned t) i = one (children_below p) n (rw i)
  kids_below n (same x y) i = one (children_below p) n (rw i)
  kids_below n (follows ws t) i =
      two (children_below p) n (rw i.0) (rw i.1 (true_and (ltb n (suc n)) true (lt-ltb n (suc n) (omega arith)) refl))

  -- each record is named once, as a child or at the top
  abbrev kids : ℕ → List ℕ
  kids r = children (node p r)

  own_named : (r n : ℕ) (g : Constraint) → Is p n g →
      count r (joined kids (from n (records_of g))) + count r (top_of n g ∷ []) ≡ count r (from n (records_of g))
  unfolding from joined
  own_named r n (assigned t) i = rw i (omega (arith, empty))
    where
      empty : count r [] ≡ 0
      empty = unfold count in refl
  own_named r n (same x y) i = rw i (omega (arith, empty))
    where
      empty : count r [] ≡ 0
      empty = unfold count in refl
  own_named r n (follows ws t) i = rw (i.0, i.1) (sym (count_append r (n ∷ []) (suc n ∷ [])))

  pub all_named : (r n : ℕ) (gs : List Constraint) → Standing p n gs →
      count r (joined kids (from n (records_in gs))) + count r (tops_in n gs) ≡ count r (from n (records_in gs))
  unfolding from joined tops_in records_in count
  all_named r n [] i = refl
  all_named r n (g ∷ gs) i =
      let m : ℕ = n + records_of g in
      let split : from n (records_of g + records_in gs) ≡ from n (records_of g) ++ from m (records_in gs) = from_add n (records_of g) (records_in gs) in
      rw split
      (omega (
        arith,
        ap (count r) (joined_append kids (from n (records_of g)) (from m (records_in gs))),
        count_append r (joined kids (from n (records_of g))) (joined kids (from m (records_in gs))),
        count_append r (from n (records_of g)) (from m (records_in gs)),
        count_append r (top_of n g ∷ []) (tops_in m gs),
        own_named r n g i.0,
        all_named r m gs i.1,
      ))

  -- none is deeper than 2
  top_depth : (n : ℕ) (g : Constraint) → Is p n g → leb (depth p (top_of n g)) max_depth ≡ true
  unfolding depth_within largest
  top_depth n (assigned t) i = rw i
  top_depth n (same x y) i = rw i
  top_depth n (follows ws t) i = rw (i.1, i.0)

  pub depths_fit : (gs : List Constraint) → top_level p ≡ tops_in 0 gs → Standing p 0 gs → depth_fits p ≡ true
  unfolding depth_fits
  depths_fit gs e i = rw e (all_tops (λ r. leb (depth p r) max_depth) 0 gs (along gs 0 i))
    where
      along : (gs : List Constraint) (n : ℕ) → Standing p n gs → Along (λ n g. leb (depth p (top_of n g)) max_depth ≡ true) n gs
      along gs n i = along_map (Is p) (λ n g. leb (depth p (top_of n g)) max_depth ≡ true) top_depth n gs i

  pub trees_fit_lem : (gs : List Constraint) → p.counts.records ≡ records_in gs → top_level p ≡ tops_in 0 gs → Standing p 0 gs → trees_fit p ≡ true
  unfolding trees_fit named_once named node children_below
  trees_fit_lem gs c e i =
      true_and (all (children_below p) (from 0 p.counts.records)) (named_once p)
      (rw c (all_records (children_below p) 0 gs (along_map (Is p) (λ n g. all (children_below p) (from n (records_of g)) ≡ true) kids_below 0 gs i)))
      (true_and (all (λ r. ltb r p.counts.records) (named p)) (all (λ r. eqb (count r (named p)) 1) (from 0 p.counts.records))
      (member_all (λ r. ltb r p.counts.records) (named p) (λ r m. lt-ltb r p.counts.records (inside r m)))
      (from_all (λ r. eqb (count r (named p)) 1) 0 p.counts.records (λ r a b. eq-eqb (count r (named p)) 1 (counted r ∙ count_from 0 p.counts.records r a b))))
    where
      counted : (r : ℕ) → count r (named p) ≡ count r (from 0 p.counts.records)
      counted r = rw (e, c) (count_append r (joined kids (from 0 (records_in gs))) (tops_in 0 gs) ∙ all_named r 0 gs i)

      inside : (r : ℕ) → Among r (named p) → r < p.counts.records
      inside r m =
          let k : 1 ≤ count r (from 0 p.counts.records) = omega (arith, counted r, member_count r (named p) m) in
          let (a, b) = from_member 0 p.counts.records r (count_member r (from 0 p.counts.records) k) in
          omega arith
