-- A problem within a larger one: its records stand there too.
use Prim.Native.Nat.{ℕ, zero, suc, ◌+◌, ◌*◌, ◌≤◌, ◌<◌}
use Rattle.std.proofs.Common.{arith, subst, lt-ltb, ltb-true, le-leb, leb-true}
use Rattle.std.specs.Prelude.{◌≡◌, true, get_or, take}
use Rattle.std.proofs.Math.Path.{refl, ap}
use mathlib.Core.List.Memᴰ
use mathlib.Core.List.{List, [], ◌∷◌}
use Rattle.definition.specs.Lists.{Among, from, all, joined}
use Rattle.definition.specs.Problem.{Problem, and, xor, implies, children, node_of, node, part, kind_of, value_of}
use Rattle.definition.specs.Refusal.{term_fits, sort_fits, part_fits, values_fit, record_fits, depth_within}
use Rattle.definition.proofs.Laws.Lists.{from_member, member_all, all_member, true_and, and_true}
use Rattle.rule_safety.proofs.Laws.Put.{part_kept}
use Rattle.rule_safety.proofs.Laws.Blocks.{kids, In, Block, same_depth}

-- q has p's records and side cells within the counts, and no smaller counts
pub record Over (p q : Problem) : Type 0 where
  pub records : (j : ℕ) → j < p.counts.records * 8 → get_or q.records j 0 ≡ get_or p.records j 0
  pub side : take p.counts.side q.side ≡ take p.counts.side p.side
  pub sides : p.counts.side ≤ q.counts.side
  pub terms : p.counts.terms ≤ q.counts.terms
  pub sorts : p.counts.sorts ≤ q.counts.sorts

joined_same : (g h : ℕ → List ℕ) (xs : List ℕ) → ((x : ℕ) → Among x xs → g x ≡ h x) → joined g xs ≡ joined h xs
unfolding joined
joined_same g h [] e = refl
joined_same g h (x ∷ xs) e =
    let a : g x ≡ h x = e x (Memᴰ.head refl) in
    let b : joined g xs ≡ joined h xs = joined_same g h xs (λ y m. e y (Memᴰ.tail m)) in
    rw (a, b)

module _ (p q : Problem) (w : Over p q) where
  term_kept : (t : ℕ) → term_fits p t ≡ true → term_fits q t ≡ true
  term_kept t h = lt-ltb t q.counts.terms (omega (arith, ltb-true t p.counts.terms h, w.terms))

  sort_kept : (s : ℕ) → sort_fits p s ≡ true → sort_fits q s ≡ true
  sort_kept s h = lt-ltb s q.counts.sorts (omega (arith, ltb-true s p.counts.sorts h, w.sorts))

  part_fits_lem : (a b : ℕ) → part_fits p a b ≡ true → part_fits q a b ≡ true
  part_fits_lem a b h = le-leb (a + b) q.counts.side (omega (arith, leb-true (a + b) p.counts.side h, w.sides))

  part_same : (a b : ℕ) → part_fits p a b ≡ true → part q.side a b ≡ part p.side a b
  part_same a b h = part_kept q.side p.side p.counts.side a b w.side (leb-true (a + b) p.counts.side h)

  values_kept : (k a b : ℕ) → values_fit p k a b ≡ true → values_fit q k a b ≡ true
  unfolding values_fit
  values_kept zero a b h =
      let (f, g) = and_true (term_fits p a) (term_fits p b) h in true_and (term_fits q a) (term_fits q b) (term_kept a f) (term_kept b g)
  values_kept (suc zero) a b h =
      let (f, g) = and_true (term_fits p a) (sort_fits p b) h in true_and (term_fits q a) (sort_fits q b) (term_kept a f) (sort_kept b g)
  values_kept (suc (suc zero)) a b h = part_fits_lem a b h
  values_kept (suc (suc (suc zero))) a b h = part_fits_lem a b h
  values_kept (suc (suc (suc (suc zero)))) a b h = h
  values_kept (suc (suc (suc (suc (suc zero))))) a b h =
      let (f, g) = and_true (part_fits p a b) (all (term_fits p) (part p.side a b)) h in
      true_and (part_fits q a b) (all (term_fits q) (part q.side a b)) (part_fits_lem a b f)
      (rw (part_same a b f) (member_all (term_fits q) (part p.side a b) (λ t m. term_kept t (all_member (term_fits p) t (part p.side a b) g m))))
  values_kept (suc (suc (suc (suc (suc (suc k)))))) a b h = h

  node_same : (k a b c : ℕ) → values_fit p k a b ≡ true → node_of q.side k a b c ≡ node_of p.side k a b c
  unfolding values_fit node_of
  node_same zero a b c h = refl
  node_same (suc zero) a b c h = refl
  node_same (suc (suc zero)) a b c h = ap and (part_same a b h)
  node_same (suc (suc (suc zero))) a b c h = ap xor (part_same a b h)
  node_same (suc (suc (suc (suc zero)))) a b c h = refl
  node_same (suc (suc (suc (suc (suc zero))))) a b c h =
      ap (λ (l : List ℕ). implies l c) (part_same a b (and_true (part_fits p a b) (all (term_fits p) (part p.side a b)) h).0)
  node_same (suc (suc (suc (suc (suc (suc k)))))) a b c h = refl

  module _ (r : ℕ) (l : r < p.counts.records) where
    kind_same : kind_of q r ≡ kind_of p r
    kind_same = w.records (r * 8) (omega arith)

    value_same : (k : ℕ) → k < 8 → value_of q r k ≡ value_of p r k
    value_same k h = w.records (r * 8 + k) (omega arith)

    pub fits_kept : record_fits p r ≡ true → record_fits q r ≡ true
    unfolding record_fits
    fits_kept h = rw (kind_same, value_same 1 (omega arith), value_same 2 (omega arith)) (values_kept (kind_of p r) (value_of p r 1) (value_of p r 2) h)

    pub node_kept : record_fits p r ≡ true → node q r ≡ node p r
    unfolding record_fits node
    node_kept h =
        rw (kind_same, value_same 1 (omega arith), value_same 2 (omega arith), value_same 3 (omega arith)) (node_same (kind_of p r) (value_of p r 1) (value_of p r 2) (value_of p r 3) h)

  -- a block at the front
  module _ (k d : ℕ) (ts : List ℕ) (b : Block p 0 k ts d) (few : k ≤ p.counts.records) where
    kids_kept : (r : ℕ) → In 0 k r → kids q r ≡ kids p r
    kids_kept r i = ap children (node_kept r (omega arith) (b.fits r i))

    depth_kept : (m r : ℕ) → In 0 k r → depth_within q m r ≡ depth_within p m r
    depth_kept m r i =
        same_depth p q k (λ r h. kids_kept r (record { low = omega arith; high = omega arith })) (λ r c h j. b.below r c (record { low = omega arith; high = omega arith }) j) m r (omega arith)

    pub carried : Block q 0 k ts d
    carried = record {
      fits = λ r i. fits_kept r (omega arith) (b.fits r i);
      below = λ r c i m. b.below r c i (subst (λ (l : List ℕ). Among c l) (kids_kept r i) m);
      once = λ x. rw (joined_same (kids q) (kids p) (from 0 k) (λ r m. let (l, h) = from_member 0 k r m in kids_kept r (record { low = l; high = h }))) (b.once x);
      shallow = λ r m i. rw (depth_kept m r i) (b.shallow r m i);
    }
