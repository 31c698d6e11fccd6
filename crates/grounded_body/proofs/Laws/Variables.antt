-- The range: each variable once, and no more of them than there are terms.
use Prim.Native.Nat.{ℕ, zero, suc, ◌+◌, ◌*◌, ◌<◌, ◌≤◌}
use Rattle.std.specs.Prelude.{◌≡◌, Bool, ◌||◌, cond, length, get_or}
use Rattle.std.proofs.Math.Path.{refl, ap}
use Rattle.std.proofs.Common.{sym, ◌∙◌, eq-eqb, eqb-true}
use Rattle.std.proofs.Math.Bool.{true, false, true≢false}
use mathlib.Core.List.Memᴰ
use mathlib.Core.List.{List, [], ◌∷◌}
use native.Mathlib.Omega.{arith}
use Rattle.std.proofs.Math.Decide.{ℕ_discrete}
use Rattle.std.proofs.Math.Dec.{eqb}
use Rattle.definition.specs.Lists.{Among, from, count}
use Rattle.definition.specs.Fits.{total}
use Rattle.definition.proofs.Laws.Lists.{from_length, count_here, count_other}
use Rattle.definition.proofs.Laws.Sums.{count_from}
use Rattle.definition.proofs.Laws.Passes.{total_le}
use Rattle.rule_ranges.specs.Enter.{entries}
use Rattle.grounded_body.specs.Body.{is_variable}
use Rattle.grounded_body.specs.Layout.{elem, variables}

pub elem_here : (x : ℕ) (ys : List ℕ) → elem x (x ∷ ys) ≡ true
unfolding elem
elem_here x ys = rw (eq-eqb x x refl)

or_true : (a b : Bool) → b ≡ true → a || b ≡ true
or_true true b h = refl
or_true false b h = h

elem_there : (x y : ℕ) (ys : List ℕ) → elem x ys ≡ true → elem x (y ∷ ys) ≡ true
unfolding elem
elem_there x y ys h = or_true (eqb x y) (elem x ys) h

module _ (terms : List ℕ) where
  -- what is seen does not enter again
  seen_none : (k : ℕ) (seen ts : List ℕ) → elem k seen ≡ true → count k (variables terms seen ts) ≡ 0
  unfolding variables count
  seen_none k seen [] h = refl
  seen_none k seen (t ∷ ts) h =
      go (is_variable terms t) (elem t seen) refl (seen_none k seen ts h) (seen_none k (t ∷ seen) ts (elem_there k t seen h))
    where
      go : (x y : Bool) → elem t seen ≡ y → count k (variables terms seen ts) ≡ 0 → count k (variables terms (t ∷ seen) ts) ≡ 0 →
          count k (cond x (cond y (variables terms seen ts) (t ∷ variables terms (t ∷ seen) ts)) (variables terms seen ts)) ≡ 0
      go false y e p q = p
      go true true e p q = p
      go true false e p q = count_other k t (variables terms (t ∷ seen) ts) (λ i. true≢false (sym h ∙ ap (λ (z : ℕ). elem z seen) i ∙ e)) ∙ q

  pub once : (k : ℕ) (seen ts : List ℕ) → count k (variables terms seen ts) ≤ 1
  unfolding variables count
  once k seen [] = omega arith
  once k seen (t ∷ ts) = go (is_variable terms t) (elem t seen) (ℕ_discrete k t) (once k seen ts) (once k (t ∷ seen) ts)
    where
      go : (x y : Bool) → Dec (k ≡ t) → count k (variables terms seen ts) ≤ 1 → count k (variables terms (t ∷ seen) ts) ≤ 1 →
          count k (cond x (cond y (variables terms seen ts) (t ∷ variables terms (t ∷ seen) ts)) (variables terms seen ts)) ≤ 1
      go false y d p q = p
      go true true d p q = p
      go true false (yes e) p q =
          let l : List ℕ = variables terms (t ∷ seen) ts in
          let z : count k l ≡ 0 = rw e (seen_none t (t ∷ seen) ts (elem_here t seen)) in
          omega (arith, count_here k t l e, z)
      go true false (no e) p q = omega (arith, count_other k t (variables terms (t ∷ seen) ts) e, q)

  -- what enters is a variable of the list
  pub from_list : (k : ℕ) (seen ts : List ℕ) → Among k (variables terms seen ts) → Among k ts × (is_variable terms k ≡ true)
  unfolding variables
  from_list k seen [] m = absurd (Memᴰ.not-nil m)
  from_list k seen (t ∷ ts) m = go (is_variable terms t) (elem t seen) refl (from_list k seen ts) (from_list k (t ∷ seen) ts) m
    where
      later : Among k ts × (is_variable terms k ≡ true) → Among k (t ∷ ts) × (is_variable terms k ≡ true)
      later w = (Memᴰ.tail w.0, w.1)

      go : (x y : Bool) → is_variable terms t ≡ x → (Among k (variables terms seen ts) → Among k ts × (is_variable terms k ≡ true)) →
          (Among k (variables terms (t ∷ seen) ts) → Among k ts × (is_variable terms k ≡ true)) →
          Among k (cond x (cond y (variables terms seen ts) (t ∷ variables terms (t ∷ seen) ts)) (variables terms seen ts)) →
          Among k (t ∷ ts) × (is_variable terms k ≡ true)
      go false y e p q m = later (p m)
      go true true e p q m = later (p m)
      go true false e p q (Memᴰ.head i) = (Memᴰ.head i, ap (is_variable terms) i ∙ e)
      go true false e p q (Memᴰ.tail m) = later (q m)

  -- and every variable of the list enters
  pub to_list : (k : ℕ) (seen ts : List ℕ) → Among k ts → is_variable terms k ≡ true → elem k seen ≡ false → Among k (variables terms seen ts)
  unfolding variables elem
  to_list k seen [] m h n = absurd (Memᴰ.not-nil m)
  to_list k seen (t ∷ ts) m h n =
      go (is_variable terms t) (elem t seen) refl refl (ℕ_discrete k t) m (λ w. to_list k seen ts w h n) (λ w. to_list k (t ∷ seen) ts w h)
    where
      go : (x y : Bool) → is_variable terms t ≡ x → elem t seen ≡ y → Dec (k ≡ t) → Among k (t ∷ ts) → (Among k ts → Among k (variables terms seen ts)) →
          (Among k ts → elem k (t ∷ seen) ≡ false → Among k (variables terms (t ∷ seen) ts)) →
          Among k (cond x (cond y (variables terms seen ts) (t ∷ variables terms (t ∷ seen) ts)) (variables terms seen ts))
      go false y e f d (Memᴰ.head i) p q = absurd (true≢false (sym h ∙ ap (is_variable terms) i ∙ e))
      go false y e f d (Memᴰ.tail w) p q = p w
      go true true e f d (Memᴰ.head i) p q = absurd (true≢false (sym f ∙ ap (λ (z : ℕ). elem z seen) (sym i) ∙ n))
      go true true e f d (Memᴰ.tail w) p q = p w
      go true false e f (yes i) m p q = Memᴰ.head i
      go true false e f (no i) (Memᴰ.head j) p q = absurd (i j)
      go true false e f (no i) (Memᴰ.tail w) p q = Memᴰ.tail (q w (other (eqb k t) refl))
        where
          other : (x : Bool) → eqb k t ≡ x → x || elem k seen ≡ false
          other true e = absurd (i (eqb-true k t e))
          other false e = n

-- No more than n different numbers are below n: each is counted once among the numbers below n
ones : (l : List ℕ) → total (λ k. 1) l ≡ length l
unfolding total
ones [] = refl
ones (x ∷ l) = omega (arith, ones l)

none_counted : (l : List ℕ) → total (λ k. count k []) l ≡ 0
unfolding total count
none_counted [] = refl
none_counted (x ∷ l) = omega (arith, none_counted l)

one_more : (x : ℕ) (xs l : List ℕ) → total (λ k. count k (x ∷ xs)) l ≡ count x l + total (λ k. count k xs) l
unfolding total
one_more x xs [] = unfold count in refl
one_more x xs (y ∷ l) = go (ℕ_discrete x y) (one_more x xs l)
  where
    go : Dec (x ≡ y) → total (λ k. count k (x ∷ xs)) l ≡ count x l + total (λ k. count k xs) l →
        count y (x ∷ xs) + total (λ k. count k (x ∷ xs)) l ≡ count x (y ∷ l) + (count y xs + total (λ k. count k xs) l)
    go (yes e) h = omega (arith, count_here y x xs (sym e), count_here x y l e, h)
    go (no e) h = omega (arith, count_other y x xs (λ i. e (sym i)), count_other x y l e, h)

counted : (xs l : List ℕ) → ((x : ℕ) → Among x xs → count x l ≡ 1) → total (λ k. count k xs) l ≡ length xs
counted [] l h = none_counted l
counted (x ∷ xs) l h = omega (arith, one_more x xs l, h x (Memᴰ.head refl), counted xs l (λ y m. h y (Memᴰ.tail m)))

pub few : (xs : List ℕ) (n : ℕ) → ((k : ℕ) → Among k xs → k < n) → ((k : ℕ) → count k xs ≤ 1) → length xs ≤ n
few xs n below once =
    let c : total (λ k. count k xs) (from 0 n) ≡ length xs
    = counted xs (from 0 n) (λ k m. let h : k < n = below k m in count_from 0 n k (omega arith) (omega arith)) in
    omega (arith, c, total_le (λ k. count k xs) (λ k. 1) (from 0 n) once, ones (from 0 n), from_length 0 n)

-- the cells of the range
pub entry_place : (place : ℕ) (ts : List ℕ) (i : ℕ) → i < length ts → get_or (entries place ts) (i * 2 + 1) 0 ≡ place
unfolding entries
entry_place place [] i h = absurd (omega arith)
entry_place place (t ∷ ts) zero h = refl
entry_place place (t ∷ ts) (suc i) h =
    let e : suc i * 2 + 1 ≡ suc (suc (i * 2 + 1)) = omega arith in
    rw e (entry_place place ts i (omega arith))
