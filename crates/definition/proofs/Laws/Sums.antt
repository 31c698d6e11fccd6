-- Sums over lists: over joined lists, and over two lists that hold the same numbers equally often.
use Rattle.std.specs.Prelude.{ℕ, zero, suc, ◌+◌, ◌≤◌, ◌<◌, ◌≡◌, refl, Bool, true, false, cond, List, [], ◌∷◌, eqb, length}
use Rattle.std.proofs.Common.{ap, arith}
use mathlib.Core.List.Memᴰ
use Rattle.std.proofs.Math.Decide.{ℕ_discrete, dec_lt}
use Rattle.definition.specs.Lists.{from, count, joined, Among}
use Rattle.definition.specs.Fits.{total}
use Rattle.definition.proofs.Laws.Entries.{total_append}
use Rattle.definition.proofs.Laws.Lists.{count_here, count_other, count_none, count_member, from_member}

pub total_joined : (m : ℕ → ℕ) (g : ℕ → List ℕ) (xs : List ℕ) → total m (joined g xs) ≡ total (λ x. total m (g x)) xs
unfolding joined total
total_joined m g [] = refl
total_joined m g (x ∷ xs) = omega (arith, total_append m (g x) (joined g xs), total_joined m g xs)

-- one more at each member
pub total_suc : (m n : ℕ → ℕ) (xs : List ℕ) → ((x : ℕ) → Among x xs → m x ≡ suc (n x)) → total m xs ≡ length xs + total n xs
unfolding total
total_suc m n [] h = refl
total_suc m n (x ∷ xs) h = omega (arith, h x (Memᴰ.head refl), total_suc m n xs (λ y k. h y (Memᴰ.tail k)))

-- a count is a sum
abbrev is_at : ℕ → ℕ → ℕ
is_at k x = cond (eqb k x) 1 0

count_total : (k : ℕ) (xs : List ℕ) → count k xs ≡ total (is_at k) xs
unfolding count total
count_total k [] = refl
count_total k (x ∷ xs) = go (eqb k x) (count_total k xs)
  where
    go : (b : Bool) → count k xs ≡ total (is_at k) xs → cond b (suc (count k xs)) (count k xs) ≡ cond b 1 0 + total (is_at k) xs
    go true h = omega arith
    go false h = omega arith

-- a list without one of its members, as every sum sees it
taken : (x : ℕ) (ys : List ℕ) → Among x ys → (zs : List ℕ) × ((m : ℕ → ℕ) → total m ys ≡ m x + total m zs)
unfolding total
taken x [] x'' = elim x'' [ ]
taken x (y ∷ ys) (Memᴰ.head e) = (ys, λ m. omega (arith, ap m e))
taken x (y ∷ ys) (Memᴰ.tail k) =
    let t : (zs : List ℕ) × ((m : ℕ → ℕ) → total m ys ≡ m x + total m zs) = taken x ys k in
    (y ∷ t.0, λ m. omega (arith, t.1 m))

pub same_total : (m : ℕ → ℕ) (xs ys : List ℕ) → ((k : ℕ) → count k xs ≡ count k ys) → total m xs ≡ total m ys
unfolding total count
same_total m [] [] h = refl
same_total m [] (y ∷ ys) h = absurd (omega (arith, h y, count_here y y ys refl))
same_total m (x ∷ xs) ys h =
    let t : (zs : List ℕ) × ((n : ℕ → ℕ) → total n ys ≡ n x + total n zs) =
    taken x ys (count_member x ys (omega (arith, h x, count_here x x xs refl))) in
    let rest : (k : ℕ) → count k xs ≡ count k t.0 =
    λ k. omega (arith, h k, count_total k (x ∷ xs), count_total k ys, count_total k xs, count_total k t.0, t.1 (is_at k)) in
    omega (arith, t.1 m, same_total m xs t.0 rest)

-- each number of a range stands there once
pub count_from : (i n k : ℕ) → i ≤ k → k < i + n → count k (from i n) ≡ 1
unfolding from
count_from i zero k a b = absurd (omega arith)
count_from i (suc n) k a b = go (ℕ_discrete k i) (λ h. count_from (suc i) n k h (omega arith))
  where
    go : Dec (k ≡ i) → (i < k → count k (from (suc i) n) ≡ 1) → count k (i ∷ from (suc i) n) ≡ 1
    go (yes e) h =
        omega
        (arith, count_here k i (from (suc i) n) e, count_none k (from (suc i) n) (λ m. omega (arith, from_member (suc i) n k m)))
    go (no e) h = omega (arith, count_other k i (from (suc i) n) e, h (omega arith))

-- a list that holds every number below n once and no other sums to the sum over the range
pub total_once : (m : ℕ → ℕ) (n : ℕ) (xs : List ℕ) → ((k : ℕ) → Among k xs → k < n) → ((k : ℕ) → k < n → count k xs ≡ 1) →
    total m xs ≡ total m (from 0 n)
total_once m n xs below once = same_total m xs (from 0 n) (λ k. go k (dec_lt k n))
  where
    go : (k : ℕ) → Dec (k < n) → count k xs ≡ count k (from 0 n)
    go k (yes h) = omega (arith, once k h, count_from 0 n k (omega arith) (omega arith))
    go k (no h) =
        omega
        (arith, count_none k xs (λ m. h (below k m)), count_none k (from 0 n) (λ m. omega (arith, from_member 0 n k m)))
