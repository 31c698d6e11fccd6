-- Laws about tables of parts: a part by its number, parts from one on, one part more.
use Prim.Native.Nat.{ℕ, zero, suc, ◌+◌, ◌-◌, ◌*◌, ◌<◌, ◌≤◌, min}
use Rattle.std.proofs.Math.Nat.{add-zero, sub-zero}
use Rattle.std.proofs.Common.{zero-add, add-one, sym, ◌∙◌, length-set, get_or-set_same, get_or-set_other}
use Rattle.std.specs.Prelude.{◌≡◌, Bool, true, false, cond, ltb, length, drop, get_or, set}
use Rattle.std.specs.Bool.{then_some}
use Rattle.std.specs.Option.{unwrap_or}
use Rattle.std.proofs.Math.Path.{refl, ap}
use borrow.Author.Tests.{ltb-false}
use mathlib.Core.List.{List, [], ◌∷◌, ◌++◌}
use native.Mathlib.Omega.{arith}
use Rattle.std.proofs.Math.Seq.{sets}
use Rattle.text_words.specs.Bytes.{same}
use Rattle.text_words.specs.Names.{is_number, digits_from, number_below, if_below}
use Rattle.text_words.specs.Parts.{between, part_at, parts_from, parts_of, find}
use Rattle.text_words.specs.Laws.Parts.{parts_count}

-- what is looked up is at most how many there are
pub find_most : (w : List ℕ) (ps : List (List ℕ)) → find w ps ≤ length ps
unfolding find
find_most w [] = omega arith
find_most w (p ∷ ps) = by (same p w) (find_most w ps)
  where
    by : (t : Bool) → find w ps ≤ length ps → cond t 0 (suc (find w ps)) ≤ suc (length ps)
    by true h = omega arith
    by false h = omega arith

pub find_within : (s table : List ℕ) (n : ℕ) (w : List ℕ) → find w (parts_of s table n) ≤ n
find_within s table n w = omega (arith, find_most w (parts_of s table n), parts_count s table 0 n)

pub number_most : (bound : ℕ) (w : List ℕ) → number_below bound w ≤ bound
unfolding number_below
number_most bound w = by (is_number w)
  where
    by : (t : Bool) → cond t (min (digits_from 0 w) bound) bound ≤ bound
    by true = omega arith
    by false = omega arith

-- the number again, of the `Option`
pub unwrap_below : (bound : ℕ) (w : List ℕ) → unwrap_or (if_below bound w) bound ≡ number_below bound w
unwrap_below bound w = by (ltb (number_below bound w) bound) refl
  where
    by : (t : Bool) → ltb (number_below bound w) bound ≡ t → unwrap_or (then_some t (number_below bound w)) bound ≡ number_below bound w
    by true e = refl
    by false e = omega (arith, ltb-false (number_below bound w) bound e, number_most bound w)

module _ (s table : List ℕ) where
  part_from : (i n k : ℕ) → k < n → get_or (parts_from s table i n) k [] ≡ part_at s table (i + k)
  unfolding parts_from
  part_from i zero k h = absurd (omega arith)
  part_from i (suc n) zero h = rw add-zero
  part_from i (suc n) (suc k) h = part_from (suc i) n k (omega arith) ∙ ap (part_at s table) (let e : suc i + k ≡ i + suc k = omega arith in e)

  -- part i of n
  pub part_there : (n i : ℕ) → i < n → get_or (parts_of s table n) i [] ≡ part_at s table i
  part_there n i h = part_from 0 n i h ∙ ap (part_at s table) (zero-add i)

  pub drop_parts : (i n k : ℕ) → drop k (parts_from s table i n) ≡ parts_from s table (i + k) (n - k)
  unfolding parts_from
  drop_parts i n zero = rw (add-zero i, sub-zero n)
  drop_parts i zero (suc k) = ap (parts_from s table (i + suc k)) (let e : 0 ≡ 0 - suc k = omega arith in e)
  drop_parts i (suc n) (suc k) =
      drop_parts (suc i) n k
      ∙ ap (λ (j : ℕ). parts_from s table j (n - k)) (let e : suc i + k ≡ i + suc k = omega arith in e)
      ∙ ap (parts_from s table (i + suc k)) (let e : n - k ≡ suc n - suc k = omega arith in e)

  parts_last : (i n : ℕ) → parts_from s table i (suc n) ≡ parts_from s table i n ++ part_at s table (i + n) ∷ []
  unfolding parts_from
  parts_last i zero = ap (λ (j : ℕ). part_at s table j ∷ []) (sym (add-zero i))
  parts_last i (suc n) =
      ap (λ (ps : List (List ℕ)). part_at s table i ∷ ps)
      (parts_last (suc i) n ∙ ap (λ (j : ℕ). parts_from s table (suc i) n ++ part_at s table j ∷ []) (let e : suc i + n ≡ i + suc n = omega arith in e))

-- a table with two cells stored as its part k
module _ (s table : List ℕ) (k a b : ℕ) where
  cell_before : (j : ℕ) → j < k * 2 → get_or (sets table (k * 2) (a ∷ b ∷ [])) j 0 ≡ get_or table j 0
  cell_before j h =
      get_or-set_other (set table (k * 2) a) (suc (k * 2)) j b 0 (λ e. omega arith) ∙ get_or-set_other table (k * 2) j a 0 (λ e. omega arith)

  parts_before : (i n : ℕ) → i + n ≤ k → parts_from s (sets table (k * 2) (a ∷ b ∷ [])) i n ≡ parts_from s table i n
  unfolding parts_from
  parts_before i zero h = refl
  parts_before i (suc n) h =
      let t = sets table (k * 2) (a ∷ b ∷ []) in
      ap (λ (x : ℕ). between s x (get_or t (i * 2 + 1) 0) ∷ parts_from s t (suc i) n) (cell_before (i * 2) (omega arith))
      ∙ ap (λ (x : ℕ). between s (get_or table (i * 2) 0) x ∷ parts_from s t (suc i) n) (cell_before (i * 2 + 1) (omega arith))
      ∙ ap (λ (ps : List (List ℕ)). part_at s table i ∷ ps) (parts_before (suc i) n (omega arith))

  part_put : k * 2 + 1 < length table → part_at s (sets table (k * 2) (a ∷ b ∷ [])) k ≡ between s a b
  part_put h =
      let t = sets table (k * 2) (a ∷ b ∷ []) in
      ap (λ (x : ℕ). between s x (get_or t (k * 2 + 1) 0))
      (get_or-set_other (set table (k * 2) a) (suc (k * 2)) (k * 2) b 0 (λ e. omega arith) ∙ get_or-set_same table (k * 2) a 0 (omega arith))
      ∙ ap (between s a)
      (ap (λ (j : ℕ). get_or t j 0) (add-one (k * 2)) ∙ get_or-set_same (set table (k * 2) a) (suc (k * 2)) b 0 (omega (arith, length-set table (k * 2) a)))

  -- the parts with one more
  pub parts_put : k * 2 + 1 < length table → parts_of s (sets table (k * 2) (a ∷ b ∷ [])) (k + 1) ≡ parts_of s table k ++ between s a b ∷ []
  parts_put h =
      let t = sets table (k * 2) (a ∷ b ∷ []) in
      ap (parts_from s t 0) (add-one k) ∙ parts_last s t 0 k
      ∙ ap (λ (ps : List (List ℕ)). ps ++ part_at s t (0 + k) ∷ []) (parts_before 0 k (omega arith))
      ∙ ap (λ (j : ℕ). parts_of s table k ++ part_at s t j ∷ []) (zero-add k)
      ∙ ap (λ (p : List ℕ). parts_of s table k ++ p ∷ []) (part_put h)
