-- Loops that go through a list or through the numbers below n: what is left to go through, and a test of all of it.
use Rattle.std.specs.Prelude.{ℕ, suc, ◌+◌, ◌-◌, ◌≤◌, ◌<◌, ◌≡◌, Bool, true, false, ◌&&◌, List, [], ◌∷◌, ◌++◌, ltb, length, get_or, drop}
use Rattle.std.proofs.Common.{add-one, arith, drop_of_length-le, drop-cons, lt-ltb, le-ltb}
use Rattle.definition.specs.Lists.{from, all, joined}
use Rattle.definition.proofs.Laws.Lists.{all_append}

-- what is left, one step on and at the end
pub drop_step : (xs : List ℕ) (i : ℕ) → i < length xs → drop i xs ≡ get_or xs i 0 ∷ drop (i + 1) xs
drop_step xs i h = rw (add-one, drop-cons xs i 0)

pub drop_end : (xs : List ℕ) (i : ℕ) → length xs ≤ i → drop i xs ≡ []
drop_end xs i h = drop_of_length-le xs h

pub from_step : (i n : ℕ) → i < n → from i (n - i) ≡ i ∷ from (i + 1) (n - (i + 1))
unfolding from
from_step i n h = let e : n - i ≡ suc (n - (i + 1)) = omega arith in rw (e, add-one)

pub from_end : (i n : ℕ) → n ≤ i → from i (n - i) ≡ []
unfolding from
from_end i n h = let e : n - i ≡ 0 = omega arith in rw e

-- a test of what is left, by whether the next passes
pub all_step : (t : ℕ → Bool) (x : ℕ) (xs ys : List ℕ) → xs ≡ x ∷ ys → t x ≡ true → all t ys ≡ all t xs
unfolding all
all_step t x xs ys e h = rw (e, h)

pub all_stop : (t : ℕ → Bool) (x : ℕ) (xs ys : List ℕ) → xs ≡ x ∷ ys → t x ≡ false → all t xs ≡ false
unfolding all
all_stop t x xs ys e h = rw (e, h)

pub all_end : (t : ℕ → Bool) (xs : List ℕ) → xs ≡ [] → all t xs ≡ true
unfolding all
all_end t xs e = rw e

-- a test of one number, and of a list in two parts
pub below_one : (x bound : ℕ) → x < bound → all (λ y. ltb y bound) (x ∷ []) ≡ true
unfolding all
below_one x bound h = rw (lt-ltb x bound h)

pub not_below_one : (x bound : ℕ) → bound ≤ x → all (λ y. ltb y bound) (x ∷ []) ≡ false
unfolding all
not_below_one x bound h = rw (le-ltb x bound h)

pub all_parts : (t : ℕ → Bool) (xs ys zs : List ℕ) → xs ≡ ys ++ zs → all t xs ≡ (all t ys && all t zs)
all_parts t xs ys zs e = rw e (all_append t ys zs)

-- what is left of the numbers below n, tested and joined
pub all_from_step : (t : ℕ → Bool) (i n : ℕ) → i < n → all t (from i (n - i)) ≡ (t i && all t (from (i + 1) (n - (i + 1))))
unfolding all
all_from_step t i n h = rw (from_step i n h)

pub joined_from_step : (g : ℕ → List ℕ) (i n : ℕ) → i < n → joined g (from i (n - i)) ≡ g i ++ joined g (from (i + 1) (n - (i + 1)))
unfolding joined
joined_from_step g i n h = rw (from_step i n h)

pub joined_from_end : (g : ℕ → List ℕ) (i n : ℕ) → n ≤ i → joined g (from i (n - i)) ≡ []
unfolding joined
joined_from_end g i n h = rw (from_end i n h)
