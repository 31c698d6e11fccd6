-- What a chain of iterators makes, in the words of the definitions: a test of each number of a list, or of each from 0 on.
use Rattle.std.specs.Prelude.{ℕ, zero, suc, ◌+◌, ◌≡◌, refl, Bool, ◌&&◌, List, [], ◌∷◌}
use Rattle.std.specs.List.{list_all, range_with_len}
use Rattle.std.proofs.Common.{ap, ◌∙◌, arith}
use Rattle.definition.specs.Lists.{from, all}

pub all_made : (t : ℕ → Bool) (xs : List ℕ) → list_all t xs ≡ all t xs
unfolding all
all_made t [] = refl
all_made t (x ∷ xs) = ap (λ (b : Bool). t x && b) (all_made t xs)

pub from_made : (i n : ℕ) → range_with_len i n ≡ from i n
unfolding from
from_made i zero = refl
from_made i (suc n) = let e : i + 1 ≡ suc i = omega arith in rw e (ap (λ (l : List ℕ). i ∷ l) (from_made (suc i) n))

-- of each of the n numbers from 0 on
pub all_from_made : (t : ℕ → Bool) (n : ℕ) → list_all t (range_with_len 0 n) ≡ all t (from 0 n)
all_from_made t n = all_made t (range_with_len 0 n) ∙ ap (all t) (from_made 0 n)
