-- Small functions on lists that the definitions share.
use Rattle.std.specs.Prelude.{ℕ, zero, suc, ◌-◌, max, Bool, true, ◌&&◌, cond, eqb, length, get_or, take}
use mathlib.Core.List.{List, [], ◌∷◌, ◌++◌, Memᴰ}

-- the n numbers from i on
unfoldable pub from : ℕ → ℕ → List ℕ
from i zero = []
from i (suc n) = i ∷ from (suc i) n

-- every number of the list passes the test
unfoldable pub all : (ℕ → Bool) → List ℕ → Bool
all t [] = true
all t (x ∷ xs) = t x && all t xs

-- how often x stands in the list
unfoldable pub count : ℕ → List ℕ → ℕ
count x [] = 0
count x (y ∷ ys) = cond (eqb x y) (suc (count x ys)) (count x ys)

-- the largest value that m gives on the list, 0 where the list is empty
unfoldable pub largest : (ℕ → ℕ) → List ℕ → ℕ
largest m [] = 0
largest m (x ∷ xs) = max (m x) (largest m xs)

-- the lists that g gives, one after another
unfoldable pub joined : (ℕ → List ℕ) → List ℕ → List ℕ
joined g [] = []
joined g (x ∷ xs) = g x ++ joined g xs

-- the last number of a list, and all before it
abbrev pub last_of : List ℕ → ℕ
last_of xs = get_or xs (length xs - 1) 0

abbrev pub without_last : List ℕ → List ℕ
without_last xs = take (length xs - 1) xs

-- x is in the list
abbrev pub Among : ℕ → List ℕ → Type 0
Among x xs = Memᴰ x xs
