-- The range: a term enters it once, with its first place. A list has a mark for each term, 1 once it is in the range.
use Rattle.std.specs.Prelude.{ℕ, zero, suc, ◌*◌, List, [], ◌∷◌, get_or, set}

-- the terms that enter, in order
unfoldable pub new_if : ℕ → ℕ → List ℕ → List ℕ
new_if t zero rest = t ∷ rest
new_if t (suc k) rest = rest

unfoldable pub new : List ℕ → List ℕ → List ℕ
new marks [] = []
new marks (t ∷ ts) = new_if t (get_or marks t 0) (new (set marks t 1) ts)

-- the marks after them
unfoldable pub marked : List ℕ → List ℕ → List ℕ
marked marks [] = marks
marked marks (t ∷ ts) = marked (set marks t 1) ts

-- their entries: term, place
unfoldable pub entries : ℕ → List ℕ → List ℕ
entries place [] = []
entries place (t ∷ ts) = t ∷ place ∷ entries place ts

-- the terms of the first n entries of a range
unfoldable pub terms_in : List ℕ → List ℕ → List ℕ
terms_in range [] = []
terms_in range (i ∷ is) = get_or range (i * 2) 0 ∷ terms_in range is
