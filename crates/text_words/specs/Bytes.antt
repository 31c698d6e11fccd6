-- The bytes that have a meaning of their own, and small functions on lists of bytes.
use Rattle.std.specs.Prelude.{ℕ, Bool, true, false, ◌&&◌, cond, List, [], ◌∷◌, leb, eqb}

-- between lines, between words, between a literal's sort and its name
abbrev pub line_feed : ℕ
line_feed = 10

abbrev pub space : ℕ
space = 32

abbrev pub colon : ℕ
colon = 58

-- what a global, a literal and the print of a fresh term begin with
abbrev pub at_sign : ℕ
at_sign = 64

abbrev pub equals : ℕ
equals = 61

abbrev pub hash : ℕ
hash = 35

abbrev pub hyphen : ℕ
hyphen = 45

abbrev pub underscore : ℕ
underscore = 95

-- from lo to hi, both included
abbrev pub within : ℕ → ℕ → ℕ → Bool
within lo hi b = leb lo b && leb b hi

abbrev pub is_digit : ℕ → Bool
is_digit b = within 48 57 b

abbrev pub non_empty : List ℕ → Bool
non_empty [] = false
non_empty (b ∷ bs) = true

-- the bytes before the first b; all of them where there is none
unfoldable pub up_to : ℕ → List ℕ → List ℕ
up_to b [] = []
up_to b (x ∷ xs) = cond (eqb x b) [] (x ∷ up_to b xs)

-- two names are equal
unfoldable pub same : List ℕ → List ℕ → Bool
same [] [] = true
same [] (y ∷ ys) = false
same (x ∷ xs) [] = false
same (x ∷ xs) (y ∷ ys) = eqb x y && same xs ys
