-- Putting bytes into a buffer, and numbers as bytes.
use Rattle.std.specs.Prelude.{ℕ, zero, suc, ◌+◌, ◌/◌, ◌%◌, cond, ◌≡◌, List, [], ◌∷◌, ◌++◌, ltb, length}
use Rattle.std.proofs.lemmas.List.Edits.{sets}

-- the decimal digits of n, the last k of them
unfoldable pub decimal_within : ℕ → ℕ → List ℕ
decimal_within zero n = []
decimal_within (suc k) n = cond (ltb n 10) ((48 + n) ∷ []) (decimal_within k (n / 10) ++ (48 + n % 10) ∷ [])

-- a cell holds no number of more than twenty digits
abbrev pub cell_digits : ℕ
cell_digits = 20

abbrev pub decimal : ℕ → List ℕ
decimal n = decimal_within cell_digits n

-- The bytes stand in the buffer from `at` up to `end`, all else is as it was. `sets` stores one after another.
pub record Put (out : List ℕ) (at : ℕ) (bytes : List ℕ) (end : ℕ) (out' : List ℕ) : Type 0 where
  pub ends : end ≡ at + length bytes
  pub holds : out' ≡ sets out at bytes
