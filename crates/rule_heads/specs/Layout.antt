-- How constraints become records, side-list cells and top-level entries, from record number n and side-list cell m on:
-- children first, in order, then their parent.
use Rattle.std.specs.Prelude.{ℕ, suc, ◌+◌, List, [], ◌∷◌, ◌++◌, length}
use Rattle.definition.specs.Lists.{from}
use Rattle.rule_cells.specs.Put.{Record, and, xor}
use Rattle.rule_heads.specs.Alternatives.{Given, plain, choice}

-- the alternatives of a choice: each one's constraints, then its And
unfoldable pub and_records : ℕ → List (List Record) → List Record
and_records m [] = []
and_records m (rs ∷ alts) = rs ++ and m (length rs) ∷ and_records (m + length rs) alts

-- the children of the Ands
unfoldable pub and_side : ℕ → List (List Record) → List ℕ
and_side n [] = []
and_side n (rs ∷ alts) = from n (length rs) ++ and_side (suc (n + length rs)) alts

-- the Ands' own numbers
unfoldable pub and_numbers : ℕ → List (List Record) → List ℕ
and_numbers n [] = []
and_numbers n (rs ∷ alts) = (n + length rs) ∷ and_numbers (suc (n + length rs)) alts

-- the Ands and then the Xor
abbrev pub xor_records : ℕ → ℕ → List (List Record) → List Record
xor_records n m alts = and_records m alts ++ xor (m + length (and_side n alts)) (length alts) ∷ []

abbrev pub xor_side : ℕ → List (List Record) → List ℕ
xor_side n alts = and_side n alts ++ and_numbers n alts

unfoldable pub records_of : ℕ → ℕ → Given → List Record
records_of n m (plain rs) = rs
records_of n m (choice rs alts) = rs ++ xor_records (n + length rs) m alts

unfoldable pub side_of : ℕ → Given → List ℕ
side_of n (plain rs) = []
side_of n (choice rs alts) = xor_side (n + length rs) alts

unfoldable pub tops_of : ℕ → ℕ → Given → List ℕ
tops_of n m (plain rs) = from n (length rs)
tops_of n m (choice rs alts) = from n (length rs) ++ (n + length rs + length (and_records m alts)) ∷ []
