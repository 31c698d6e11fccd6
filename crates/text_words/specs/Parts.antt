-- A text cut at a byte, and tables of parts of a text: two cells a part, its start and its end.
use Rattle.std.specs.Prelude.{ℕ, zero, suc, ◌+◌, ◌-◌, ◌*◌, ◌≤◌, cond, List, [], ◌∷◌, eqb, take, drop, get_or, length}
use Rattle.text_words.specs.declared.parts.Parts.{Parts}
use Rattle.text_words.specs.Bytes.{same}

-- the byte goes in front of the first part
unfoldable pub to_first : ℕ → List (List ℕ) → List (List ℕ)
to_first x [] = (x ∷ []) ∷ []
to_first x (w ∷ ws) = (x ∷ w) ∷ ws

-- the parts between the bytes b: one more than there are such bytes, each may be empty
unfoldable pub split : ℕ → List ℕ → List (List ℕ)
split b [] = [] ∷ []
split b (x ∷ xs) = cond (eqb x b) ([] ∷ split b xs) (to_first x (split b xs))

-- where they stand: starts and ends, for a text that begins at `at`, with a part begun at `start`
unfoldable pub cuts_from : ℕ → ℕ → ℕ → List ℕ → List ℕ
cuts_from b start at [] = start ∷ at ∷ []
cuts_from b start at (x ∷ xs) = cond (eqb x b) (start ∷ at ∷ cuts_from b (suc at) (suc at) xs) (cuts_from b start (suc at) xs)

abbrev pub cuts : ℕ → ℕ → List ℕ → List ℕ
cuts b at s = cuts_from b at at s

-- a part of a text, from its start up to its end; what lies outside the text is left out
abbrev pub between : List ℕ → ℕ → ℕ → List ℕ
between s start end = take (end - start) (drop start s)

-- a part takes two cells of a table
abbrev pub part_cells : ℕ
part_cells = 2

abbrev pub part_at : List ℕ → List ℕ → ℕ → List ℕ
part_at s table i = between s (get_or table (i * part_cells) 0) (get_or table (i * part_cells + 1) 0)

-- the n parts of a table from part i on
unfoldable pub parts_from : List ℕ → List ℕ → ℕ → ℕ → List (List ℕ)
parts_from s table i zero = []
parts_from s table i (suc n) = part_at s table i ∷ parts_from s table (suc i) n

abbrev pub parts_of : List ℕ → List ℕ → ℕ → List (List ℕ)
parts_of s table n = parts_from s table 0 n

-- the number of the first part that is the word; how many there are where none is
unfoldable pub find : List ℕ → List (List ℕ) → ℕ
find w [] = 0
find w (p ∷ ps) = cond (same p w) 0 (suc (find w ps))

-- the table has room for all its parts
abbrev pub Whole : Parts → Type 0
Whole p = p.count * part_cells ≤ length p.table.now

abbrev pub all_of : Parts → List (List ℕ)
all_of p = parts_of p.text.now p.table.now p.count
