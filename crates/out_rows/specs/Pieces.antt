-- The pieces of a row, as they stand in the tables of names.
use Rattle.std.specs.Prelude.{ℕ, ◌+◌, List, [], length, get_or}
use Rattle.text_words.specs.Parts.{parts_of}
use Rattle.text_words.specs.Put.{cell_digits}
use Rattle.text_definition.specs.Rows.{term_text}

-- name i of a table of n
abbrev pub name_of : List ℕ → List ℕ → ℕ → ℕ → List ℕ
name_of s table n i = get_or (parts_of s table n) i []

abbrev pub term_of : List ℕ → List ℕ → ℕ → ℕ → List ℕ
term_of s term_names n t = term_text t (name_of s term_names n t)

-- a term's text is a name, or `#` and a number
abbrev pub term_room : List ℕ → ℕ
term_room s = length s + (1 + cell_digits)
