-- The terms that are lent with a rule.
use Rattle.std.specs.Prelude.{ℕ, ◌+◌, ◌*◌, List, get_or}

-- a term is 2 cells: its kind (0 a variable, 1 a global, 2 a literal) and its value (a global's number, a literal's sort)
abbrev pub term_cells : ℕ
term_cells = 2

abbrev pub term_kind : List ℕ → ℕ → ℕ
term_kind terms t = get_or terms (t * term_cells) 0

abbrev pub term_value : List ℕ → ℕ → ℕ
term_value terms t = get_or terms (t * term_cells + 1) 0
