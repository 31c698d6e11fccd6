-- A list of a line: how many cells it has, and those.
use Rattle.std.specs.Prelude.{ℕ, ◌≤◌, ◌<◌, List, length, get_or}

-- The line begins with a list of at most 4,168 cells.
abbrev pub HasList : List ℕ → Type 0
HasList line = (get_or line 0 0 ≤ 4168) × (get_or line 0 0 < length line)
