-- The largest sizes and the layout of the lent lists, as named numbers.
use Rattle.std.specs.Prelude.{ℕ}

-- largest counts
abbrev pub max_records : ℕ
max_records = 512

abbrev pub max_side : ℕ
max_side = 2048

abbrev pub max_tops : ℕ
max_tops = 512

abbrev pub max_range : ℕ
max_range = 256

abbrev pub max_terms : ℕ
max_terms = 256

abbrev pub max_sorts : ℕ
max_sorts = 256

-- a top-level record has depth 1, a child is one deeper
abbrev pub max_depth : ℕ
max_depth = 8

-- an Impossible's expected count is from 1 to this
abbrev pub max_expected : ℕ
max_expected = 9999

-- a record is 8 cells: kind, five values, place, rule
abbrev pub record_cells : ℕ
record_cells = 8

-- a range entry is 2 cells: term, place
abbrev pub range_cells : ℕ
range_cells = 2

-- an error entry is 8 cells: number, record, place, three values, two zeroes
abbrev pub entry_cells : ℕ
entry_cells = 8

-- the work room has this many cells for each term and each record
abbrev pub room_frames : ℕ
room_frames = 18
