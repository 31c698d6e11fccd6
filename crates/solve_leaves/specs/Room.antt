-- The work room: a frame at the front, scratch behind it.
use Rattle.std.specs.Prelude.{ℕ, zero, suc, ◌+◌, ◌≤◌, ◌⊎◌, List, [], length, take, drop}
use Rattle.definition.specs.declared.Counts.{Counts}
use Rattle.definition.specs.Problem.{Problem}
use Rattle.definition.specs.Frame.{Frame}

-- the largest number that a cell holds
abbrev pub most_in_cell : ℕ
most_in_cell = 18446744073709551615

-- the cells of a frame: one for each term, then one for each record
abbrev pub frame_cells : Counts → ℕ
frame_cells n = n.terms + n.records

-- the frame at the front of a list of cells
abbrev pub frame_of : Counts → List ℕ → Frame
frame_of n cells = record { sorts = take n.terms cells; states = take n.records (drop n.terms cells) }

-- What an update d levels deep takes of the room, k being a frame's cells: its own frame, and at each level below
-- two more, a kept success and a trial. 17 frames at depth 8
unfoldable pub room : ℕ → ℕ → ℕ
room k zero = k
room k (suc d) = k + (k + room k d)

-- two parts of n cells each within a list, apart from each other
pub record Apart (source target n : ℕ) (cells : List ℕ) : Type 0 where
  pub source_in : source + n ≤ length cells
  pub target_in : target + n ≤ length cells
  pub apart : (source + n ≤ target) ⊎ (target + n ≤ source)

-- An update reads the records and the side list alone: the problem that these two and the counts make
abbrev pub bare : Counts → List ℕ → List ℕ → Problem
bare n records side = record { counts = n; records = records; side = side; tops = []; range = [] }
