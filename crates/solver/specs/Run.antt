-- The passes: what is asked before them.
use Rattle.std.specs.Prelude.{ℕ, ◌*◌, ◌≤◌, List, length, take}
use Rattle.definition.specs.declared.Counts.{Counts}
use Rattle.definition.specs.Sizes.{max_depth, record_cells, entry_cells}
use Rattle.definition.specs.Lists.{Among}
use Rattle.definition.specs.Solve.{running}
use Rattle.definition.specs.Fits.{Fits, total, size}
use Rattle.solve_leaves.specs.Room.{frame_cells, room, bare}
-- the problem that the counts and the four lists make
pub use Rattle.solve_records.specs.Lent.{lent as problem}
use Rattle.solver.specs.Finish.{Ended, Ends}

-- what is asked before the passes: each top-level record fits, the lists are as long as the counts say, and there is
-- room for frames and for the entries of any error
pub record CanRun (counts : Counts) (records side tops work errors : List ℕ) : Type 0 where
  pub fits : (c : ℕ) → Among c (take counts.tops tops) → Fits (bare counts records side) max_depth c
  pub records_lent : counts.records * record_cells ≤ length records
  pub side_lent : counts.side ≤ length side
  pub tops_lent : counts.tops ≤ length tops
  pub space : room (frame_cells counts) max_depth ≤ length work
  pub entries : total (size (bare counts records side) max_depth) (take counts.tops tops) * entry_cells ≤ length errors

-- an end of the passes of this problem, whatever its range
abbrev pub Ran : Counts → List ℕ → List ℕ → List ℕ → Ended → List ℕ → List ℕ → Type 0
Ran counts records side tops ended work errors =
    (range : List ℕ) → Ends ended (running (problem counts records side tops range)) counts work errors
