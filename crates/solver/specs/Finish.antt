-- How the passes end, and what is left of the buffers after them.
use Rattle.std.specs.Prelude.{ℕ, ◌-◌, ◌*◌, ◌≤◌, ◌<◌, ◌≡◌, Option, Some, None, Result, Ok, Err, List, ◌∷◌, ◌++◌, length, take, get_or, replicate}
use Rattle.definition.specs.declared.Counts.{Counts}
use Rattle.definition.specs.declared.Outcome.{Outcome}
use Rattle.definition.specs.Sizes.{entry_cells, range_cells}
use Rattle.definition.specs.Lists.{from}
use Rattle.definition.specs.Problem.{Problem}
use Rattle.definition.specs.Frame.{Frame}
use Rattle.definition.specs.Update.{Entry}
use Rattle.definition.specs.Solve.{Run, settled, failed, all_found, open_at, first_open, Answer, at_end, outcome_of}
use Rattle.definition.specs.Solve.{Open as Opening}
use Rattle.definition.specs.Buffers.{entries_cells, entries_of, sorts_after}
use Rattle.solver.specs.declared.finish.Failed.{Failed}
use Rattle.solve_leaves.specs.Room.{frame_of}
use Rattle.solve_leaves.specs.Says.{Holds}

-- a run that failed in its nth pass, with the error's k entries at the front of the list of errors
pub record RunFailed (o : Run) (n k : ℕ) (errors : List ℕ) : Type 0 where
  pub entry : Entry
  pub below : List Entry
  pub run : o ≡ failed n entry below
  pub holds : Holds (entry ∷ below) k errors

-- how the passes end: nothing changes any more, with the passes begun; or an error
abbrev pub Ended : Type 0
Ended = Result ℕ Failed

-- what the search for an open range entry finds: its term and its place
abbrev pub Found : Type 0
Found = Option (record { 0 : ℕ; 1 : ℕ })

-- the run that an end of the passes stands for, with the work room and the list of errors that it leaves
abbrev pub Ends : Ended → Run → Counts → List ℕ → List ℕ → Type 0
Ends (Ok n) o counts work errors = o ≡ settled n (frame_of counts work)
Ends (Err e) o counts work errors = RunFailed o e.passes e.entries errors

-- the definition's word for what the search for an open range entry found
abbrev pub open_of : Found → Opening
open_of None = all_found
open_of (Some at) = open_at at.0 at.1

-- it is the first of n entries of this range whose term has none of these sorts
abbrev pub OpenIs : ℕ → List ℕ → List ℕ → Found → Type 0
OpenIs n range sorts r =
    (p : Problem) (f : Frame) → p.range ≡ range → f.sorts ≡ sorts → open_of r ≡ first_open p f (from 0 n)

-- every term of the first n range entries is below k
abbrev pub RangeBelow : ℕ → List ℕ → ℕ → Type 0
RangeBelow n range k = (i : ℕ) → i < n → get_or range (i * range_cells) 0 < k

-- an error has an entry, and its entries lie in the list
abbrev pub EndFits : Ended → List ℕ → Type 0
EndFits (Ok n) errors = Unit {0}
EndFits (Err e) errors = (0 < e.entries) × (e.entries * entry_cells ≤ length errors)

-- what is asked before the end: the range entries are there, their terms have cells, and so have all terms
pub record CanFinish (ended : Ended) (counts : Counts) (range work sort_list errors : List ℕ) : Type 0 where
  pub entries : counts.range * range_cells ≤ length range
  pub terms : RangeBelow counts.range range counts.terms
  pub room : counts.terms ≤ length work
  pub cells : counts.terms ≤ length sort_list
  pub fits : EndFits ended errors

-- the outcome and the buffers at exit, for an answer of the definition
pub record Left (p : Problem) (a : Answer) (work sort_list errors : List ℕ) (r : Outcome) (work' sort_list' errors' : List ℕ) : Type 0 where
  pub outcome : r ≡ outcome_of a
  pub zeroed : work' ≡ replicate (length work) 0
  pub filled : sort_list' ≡ sorts_after p a sort_list
  pub listed : errors' ≡ take (length errors) (entries_cells (entries_of a) ++ replicate (length errors) 0)

-- what is left of a failed run, in cells: its number, and zeroes behind its k entries
pub record FailureLeft (n k : ℕ) (work errors : List ℕ) (r : Outcome) (work' errors' : List ℕ) : Type 0 where
  pub outcome : r ≡ record { number = get_or errors 0 0; passes = n; term = 0; place = 0 }
  pub zeroed : work' ≡ replicate (length work) 0
  pub listed : errors' ≡ take (k * entry_cells) errors ++ replicate (length errors - k * entry_cells) 0

-- whatever run of a problem with these counts and this range ended so, its answer is left
abbrev pub Finished : Ended → Counts → List ℕ → List ℕ → List ℕ → List ℕ → Outcome → List ℕ → List ℕ → List ℕ → Type 0
Finished ended counts range work sort_list errors r work' sort_list' errors' =
    (p : Problem) (o : Run) → p.counts ≡ counts → p.range ≡ range → Ends ended o counts work errors
    → Left p (at_end p o) work sort_list errors r work' sort_list' errors'
