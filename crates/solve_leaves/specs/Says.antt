-- What an update asks, and what its answer says of the definition's outcome.
use Rattle.std.specs.Prelude.{ℕ, ◌*◌, ◌≤◌, ◌≡◌, Bool, Result, Ok, Err, List, ◌∷◌, length, take}
use Rattle.definition.specs.declared.Counts.{Counts}
use Rattle.definition.specs.Sizes.{record_cells, entry_cells}
use Rattle.definition.specs.Lists.{Among}
use Rattle.definition.specs.Problem.{Problem}
use Rattle.definition.specs.Frame.{Frame}
use Rattle.definition.specs.Update.{Entry, entry, Out, ok, err, Found, nothing, single, several}
use Rattle.definition.specs.Buffers.{entries_cells}
use Rattle.definition.specs.Fits.{Fits, Framed, total, size}
use Rattle.solve_leaves.specs.declared.answer.ConstraintError.{ConstraintError}
use Rattle.solve_leaves.specs.declared.frame.Entry.{Entry as Written}
use Rattle.solve_leaves.specs.declared.answer.Tried.{Tried}
use Rattle.solve_leaves.specs.declared.answer.Tried.TheVariants.{Nothing, Single, Several}
use Rattle.solve_leaves.specs.Room.{frame_cells, frame_of, room}

-- an update's answer: changed or not, or its error
abbrev pub Answer : Type 0
Answer = Result Bool ConstraintError

-- an error of k entries
abbrev pub failed : ℕ → Answer
failed k = Err (record { entries = k })

-- the entry that is written
abbrev pub entry_of : Written → Entry
entry_of e = entry e.number e.source e.place e.first e.second e.third

-- the first k entries of the list of errors are these
pub record Holds (es : List Entry) (k : ℕ) (errors : List ℕ) : Type 0 where
  pub count : k ≡ length es
  pub within : k * entry_cells ≤ length errors
  pub cells : take (k * entry_cells) errors ≡ entries_cells es

-- an error whose entries, k in all, stand at the front of the list of errors
pub record Failure (o : Out) (k : ℕ) (errors : List ℕ) : Type 0 where
  pub entry : Entry
  pub below : List Entry
  pub out : o ≡ err entry below
  pub holds : Holds (entry ∷ below) k errors

-- the outcome that an answer stands for, with the work room and the list of errors that it leaves
abbrev pub Says : Answer → Out → Counts → List ℕ → List ℕ → Type 0
Says (Ok b) o n work errors = o ≡ ok b (frame_of n work)
Says (Err e) o n work errors = Failure o e.entries errors

-- no child fitted: their entries
pub record NoneFitted (t : Found) (k : ℕ) (errors : List ℕ) : Type 0 where
  pub entries : List Entry
  pub found : t ≡ nothing entries
  pub holds : Holds entries k errors

-- more than one: the frame is that at entry
pub record SeveralFitted (t : Found) (f : Frame) (n : Counts) (work : List ℕ) : Type 0 where
  pub found : t ≡ several
  pub restored : frame_of n work ≡ f

-- the same for an Xor's trials, f being the frame at entry
abbrev pub Shows : Tried → Found → Frame → Counts → List ℕ → List ℕ → Type 0
Shows (Nothing k) t f n work errors = NoneFitted t k errors
Shows (Single c b) t f n work errors = t ≡ single c b (frame_of n work)
Shows Several t f n work errors = SeveralFitted t f n work

-- what is asked before the records cs, each at most d levels deep, are updated from the frame at the front of the room
pub record Ready (p : Problem) (d : ℕ) (cs : List ℕ) (work errors : List ℕ) : Type 0 where
  pub fits : (c : ℕ) → Among c cs → Fits p d c
  pub records : p.counts.records * record_cells ≤ length p.records
  pub side : p.counts.side ≤ length p.side
  pub framed : Framed p (frame_of p.counts work)
  pub space : room (frame_cells p.counts) d ≤ length work
  pub entries : total (size p d) cs * entry_cells ≤ length errors
