-- What is known of an Xor's children as they are tried, one after the other.
use Rattle.std.specs.Prelude.{ℕ, suc, ◌+◌, ◌*◌, ◌<◌, ◌≤◌, ◌≡◌, Ok, Err, List, length, drop}
use Rattle.definition.specs.declared.Counts.{Counts}
use Rattle.definition.specs.Sizes.{entry_cells}
use Rattle.definition.specs.Problem.{Problem, place_of}
use Rattle.definition.specs.Frame.{Frame}
use Rattle.definition.specs.Update.{Found, settle}
use Rattle.solve_leaves.specs.declared.answer.Tried.{Tried}
use Rattle.solve_leaves.specs.declared.answer.Tried.TheVariants.{Nothing, Single, Several}
use Rattle.solve_leaves.specs.Says.{Answer, Says, Shows}

-- the definition's `seen`, in the code's values
abbrev pub seen_by : Tried → ℕ → Answer → Tried
seen_by (Nothing k) c (Ok b) = Single c b
seen_by (Nothing k) c (Err e) = Nothing (k + e.entries)
seen_by (Single d b) c (Ok b') = Several
seen_by (Single d b) c (Err e) = Single d b
seen_by Several c a = Several

-- how many children have succeeded; two stands for more
abbrev pub successes_of : Tried → ℕ
successes_of (Nothing k) = 0
successes_of (Single c b) = 1
successes_of Several = 2

-- where the next child is tried
abbrev pub trial_frame : Tried → ℕ → ℕ
trial_frame (Nothing k) cells = cells
trial_frame (Single c b) cells = cells + cells
trial_frame Several cells = cells + cells

-- the entries that are needed should no child fit, and those of an answer
abbrev pub entries_of : Tried → ℕ
entries_of (Nothing k) = k
entries_of (Single c b) = 0
entries_of Several = 0

abbrev pub entries_in : Answer → ℕ
entries_in (Ok b) = 0
entries_in (Err e) = e.entries

-- one more than what the trials name fits the lists
abbrev pub OneMore : Tried → List ℕ → List ℕ → Type 0
OneMore (Nothing k) work errors = suc k * entry_cells ≤ length errors
OneMore (Single c b) work errors = c < length work
OneMore Several work errors = Unit {0}

-- the end of an Xor with so many children, from what the trials show behind the errors' first entry
abbrev pub Settled : Answer → Tried → ℕ → ℕ → ℕ → ℕ → List ℕ → List ℕ → List ℕ → List ℕ → Type 0
Settled r tried terms number place children work errors work' errors' =
    (n : Counts) (p : Problem) (f : Frame) (t : Found) → n.terms ≡ terms → number < n.records → place_of p number ≡ place
    → Shows tried t f n work (drop entry_cells errors) → Says r (settle p number children f t) n work' errors'
