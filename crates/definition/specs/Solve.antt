-- Problem::solve: passes over the top-level constraints until one changes nothing, then the range.
use Rattle.std.specs.Prelude.{ℕ, zero, suc, ◌+◌, true, false, List, [], ◌∷◌}
use Rattle.definition.specs.declared.Outcome.{Outcome}
use Rattle.definition.specs.Lists.{from}
use Rattle.definition.specs.Problem.{Problem, Node, eq, assign, and, xor, impossible, implies, node, top_level, range_term, range_place}
use Rattle.definition.specs.Frame.{Frame, sort_of, empty_frame}
use Rattle.definition.specs.Update.{Entry, Out, ok, err, each, update, unconstrained_var}

-- one pass over the top-level constraints
abbrev pub pass : Problem → Frame → Out
pass p f = each (update p) (top_level p) f

-- how the passes end, with the number of passes begun: nothing changes any more, or an error
pub data Run : Type 0 where
  settled : ℕ → Frame → Run
  failed : ℕ → Entry → List Entry → Run

-- after pass n: again if it changed something
unfoldable pub after_pass : ℕ → Out → (Frame → Run) → Run
after_pass n (ok true g) again = again g
after_pass n (ok false g) again = settled n g
after_pass n (err e es) again = failed n e es

-- at most k more passes after the n begun
unfoldable pub run : Problem → ℕ → ℕ → Frame → Run
run p zero n f = settled n f
run p (suc k) n f = after_pass (suc n) (pass p f) (run p k (suc n))

-- 1 for an Implies
abbrev pub is_implies : Node → ℕ
is_implies (eq x y) = 0
is_implies (assign x s) = 0
is_implies (and cs) = 0
is_implies (xor cs) = 0
is_implies (impossible h e) = 0
is_implies (implies ws c) = 1

-- how many of these records are an Implies
unfoldable pub implies_among : Problem → List ℕ → ℕ
implies_among p [] = 0
implies_among p (r ∷ rs) = is_implies (node p r) + implies_among p rs

-- the passes never number more than this
abbrev pub most_passes : Problem → ℕ
most_passes p = p.counts.terms + implies_among p (from 0 p.counts.records) + 1

abbrev pub running : Problem → Run
running p = run p (most_passes p) 0 (empty_frame p)

-- the first of these range entries whose term has no sort
pub data Open : Type 0 where
  all_found : Open
  open_at : ℕ → ℕ → Open

unfoldable pub open_if : ℕ → ℕ → ℕ → Open → Open
open_if t place zero rest = open_at t place
open_if t place (suc s) rest = rest

unfoldable pub first_open : Problem → Frame → List ℕ → Open
first_open p f [] = all_found
first_open p f (i ∷ is) = open_if (range_term p i) (range_place p i) (sort_of f (range_term p i)) (first_open p f is)

abbrev pub opening : Problem → Frame → Open
opening p f = first_open p f (from 0 p.counts.range)

-- The whole of solving, refusals apart: answered; UnconstrainedVar; or the error.
pub data Answer : Type 0 where
  answered : ℕ → Frame → Answer
  unconstrained : ℕ → ℕ → ℕ → Answer
  conflict : ℕ → Entry → List Entry → Answer

unfoldable pub with_open : ℕ → Frame → Open → Answer
with_open n f all_found = answered n f
with_open n f (open_at t place) = unconstrained n t place

unfoldable pub at_end : Problem → Run → Answer
at_end p (settled n f) = with_open n f (opening p f)
at_end p (failed n e es) = conflict n e es

unfoldable pub solve : Problem → Answer
solve p = at_end p (running p)

-- its number and values
unfoldable pub outcome_of : Answer → Outcome
outcome_of (answered n f) = record { number = 0; passes = n; term = 0; place = 0 }
outcome_of (unconstrained n t place) = record { number = unconstrained_var; passes = n; term = t; place = place }
outcome_of (conflict n e es) = record { number = e.number; passes = n; term = 0; place = 0 }
