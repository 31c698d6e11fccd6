-- A frame: the assignment, and what the records have become (a narrowed Xor, a fired Implies). Updates
-- read and write it through `sort_of`, `state_of`, `put_sort` and `put_state` alone.
use Rattle.std.specs.Prelude.{ℕ, List, get_or, set, replicate}
use Rattle.definition.specs.Problem.{Problem}

-- sorts by term: 0 for none, else sort + 1. states by record: of an Xor 0, or 1 + the child that is left;
-- of an Implies 0, or 1 once it has fired; of others 0
pub record Frame : Type 0 where
  pub sorts : List ℕ
  pub states : List ℕ

abbrev pub sort_of : Frame → ℕ → ℕ
sort_of f t = get_or f.sorts t 0

abbrev pub state_of : Frame → ℕ → ℕ
state_of f r = get_or f.states r 0

abbrev pub put_sort : Frame → ℕ → ℕ → Frame
put_sort f t v = record { sorts = set f.sorts t v; states = f.states }

abbrev pub put_state : Frame → ℕ → ℕ → Frame
put_state f r v = record { sorts = f.sorts; states = set f.states r v }

-- nothing sorted, nothing narrowed, nothing fired
abbrev pub empty_frame : Problem → Frame
empty_frame p = record { sorts = replicate p.counts.terms 0; states = replicate p.counts.records 0 }
