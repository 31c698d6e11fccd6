-- What solve leaves: its outcome, and the work room, the sort list and the error list at exit, whole, as functions of
-- those at entry, on every answer and every refusal.
use Rattle.std.specs.Prelude.{ℕ, zero, suc, ◌*◌, List, [], ◌∷◌, ◌++◌, length, take, drop, replicate}
use Rattle.definition.specs.declared.Outcome.{Outcome}
use Rattle.definition.specs.Sizes.{entry_cells}
use Rattle.definition.specs.Problem.{Problem}
use Rattle.definition.specs.Update.{Entry}
use Rattle.definition.specs.Solve.{Answer, answered, unconstrained, conflict, solve, outcome_of}
use Rattle.definition.specs.Refusal.{refusal}

-- an entry's 8 cells
abbrev pub cells_of : Entry → List ℕ
cells_of e = e.number ∷ e.source ∷ e.place ∷ e.first ∷ e.second ∷ e.third ∷ 0 ∷ 0 ∷ []

unfoldable pub entries_cells : List Entry → List ℕ
entries_cells [] = []
entries_cells (e ∷ es) = cells_of e ++ entries_cells es

-- the list's first n cells, then zeroes up to n, then what stood behind them
abbrev pub filled : ℕ → List ℕ → List ℕ → List ℕ
filled n cells old = take n (cells ++ replicate n 0) ++ drop n old

-- an answer fills one cell for each term; anything else leaves the sort list alone
unfoldable pub sorts_after : Problem → Answer → List ℕ → List ℕ
sorts_after p (answered n f) sort_list = f.sorts ++ drop p.counts.terms sort_list
sorts_after p (unconstrained n t place) sort_list = sort_list
sorts_after p (conflict n e es) sort_list = sort_list

-- the error's entries, none on an answer or 31
unfoldable pub entries_of : Answer → List Entry
entries_of (answered n f) = []
entries_of (unconstrained n t place) = []
entries_of (conflict n e es) = e ∷ es

-- the first `records` entries: the error, then zeroes
abbrev pub errors_after : Problem → Answer → List ℕ → List ℕ
errors_after p a errors = filled (p.counts.records * entry_cells) (entries_cells (entries_of a)) errors

-- everything that a caller can see once solve has returned
pub record Exit : Type 0 where
  pub outcome : Outcome
  pub work : List ℕ
  pub sort_list : List ℕ
  pub errors : List ℕ

-- a refusal changes nothing; an answer or an error zeroes the whole work room
unfoldable pub exit_on : Problem → Answer → List ℕ → List ℕ → List ℕ → ℕ → Exit
exit_on p a work sort_list errors (suc n) =
    record { outcome = record { number = suc n; passes = 0; term = 0; place = 0 }; work = work; sort_list = sort_list; errors = errors }
exit_on p a work sort_list errors zero =
    record { outcome = outcome_of a; work = replicate (length work) 0; sort_list = sorts_after p a sort_list; errors = errors_after p a errors }

unfoldable pub exit : Problem → List ℕ → List ℕ → List ℕ → Exit
exit p work sort_list errors = exit_on p (solve p) work sort_list errors (refusal p work sort_list errors)
