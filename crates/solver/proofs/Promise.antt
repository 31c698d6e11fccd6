-- What the person who signs can rely on, at the entry point: from the contract of `solve` to demand 3, for the lists lent
-- and the buffers left. The first cells of the sort list, one for each term, are the answer.
use Prim.Native.Nat.{ℕ}
use mathlib.Core.Path.{◌≡◌, ap, sym, ◌∙◌}
use mathlib.Core.List.{List}
use lib.ListN.{take}
use Rattle.definition.specs.declared.Outcome.{Outcome}
use Rattle.definition.specs.Problem.{Problem}
use Rattle.definition.specs.Meaning.{Names, Total, Satisfies}
use Rattle.meaning.specs.Words.{Has, given, Gives, SortsAll, Conflicting}
use Rattle.meaning.proofs.Demand.{forced, only_total, only_satisfies, only_one, answered_at_exit, unsatisfied_at_exit}
use contract.Lifetimes.{Lfts}
use denote.Triple.Clauses.{at_exit}
use borrow.Fn.Kinds.{Dens, ended_of}
use Rattle.solve_records.specs.Lent.{seen as seen_of}
use Rattle.solver.specs.Entry.{Solved}
use Rattle.solver.proofs.solve as solve
use Rattle.definition.proofs.Laws.Once.{Left}

-- The contract's own reading, of any arguments and any outcome that meets it, is the hypothesis below: arguments and last
-- lists stand in the order of the parameters.
module _ (κs : Lfts 4) (a : Dens κs solve.Kinds.ps) (o : Left 4 solve.Kinds.ps solve.Kinds.r κs a) where
  -- what was lent
  abbrev pub lent_to : Problem
  lent_to = seen_of a.0

  pub solve_met :
      solve.Reads.Post κs a o.0 (at_exit (ended_of 4 solve.Kinds.ps solve.Kinds.r) κs a o.1)
      → Solved lent_to a.1.0.now a.1.1.0.now a.1.1.1.0.now o.0 o.1.1.0 o.1.1.1.0 o.1.1.1.1.0
  solve_met met = met

module _ (p : Problem) (work sort_list errors : List ℕ) (r : Outcome) (work' sort_list' errors' : List ℕ) (met : Solved p work sort_list errors r work' sort_list' errors') where
  -- the answer that a caller sees
  abbrev pub seen : List ℕ
  seen = take p.counts.terms sort_list'

  is_answer : r.number ≡ 0 → Gives p seen
  is_answer z = rw met.sort_list_at_exit (answered_at_exit p work sort_list errors (ap (λ (o : Outcome). o.number) (sym met.outcome) ∙ z))

  -- Forced: a sort in the answer holds in every assignment that satisfies what was lent
  pub solve_forced : r.number ≡ 0 → (t s : ℕ) → Has seen t s → (τ : ℕ → ℕ) → Satisfies p τ → τ t ≡ s
  solve_forced z = forced p seen (is_answer z)

  -- Only: an answer that sorts every term named is a total assignment, satisfies what was lent, and is the only one
  pub solve_total : r.number ≡ 0 → SortsAll p seen → Total p (given seen)
  solve_total z = only_total p seen (is_answer z)

  pub solve_satisfies : r.number ≡ 0 → SortsAll p seen → Satisfies p (given seen)
  solve_satisfies z = only_satisfies p seen (is_answer z)

  pub solve_only : r.number ≡ 0 → SortsAll p seen → (τ : ℕ → ℕ) → Satisfies p τ → (t : ℕ) → Names p t → τ t ≡ given seen t
  solve_only z = only_one p seen (is_answer z)

  -- Conflict: 30, 32 or 33 means that no assignment satisfies what was lent
  pub solve_unsatisfied : Conflicting r.number → (τ : ℕ → ℕ) → Satisfies p τ → ⊥
  solve_unsatisfied c = unsatisfied_at_exit p work sort_list errors (rw met.outcome at c)

-- The same from the contract's own reading.
module _ (κs : Lfts 4) (a : Dens κs solve.Kinds.ps) (o : Left 4 solve.Kinds.ps solve.Kinds.r κs a) (met : solve.Reads.Post κs a o.0 (at_exit (ended_of 4 solve.Kinds.ps solve.Kinds.r) κs a o.1)) where
  -- the first cells of the sort list at exit, one for each term
  abbrev pub answer : List ℕ
  answer = take a.0.counts.terms o.1.1.1.0

  pub entry_forced : o.0.number ≡ 0 → (t s : ℕ) → Has answer t s → (τ : ℕ → ℕ) → Satisfies (lent_to κs a o) τ → τ t ≡ s
  entry_forced = solve_forced _ _ _ _ _ _ _ _ (solve_met κs a o met)

  pub entry_satisfies : o.0.number ≡ 0 → SortsAll (lent_to κs a o) answer → Satisfies (lent_to κs a o) (given answer)
  entry_satisfies = solve_satisfies _ _ _ _ _ _ _ _ (solve_met κs a o met)

  pub entry_only :
      o.0.number ≡ 0 → SortsAll (lent_to κs a o) answer → (τ : ℕ → ℕ) → Satisfies (lent_to κs a o) τ
      → (t : ℕ) → Names (lent_to κs a o) t → τ t ≡ given answer t
  entry_only = solve_only _ _ _ _ _ _ _ _ (solve_met κs a o met)

  pub entry_unsatisfied : Conflicting o.0.number → (τ : ℕ → ℕ) → Satisfies (lent_to κs a o) τ → ⊥
  entry_unsatisfied = solve_unsatisfied _ _ _ _ _ _ _ _ (solve_met κs a o met)
