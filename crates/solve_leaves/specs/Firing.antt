-- How it stands with an Implies.
use Rattle.std.specs.Prelude.{ℕ, ◌≡◌, Bool, true, false, Ok, Err, List, get_or, set}
use Rattle.definition.specs.Lists.{all}
use Rattle.definition.specs.Update.{is_sorted}
use Rattle.solve_leaves.specs.declared.answer.Firing.{Firing}
use Rattle.solve_leaves.specs.declared.answer.Firing.TheVariants.{Waits, Fires, Fired}
use Rattle.solve_leaves.specs.Says.{Answer}

-- from the work room to what is left of it; the cell is that of the record's state
abbrev pub FiringSays : Firing → List ℕ → ℕ → List ℕ → List ℕ → Type 0
FiringSays Waits watched cell work work' = (get_or work cell 0 ≡ 0) × (false ≡ all (λ t. is_sorted (get_or work t 0)) watched) × (work' ≡ work)
FiringSays Fires watched cell work work' = (get_or work cell 0 ≡ 0) × (true ≡ all (λ t. is_sorted (get_or work t 0)) watched) × (work' ≡ set work cell 1)
FiringSays Fired watched cell work work' = (get_or work cell 0 ≡ 0 → ⊥) × (work' ≡ work)

abbrev pub is_waiting : Firing → Bool
is_waiting Waits = true
is_waiting Fires = false
is_waiting Fired = false

-- to fire is a change
abbrev pub after_firing : Firing → Answer → Answer
after_firing Waits a = a
after_firing Fires (Ok b) = Ok true
after_firing Fires (Err e) = Err e
after_firing Fired a = a
