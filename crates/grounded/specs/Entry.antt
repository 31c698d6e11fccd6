-- What grounded_check promises, for every input: its outcome and the three lists at exit are the definition's.
use Rattle.std.specs.Prelude.{ℕ, ◌≡◌, List}
use Rattle.definition.specs.declared.Outcome.{Outcome}
use Rattle.grounded_body.specs.Body.{Body}
use Rattle.grounded_body.specs.Check.{grounded_exit}

pub record Checked (b : Body) (work sort_list errors : List ℕ) (r : Outcome) (work' sort_list' errors' : List ℕ) : Type 0 where
  pub outcome : r ≡ (grounded_exit b work sort_list errors).outcome
  pub work_at_exit : work' ≡ (grounded_exit b work sort_list errors).work
  pub sort_list_at_exit : sort_list' ≡ (grounded_exit b work sort_list errors).sort_list
  pub errors_at_exit : errors' ≡ (grounded_exit b work sort_list errors).errors
