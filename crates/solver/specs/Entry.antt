-- What solve promises, for every input: its outcome and the three lists at exit are the definition's.
use Rattle.std.specs.Prelude.{ℕ, ◌≤◌, ◌≡◌, List}
use Rattle.definition.specs.declared.Outcome.{Outcome}
-- a refusal's outcome
pub use Rattle.definition.specs.Numbers.{refused_by}
use Rattle.definition.specs.Problem.{Problem}
use Rattle.definition.specs.Solve.{most_passes}
use Rattle.definition.specs.Buffers.{exit}

pub record Solved (p : Problem) (work sort_list errors : List ℕ) (r : Outcome) (work' sort_list' errors' : List ℕ) : Type 0 where
  pub outcome : r ≡ (exit p work sort_list errors).outcome
  pub work_at_exit : work' ≡ (exit p work sort_list errors).work
  pub sort_list_at_exit : sort_list' ≡ (exit p work sort_list errors).sort_list
  pub errors_at_exit : errors' ≡ (exit p work sort_list errors).errors
  -- which follows from the first
  pub few_passes : r.passes ≤ most_passes p
