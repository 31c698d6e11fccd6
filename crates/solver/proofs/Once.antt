-- No second outcome fits the contract of `solve`, and it asks nothing of a caller. An outcome is the result together with
-- the last list of each `&mut` slice; it meets the contract if the contract's own reading holds of it.
use mathlib.Core.Path.{◌≡◌, refl}
use contract.Lifetimes.{Lfts}
use borrow.Fn.Kinds.{Dens}
use Rattle.definition.proofs.Laws.Once.{Once, one}
use Rattle.solver.proofs.solve as solve

pub solve_once : Once 4 solve.Kinds.ps solve.Kinds.r solve.Reads.Post
solve_once κs a o o' p q i = (
  one p.outcome q.outcome i,
  (_, (one p.work_at_exit q.work_at_exit i, (one p.sort_list_at_exit q.sort_list_at_exit i, (one p.errors_at_exit q.errors_at_exit i, _)))),
)

-- what is proved of the code is what callers learn
pub solve_told : solve.Reads.Learnt ≡ solve.Reads.Post
solve_told = refl

pub solve_asks_nothing : (κs : Lfts 4) (a : Dens κs solve.Kinds.ps) → solve.Reads.Asked κs a
solve_asks_nothing κs a = tt
