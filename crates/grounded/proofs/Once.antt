-- No second outcome fits the contract of `grounded_check`, and it asks nothing of a caller. An outcome is the result
-- together with the last list of each `&mut` slice; it meets the contract if the contract's own reading holds of it.
use mathlib.Core.Path.{◌≡◌, refl}
use contract.Lifetimes.{Lfts}
use borrow.Fn.Kinds.{Dens}
use Rattle.definition.proofs.Laws.Once.{Once, one}
use Rattle.grounded.proofs.grounded_check as check

pub grounded_check_once : Once 4 check.Kinds.ps check.Kinds.r check.Reads.Post
grounded_check_once κs a o o' p q i = (
  one p.outcome q.outcome i,
  (_, (one p.work_at_exit q.work_at_exit i, (one p.sort_list_at_exit q.sort_list_at_exit i, (one p.errors_at_exit q.errors_at_exit i, _)))),
)

-- what is proved of the code is what callers learn
pub grounded_check_told : check.Reads.Learnt ≡ check.Reads.Post
grounded_check_told = refl

pub grounded_check_asks_nothing : (κs : Lfts 4) (a : Dens κs check.Kinds.ps) → check.Reads.Asked κs a
grounded_check_asks_nothing κs a = tt
