-- No second outcome fits the contracts of the type errors, and they ask nothing of a caller. An outcome is the result
-- together with the last list of each `&mut` slice; it meets the contract if the contract's own reading holds of it.
use mathlib.Core.Path.{◌≡◌, refl}
use contract.Lifetimes.{Lfts}
use borrow.Fn.Kinds.{Dens}
use Rattle.definition.proofs.Laws.Once.{Once, one}
use Rattle.type_errors.proofs.to_type_error as to-type-error
use Rattle.type_errors.proofs.of_outcome as of-outcome

pub to_type_error_once : Once 1 to-type-error.Kinds.ps to-type-error.Kinds.r to-type-error.Reads.Post
to_type_error_once κs a o o' p q i = (one p q i, (_, (_, (_, _))))

pub to_type_error_told : to-type-error.Reads.Learnt ≡ to-type-error.Reads.Post
to_type_error_told = refl

pub to_type_error_asks_nothing : (κs : Lfts 1) (a : Dens κs to-type-error.Kinds.ps) → to-type-error.Reads.Asked κs a
to_type_error_asks_nothing κs a = tt

pub of_outcome_once : Once 0 of-outcome.Kinds.ps of-outcome.Kinds.r of-outcome.Reads.Post
of_outcome_once κs a o o' p q i = (one p q i, (_, _))

pub of_outcome_asks_nothing : (κs : Lfts 0) (a : Dens κs of-outcome.Kinds.ps) → of-outcome.Reads.Asked κs a
of_outcome_asks_nothing κs a = tt
