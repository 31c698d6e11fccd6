-- No second outcome fits the contract of `refusal`, and it asks nothing of a caller.
use mathlib.Core.Path.{◌≡◌, refl}
use contract.Lifetimes.{Lfts}
use borrow.Fn.Kinds.{Dens}
use Rattle.definition.proofs.Laws.Once.{Once}
use Rattle.definition.proofs.Laws.Numbers.{one_refusal}
use Rattle.grounded_body.proofs.fit.refusal as refusal

pub refusal_once : Once 1 refusal.Kinds.ps refusal.Kinds.r refusal.Reads.Post
refusal_once κs a o o' p q i = (one_refusal p q i, _)

pub refusal_told : refusal.Reads.Learnt ≡ refusal.Reads.Post
refusal_told = refl

pub refusal_asks_nothing : (κs : Lfts 1) (a : Dens κs refusal.Kinds.ps) → refusal.Reads.Asked κs a
refusal_asks_nothing κs a = tt
