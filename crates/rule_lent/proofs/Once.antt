-- No second outcome: any two results that meet a public function's contract for the same arguments are equal, whatever is
-- bound at exit; and nothing is asked of a caller, but that a cell is one of the eight.
use mathlib.Core.Path.{◌≡◌, refl}
use contract.Lifetimes.{Lfts}
use borrow.Fn.Kinds.{Dens}
use Rattle.definition.proofs.Laws.Once.{Once, one}
use Rattle.definition.proofs.Laws.Numbers.{one_refusal}
use Rattle.rule_lent.proofs as f

pub terms_counted_once : Once 1 f.terms_counted.Kinds.ps f.terms_counted.Kinds.r f.terms_counted.Reads.Post
terms_counted_once κs a o o' p q i = (one p q i, _)

pub lent_refusal_once : Once 3 f.lent_refusal.Kinds.ps f.lent_refusal.Kinds.r f.lent_refusal.Reads.Post
lent_refusal_once κs a o o' p q i = (one_refusal p q i, _)

pub local_refusal_once : Once 2 f.local_refusal.Kinds.ps f.local_refusal.Kinds.r f.local_refusal.Reads.Post
local_refusal_once κs a o o' p q i = (one_refusal p q i, _)

pub call_cell_once : Once 1 f.calls.call_cell.Kinds.ps f.calls.call_cell.Kinds.r f.calls.call_cell.Reads.Post
call_cell_once κs a o o' p q i = (one p q i, _)

pub atom_at_once : Once 1 f.calls.atom_at.Kinds.ps f.calls.atom_at.Kinds.r f.calls.atom_at.Reads.Post
atom_at_once κs a o o' p q i = (one p q i, _)

pub action_at_once : Once 1 f.calls.action_at.Kinds.ps f.calls.action_at.Kinds.r f.calls.action_at.Reads.Post
action_at_once κs a o o' p q i = (one p q i, _)

-- what is proved of the code is what callers learn
pub terms_counted_told : f.terms_counted.Reads.Learnt ≡ f.terms_counted.Reads.Post
terms_counted_told = refl

pub lent_refusal_told : f.lent_refusal.Reads.Learnt ≡ f.lent_refusal.Reads.Post
lent_refusal_told = refl

pub local_refusal_told : f.local_refusal.Reads.Learnt ≡ f.local_refusal.Reads.Post
local_refusal_told = refl

pub call_cell_told : f.calls.call_cell.Reads.Learnt ≡ f.calls.call_cell.Reads.Post
call_cell_told = refl

pub atom_at_told : f.calls.atom_at.Reads.Learnt ≡ f.calls.atom_at.Reads.Post
atom_at_told = refl

pub action_at_told : f.calls.action_at.Reads.Learnt ≡ f.calls.action_at.Reads.Post
action_at_told = refl

-- nothing is asked
pub terms_counted_asks_nothing : (κs : Lfts 1) (a : Dens κs f.terms_counted.Kinds.ps) → f.terms_counted.Reads.Asked κs a
terms_counted_asks_nothing κs a = tt

pub lent_refusal_asks_nothing : (κs : Lfts 3) (a : Dens κs f.lent_refusal.Kinds.ps) → f.lent_refusal.Reads.Asked κs a
lent_refusal_asks_nothing κs a = tt

pub local_refusal_asks_nothing : (κs : Lfts 2) (a : Dens κs f.local_refusal.Kinds.ps) → f.local_refusal.Reads.Asked κs a
local_refusal_asks_nothing κs a = tt

pub atom_at_asks_nothing : (κs : Lfts 1) (a : Dens κs f.calls.atom_at.Kinds.ps) → f.calls.atom_at.Reads.Asked κs a
atom_at_asks_nothing κs a = tt

pub action_at_asks_nothing : (κs : Lfts 1) (a : Dens κs f.calls.action_at.Kinds.ps) → f.calls.action_at.Reads.Asked κs a
action_at_asks_nothing κs a = tt
