-- `find_for` meets its contract.
use Rattle.std.proofs.Common.{refl, inl, inr}
use Rattle.rule_steps.specs.Step.{found_for}
use Rattle.rule_steps.proofs.adding.find_for.Goals as goal

pub returns-in-Nothing : goal.returns-in-Nothing
unfolding found_for
returns-in-Nothing c = elim c.in-Nothing.is [ inl e ↦ rw e (refl, refl) | inr e ↦ rw e.2 (refl, refl) ]

pub returns-in-Application : goal.returns-in-Application
unfolding found_for
returns-in-Application c = rw c.in-Application.is c.find.ensures
