-- `form_refusal` meets its contract.
use Rattle.std.proofs.Common.{inl, inr}
use Rattle.rule_steps.specs.Step.{found_for}
use Rattle.rule_steps.specs.Given.{form_refusal}
use Rattle.rule_steps.proofs.adding.form_refusal.Goals as goal

pub returns-in-Nothing : goal.returns-in-Nothing
unfolding form_refusal
returns-in-Nothing c = λ terms e. elim c.in-Nothing.is [ inl f ↦ rw f | inr f ↦ rw f.2 ]

pub returns-in-Application : goal.returns-in-Application
unfolding form_refusal found_for
returns-in-Application c = λ terms e. rw c.in-Application.is (rw c.in-Application.is at (rw e at c.head_refusal.ensures))
