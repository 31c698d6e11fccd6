-- `write` meets its contract.
use Rattle.rule_steps.specs.Laws.Adding.{written_nothing, written_equality, written_application}
use Rattle.rule_steps.proofs.adding.write.Goals as goal

pub returns-in-Nothing : goal.returns-in-Nothing
returns-in-Nothing c = λ e. written_nothing _ _ _ _ _ _ _ _ _ _ _ c.in-Nothing.is c.write_nothing.ensures

pub returns-in-Equality : goal.returns-in-Equality
returns-in-Equality c = λ e. written_equality _ _ _ _ _ _ _ _ _ _ _ _ _ c.in-Equality.is c.write_equality.ensures

pub returns-in-Application : goal.returns-in-Application
returns-in-Application c = λ e. written_application _ _ _ _ _ _ _ _ _ _ _ _ _ _ c.in-Application.is e c.write_application.ensures
