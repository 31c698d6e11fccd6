-- `foresee` meets its contract: the answer depends on no list that is added to.
use Rattle.std.proofs.Common.{◌∙◌}
use Rattle.rule_calls.specs.Laws.Run.{run_answer}
use Rattle.rule_calls.proofs.call.foresee.Goals as goal

pub returns : goal.returns
returns c = λ records side tops entries. c.run.ensures.answer ∙ run_answer _ _ _ _ _ _ _ _ _ _ _ _ _ _ _
