-- `add_actions` meets its contract: after `add` the fresh terms' cells are what is left to write.
use Rattle.rule_calls.specs.Laws.Call.{actions_refused, actions_few, actions_added}
use Rattle.rule_calls.proofs.add_actions.Goals.{in-Ok, in_default}
use Rattle.rule_calls.proofs.add_actions.Goals as goal

pub clear_terms-requires : goal.clear_terms-requires
clear_terms-requires c = actions_few _ _ _ _ _ c.in-Ok.after c.in-Ok.ensures

pub returns : goal.returns
returns c =
    rw c.told.ensures (elim c.match-done.branch [
      | in-Ok w ↦ rw (w.done-is, w.terms-is) (actions_added _ _ _ _ _ _ w.in-Ok.ensures _ w.clear_terms.ensures)
      | in_default w ↦ rw (w.done-is, w.in_default.is, w.terms-is) (actions_refused _ _ _ _ _ _ w.in_default.ensures)
    ])
