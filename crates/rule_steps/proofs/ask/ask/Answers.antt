-- `ask` meets its contract, by what is listed.
use Rattle.std.proofs.Common.{ap}
use Rattle.rule_lent.specs.Lend.{is_query}
use Rattle.rule_steps.specs.Laws.Reading.{asked_query, asked_call}
use Rattle.rule_steps.proofs.ask.ask.Goals as goal

pub returns-in-Atoms : goal.returns-in-Atoms
returns-in-Atoms c =
    λ fixed. asked_query _ _ _ c.args.i _ _ _ _ (rw (c.call_cell-start.ensures, c.call_cell-count.ensures) at c.part-own.ensures) (ap is_query c.in-Atoms.is) c.ask_atom.ensures

pub returns-in-Actions : goal.returns-in-Actions
returns-in-Actions c =
    λ fixed. asked_call _ _ _ c.args.i _ _ _ _ (rw (c.call_cell-start.ensures, c.call_cell-count.ensures) at c.part-own.ensures) (ap is_query c.in-Actions.is) (c.ask_action.ensures fixed)
