-- A query's atom or an action.
use Rattle.rule_lent.specs.Fit.{call_fits}
use Rattle.rule_lent.proofs.calls.Listed.fits.Goals as goal

pub returns-in-Atoms : goal.returns-in-Atoms
unfolding call_fits
returns-in-Atoms c = rw c.in-Atoms.is c.atom_fits.ensures

pub returns-in-Actions : goal.returns-in-Actions
unfolding call_fits
returns-in-Actions c = rw c.in-Actions.is c.action_fits.ensures
