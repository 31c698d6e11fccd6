-- By the kind that was read: both kinds test their part of the arguments.
use Rattle.rule_lent.proofs.ByKind.{atom_told}
use Rattle.rule_lent.proofs.actions.atom_fits.Goals as goal

pub returns-then-is_ok : goal.returns-then-is_ok
returns-then-is_ok c = rw (atom_told _ _ _ _ _ c.atom_at.ensures, ← c.is_ok.ensures.value, c.if-is_ok.true, c.part_fits.ensures)

pub returns-else-is_ok : goal.returns-else-is_ok
returns-else-is_ok c = rw (atom_told _ _ _ _ _ c.atom_at.ensures, ← c.is_ok.ensures.value, c.if-is_ok.false)
