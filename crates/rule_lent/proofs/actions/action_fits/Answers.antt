-- By the kind that was read: each arm answers the test of its kind.
use borrow.Author.Tests.{lt-ltb, le-ltb}
use Rattle.rule_lent.proofs.ByKind.{action_told}
use Rattle.rule_lent.proofs.actions.action_fits.Goals as goal

pub returns-in_default : goal.returns-in_default
returns-in_default c = rw (action_told _ _ _ _ _ _ _ c.action_at.ensures, c.in_default.is)

pub returns-then-part : goal.returns-then-part
returns-then-part c = rw (action_told _ _ _ _ _ _ _ c.action_at.ensures, c.in-Ok.is, c.in-Let.is, ← c.part_fits-part.ensures, c.if-part.true, c.variable_fits-variable.ensures, c.call_cell-x.ensures)

pub returns-else-part : goal.returns-else-part
returns-else-part c = rw (action_told _ _ _ _ _ _ _ c.action_at.ensures, c.in-Ok.is, c.in-Let.is, ← c.part_fits-part.ensures, c.if-part.false)

pub returns-then-part-2 : goal.returns-then-part-2
returns-then-part-2 c = rw (action_told _ _ _ _ _ _ _ c.action_at.ensures, c.in-Ok.is, c.in-Set.is, ← c.part_fits-part.ensures, c.if-part-2.true, c.call_cell-x.ensures)

pub returns-else-part-2 : goal.returns-else-part-2
returns-else-part-2 c = rw (action_told _ _ _ _ _ _ _ c.action_at.ensures, c.in-Ok.is, c.in-Set.is, ← c.part_fits-part.ensures, c.if-part-2.false)

pub returns-in-Change : goal.returns-in-Change
returns-in-Change c = rw (action_told _ _ _ _ _ _ _ c.action_at.ensures, c.in-Ok.is, c.in-Change.is, c.part_fits-part.ensures)

pub returns-then-x-count : goal.returns-then-x-count
returns-then-x-count c = rw (action_told _ _ _ _ _ _ _ c.action_at.ensures, c.in-Ok.is, c.in-Union.is, ← c.call_cell-x.ensures, lt-ltb _ _ c.if-x-count.true, c.call_cell-y.ensures)

pub returns-else-x-count : goal.returns-else-x-count
returns-else-x-count c = rw (action_told _ _ _ _ _ _ _ c.action_at.ensures, c.in-Ok.is, c.in-Union.is, ← c.call_cell-x.ensures, le-ltb _ _ c.if-x-count.false)

pub returns-then-variable : goal.returns-then-variable
returns-then-variable c = rw (action_told _ _ _ _ _ _ _ c.action_at.ensures, c.in-Ok.is, c.in-LetAtomTerm.is, ← c.call_cell-x.ensures, ← c.variable_fits-variable.ensures, c.if-variable.true, c.call_cell-y.ensures)

pub returns-else-variable : goal.returns-else-variable
returns-else-variable c = rw (action_told _ _ _ _ _ _ _ c.action_at.ensures, c.in-Ok.is, c.in-LetAtomTerm.is, ← c.call_cell-x.ensures, ← c.variable_fits-variable.ensures, c.if-variable.false)

pub returns-in-Panic : goal.returns-in-Panic
returns-in-Panic c = rw (action_told _ _ _ _ _ _ _ c.action_at.ensures, c.in-Ok.is, c.in-Panic.is)
