-- Each kind's test is the callee's; a number that is no kind's fails.
use Rattle.std.proofs.Common.{sym}
use Rattle.definition.specs.Refusal.{values_fit}
use Rattle.solve_records.proofs.Values.{kind_is, no_kind, values_other}
use Rattle.solve_records.proofs.cells.values_fit.Goals as goal

pub returns-in-Ok-Eq : goal.returns-in-Ok-Eq
unfolding values_fit
returns-in-Ok-Eq c = rw (kind_is _ _ c.in-Ok-Eq.ensures, c.in-Ok-Eq.field-0-is) c.both_below.ensures

pub returns-in-Ok-Assign : goal.returns-in-Ok-Assign
unfolding values_fit
returns-in-Ok-Assign c = rw (kind_is _ _ c.in-Ok-Assign.ensures, c.in-Ok-Assign.field-0-is) c.both_below-in-Ok-Assign.ensures

pub returns-in-Ok-And : goal.returns-in-Ok-And
unfolding values_fit
returns-in-Ok-And c = rw (kind_is _ _ c.in-Ok-And.ensures, c.in-Ok-And.field-0-is) c.part_fits.ensures

pub returns-in-Ok-Xor : goal.returns-in-Ok-Xor
unfolding values_fit
returns-in-Ok-Xor c = rw (kind_is _ _ c.in-Ok-Xor.ensures, c.in-Ok-Xor.field-0-is) c.part_fits-in-Ok-Xor.ensures

pub returns-in-Ok-Impossible : goal.returns-in-Ok-Impossible
unfolding values_fit
returns-in-Ok-Impossible c = rw (kind_is _ _ c.in-Ok-Impossible.ensures, c.in-Ok-Impossible.field-0-is) c.expected_fits.ensures

pub returns-in-Ok-Implies : goal.returns-in-Ok-Implies
unfolding values_fit
returns-in-Ok-Implies c = rw (kind_is _ _ c.in-Ok-Implies.ensures, c.in-Ok-Implies.field-0-is) c.watched_fit.ensures

pub returns-in-Err : goal.returns-in-Err
returns-in-Err c = sym (values_other _ _ _ _ (no_kind _ _ c.in-Err.ensures))
