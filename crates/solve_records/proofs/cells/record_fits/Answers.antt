-- A record that was read has the test of its cells.
use Rattle.std.proofs.Common.{[], ◌∙◌}
use Rattle.solve_records.proofs.Values.{record_read}
use Rattle.solve_records.proofs.cells.record_fits.Goals as goal

pub returns : goal.returns
returns c = c.values_fit.ensures ∙ record_read _ _ _ [] [] _ _ c.read_record.ensures
