-- The flat list has the record's kind there.
use Rattle.std.proofs.Common.{◌∙◌}
use Rattle.form_records.proofs.Laws.Fields.{has_fields}
use Rattle.form_records.proofs.kind_at.Goals as goal

pub returns : goal.returns
returns c = c.cell_of.ensures ∙ (has_fields c.args.records.now c.args.number).kind
