-- One cell of the record, and nothing past the list's end.
use Rattle.std.specs.Prelude.{ℕ, List, get_or}
use Rattle.std.proofs.Common.{ap, ◌∙◌}
use Rattle.form_records.specs.declared.Record.{Record}
use Rattle.form_records.specs.Cells.{cells_of, none}
use Rattle.form_records.proofs.Laws.Flat.{none_past}
use Rattle.form_records.proofs.cell_of.Goals as goal

pub returns-in-Some : goal.returns-in-Some
returns-in-Some c =
    c.cell.ensures ∙ ap (λ (l : List ℕ). get_or l c.args.at 0) (c.from.ensures ∙ ap (λ (r : Record). cells_of r) (c.in-Some.ensures.lookup.3.1 none))

pub returns-in-None : goal.returns-in-None
returns-in-None c = none_past c.args.records.now c.args.number c.args.at c.in-None.ensures.lookup.3
