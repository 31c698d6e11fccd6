-- The list with the cells of the records passed.
use Rattle.std.specs.Prelude.{ℕ, ◌*◌, List, get_or}
use Rattle.std.proofs.Common.{add-one, refl, ap, ◌∙◌}
use Rattle.definition.specs.Sizes.{record_cells}
use Rattle.rule_cells.specs.Put.{puts}
use Rattle.form_records.specs.Cells.{cells_of, laid, none}
use Rattle.form_records.proofs.lay_cells.Goals as goal

pub loop-number-init : goal.loop-number-init
unfolding laid
loop-number-init c = refl

pub loop-number-preserved : goal.loop-number-preserved
unfolding laid
loop-number-preserved c =
    rw add-one (c.put_record.ensures ∙ ap (λ (l : List ℕ). puts l (c.loop-number.number * record_cells) (cells_of (get_or c.args.records.now c.loop-number.number none))) c.loop-number.invariant)
