-- `name` meets its contract: past the count, past the table, in the table.
use Rattle.std.proofs.Common.{sym, ◌∙◌, arith}
use Rattle.text_words.specs.Laws.Table.{part_there}
use Rattle.out_rows.specs.Laws.{name_behind, name_outside}
use Rattle.out_rows.proofs.pieces.name.Goals as goal
use Rattle.out_rows.proofs.pieces.name.Goals.{then-names-i-via-then-names-i, then-names-i-via-else-names-i+then-names-i-2}

pub returns-then-names-i-clause-value : goal.returns-then-names-i-clause-value
returns-then-names-i-clause-value c =
    let n = c.args.names in
    elim c.then-names-i.branch [
      | then-names-i-via-then-names-i w ↦ sym (name_behind n.text.now n.table.now n.count c.args.i w.if-names-i.true)
      | then-names-i-via-else-names-i+then-names-i-2 w ↦ sym (name_outside n.text.now n.table.now n.count c.args.i w.if-names-i.false (omega arith))
    ]

pub returns-clause-value : goal.returns-clause-value
returns-clause-value c = let n = c.args.names in c.at.ensures ∙ sym (part_there n.text.now n.table.now n.count c.args.i c.if-names-i.false)
