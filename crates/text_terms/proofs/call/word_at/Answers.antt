-- `word_at` meets its contract.
use native.Mathlib.Omega.{arith}
use mathlib.Core.Path.{sym, ◌∙◌}
use mathlib.Core.List.{[]}
use lib.ListN.{get_or-eq_default}
use Rattle.text_words.specs.Parts.{parts_of}
use Rattle.text_words.specs.Laws.Parts.{parts_count}
use Rattle.text_words.specs.Laws.Table.{part_there}
use Rattle.text_terms.proofs.call.word_at.Goals as goal

pub returns-then-i-line : goal.returns-then-i-line
returns-then-i-line c =
    let l = c.args.line in
    c.at.ensures ∙ sym (part_there l.text.now l.table.now l.count c.args.i c.if-i-line.true)

pub returns-else-i-line : goal.returns-else-i-line
returns-else-i-line c =
    let l = c.args.line in
    sym (get_or-eq_default (parts_of l.text.now l.table.now l.count) [] {n = c.args.i} (omega (arith, parts_count l.text.now l.table.now 0 l.count, c.if-i-line.false)))
