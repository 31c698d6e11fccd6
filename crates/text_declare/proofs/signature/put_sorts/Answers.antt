-- `put_sorts` meets its contract: what is left to put from here gives what all give from the start.
use Rattle.std.proofs.Common.{◌≡◌, ◌+◌, ◌-◌, set, ap, ◌∙◌, arith}
use Rattle.text_declare.specs.Signatures.{sort_number}
use Rattle.text_declare.specs.Laws.{sorts_turn, sorts_end}
use Rattle.text_declare.proofs.signature.put_sorts.Goals as goal

pub loop-i-preserved : goal.loop-i-preserved
loop-i-preserved c =
    let a = c.args in
    let w = c.loop-i in
    let number = sort_number a.sorts.text.now a.sorts.table.now a.sorts.count in
    let at = a.used + (w.i - a.first) in
    let next : a.used + (w.i + 1 - a.first) ≡ at + 1 = omega arith in
    rw next (sorts_turn a.line.text.now a.line.table.now number w.signature_sorts c.put.new.list at w.i a.line.count c.loop-i-test.true (c.put.ensures ∙ ap (set w.signature_sorts at) (c.find.ensures ∙ ap number c.word.ensures)) ∙ w.invariant)

pub returns : goal.returns
returns c =
    let a = c.args in
    let w = c.loop-i in
    sorts_end a.line.text.now a.line.table.now (sort_number a.sorts.text.now a.sorts.table.now a.sorts.count) w.signature_sorts (a.used + (w.i - a.first)) w.i a.line.count c.loop-i-test.false ∙ w.invariant
