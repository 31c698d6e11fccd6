-- `ask` meets its contract, way by way.
use Rattle.text_calls.specs.Ask.{verdict_by}
use Rattle.text_calls.specs.Laws.Ask.{query_asked, action_asked, local_asked, nothing_asked}
use Rattle.text_calls.proofs.ask.ask.Goals as goal

pub returns-in-Query : goal.returns-in-Query
unfolding verdict_by
returns-in-Query c =
    let a = c.args in
    rw c.in-Query.is (query_asked a.declared.numbers a.call a.named c.requires a.declared.signatures.now a.declared.signature_sorts.now a.declared.globals.now a.terms.now a.numbers.now a.records.now a.side.now a.tops.now a.range.now c.lent_by-lent.ensures c.counts_by-counts.ensures c.call_cells-laid.ensures c.part-arguments.ensures _ _ _ _ _ c.add_query.ensures)

pub returns-in-Action : goal.returns-in-Action
unfolding verdict_by
returns-in-Action c =
    let a = c.args in
    rw c.in-Action.is (action_asked a.declared.numbers a.call a.named c.requires a.declared.signatures.now a.declared.signature_sorts.now a.declared.globals.now a.terms.now a.numbers.now a.records.now a.side.now a.tops.now a.range.now c.lent_by-lent.ensures c.counts_by-counts.ensures c.call_cells-laid.ensures c.part-arguments.ensures _ _ _ _ _ _ c.add_actions.ensures)

pub returns-in-Local : goal.returns-in-Local
unfolding verdict_by
returns-in-Local c =
    let a = c.args in
    rw c.in-Local.is (local_asked a.declared.numbers a.call a.named c.requires a.declared.signatures.now a.declared.signature_sorts.now a.declared.globals.now a.terms.now a.numbers.now a.records.now a.side.now a.tops.now a.range.now c.lent_by-lent.ensures c.counts_by-counts.ensures c.call_cells-laid.ensures c.part-arguments.ensures _ a.side.now _ _ _ a.call.x a.sort a.call.place c.assign_local_var_type.ensures)

pub returns-in-Silent : goal.returns-in-Silent
unfolding verdict_by
returns-in-Silent c =
    let a = c.args in
    rw c.in-Silent.is (nothing_asked a.declared.numbers a.call a.named c.requires a.declared.signatures.now a.declared.signature_sorts.now a.declared.globals.now a.terms.now a.numbers.now a.records.now a.side.now a.tops.now a.range.now c.lent_by-lent.ensures c.counts_by-counts.ensures c.call_cells-laid.ensures c.part-arguments.ensures)
