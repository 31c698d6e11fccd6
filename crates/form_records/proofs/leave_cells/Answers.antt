-- The three ways that the check over cells ends.
use Rattle.std.specs.Prelude.{ℕ, List}
use Rattle.std.proofs.Common.{ap, sym, ◌∙◌}
use Rattle.rule_cells.specs.Put.{puts}
use Rattle.form_records.proofs.Laws.Checks.{left_short, left_refused_by, left_held}
use Rattle.form_records.proofs.leave_cells.Goals as goal

pub returns-then-not-within : goal.returns-then-not-within
returns-then-not-within c = let p = c.args.problem in left_short p.counts c.args.lent p.records.now p.side.now p.tops.now p.range.now c.args.flat.now (sym c.within.ensures ∙ c.if-not-within.true)

pub returns-then-is_ok : goal.returns-then-is_ok
returns-then-is_ok c =
    let p = c.args.problem in
    left_held p.counts c.args.lent p.records.now p.side.now p.tops.now p.range.now c.args.flat.now c.records_refusal-tested.result c.put_all.new.list
    (sym c.within.ensures ∙ c.if-not-within.false) c.records_refusal-tested.ensures (sym c.is_ok.ensures.value ∙ c.if-is_ok.true)
    (c.put_all.ensures ∙ ap (λ (l : List ℕ). puts c.args.flat.now 0 l) c.part.ensures)

pub returns-else-is_ok : goal.returns-else-is_ok
returns-else-is_ok c =
    let p = c.args.problem in
    left_refused_by p.counts c.args.lent p.records.now p.side.now p.tops.now p.range.now c.args.flat.now c.records_refusal-tested.result
    (sym c.within.ensures ∙ c.if-not-within.false) c.records_refusal-tested.ensures (sym c.is_ok.ensures.value ∙ c.if-is_ok.false)
