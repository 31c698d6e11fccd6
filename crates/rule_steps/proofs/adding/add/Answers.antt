-- `add` meets its contract.
use Rattle.std.proofs.Common.{◌≡◌, rules, Err}
use Rattle.rule_steps.specs.Laws.Adding.{adds, stepped_refused, stepped_added}
use Rattle.rule_steps.proofs.adding.add.Goals as goal

pub returns-in_err-early_refusal : goal.returns-in_err-early_refusal
returns-in_err-early_refusal c =
    λ i s f e o.
    let r = c.in_err-early_refusal in
    let h : c.from_residual.result ≡ Err r.field-0.0 = search rules in
    rw h (stepped_refused _ c.args.lengths s _ i _ e _ (r.ensures f))

pub returns : goal.returns
returns c =
    λ i s f e o.
    let a = c.args in
    let n = c.enter-ranged.ensures in
    stepped_added _ a.lengths s _ i _ e _ _ _ _ _ _ _ (c.in_ok-early_refusal.ensures f) o
    (adds a.lengths a.counts a.asking.statement.origin _ a.asking.bound.now a.records.now a.side.now a.tops.now a.range.now a.marks.now _ _ _ _ _ a.asking.work.fresh _ _ _ (c.write-end.ensures f) n.value n.range_after n.marks_after c.settled.ensures)
