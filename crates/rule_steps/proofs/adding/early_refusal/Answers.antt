-- `early_refusal` meets its contract: the tests in order.
use Rattle.std.proofs.Common.{◌≡◌, rules, Err}
use Rattle.definition.specs.Refusal.{first_given}
use Rattle.rule_steps.specs.Laws.Adding.{early_same, first_refused}
use Rattle.rule_steps.proofs.adding.early_refusal.Goals as goal

pub returns-then-work : goal.returns-then-work
returns-then-work c = λ e. rw (early_same _ _, c.if-work.true)

pub returns-then-work-2 : goal.returns-then-work-2
returns-then-work-2 c = λ e. rw (early_same _ _, c.if-work.false, c.if-work-2.true)

pub returns-in_err-form_refusal : goal.returns-in_err-form_refusal
returns-in_err-form_refusal c =
    λ e.
    let r = c.in_err-form_refusal in
    let h : c.from_residual.result ≡ Err r.field-0.0 = search rules in
    rw (early_same _ _, c.if-work.false, c.if-work-2.false, ← r.ensures c.args.terms.now e, first_refused, h)

pub returns-then-some_unbound : goal.returns-then-some_unbound
unfolding first_given
returns-then-some_unbound c =
    λ e. rw (early_same _ _, c.if-work.false, c.if-work-2.false, ← c.in_ok-form_refusal.ensures c.args.terms.now e, ← c.some_unbound.ensures, c.if-some_unbound.true)

pub returns : goal.returns
unfolding first_given
returns c =
    λ e. rw (early_same _ _, c.if-work.false, c.if-work-2.false, ← c.in_ok-form_refusal.ensures c.args.terms.now e, ← c.some_unbound.ensures, c.if-some_unbound.false)
