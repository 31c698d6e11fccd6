-- `add_fitting` meets its contract: what is foreseen decides whether the lists are written.
use Rattle.std.proofs.Common.{◌≡◌, rules, arith, refl, Result, Ok, Err, List, ℕ}
use Rattle.definition.specs.declared.Counts.{Counts}
use Rattle.definition.specs.Problem.{Problem}
use Rattle.definition.proofs.Laws.Numbers.{positive}
use Rattle.rule_steps.specs.Given.{Verdict}
use Rattle.rule_calls.specs.declared.Added.{Added}
use Rattle.rule_calls.specs.declared.Refused.{Refused}
use Rattle.rule_calls.specs.Exit.{answer_of}
use Rattle.rule_calls.specs.Left.{told, RunLeft, CallLeft}
use Rattle.rule_calls.specs.Laws.Run.{Numbered, numbered}
use Rattle.rule_calls.specs.Laws.Call.{left_refused, left_added}
use Rattle.rule_calls.proofs.call.add_fitting.Goals as goal

-- where no refusal is foreseen, the run is the call's
foreseen_added : (p : Problem) (v : Verdict) → Numbered v → (f : Result Counts Refused) → ((e : Refused) → f ≡ Err e → ⊥) → told p.counts f ≡ answer_of p.counts v
    → (records side tops range : List ℕ) (r : Added) → RunLeft p.counts v records side tops range r → CallLeft p v records side tops range r
foreseen_added p v k (Ok c) n a = left_added p v k c a
foreseen_added p v k (Err e) n a = absurd (n e refl)

pub returns-in_err-foreseen : goal.returns-in_err-foreseen
returns-in_err-foreseen c =
    let a = c.args in
    let e = c.in_err-foreseen.field-0.0 in
    let f : c.foresee-foreseen.result ≡ Err e = search (rules, c.in_err-foreseen.was) in
    let h : c.from_residual.result ≡ Err e = search rules in
    rw h (left_refused _ _ (numbered _ _ _ _ _) _ (rw (f, c.mark_range.ensures) at (c.foresee-foreseen.ensures a.records.now a.side.now a.tops.now a.range.now)))

pub returns : goal.returns
returns c =
    let a = c.args in
    let n : (e : Refused) → c.foresee-foreseen.result ≡ Err e → ⊥ = λ e h. grind (arith, positive) in
    foreseen_added _ _ (numbered _ _ _ _ _) _ n (rw c.mark_range.ensures at (c.foresee-foreseen.ensures a.records.now a.side.now a.tops.now a.range.now)) _ _ _ _ _ (rw c.mark_range.ensures at c.run.ensures)
