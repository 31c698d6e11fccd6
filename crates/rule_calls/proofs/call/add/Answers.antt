-- `add` meets its contract: passing 1 and 2 gives what a run asks.
use Rattle.std.proofs.Common.{◌≡◌, rules, arith, sym, Err, length-take-le}
use Rattle.solve_records.specs.Lent.{lent as problem_of}
use Rattle.rule_lent.specs.Fit.{Lending, lent_refusal}
use Rattle.rule_lent.specs.Lend.{lends}
use Rattle.rule_lent.specs.Laws.{Sizes}
use Rattle.rule_calls.specs.Left.{headless}
use Rattle.rule_calls.specs.Laws.Call.{lent_counted, lent_sizes, lent_ready, call_early, call_passed}
use Rattle.rule_calls.proofs.call.add.Goals.{In_ok-lent_refusal}
use Rattle.rule_calls.proofs.call.add.Goals as goal

-- what is lent, where neither 1 nor 2 is given
abbrev all_lent : In_ok-lent_refusal → Lending
all_lent c = let a = c.args in lends a.listed a.tables a.terms.now (problem_of a.counts a.records.now a.side.now a.tops.now a.range.now)

passed : (c : In_ok-lent_refusal) → lent_refusal (all_lent c) ≡ 0
passed c = sym c.in_ok-lent_refusal.ensures

held : (c : In_ok-lent_refusal) → Sizes (all_lent c)
held c = lent_sizes _ (passed c)

pub returns-in_err-lent_refusal : goal.returns-in_err-lent_refusal
returns-in_err-lent_refusal c =
    let r = c.in_err-lent_refusal in
    let h : c.from_residual.result ≡ Err (headless r.field-0.0) = search rules in
    rw h (call_early _ _ r.ensures)

pub slice_bounds-cut-end : goal.slice_bounds-cut-end
slice_bounds-cut-end c = sym (length-take-le _ _ (held (goal.at.slice_bounds-cut-end c).In_ok-lent_refusal).sorts_lent)

pub slice_bounds-cut-end-2 : goal.slice_bounds-cut-end-2
slice_bounds-cut-end-2 c = sym (length-take-le _ _ (held (goal.at.slice_bounds-cut-end-2 c).In_ok-lent_refusal).globals_lent)

pub slice_bounds-cut-end-3 : goal.slice_bounds-cut-end-3
slice_bounds-cut-end-3 c = sym (length-take-le _ _ (held (goal.at.slice_bounds-cut-end-3 c).In_ok-lent_refusal).arguments_lent)

pub overflow_mul-bound : goal.overflow_mul-bound
overflow_mul-bound c = let k = lent_counted _ (passed (goal.at.overflow_mul-bound c).In_ok-lent_refusal) in omega (arith, k.terms)

pub slice_bounds-bound-end : goal.slice_bounds-bound-end
slice_bounds-bound-end c = sym (length-take-le _ _ (held (goal.at.slice_bounds-bound-end c).In_ok-lent_refusal).terms_lent)

pub add_fitting-requires : goal.add_fitting-requires
add_fitting-requires c = lent_ready _ (passed (goal.at.add_fitting-requires c).In_ok-lent_refusal)

pub returns : goal.returns
returns c = call_passed _ (passed (goal.at.returns c).In_ok-lent_refusal) _ _ _ _ _ (rw c.lengths_of-lengths.ensures at c.add_fitting.ensures)
