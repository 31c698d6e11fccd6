-- Refused and nothing changed, or solved, the entries cleared and 31 renamed.
use Rattle.std.proofs.Common.{sym, arith, length-take-le}
use Rattle.grounded_body.specs.Parts.{seen}
use Rattle.grounded.proofs.Checking.{front_cleared, refused, accepted, errors_long, checked}
use Rattle.grounded.proofs.grounded_check.Goals as goal

pub returns-in-Err : goal.returns-in-Err
returns-in-Err c =
    let a = c.args in
    rw c.refused_by.ensures (refused (seen a.body) a.work.now a.sort_list.now a.errors.now c.in-Err.refusal c.in-Err.ensures)

pub solve_body-outcome-requires : goal.solve_body-outcome-requires
solve_body-outcome-requires c = let a = c.args in accepted (seen a.body) a.work.now a.sort_list.now a.errors.now c.in_default.ensures

pub slice_bounds-fill-end : goal.slice_bounds-fill-end
slice_bounds-fill-end c =
    let a = c.args in
    let s = c.solve_body-outcome in
    omega (arith, errors_long (seen a.body) a.work.now a.sort_list.now a.errors.now c.in_default.ensures s.new.errors s.ensures.errors_at_exit)

pub slice_bounds-fill-end-2 : goal.slice_bounds-fill-end-2
slice_bounds-fill-end-2 c =
    let a = c.args in
    let s = c.solve_body-outcome in
    sym (length-take-le _ s.new.errors (omega (arith, errors_long (seen a.body) a.work.now a.sort_list.now a.errors.now c.in_default.ensures s.new.errors s.ensures.errors_at_exit)))

pub returns : goal.returns
returns c =
    let a = c.args in
    let s = c.solve_body-outcome in
    checked (seen a.body) a.work.now a.sort_list.now a.errors.now c.in_default.ensures s.result c.named.result _ _ s.new.errors _ s.ensures
    (front_cleared s.new.errors c.fill.new.self _
    (errors_long (seen a.body) a.work.now a.sort_list.now a.errors.now c.in_default.ensures s.new.errors s.ensures.errors_at_exit) (c.fill.ensures.after (λ y e. e)))
    c.named.ensures
