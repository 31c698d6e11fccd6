-- `assign_local_var_type` meets its contract.
use Rattle.std.proofs.Common.{◌≡◌, ◌∙◌, [], ◌∷◌, length, sym, ap, arith}
use Rattle.definition.specs.Problem.{Problem}
use Rattle.definition.proofs.Laws.Refused.{Counted}
use Rattle.solve_records.specs.Lent.{lent as problem_of}
use Rattle.rule_cells.specs.Put.{cells}
use Rattle.rule_ranges.specs.Enter.{new}
use Rattle.rule_lent.specs.Fit.{local_tested}
use Rattle.rule_steps.specs.Given.{room_for}
use Rattle.rule_calls.specs.Exit.{marks_of, lengths_of}
use Rattle.rule_calls.specs.Laws.{new_few, local_counted, local_early, local_counts, local_full, local_added}
use Rattle.rule_calls.proofs.assign_local_var_type.Goals.{After-entering, In_default}
use Rattle.rule_calls.proofs.assign_local_var_type.Goals as goal

abbrev lent : In_default → Problem
lent c = let a = c.args in problem_of a.counts a.records.now a.side.now a.tops.now a.range.now

tested : (c : In_default) → local_tested (lent c) c.args.terms.now c.args.term c.args.sort ≡ 0
tested c = sym c.in_default.ensures

small : (c : In_default) → Counted (lent c)
small c = let a = c.args in local_counted (lent c) a.terms.now a.term a.sort a.place (tested c)

-- once it is marked: how many terms enter, and the counts with them
enters : (c : After-entering) → c.entering.result ≡ length (new (marks_of c.args.range.now c.args.counts.range) (c.args.term ∷ []))
enters c = rw c.mark_range.ensures at c.entering.ensures

pub returns-in-Err : goal.returns-in-Err
returns-in-Err c = let a = c.args in rw (c.told.ensures, c.from.ensures) (local_early _ a.terms.now a.term a.sort a.place [] [] [] _ c.in-Err.ensures)

pub mark_range-requires : goal.mark_range-requires
mark_range-requires c = (small (goal.at.mark_range-requires c).In_default).range_lent

pub overflow_add-after : goal.overflow_add-after
overflow_add-after c = omega (arith, (small (goal.at.overflow_add-after c).In_default).records)

pub overflow_add-after-2 : goal.overflow_add-after-2
overflow_add-after-2 c = omega (arith, (small (goal.at.overflow_add-after-2 c).In_default).tops)

pub overflow_add-after-3 : goal.overflow_add-after-3
overflow_add-after-3 c = omega (arith, (small (goal.at.overflow_add-after-3 c).In_default).range, c.entering.ensures, new_few c.mark_range.new.marks c.args.term)

pub returns-then-not-room_for : goal.returns-then-not-room_for
returns-then-not-room_for c =
    let a = c.args in
    let p = lent (goal.at.returns-then-not-room_for c).In_default in
    rw (c.told-then-not-room_for.ensures, c.from-then-not-room_for.ensures)
    (local_full p a.terms.now a.term a.sort a.place [] [] [] (tested (goal.at.returns-then-not-room_for c).In_default)
    (ap (room_for (lengths_of p a.terms.now)) (local_counts p a.terms.now a.term a.sort a.place [] [] [] _ (enters (goal.at.returns-then-not-room_for c).After-entering)) ∙ sym (rw c.lengths_of-lengths.ensures at c.room_for.ensures) ∙ c.if-not-room_for.true))

pub put_record-requires : goal.put_record-requires
put_record-requires c = omega (arith, (small (goal.at.put_record-requires c).In_default).records)

pub enter-requires : goal.enter-requires
enter-requires c = omega (arith, (small (goal.at.enter-requires c).In_default).range)

pub returns : goal.returns
unfolding cells
returns c =
    let a = c.args in
    let p = lent (goal.at.returns c).In_default in
    let q = local_counts p a.terms.now a.term a.sort a.place [] [] [] _ (enters (goal.at.returns c).After-entering) in
    rw c.told-2.ensures
    (local_added p a.terms.now a.term a.sort a.place _ _ _ _ (tested (goal.at.returns c).In_default)
    (ap (room_for (lengths_of p a.terms.now)) q ∙ sym (rw c.lengths_of-lengths.ensures at c.room_for.ensures) ∙ c.if-not-room_for.false)
    (sym q) (rw c.number.ensures at c.put_record.ensures) c.put.ensures (rw c.mark_range.ensures at c.enter.ensures.range_after))
