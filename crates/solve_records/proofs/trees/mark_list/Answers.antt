-- The loop marks what is left of the list; the marks with what is left give the counts of the whole list.
use mathlib.Core.Path.{refl, ◌∙◌}
use native.Mathlib.Omega.{arith}
use lib.Dec.{ltb}
use Rattle.definition.proofs.Laws.Left.{drop_step, drop_end, all_end, all_parts}
use Rattle.solve_records.proofs.Marking.{go_start, go_on, go_stop, go_end}
use Rattle.solve_records.proofs.trees.mark_list.Goals as goal

pub loop-number-init : goal.loop-number-init
loop-number-init c = (refl, go_start _ _ _)

pub returns-then-not-mark : goal.returns-then-not-mark
returns-then-not-mark c =
    go_stop c.loop-number.invariant.1 _ _ _ _ c.mark.new.marks (drop_step _ _ c.loop-number-test.true)
    (all_parts (λ x. ltb x c.args.bound) _ _ _ (drop_step _ _ c.loop-number-test.true)) _ _ (omega arith)
    (rw c.if-not-mark.true at c.mark.ensures)

pub loop-number-preserved : goal.loop-number-preserved
loop-number-preserved c = (
  c.mark.auto.marks ∙ c.loop-number.invariant.0,
  go_on c.loop-number.invariant.1 _ _ _ _
      c.mark.new.marks (drop_step _ _ c.loop-number-test.true)
      (all_parts (λ x. ltb x c.args.bound) _ _ _ (drop_step _ _ c.loop-number-test.true))
      (rw c.if-not-mark.false at c.mark.ensures),
)

pub returns : goal.returns
returns c =
    go_end c.loop-number.invariant.1 c.args.bound (drop_end _ _ c.loop-number-test.false)
    (all_end (λ x. ltb x c.args.bound) _ (drop_end _ _ c.loop-number-test.false))
