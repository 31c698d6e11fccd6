-- `run` meets its contract. The invariant: the frame at the front is that of the passes begun; what is left of the most
-- passes falls.
use Prim.Native.Nat.{◌+◌}
use mathlib.Core.Path.{◌≡◌, refl, sym, ◌∙◌}
use native.Mathlib.Omega.{arith}
use lib.ListN.{length}
use lib.Seq.{length-take-le, length_front}
use Rattle.solve_leaves.specs.Room.{room}
use Rattle.solver.proofs.Running.{at_start, front_zeroed, ready, at_again, at_settled, at_failed, at_most, at_few}
use Rattle.solver.proofs.run.run.Goals.{After-pass, At-loop-passes}
use Rattle.solver.proofs.run.run.Goals as goal

-- at the loop's head the room is as long as it came
as_long : (c : At-loop-passes) → length c.loop-passes.work ≡ length c.args.work.now
as_long c =
    c.loop-passes.invariant.0 ∙ length_front c.args.work.now c.clear.new.list (c.args.counts.terms + c.args.counts.records) c.clear.auto.list

pub overflow_add-cells : goal.overflow_add-cells
unfolding room
overflow_add-cells c = omega (arith, c.requires.space)

pub slice_bounds-clear-end : goal.slice_bounds-clear-end
unfolding room
slice_bounds-clear-end c = omega (arith, c.requires.space)

pub slice_bounds-clear-end-2 : goal.slice_bounds-clear-end-2
unfolding room
slice_bounds-clear-end-2 c = sym (length-take-le (c.args.counts.terms + c.args.counts.records) c.args.work.now (omega (arith, c.requires.space)))

pub loop-passes-init : goal.loop-passes-init
unfolding room
loop-passes-init c = (
  refl,
  refl,
  at_start c.requires _ (front_zeroed c.args.counts c.args.work.now c.clear.new.list (omega (arith, c.requires.space)) c.clear.ensures),
)

pub pass-requires : goal.pass-requires
pass-requires c =
    let l = c.loop-passes in
    (c.requires.tops_lent, ready c.requires l.passes l.work l.errors l.invariant.2 (as_long (goal.at.pass-requires c).At-loop-passes) l.invariant.1)

pub overflow_add-passes : goal.overflow_add-passes
unfolding room
overflow_add-passes c =
    let l = c.loop-passes in
    omega (arith, c.requires.space, at_few c.requires l.passes l.work l.invariant.2)

pub loop-passes-smaller : goal.loop-passes-smaller
loop-passes-smaller c =
    let l = c.loop-passes in
    omega (arith, at_most c.requires l.passes l.work l.invariant.2)

pub loop-passes-preserved : goal.loop-passes-preserved
loop-passes-preserved c =
    let l = c.loop-passes in
    let told = c.pass in (
      told.auto.work ∙ l.invariant.0,
      told.auto.errors ∙ l.invariant.1,
      at_again c.requires l.passes l.work l.invariant.2 _ _ (rw c.in-Ok-true.is at told.ensures) c.in-Ok-true.field-0-test,
    )

pub returns-in-Ok-false : goal.returns-in-Ok-false
returns-in-Ok-false c =
    let l = c.loop-passes in
    at_settled c.requires l.passes l.work l.invariant.2 _ _ (rw c.in-Ok-false.is at c.pass.ensures) c.in-Ok-false.field-0-test

pub returns-in-Err : goal.returns-in-Err
returns-in-Err c =
    let l = c.loop-passes in
    at_failed c.requires l.passes l.work l.invariant.2 _ _ (rw c.in-Err.is at c.pass.ensures)
