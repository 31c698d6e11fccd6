-- The loop marks the children of what is left of the records; the marks with what is left give the counts of all children.
use mathlib.Core.Path.{refl, ◌∙◌}
use native.Mathlib.Omega.{arith}
use native.Mathlib.Nat.{sub-zero}
use Rattle.definition.specs.Refusal.{children_below}
use Rattle.solve_records.specs.Marks.{Marking}
use Rattle.solve_records.specs.Lent.{lists, children_of}
use Rattle.solve_records.proofs.Values.{part_read, marking_read}
use Rattle.definition.proofs.Laws.Left.{from_end, all_end, all_from_step, joined_from_step, joined_from_end}
use Rattle.solve_records.proofs.Marking.{go_start, go_on, go_stop, go_end}
use Rattle.solve_records.proofs.trees.mark_records.Goals.{After-mark_children}
use Rattle.solve_records.proofs.trees.mark_records.Goals as goal

-- what the call says of the record's own children
marked : (c : After-mark_children) →
    Marking (children_below (lists c.args.records.now
    c.args.side.now)
    c.loop-i.i) c.loop-i.i
    (children_of c.args.records.now
    c.args.side.now
    c.loop-i.i)
    c.loop-i.marks c.mark_children.new.marks c.mark_children.result
marked c =
    marking_read c.args.records.now c.args.side.now _ _ c.read_record.ensures
    c.loop-i.marks c.mark_children.new.marks c.mark_children.result c.mark_children.ensures

pub loop-i-init : goal.loop-i-init
loop-i-init c = (refl, rw sub-zero (go_start _ _ _))

pub read_record-requires : goal.read_record-requires
read_record-requires c = (c.requires.by_index _ c.loop-i-test.true).inside

pub mark_children-requires : goal.mark_children-requires
mark_children-requires c = record { part_inside = part_read (c.requires.by_index _ c.loop-i-test.true) c.read_record.ensures; number_in_bounds = omega arith }

pub returns-then-not-mark_children : goal.returns-then-not-mark_children
returns-then-not-mark_children c =
    go_stop c.loop-i.invariant.1 _ _ _ _ c.mark_children.new.marks
    (joined_from_step (children_of c.args.records.now c.args.side.now) _ _ c.loop-i-test.true)
    (all_from_step (children_below (lists c.args.records.now c.args.side.now)) _ _ c.loop-i-test.true) _ _
    (omega arith) (rw c.if-not-mark_children.true at (marked (goal.at.returns-then-not-mark_children c).After-mark_children))

pub loop-i-preserved : goal.loop-i-preserved
loop-i-preserved c = (
  c.mark_children.auto.marks ∙ c.loop-i.invariant.0,
  go_on c.loop-i.invariant.1 _ _ _ _
      c.mark_children.new.marks
      (joined_from_step (children_of c.args.records.now c.args.side.now) _ _ c.loop-i-test.true)
      (all_from_step (children_below (lists c.args.records.now c.args.side.now)) _ _ c.loop-i-test.true)
      (rw c.if-not-mark_children.false at (marked (goal.at.loop-i-preserved c).After-mark_children)),
)

pub returns : goal.returns
returns c =
    go_end c.loop-i.invariant.1 c.args.count
    (joined_from_end (children_of c.args.records.now c.args.side.now) _ _ c.loop-i-test.false)
    (all_end (children_below (lists c.args.records.now c.args.side.now)) _ (from_end _ _ c.loop-i-test.false))
