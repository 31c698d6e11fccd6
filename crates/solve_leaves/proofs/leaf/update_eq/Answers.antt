-- `update_eq` meets its contract: one law for each way that the two sorts can be.
use Rattle.solve_leaves.specs.Laws.Answers.{eq_neither, eq_to_left, eq_to_right, eq_same, eq_differ}
use mathlib.Core.List.{[]}
use Rattle.solve_leaves.proofs.leaf.update_eq.Goals as goal

pub returns-then-right-eq0 : goal.returns-then-right-eq0
returns-then-right-eq0 c = eq_neither _ _ _ _ _ [] c.if-left-eq0.true c.if-right-eq0.true

pub returns-then-left-eq0 : goal.returns-then-left-eq0
returns-then-left-eq0 c = eq_to_left _ _ _ _ _ [] c.if-left-eq0.true c.if-right-eq0.false

pub returns-then-right-eq0-2 : goal.returns-then-right-eq0-2
returns-then-right-eq0-2 c = eq_to_right _ _ _ _ _ [] c.if-left-eq0.false c.if-right-eq0-2.true

pub returns-then-left-right : goal.returns-then-left-right
returns-then-left-right c = eq_same _ _ _ _ _ [] c.if-left-eq0.false c.if-right-eq0-2.false c.if-left-right.true

pub returns : goal.returns
returns c = eq_differ _ _ _ _ _ _ c.args.errors.now c.if-left-eq0.false c.if-right-eq0-2.false c.if-left-right.false c.requires.2 c.put_entry.ensures
