-- `update_assign` meets its contract: one law for each way that the sort held can be.
use Rattle.solve_leaves.specs.Laws.Answers.{assign_new, assign_same, assign_differ}
use mathlib.Core.List.{[]}
use Rattle.solve_leaves.proofs.leaf.update_assign.Goals as goal

pub returns-then-held-eq0 : goal.returns-then-held-eq0
returns-then-held-eq0 c = assign_new _ _ _ _ _ [] c.if-held-eq0.true

pub returns-then-actual-sort : goal.returns-then-actual-sort
returns-then-actual-sort c = assign_same _ _ _ _ _ [] c.if-held-eq0.false c.if-actual-sort.true

pub returns : goal.returns
returns c = assign_differ _ _ _ _ _ _ c.args.errors.now c.if-held-eq0.false c.if-actual-sort.false c.requires.2 c.put_entry.ensures
