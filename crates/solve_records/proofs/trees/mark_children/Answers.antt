-- The one child of an Implies, or the listed children.
use Rattle.std.proofs.Common.{sym, ◌∙◌}
use Rattle.std.proofs.lemmas.Bool.{eqb-true}
use Rattle.definition.specs.Problem.{node_of}
use Rattle.solve_records.proofs.trees.mark_children.Goals as goal

pub returns-then-is_implies : goal.returns-then-is_implies
unfolding node_of
returns-then-is_implies c = rw (eqb-true _ _ (sym c.is_implies.ensures ∙ c.if-is_implies.true)) c.mark.ensures

pub returns : goal.returns
returns c = rw (sym c.listed.ensures) c.mark_list.ensures
