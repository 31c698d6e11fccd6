-- The part, and nothing where there is none.
use Rattle.std.proofs.Common.{sym, ◌∙◌}
use Rattle.std.proofs.lemmas.Bool.{eqb-false}
use Rattle.definition.proofs.Laws.Lists.{neither}
use Rattle.solve_records.proofs.Values.{part_span, children_listed, children_none}
use Rattle.solve_records.proofs.trees.listed.Goals as goal

pub returns : goal.returns
returns c = rw part_span (children_listed _ _ _ _ _ (sym c.lists_children.ensures ∙ c.if-not-lists_children.false))

pub returns-then-not-lists_children : goal.returns-then-not-lists_children
returns-then-not-lists_children c =
    let no = neither _ _ (sym c.lists_children.ensures ∙ c.if-not-lists_children.true) in
    sym (children_none _ _ _ _ _ (eqb-false _ _ no.0) (eqb-false _ _ no.1) c.requires.fact)
