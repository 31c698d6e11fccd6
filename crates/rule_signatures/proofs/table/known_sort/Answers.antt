-- `known_sort` meets its contract: by the term's kind.
use Rattle.std.proofs.Common.{sym, ap, ◌∙◌}
use Rattle.rule_signatures.specs.declared.TermKind.TheVariants.{Variable, Global, Literal}
use Rattle.rule_signatures.specs.Tables.{maybe}
use Rattle.rule_signatures.specs.Laws.{known_as}
use Rattle.rule_signatures.proofs.table.known_sort.Goals as goal

pub returns-in-Variable : goal.returns-in-Variable
returns-in-Variable c = let a = c.args in known_as a.scope.terms.now a.scope.globals.now a.term _ _ Variable c.term_kind.ensures c.term_value-value.ensures (sym c.in-Variable.is ∙ c.from.ensures)

pub returns-in-Global : goal.returns-in-Global
returns-in-Global c = let a = c.args in c.optional.ensures ∙ ap maybe c.cell.ensures ∙ known_as a.scope.terms.now a.scope.globals.now a.term _ _ Global c.term_kind.ensures c.term_value-value.ensures (sym c.in-Global.is ∙ c.from.ensures)

pub returns-in-Literal : goal.returns-in-Literal
returns-in-Literal c = let a = c.args in known_as a.scope.terms.now a.scope.globals.now a.term _ _ Literal c.term_kind.ensures c.term_value-value.ensures (sym c.in-Literal.is ∙ c.from.ensures)
