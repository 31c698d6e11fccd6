-- `is_unbound` meets its contract: two tests together.
use Rattle.std.proofs.Common.{rules, refl, ◌≡◌, ◌∙◌}
use Rattle.rule_signatures.specs.declared.TermKind.TheVariants.{Global}
use Rattle.rule_signatures.specs.Laws.{unbound_as, unbound_not}
use Rattle.rule_signatures.proofs.table.is_unbound.Goals as goal

pub returns-then-eq : goal.returns-then-eq
returns-then-eq c = let a = c.args in unbound_as a.scope.terms.now a.scope.globals.now a.term _ _ Global c.term_kind.ensures c.term_value.ensures (search rules) _ c.cell.ensures

pub returns-else-eq : goal.returns-else-eq
returns-else-eq c =
    let a = c.args in
    let n : c.from.result ≡ Global → ⊥ = search rules in
    c.if-eq.false ∙ unbound_not a.scope.terms.now a.scope.globals.now a.term _ _ _ c.term_kind.ensures refl c.from.ensures n
