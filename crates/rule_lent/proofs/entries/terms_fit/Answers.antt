-- The chain tests each term.
use Rattle.std.proofs.Common.{rules, arith, ◌∙◌}
use Rattle.std.proofs.lemmas.Iterator.{YieldsList-from_range}
use Rattle.std.proofs.lemmas.Iterator.Search.{all_from_yields_List}
use Rattle.definition.proofs.Laws.Chains.{all_from_made}
use Rattle.rule_lent.specs.Fit.{term_cells_fit, terms_fit}
use Rattle.rule_lent.proofs.entries.terms_fit.Goals as goal

pub returns : goal.returns
unfolding terms_fit
returns c =
    all_from_yields_List (term_cells_fit c.args.terms.now c.args.sorts) _ _ _ c.all.ensures.ran (YieldsList-from_range 0 c.args.count c.args.count (cc) (omega arith)) (λ x b q k. search rules)
    ∙ all_from_made _ _
