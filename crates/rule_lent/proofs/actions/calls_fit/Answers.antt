-- The chain tests each atom or action.
use Rattle.std.proofs.Common.{rules, arith, ◌∙◌}
use Rattle.std.proofs.lemmas.Iterator.{YieldsList-from_range}
use Rattle.std.proofs.lemmas.Iterator.Search.{all_from_yields_List}
use Rattle.definition.proofs.Laws.Chains.{all_from_made}
use Rattle.rule_lent.specs.Fit.{call_fits}
use Rattle.rule_lent.specs.Lend.{is_query, asked}
use Rattle.rule_lent.proofs.actions.calls_fit.Goals as goal

pub returns : goal.returns
returns c =
    all_from_yields_List (call_fits c.args.terms.now c.args.count (asked (is_query c.args.listed) c.args.tables.calls.now) c.args.tables.lent.arguments) _ _ _ c.all.ensures.ran (YieldsList-from_range 0 c.args.tables.lent.calls c.args.tables.lent.calls (cc) (omega arith)) (λ x b q k. search rules)
    ∙ all_from_made _ _
