-- The chain tests each signature.
use Rattle.std.proofs.Common.{rules, arith, ◌∙◌}
use Rattle.std.proofs.lemmas.Iterator.{YieldsList-from_range}
use Rattle.std.proofs.lemmas.Iterator.Search.{all_from_yields_List}
use Rattle.definition.proofs.Laws.Chains.{all_from_made}
use Rattle.rule_lent.specs.Fit.{signature_fits}
use Rattle.rule_lent.proofs.entries.signatures_fit.Goals as goal

pub returns : goal.returns
returns c =
    all_from_yields_List (signature_fits c.args.signatures.now c.args.used c.args.sorts) _ _ _ c.all.ensures.ran (YieldsList-from_range 0 c.args.declared c.args.declared (cc) (omega arith)) (λ x b q k. search rules)
    ∙ all_from_made _ _
