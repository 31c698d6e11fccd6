-- Of each term.
use Rattle.std.specs.Prelude.{leb}
use Rattle.std.proofs.Common.{rules, tests, ◌∙◌}
use native.Mathlib.Nat.{sub-zero}
use Rattle.std.proofs.lemmas.Iterator.{YieldsList-from_range}
use Rattle.std.proofs.lemmas.Iterator.Search.{all_from_yields_List}
use Rattle.definition.proofs.Laws.Chains.{all_from_made}
use Rattle.grounded_body.specs.Body.{term_kind}
use Rattle.grounded_body.proofs.fit.kinds_fit.Goals as goal

pub returns : goal.returns
returns c =
    let n = c.args.body.counts.terms in
    all_from_yields_List (λ t. leb (term_kind c.args.body.terms.now t) 2) _ _ _ c.all.ensures.ran (YieldsList-from_range 0 n n (cc) (sub-zero n)) (λ x b q k. search (rules, tests))
    ∙ all_from_made _ _
