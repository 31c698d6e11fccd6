-- What is counted passes the filter.
use Rattle.std.specs.Prelude.{not, length}
use Rattle.std.proofs.Common.{rules, tests, ap, ◌∙◌}
use Rattle.std.proofs.lemmas.Iterator.{YieldsList-from_slice}
use Rattle.std.proofs.lemmas.Iterator.Consumers.{YieldsList-at, YieldsList-from_filter, count_from_yields_List}
use Rattle.grounded_body.specs.Body.{is_variable}
use Rattle.grounded_body.proofs.Fitting.{constants_filtered}
use Rattle.grounded_body.proofs.fit.count_constants.Goals as goal

pub returns : goal.returns
returns c =
    let a = c.args in
    count_from_yields_List c.filter.result c.count.result c.count.ensures.ran
    (YieldsList-from_filter _ (λ t. not (is_variable a.body.terms.now t)) (YieldsList-at c.filter.ensures.source (YieldsList-from_slice a.arguments.now cc))
    c.filter.ensures.closure (λ x b q k. search (rules, tests)))
    ∙ ap length (constants_filtered a.body.terms.now a.arguments.now)
