-- Each record is tested.
use Rattle.std.proofs.Common.{[], ◌∙◌, arith, rules, tests}
use Rattle.std.proofs.lemmas.Iterator.{YieldsList-from_range}
use Rattle.std.proofs.lemmas.Iterator.Search.{all_from_yields_List}
use Rattle.definition.proofs.Laws.Chains.{all_from_made}
use Rattle.definition.specs.Refusal.{record_fits}
use Rattle.solve_records.specs.Lent.{lent}
use Rattle.solve_records.proofs.cells.records_fit.Goals as goal

pub returns : goal.returns
returns c =
    let a = c.args in
    let fits = record_fits (lent a.counts a.records.now a.side.now [] []) in
    all_from_yields_List fits _ _ _ c.all.ensures.ran (YieldsList-from_range 0 a.counts.records a.counts.records (cc) (omega arith)) (λ x b q k. search (rules, tests))
    ∙ all_from_made fits a.counts.records
