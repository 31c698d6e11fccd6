-- Each range entry is tested.
use Rattle.std.proofs.Common.{[], ◌∙◌, rules, tests, arith}
use Rattle.std.proofs.lemmas.Iterator.{YieldsList-from_range}
use Rattle.std.proofs.lemmas.Iterator.Search.{all_from_yields_List}
use Rattle.definition.proofs.Laws.Chains.{all_from_made}
use Rattle.definition.specs.Refusal.{range_fits}
use Rattle.solve_records.specs.Lent.{lent}
use Rattle.solve_records.proofs.cells.range_fits.Goals as goal

pub returns : goal.returns
unfolding range_fits
returns c =
    let a = c.args in
    let fits = range_fits (lent a.counts [] [] [] a.range.now) in
    all_from_yields_List fits _ _ _ c.all.ensures.ran (YieldsList-from_range 0 a.counts.range a.counts.range (cc) (omega arith)) (λ x b q k. search (rules, tests))
    ∙ all_from_made fits a.counts.range
