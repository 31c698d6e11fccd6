-- The tests in order; 2 is the test of the records and that of the range.
use Rattle.std.proofs.Common.{sym, ◌∙◌, ◌≡◌, true, arith}
use Rattle.std.proofs.lemmas.Grind.{common_steps}
use Rattle.definition.proofs.Laws.Refused.{Counted, counted}
use Rattle.definition.specs.Refusal.{counts_fit}
use Rattle.solve_records.specs.Lent.{seen}
use Rattle.solve_records.proofs.Values.{cells_apart}
use Rattle.solve_records.proofs.cells_refusal.Goals.{Else-not-counts_fit}
use Rattle.solve_records.proofs.cells_refusal.Goals as goal

counts_pass : (c : Else-not-counts_fit) → counts_fit (seen c.args.problem) ≡ true
counts_pass c = sym c.counts_fit.ensures ∙ c.if-not-counts_fit.false

sizes : (c : Else-not-counts_fit) → Counted (seen c.args.problem)
sizes c = counted _ (counts_pass c)

pub records_fit-requires : goal.records_fit-requires
records_fit-requires c = let w = sizes (goal.at.records_fit-requires c).Else-not-counts_fit in (w.records_lent, w.side_lent)

pub range_fits-requires : goal.range_fits-requires
range_fits-requires c = (sizes (goal.at.range_fits-requires c).Else-not-counts_fit).range_lent

pub returns-then-not-range_fits : goal.returns-then-not-range_fits
returns-then-not-range_fits c = grind (arith, common_steps, counts_pass (goal.at.returns-then-not-range_fits c).Else-not-counts_fit, cells_apart)

pub returns : goal.returns
returns c = grind (arith, common_steps, counts_pass (goal.at.returns c).Else-not-counts_fit, cells_apart)
