-- What is said of the cells that were laid out is what is promised of the records.
use Rattle.std.specs.Prelude.{ℕ, List, length, replicate}
use Rattle.std.proofs.Common.{subst, ◌∙◌, arith}
use Rattle.std.proofs.lemmas.List.{length-replicate}
use Rattle.definition.specs.Numbers.{refused}
use Rattle.form_records.specs.Left.{Left}
use Rattle.form_records.proofs.Laws.Checks.{checked}
use Rattle.form_records.proofs.Laws.Flat.{looked_at, few_looked_at}
use Rattle.form_records.proofs.check_records.Goals as goal

pub lay_cells-requires : goal.lay_cells-requires
lay_cells-requires c = omega (arith, few_looked_at c.args.records.now c.to_lay.result.now c.args.counts.records c.to_lay.ensures)

pub returns : goal.returns
returns c =
    let a = c.args in
    let zeroes : List ℕ = replicate 4096 0 in
    let left = c.leave_cells in
    checked a.counts a.records.now a.side.now a.tops.now a.range.now a.flat.now zeroes (length-replicate {A = ℕ} 4096 0) (refused left.result) left.new.flat
    (subst (λ (l : List ℕ). Left a.counts (length a.records.now) l a.side.now a.tops.now a.range.now a.flat.now (refused left.result) left.new.flat)
    (c.lay_cells.ensures ∙ looked_at a.records.now c.to_lay.result.now a.counts.records zeroes c.to_lay.ensures) left.ensures)
