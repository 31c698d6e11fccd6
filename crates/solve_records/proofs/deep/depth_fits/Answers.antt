-- What is left of the top-level entries has the same test as all of them.
use Rattle.std.proofs.Common.{ℕ, leb, sym, ◌∙◌, ap}
use Rattle.std.proofs.lemmas.Bool.{le-leb, lt-leb}
use Rattle.definition.specs.Sizes.{max_depth}
use Rattle.definition.proofs.Laws.Left.{drop_step, drop_end, all_step, all_stop, all_end}
use Rattle.solve_records.proofs.Depths.{depths_lent, under_entry}
use Rattle.solve_records.proofs.deep.depth_fits.Invariants.{test}
use Rattle.solve_records.proofs.deep.depth_fits.Goals as goal

pub loop-top-init : goal.loop-top-init
loop-top-init c = let p = c.args.problem in depths_lent p.counts p.records.now p.side.now p.tops.now p.range.now

pub depth-requires : goal.depth-requires
depth-requires c = under_entry _ _ _ _ _ c.requires.by_index c.requires.tops_value _ c.loop-top-test.true

pub returns-then-depth-gt-MAX_DEPTH : goal.returns-then-depth-gt-MAX_DEPTH
returns-then-depth-gt-MAX_DEPTH c =
    let p = c.args.problem in
    sym (all_stop (test p.records.now p.side.now) _ _ _ (drop_step _ _ c.loop-top-test.true)
    (ap (λ (d : ℕ). leb d max_depth) (sym c.depth.ensures) ∙ lt-leb _ _ c.if-depth-gt-MAX_DEPTH.true)) ∙ c.loop-top.invariant

pub loop-top-preserved : goal.loop-top-preserved
loop-top-preserved c =
    let p = c.args.problem in
    all_step (test p.records.now p.side.now) _ _ _ (drop_step _ _ c.loop-top-test.true)
    (ap (λ (d : ℕ). leb d max_depth) (sym c.depth.ensures) ∙ le-leb _ _ c.if-depth-gt-MAX_DEPTH.false) ∙ c.loop-top.invariant

pub returns : goal.returns
returns c =
    let p = c.args.problem in
    sym (all_end (test p.records.now p.side.now) _ (drop_end _ _ c.loop-top-test.false)) ∙ c.loop-top.invariant
