-- The tests in order: what has passed at a place is what the next callee asks.
use Rattle.std.proofs.Common.{sym, ◌∙◌, ◌≡◌, true, rules}
use Rattle.definition.proofs.Laws.Refused.{Counted, counted, refused_trees, refused_depth, not_refused}
use Rattle.definition.specs.Refusal.{counts_fit, cells_fit, trees_fit}
use Rattle.solve_records.specs.Lent.{seen}
use Rattle.solve_records.proofs.Refusals.{early_given, cells_pass}
use Rattle.solve_records.proofs.Values.{readable}
use Rattle.solve_records.proofs.records_refusal.Goals.{In_ok-cells_refusal, Else-not-trees_fit}
use Rattle.solve_records.proofs.records_refusal.Goals as goal

-- what has passed at each place
passed : (c : In_ok-cells_refusal) → (counts_fit (seen c.args.problem) ≡ true) × (cells_fit (seen c.args.problem) ≡ true)
passed c = cells_pass _ c.in_ok-cells_refusal.ensures

sizes : (c : In_ok-cells_refusal) → Counted (seen c.args.problem)
sizes c = counted _ (passed c).0

trees_pass : (c : Else-not-trees_fit) → trees_fit (seen c.args.problem) ≡ true
trees_pass c = sym c.trees_fit.ensures ∙ c.if-not-trees_fit.false

pub returns-in_err-cells_refusal : goal.returns-in_err-cells_refusal
returns-in_err-cells_refusal c = let e = early_given (seen c.args.problem) c.in_err-cells_refusal.field-0.0 c.in_err-cells_refusal.ensures in search (rules, e)

pub trees_fit-requires : goal.trees_fit-requires
trees_fit-requires c =
    let at = (goal.at.trees_fit-requires c).In_ok-cells_refusal in
    record { by_index = readable _ (passed at).0 (passed at).1; records_le_max_records = ((sizes at).records, (sizes at).tops_lent) }

pub returns-then-not-trees_fit : goal.returns-then-not-trees_fit
returns-then-not-trees_fit c =
    let two = passed (goal.at.returns-then-not-trees_fit c).In_ok-cells_refusal in
    sym (refused_trees _ two.0 two.1 (sym c.trees_fit.ensures ∙ c.if-not-trees_fit.true))

pub depth_fits-requires : goal.depth_fits-requires
depth_fits-requires c =
    let at = goal.at.depth_fits-requires c in
    let two = passed at.In_ok-cells_refusal in
    record { by_index = readable _ two.0 two.1; tops_in_bounds = (sizes at.In_ok-cells_refusal).tops_lent; tops_value = trees_pass at.Else-not-trees_fit }

pub returns-then-not-depth_fits : goal.returns-then-not-depth_fits
returns-then-not-depth_fits c =
    let at = goal.at.returns-then-not-depth_fits c in
    let two = passed at.In_ok-cells_refusal in
    sym (refused_depth _ two.0 two.1 (trees_pass at.Else-not-trees_fit) (sym c.depth_fits.ensures ∙ c.if-not-depth_fits.true))

pub returns : goal.returns
returns c =
    let at = goal.at.returns c in
    let two = passed at.In_ok-cells_refusal in
    sym (not_refused _ (record {
      counts = two.0;
      cells = two.1;
      trees = trees_pass at.Else-not-trees_fit;
      depths = sym c.depth_fits.ensures ∙ c.if-not-depth_fits.false;
    }))
