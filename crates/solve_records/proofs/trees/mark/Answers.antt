-- A number past the bound, a number that is marked, a number that gets its mark.
use Rattle.std.proofs.Common.{arith, inl, inr}
use Rattle.definition.proofs.Laws.Left.{below_one, not_below_one}
use Rattle.solve_records.proofs.Marking.{named_again, named_first}
use Rattle.solve_records.proofs.trees.mark.Goals.{then-bound-number-via-then-bound-number, then-bound-number-via-else-bound-number+then-marks-number-ne0}
use Rattle.solve_records.proofs.trees.mark.Goals as goal

pub returns-then-bound-number : goal.returns-then-bound-number
returns-then-bound-number c = elim c.then-bound-number.branch [
  | then-bound-number-via-then-bound-number w ↦ inl (not_below_one _ _ w.if-bound-number.true)
  | then-bound-number-via-else-bound-number+then-marks-number-ne0 w ↦ inr (named_again _ _ _ w.if-bound-number.false w.if-marks-number-ne0.true)
]

pub returns : goal.returns
returns c = (below_one _ _ c.if-bound-number.false, named_first _ _ (omega arith) (omega arith))
