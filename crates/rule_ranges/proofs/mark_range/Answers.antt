-- The invariant: what the entries that are left mark is what all of them marked at the start.
use Rattle.std.proofs.Common.{sym, ◌∙◌}
use Rattle.std.proofs.Math.Nat.{sub-zero}
use Rattle.rule_ranges.proofs.Steps.{range_step, range_end}
use Rattle.rule_ranges.proofs.mark_range.Goals as goal

pub loop-i-init : goal.loop-i-init
loop-i-init c = rw sub-zero

pub loop-i-preserved : goal.loop-i-preserved
loop-i-preserved c = rw c.mark.ensures.1 (sym (range_step _ _ _ _ c.loop-i-test.true) ∙ c.loop-i.invariant)

pub returns : goal.returns
returns c = sym (range_end _ _ _ _ c.loop-i-test.false) ∙ c.loop-i.invariant
