-- `laid_alike` meets its contract.
use Rattle.std.proofs.Common.{refl}
use Rattle.rule_cells.specs.Put.{cells}
use Rattle.rule_signatures.specs.Cases.{alike_some, alike_none, alike_empty}
use Rattle.rule_signatures.proofs.given.laid_alike.Goals as goal

pub returns-in-Some : goal.returns-in-Some
unfolding cells
returns-in-Some c = rw c.lay_all.ensures.count (alike_some _ _ _ _ _ _ _ c.in-Some.is (c.lay_all.ensures.laid _ (λ a. refl)))

pub returns-in_default-split_first : goal.returns-in_default-split_first
returns-in_default-split_first c = alike_empty _ _ _ _ _ _ c.in_default.is c.in_default-split_first.ensures.cases refl

pub returns : goal.returns
unfolding cells
returns c = rw c.lay_all-2.ensures.count (alike_none _ _ _ _ _ _ _ _ c.in_default.is c.in-Some-split_first.ensures.cases.0 (c.lay_all-2.ensures.laid _ (λ a. refl)))
