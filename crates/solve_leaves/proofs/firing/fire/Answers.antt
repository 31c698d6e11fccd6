-- `fire` meets its contract.
use mathlib.Core.Path.{refl, sym, ◌∙◌}
use Rattle.solve_leaves.proofs.firing.fire.Goals as goal

pub returns-then-not-all_sorted : goal.returns-then-not-all_sorted
returns-then-not-all_sorted c = (c.if-work-cell-ne0.false, sym c.if-not-all_sorted.true ∙ c.all_sorted.ensures, refl)

pub returns : goal.returns
returns c = (c.if-work-cell-ne0.false, sym c.if-not-all_sorted.false ∙ c.all_sorted.ensures, refl)
