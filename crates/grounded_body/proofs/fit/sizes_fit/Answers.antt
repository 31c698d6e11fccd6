-- The definition's test with its lists divided.
use Rattle.std.proofs.Common.{arith}
use Rattle.std.proofs.lemmas.Grind.{common_steps}
use Rattle.grounded_body.proofs.Fitting.{sizes_divided}
use Rattle.grounded_body.proofs.fit.sizes_fit.Goals as goal

pub returns-then-within-2 : goal.returns-then-within-2
returns-then-within-2 c = rw (sizes_divided _) (grind (arith, common_steps))

pub returns-else-within-2 : goal.returns-else-within-2
returns-else-within-2 c = rw (sizes_divided _) (grind (arith, common_steps))
