-- The definition's test with its lists divided, and each comparison put in.
use Rattle.std.proofs.Common.{arith}
use Rattle.std.proofs.lemmas.Grind.{common_steps}
use Rattle.solve_records.proofs.Bools.{counts_divided}
use Rattle.solve_records.proofs.cells.counts_fit.Goals as goal

pub returns-then-counts-le-MAX_TERMS : goal.returns-then-counts-le-MAX_TERMS
returns-then-counts-le-MAX_TERMS c = rw (counts_divided _) (grind (arith, common_steps))

pub returns-else-counts-le-MAX_TERMS : goal.returns-else-counts-le-MAX_TERMS
returns-else-counts-le-MAX_TERMS c = rw (counts_divided _) (grind (arith, common_steps))
