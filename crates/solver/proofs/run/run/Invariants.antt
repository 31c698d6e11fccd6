-- `run` meets its contract. The invariant: the frame at the front is that of the passes begun; what is left of the most
-- passes falls.
use Prim.Native.Nat.{◌+◌, ◌-◌}
use mathlib.Core.List.{[]}
use mathlib.Core.Path.{◌≡◌}
use lib.ListN.{length}
use Rattle.definition.specs.Solve.{most_passes}
use Rattle.solver.specs.Run.{problem}
use Rattle.solver.proofs.Running.{At}
use Rattle.solver.proofs.run.run.Given as goal

abbrev pub invariant-loop-passes : goal.invariant-loop-passes
invariant-loop-passes l = (length l.work ≡ length l.initial.work) × (length l.errors ≡ length l.initial.errors) × At l.counts l.records l.side l.tops l.passes l.work

abbrev pub decreases-loop-passes : goal.decreases-loop-passes
decreases-loop-passes l = most_passes (problem l.counts l.records l.side l.tops []) + 1 - l.passes
