-- `first_open` meets its contract: what is found from i on is what is found from the start.
use Prim.Native.Nat.{◌-◌}
use mathlib.Core.Path.{◌≡◌}
use Rattle.definition.specs.Frame.{Frame}
use Rattle.definition.specs.Lists.{from}
use Rattle.definition.specs.Problem.{Problem}
use Rattle.definition.specs.Solve.{first_open}
use Rattle.solver.proofs.finish.first_open.Given as goal

abbrev pub invariant-loop-i : goal.invariant-loop-i
invariant-loop-i l =
    (p : Problem) (f : Frame) → p.range ≡ l.range → f.sorts ≡ l.sorts
    → first_open p f (from l.i (l.entries - l.i)) ≡ first_open p f (from 0 l.entries)
