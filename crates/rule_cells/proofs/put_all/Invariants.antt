-- `rule_cells::put_all` meets its contract: what is left to put from here gives what all give from the start.
use Prim.Native.Nat.{◌+◌}
use mathlib.Core.Path.{◌≡◌}
use lib.ListN.{length, drop}
use Rattle.rule_cells.specs.Put.{puts}
use Rattle.rule_cells.proofs.put_all.Given as goal

abbrev pub invariant-loop-i : goal.invariant-loop-i
invariant-loop-i l = (length l.list ≡ length l.initial.list) × (puts l.list (l.at + l.i) (drop l.i l.values) ≡ puts l.initial.list l.at l.values)
