-- `rule_cells::put_numbers` meets its contract: what is left to put from here gives what all give from the start.
use Prim.Native.Nat.{◌+◌, ◌-◌}
use mathlib.Core.Path.{◌≡◌}
use Rattle.rule_cells.specs.Put.{puts}
use Rattle.definition.specs.Lists.{from}
use Rattle.rule_cells.proofs.put_numbers.Given as goal

abbrev pub invariant-loop-i : goal.invariant-loop-i
invariant-loop-i l = puts l.list (l.at + l.i) (from (l.first + l.i) (l.count - l.i)) ≡ puts l.initial.list l.at (from l.first l.count)
