-- The invariant: `Going`, and that the range with the entries that are left is what it is to be.
use Prim.Native.Nat.{◌*◌}
use mathlib.Core.Path.{◌≡◌}
use lib.ListN.{drop}
use Rattle.rule_cells.specs.Put.{puts}
use Rattle.rule_ranges.proofs.Steps.{Going}
use Rattle.rule_ranges.specs.Enter.{new, entries}
use Rattle.rule_ranges.proofs.enter.Given as goal

abbrev pub invariant-loop-term : goal.invariant-loop-term
invariant-loop-term l = record {
  going : Going l.bound l.initial.marks l.marks l.count l.n l.term-index;
  entered : puts l.range (l.n * 2) (entries l.place (new l.marks (drop l.term-index l.bound))) ≡ puts l.initial.range (l.count * 2) (entries l.place (new l.initial.marks l.bound));
}
