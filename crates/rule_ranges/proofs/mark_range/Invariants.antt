-- The invariant: what the entries that are left mark is what all of them marked at the start.
use Prim.Native.Nat.{◌-◌}
use mathlib.Core.Path.{◌≡◌}
use Rattle.definition.specs.Lists.{from}
use Rattle.rule_ranges.specs.Enter.{marked, terms_in}
use Rattle.rule_ranges.proofs.mark_range.Given as goal

abbrev pub invariant-loop-i : goal.invariant-loop-i
invariant-loop-i l = marked l.marks (terms_in l.range (from l.i (l.count - l.i))) ≡ marked l.initial.marks (terms_in l.range (from 0 l.count))
