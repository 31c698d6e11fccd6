-- `assign_each` meets its contract: what is left from here gives what all give from the start.
use Prim.Native.Nat.{◌+◌}
use mathlib.Core.Path.{◌≡◌}
use mathlib.Core.List.{zip_with}
use lib.ListN.{drop}
use Rattle.rule_cells.specs.Put.{assign, lay}
use Rattle.rule_signatures.proofs.given.assign_each.Given as goal

abbrev pub invariant-loop-i : goal.invariant-loop-i
invariant-loop-i l = lay l.statement.origin l.records (l.n + l.i) (zip_with assign (drop l.i l.statement.args.now) (drop l.i l.sorts)) ≡ lay l.statement.origin l.initial.records l.n (zip_with assign l.statement.args.now l.sorts)
