-- `lay_all` meets its contract: what is left from here gives what all give from the start.
use Prim.Native.Nat.{ℕ, ◌+◌}
use mathlib.Core.Path.{◌≡◌}
use mathlib.Core.List.{map}
use lib.ListN.{drop}
use Rattle.definition.specs.Numbers.{kind_number}
use Rattle.rule_cells.specs.Put.{Record, as_cells, cells, lay}
use Rattle.rule_signatures.proofs.given.lay_all.Given as goal

abbrev pub invariant-loop-i : goal.invariant-loop-i
invariant-loop-i l = (made : ℕ → Record) → ((a : ℕ) → as_cells l.statement.origin (kind_number l.kind) a l.second ≡ cells l.statement.origin (made a)) → lay l.statement.origin l.records (l.n + l.i) (map made (drop l.i l.statement.args.now)) ≡ lay l.statement.origin l.initial.records l.n (map made l.statement.args.now)
