-- `laid_fixed` meets its contract: what is left from here gives what all give from the start.
use Prim.Native.Nat.{◌+◌, ◌≤◌}
use mathlib.Core.Path.{◌≡◌}
use lib.ListN.{length, drop}
use Rattle.rule_cells.specs.Put.{lay}
use Rattle.rule_signatures.specs.Gives.{fixed}
use Rattle.rule_signatures.proofs.given.laid_fixed.Given as goal

abbrev pub invariant-loop-term : goal.invariant-loop-term
invariant-loop-term l = record {
  few : l.count ≤ l.term-index;
  laid : lay l.statement.origin l.records (l.n + l.count) (fixed l.scope.terms.now l.scope.globals.now (drop l.term-index l.statement.args.now)) ≡ lay l.statement.origin l.initial.records l.n (fixed l.scope.terms.now l.scope.globals.now l.statement.args.now);
  counted : l.count + length (fixed l.scope.terms.now l.scope.globals.now (drop l.term-index l.statement.args.now)) ≡ length (fixed l.scope.terms.now l.scope.globals.now l.statement.args.now);
}
