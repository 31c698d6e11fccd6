-- `add_permitted` meets its contract.
use mathlib.Core.Path.{◌≡◌}
use Prim.Native.Nat.{◌+◌, ◌-◌, ◌≤◌}
use lib.ListN.{length}
use Rattle.definition.specs.Lists.{from}
use Rattle.rule_cells.specs.Put.{puts}
use Rattle.rule_heads.specs.Alternatives.{keep, is_permitted}
use Rattle.rule_heads.proofs.alternatives.add_permitted.Given as goal

abbrev pub invariant-loop-number : goal.invariant-loop-number
invariant-loop-number l = record {
  few : l.end ≤ l.at + l.number;
  added : puts l.found l.end (keep (is_permitted l.signatures l.head l.context) (from l.number (l.declared - l.number))) ≡ puts l.initial.found l.at (keep (is_permitted l.signatures l.head l.context) (from 0 l.declared));
  counted : l.end + length (keep (is_permitted l.signatures l.head l.context) (from l.number (l.declared - l.number))) ≡ l.at + length (keep (is_permitted l.signatures l.head l.context) (from 0 l.declared));
}
