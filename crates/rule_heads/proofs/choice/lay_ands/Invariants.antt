-- `lay_ands` meets its contract: what the alternatives left give from here is what all give from the start.
use Prim.Native.Nat.{◌+◌, ◌*◌, ◌≤◌}
use mathlib.Core.List.{map}
use lib.ListN.{drop}
use Rattle.rule_heads.specs.Alternatives.{given_by}
use Rattle.rule_heads.specs.Written.{AndsLeft}
use Rattle.rule_heads.proofs.choice.lay_ands.Given as goal

abbrev pub invariant-loop-i : goal.invariant-loop-i
invariant-loop-i l = record {
  few_records : l.at.records ≤ l.fn.from.records + l.i * 2051;
  few_cells : l.at.side ≤ l.fn.from.side + l.i * 2051;
  left : AndsLeft l.statement.origin l.fn.from (map (given_by l.found.signatures.now l.found.signature_sorts.now l.statement.args.now) l.found.numbers.now) (map (given_by l.found.signatures.now l.found.signature_sorts.now l.statement.args.now) (drop l.i l.found.numbers.now)) l.initial.records l.initial.side l.initial.ands l.records l.side l.ands l.at.records l.at.side l.i;
}
