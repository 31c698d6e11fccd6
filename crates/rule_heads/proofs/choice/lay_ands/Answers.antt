-- `lay_ands` meets its contract: what the alternatives left give from here is what all give from the start.
use Rattle.std.proofs.Common.{arith}
use mathlib.Core.List.{map}
use Rattle.rule_cells.specs.Put.{cells}
use Rattle.rule_heads.specs.Alternatives.{given_by}
use Rattle.rule_heads.specs.Turns.{map_left, map_done, ands_start, ands_turn, ands_end}
use Rattle.rule_heads.proofs.choice.lay_ands.Goals as goal

pub loop-i-init : goal.loop-i-init
loop-i-init c = let a = c.args in record { few_records = omega arith; few_cells = omega arith; left = ands_start a.statement.origin a.from (map (given_by a.found.signatures.now a.found.signature_sorts.now a.statement.args.now) a.found.numbers.now) a.records.now a.side.now a.ands.now }

pub loop-i-preserved : goal.loop-i-preserved
unfolding cells
loop-i-preserved c =
    let few = c.laid-count.ensures.upper_bound in
    let a = c.args in
    let w = c.loop-i in
    let left = rw (map_left (given_by a.found.signatures.now a.found.signature_sorts.now a.statement.args.now) a.found.numbers.now w.i c.loop-i-test.true) at w.invariant.left in
    let l = rw c.read_signature-signature.ensures at c.laid-count.ensures.laid in
    record {
      few_records = omega (arith, few, c.requires, w.invariant.few_records);
      few_cells = omega (arith, few, c.requires, w.invariant.few_cells);
      left = ands_turn _ _ _ _ _ _ _ _ _ _ _ _ _ _ _ _ _ _ _ left l (rw c.number.ensures at c.put_record.ensures) c.put_numbers.ensures c.put.ensures;
    }

pub returns : goal.returns
returns c =
    let a = c.args in
    let w = c.loop-i in
    let done = map_done (given_by a.found.signatures.now a.found.signature_sorts.now a.statement.args.now) a.found.numbers.now w.i c.loop-i-test.false in
    ands_end _ _ _ _ _ _ _ _ _ _ _ _ _ _ done (omega (arith, c.requires, w.invariant.few_records)) (omega (arith, c.requires, w.invariant.few_cells)) w.invariant.left
