-- `lay_xor` meets its contract.
use native.Mathlib.Omega.{arith}
use mathlib.Core.Path.{refl, sym}
use Prim.Native.Nat.{ℕ}
use lib.ListN.{length-map, length-replicate}
use Rattle.rule_cells.specs.Put.{cells}
use Rattle.rule_heads.specs.Alternatives.{given_by}
use Rattle.rule_heads.specs.Turns.{xored_all}
use Rattle.rule_heads.proofs.choice.lay_xor.Goals as goal

pub returns : goal.returns
unfolding cells
returns c = let pre = c.requires in let a = c.args in xored_all _ _ _ _ _ _ _ _ _ _ _ _ _ _ _ c.lay_ands-after.ensures (sym (length-map a.found.numbers.now (given_by a.found.signatures.now a.found.signature_sorts.now a.statement.args.now))) (length-replicate {A = ℕ} 257 0) (rw (length-map a.found.numbers.now (given_by a.found.signatures.now a.found.signature_sorts.now a.statement.args.now)) (omega arith)) (rw c.number.ensures at c.put_record.ensures) refl c.put_all.ensures
