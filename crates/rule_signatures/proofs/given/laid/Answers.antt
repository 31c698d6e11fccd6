-- `laid` meets its contract.
use native.Mathlib.Omega.{arith}
use Rattle.rule_signatures.specs.Cases.{gives_simple, gives_equal, gives_few}
use Rattle.rule_signatures.proofs.given.laid.Goals as goal

pub returns-in-Simple : goal.returns-in-Simple
returns-in-Simple c = let a = c.args in let l = gives_simple _ _ _ _ _ _ _ _ _ c.in-Simple.is c.laid_simple.ensures in record { laid = l; upper_bound = omega (arith, l.count, gives_few a.signature_sorts.now a.signature a.statement.args.now) }

pub returns-in-AllEqual : goal.returns-in-AllEqual
returns-in-AllEqual c = let a = c.args in let l = gives_equal _ _ _ _ _ _ _ _ _ c.in-AllEqual.is c.laid_equal.ensures in record { laid = l; upper_bound = omega (arith, l.count, gives_few a.signature_sorts.now a.signature a.statement.args.now) }
