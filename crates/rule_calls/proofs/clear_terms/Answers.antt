-- `clear_terms` meets its contract: a front of zeroes is zeroes.
use Rattle.std.proofs.Common.{ℕ, ◌-◌, ◌*◌, arith}
use Rattle.std.proofs.lemmas.List.{take-replicate}
use Rattle.rule_calls.proofs.clear_terms.Goals as goal

pub returns : goal.returns
returns c = let a = c.args in rw (take-replicate {X = ℕ} ((a.end - a.first) * 2) 512 0 (omega (arith, c.requires))) at c.put_all.ensures
