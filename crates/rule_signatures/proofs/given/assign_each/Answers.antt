-- `assign_each` meets its contract: what is left from here gives what all give from the start.
use Rattle.std.proofs.Common.{arith, add-zero, ◌∙◌}
use Rattle.rule_signatures.specs.Turns.{zip_turn, zip_end}
use Rattle.rule_signatures.proofs.given.assign_each.Goals as goal

pub loop-i-init : goal.loop-i-init
loop-i-init c = rw add-zero

pub loop-i-preserved : goal.loop-i-preserved
loop-i-preserved c = let a = c.args in let w = c.loop-i in zip_turn a.statement.origin w.records c.put_assign.new.records a.n w.i a.statement.args.now a.sorts.now (omega arith) (omega arith) c.put_assign.ensures ∙ w.invariant

pub returns : goal.returns
returns c = let a = c.args in let w = c.loop-i in zip_end a.statement.origin a.records.now w.records a.n w.i a.statement.args.now a.sorts.now c.loop-i-test.false w.invariant
