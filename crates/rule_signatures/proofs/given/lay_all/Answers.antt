-- `lay_all` meets its contract: what is left from here gives what all give from the start.
use Rattle.std.proofs.Common.{arith, add-zero, ◌∙◌}
use Rattle.rule_signatures.specs.Turns.{map_turn, map_end}
use Rattle.rule_signatures.proofs.given.lay_all.Goals as goal

pub loop-i-init : goal.loop-i-init
loop-i-init c = λ made e. rw add-zero

pub loop-i-preserved : goal.loop-i-preserved
loop-i-preserved c = let a = c.args in let w = c.loop-i in λ made e. map_turn a.statement.origin w.records c.put_record.new.records a.n w.i a.statement.args.now made (omega arith) (rw c.number.ensures at c.put_record.ensures) (e _) ∙ w.invariant made e

pub returns-clause-laid : goal.returns-clause-laid
returns-clause-laid c = let a = c.args in let w = c.loop-i in λ made e. map_end a.statement.origin a.records.now w.records a.n w.i a.statement.args.now made c.loop-i-test.false (w.invariant made e)
