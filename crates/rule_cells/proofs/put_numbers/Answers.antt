-- `rule_cells::put_numbers` meets its contract: what is left to put from here gives what all give from the start.
use Rattle.std.proofs.Common.{arith, ◌∙◌}
use Rattle.rule_cells.specs.Laws.{numbers_start, numbers_turn, numbers_end}
use Rattle.rule_cells.proofs.put_numbers.Goals as goal

pub loop-i-init : goal.loop-i-init
loop-i-init c = let a = c.args in numbers_start a.list.now a.at a.first a.count

pub loop-i-preserved : goal.loop-i-preserved
loop-i-preserved c = let a = c.args in let w = c.loop-i in numbers_turn w.list c.put.new.list a.at a.first w.i a.count (omega arith) c.put.ensures ∙ w.invariant

pub returns : goal.returns
returns c = let a = c.args in let w = c.loop-i in numbers_end a.list.now w.list a.at a.first w.i a.count c.loop-i-test.false w.invariant
