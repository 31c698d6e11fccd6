-- `rule_cells::put_all` meets its contract: what is left to put from here gives what all give from the start.
use Rattle.std.proofs.Common.{rules, ◌∙◌}
use Rattle.rule_cells.specs.Laws.{puts_start, puts_turn, puts_end, puts_past}
use Rattle.rule_cells.proofs.put_all.Goals as goal

pub loop-i-init : goal.loop-i-init
loop-i-init c = let a = c.args in (search rules, puts_start a.list.now a.at a.values.now)

pub loop-i-preserved : goal.loop-i-preserved
loop-i-preserved c =
    let a = c.args in
    let w = c.loop-i in
    (search rules, puts_turn w.list c.put.new.list a.at w.i a.values.now (search rules) c.put.ensures ∙ w.invariant.1)

pub returns-after-loop-i : goal.returns-after-loop-i
returns-after-loop-i c = let a = c.args in let w = c.loop-i in puts_end a.list.now w.list a.at w.i a.values.now (search rules) w.invariant.1

pub returns-else-at-list : goal.returns-else-at-list
returns-else-at-list c = let a = c.args in puts_past a.list.now a.at a.values.now c.if-at-list.false
