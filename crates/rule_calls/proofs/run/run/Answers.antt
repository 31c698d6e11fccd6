-- `run` meets its contract: what is left from here gives what all give from the start.
use Rattle.rule_calls.specs.Laws.Run.{run_start, run_turn, run_refused, run_ended}
use Rattle.rule_calls.proofs.run.run.Goals as goal

pub loop-i-init : goal.loop-i-init
loop-i-init c = run_start _ _ _ _ _ c.requires.few

pub step-requires : goal.step-requires
step-requires c =
    let p = c.requires in
    record { few = c.loop-i.invariant.few; declared_few = p.declared_few; context_few = p.context_few; arguments_few = p.arguments_few }

pub loop-i-preserved : goal.loop-i-preserved
loop-i-preserved c = let s = c.in-Ok.ensures in run_turn c.loop-i.invariant _ c.loop-i-test.true s.number s.added s.few'

pub returns-in-Err : goal.returns-in-Err
returns-in-Err c = let s = c.in-Err.ensures in run_refused c.loop-i.invariant _ c.in-Err.refusal _ _ _ _ _ c.loop-i-test.true s.number (c.refused_at.ensures c.args.counts)

pub returns : goal.returns
returns c = run_ended c.loop-i.invariant _ c.loop-i-test.false
