use Rattle.std.proofs.Common.{rules, ◌++◌, sym, [], length, nat_eq}
use Rattle.std.proofs.lemmas.List.{append-nil}
use Rattle.std.proofs.lemmas.List.Sorted.{answers_always}
use Rattle.replay_io.specs.Waits.{run_of}
use Rattle.replay_io.proofs.Runs.{puts_then, puts_run, run_put, all_put}
use Rattle.replay_io.proofs.output.Output.put_runs.Goals as goal

pub loop-run-init : goal.loop-run-init
loop-run-init c = ([], (λ h. sym (append-nil _)), search rules)

pub loop-run-preserved-in-Some-first : goal.loop-run-preserved-in-Some-first
loop-run-preserved-in-Some-first c =
    let run = c.in-Some.run'.now in
    let text = c.loop-run.invariant.0 in
    let steps = c.in-Some.ensures.steps in
    let alike = (steps.2 nat_eq (answers_always _ _ _ (λ f a r g h. search rules))).1 in (
      text ++ run_of c.in-Some-first.value.now (length run),
      puts_then _ _ _ text _ c.loop-run.invariant.1 (puts_run _ _ _ _ _ _ _ c.put.ensures c.put_number.ensures c.put-in-Some-first.ensures c.put_number-in-Some-first.ensures),
      run_put text run _ _ _ _ steps.0 steps.1 alike (search rules) c.loop-run.invariant.2,
    )

pub returns : goal.returns
returns c = all_put _ _ c.loop-run.invariant.0 _ _ c.in-None.ensures.steps.0 c.loop-run.invariant.1 c.loop-run.invariant.2
