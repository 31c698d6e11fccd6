use Rattle.replay_io.proofs.Runs.{puts_then}
use Rattle.replay_io.proofs.output.Output.put_answer.Goals as goal

pub returns : goal.returns
returns c =
    let outcome = puts_then _ _ _ _ _ c.put_number.ensures c.put_spaced.ensures in
    let work = puts_then _ _ _ _ _ outcome c.put_list.ensures in
    let sort_list = puts_then _ _ _ _ _ work c.put_list-2.ensures in
    puts_then _ _ _ _ _ (puts_then _ _ _ _ _ sort_list c.put_list-3.ensures) c.put.ensures
