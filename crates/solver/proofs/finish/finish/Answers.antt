-- `finish` meets its contract: each end of the passes by its own function.
use Rattle.solver.proofs.Finishing.{left_failed}
use Rattle.solver.proofs.finish.finish.Goals as goal

pub finish_failed-requires : goal.finish_failed-requires
finish_failed-requires c = rw c.in-Err.is at c.requires.fits

pub returns-in-Ok : goal.returns-in-Ok
returns-in-Ok c = λ p o ec er e. c.finish_settled.ensures p o ec er (rw c.in-Ok.is at e)

pub returns-in-Err : goal.returns-in-Err
returns-in-Err c =
    λ p o ec er e.
    left_failed p o _ _ c.args.sort_list.now _ _ _ _
    (rw c.in-Err.is at c.requires.fits)
    (rw c.in-Err.is at e) c.finish_failed.ensures
