-- `pass` meets its contract: the top-level list is lent to `update_and` as far as its count.
use mathlib.Core.Path.{sym}
use lib.Seq.{length-take-le}
use Rattle.solver.proofs.run.pass.Goals as goal

pub slice_bounds-update_and-end : goal.slice_bounds-update_and-end
slice_bounds-update_and-end c = sym (length-take-le _ _ c.requires.0)
