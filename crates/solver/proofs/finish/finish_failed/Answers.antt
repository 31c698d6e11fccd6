-- `finish_failed` meets its contract: zeroes from the last entry on.
use Prim.Native.Nat.{◌*◌}
use mathlib.Core.Path.{refl}
use Rattle.definition.specs.Sizes.{entry_cells}
use Rattle.solver.proofs.Finishing.{zeroed_behind}
use Rattle.solver.proofs.finish.finish_failed.Goals as goal

pub returns : goal.returns
returns c =
    record {
      outcome = refl;
      zeroed = c.clear-2.ensures;
      listed = zeroed_behind (c.args.failed.entries * entry_cells) c.args.errors.now _ c.requires.1 c.clear.ensures;
    }
