-- `read_lines` meets its contract: the lines from here on give what all give from the start.
use Prim.Native.Nat.{◌+◌, ◌-◌}
use lib.ListN.{length}
use Rattle.text_lines.specs.Lists.{store_in}
use Rattle.text_lines.specs.Run.{Reading}
use Rattle.text_lines.proofs.run.read_lines.Given as goal

abbrev pub invariant-loop-at : goal.invariant-loop-at
invariant-loop-at l = Reading l.text (store_in l.initial.printed l.initial.lists) l.at l.place l.numbers (store_in l.printed l.lists)

abbrev pub decreases-loop-at : goal.decreases-loop-at
decreases-loop-at l = length l.text + 1 - l.at
