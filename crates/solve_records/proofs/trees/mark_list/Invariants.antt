-- The loop marks what is left of the list; the marks with what is left give the counts of the whole list.
use mathlib.Core.Path.{◌≡◌}
use lib.ListN.{length, drop}
use lib.Dec.{ltb}
use Rattle.definition.specs.Lists.{all}
use Rattle.solve_records.proofs.Marking.{Going}
use Rattle.solve_records.proofs.trees.mark_list.Given as goal

abbrev pub invariant-loop-number : goal.invariant-loop-number
invariant-loop-number l =
    (length l.marks ≡ length l.initial.marks) × Going (all (λ x. ltb x l.bound) (drop l.number-index l.numbers))
    (all (λ x. ltb x l.bound) l.numbers) (drop l.number-index l.numbers) l.numbers l.initial.marks l.marks
