-- Its tests are the definition's, in order.
use Rattle.std.proofs.Common.{arith}
use Rattle.std.proofs.lemmas.Bool.Decides.{nat_tests}
use Rattle.definition.specs.Refusal.{room_refusal}
use Rattle.solve_records.proofs.room.room_refusal.Goals as goal

pub returns-then-work-terms : goal.returns-then-work-terms
unfolding room_refusal
returns-then-work-terms c = grind (arith, nat_tests)

pub returns-then-sort_list-terms : goal.returns-then-sort_list-terms
unfolding room_refusal
returns-then-sort_list-terms c = grind (arith, nat_tests)

pub returns : goal.returns
unfolding room_refusal
returns c = grind (arith, nat_tests)
