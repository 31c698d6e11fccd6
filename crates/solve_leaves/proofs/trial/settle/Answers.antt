-- `settle` meets its contract: one answer for each of what the trials can show.
use mathlib.Core.Path.{◌≡◌, refl, subst}
use mathlib.Core.List.{[]}
use native.Mathlib.Omega.{arith}
use Rattle.solve_leaves.specs.declared.answer.Tried.{Tried}
use Rattle.solve_leaves.specs.Trial.{OneMore}
use Rattle.solve_leaves.specs.Laws.Answers.{none_settles, one_settles, several_settle}
use Rattle.solve_leaves.proofs.trial.settle.Goals.{Start}
use Rattle.solve_leaves.proofs.trial.settle.Goals as goal

-- `settle` meets its contract: one answer for each of what the trials can show.
-- what is asked, by what the trials show
asked : (c : Start) {t : Tried} → c.args.tried ≡ t → OneMore t c.args.work.now c.args.errors.now
asked c e = subst (λ (x : Tried). OneMore x c.args.work.now c.args.errors.now) e c.requires.0

pub overflow_add-result : goal.overflow_add-result
overflow_add-result c = omega (arith, asked (goal.at.overflow_add-result c).Start c.in-Nothing.is)

pub overflow_add-work : goal.overflow_add-work
overflow_add-work c = omega (arith, asked (goal.at.overflow_add-work c).Start c.in-Single.is)

pub returns-in-Nothing : goal.returns-in-Nothing
returns-in-Nothing c = none_settles _ _ _ _ _ _ c.args.errors.now [] _ _ c.in-Nothing.is c.requires.0 c.put_entry.ensures

pub returns-in-Single : goal.returns-in-Single
returns-in-Single c = one_settles _ _ _ _ _ _ c.args.errors.now _ [] _ _ c.in-Single.is refl

pub returns-in-Several : goal.returns-in-Several
returns-in-Several c = several_settle _ _ _ _ _ _ c.args.errors.now _ [] c.in-Several.is refl
