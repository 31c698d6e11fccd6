-- How the call of a line ends.
use Rattle.std.specs.Prelude.{ℕ, ◌≤◌, true, false, List, take, drop}
use Rattle.definition.specs.declared.Counts.{Counts}
use Rattle.definition.specs.Sizes.{max_terms}
use Rattle.definition.specs.Problem.{Problem}
use Rattle.rule_lent.specs.declared.Lent.{Lent}
use Rattle.rule_lent.specs.Lend.{lending}
use Rattle.rule_steps.specs.Given.{Verdict, refused, added}
use Rattle.rule_calls.specs.declared.Added.{Added}
use Rattle.rule_calls.specs.Exit.{state_of, call_verdict, local_verdict}
use Rattle.rule_calls.specs.Left.{ActionsLeft}
use Rattle.rule_calls.specs.Laws.Run.{Numbered}
use Rattle.text_terms.specs.declared.shape.Way.{Way}
use Rattle.text_terms.specs.declared.shape.Way.TheVariants.{Silent, Query, Action, Local}
use Rattle.text_terms.specs.declared.call.Call.{Call}
use Rattle.text_terms.specs.Call.{call_cells}

-- its arguments, among the numbers of the line's words
abbrev pub arguments_of : Call → List ℕ → List ℕ
arguments_of c numbers = take c.given (drop c.start numbers)

-- a typed local has its variable as x
unfoldable pub verdict_by : Way → Call → ℕ → Lent → Problem → (signatures signature_sorts globals terms numbers : List ℕ) → Verdict
verdict_by Silent c sort l p signatures signature_sorts globals terms numbers = added (state_of p)
verdict_by Query c sort l p signatures signature_sorts globals terms numbers =
    call_verdict (lending true l p signatures signature_sorts globals terms (call_cells c) (arguments_of c numbers))
verdict_by Action c sort l p signatures signature_sorts globals terms numbers =
    call_verdict (lending false l p signatures signature_sorts globals terms (call_cells c) (arguments_of c numbers))
verdict_by Local c sort l p signatures signature_sorts globals terms numbers = local_verdict p terms c.x sort c.place

-- the answer of a line without a call
abbrev pub nothing_added : Counts → Added
nothing_added counts = record { number = 0; head = 0; place = 0; counts = counts }

-- no term goes, and there are not too many
abbrev pub Kept : ℕ → Verdict → Type 0
Kept n (refused m h q) = Unit {0}
Kept n (added s) = (n ≤ s.counts.terms) × (s.counts.terms ≤ max_terms)

-- the answer and the lists, and what is so of the verdict
pub record Asked (p : Problem) (v : Verdict) (terms terms' records side tops range : List ℕ) (r : Added) : Type 0 where
  pub left : ActionsLeft p v terms terms' records side tops range r
  pub firm : Numbered v
  pub kept : Kept p.counts.terms v
