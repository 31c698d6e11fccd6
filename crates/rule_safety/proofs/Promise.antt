-- What the generators promise of the problem that they add to. The arguments stand in Laws.
use Rattle.std.specs.Prelude.{ℕ, ◌≡◌, List}
use Rattle.definition.specs.Problem.{Problem}
use Rattle.definition.specs.Refusal.{records_refusal}
use Rattle.meaning.specs.Words.{StandsIn}
use Rattle.meaning.proofs.Demand.{stands}
use Rattle.rule_lent.specs.Fit.{Lending}
use Rattle.rule_calls.specs.Exit.{call_verdict, local_verdict, problem_after}
use Rattle.rule_safety.specs.Safe.{Safe}
use Rattle.rule_safety.proofs.Laws.Calls.{safe_both, call_ends, local_ends, ends_safe}

-- one call after another: what is said of each holds of them together
pub both_safe : (p q t : Problem) → Safe p q → Safe q t → Safe p t
both_safe = safe_both

-- the constraints that stood there stand in it, so that it keeps every sort of an answer, and a conflict (meaning's `stays`)
pub safe_stands : (p q : Problem) → Safe p q → StandsIn p q (λ r. r) (λ t. t)
safe_stands p q s = stands p q s.kept s.tops

-- add_query and add_actions, whatever they are lent, refused or not
pub call_safe : (d : Lending) → records_refusal d.problem ≡ 0 → Safe d.problem (problem_after d.problem (call_verdict d))
call_safe d h = ends_safe d.problem d.terms (call_verdict d) h (call_ends d h)

-- a typed local
pub local_safe : (p : Problem) (terms : List ℕ) (term sort place : ℕ) → records_refusal p ≡ 0 →
    Safe p (problem_after p (local_verdict p terms term sort place))
local_safe p terms term sort place h = ends_safe p terms (local_verdict p terms term sort place) h (local_ends p terms term sort place h)
