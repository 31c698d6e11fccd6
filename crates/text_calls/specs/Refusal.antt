-- The refusals of a call.
use Rattle.std.specs.Prelude.{ℕ, cond, eqb, Result, Ok, Err}
use Rattle.definition.specs.declared.Counts.{Counts}
use Rattle.definition.specs.declared.Refusal.{Refusal}
use Rattle.definition.specs.declared.Refusal.TheVariants.{TooMany, OutOfRange, Miscounted, Empty, Unbound, NoRoom, UnboundFunction, SetConstructorDisallowed}
use Rattle.rule_calls.specs.declared.Added.{Added}

-- by its number
unfoldable pub refusal_of : ℕ → Refusal
refusal_of n =
    cond (eqb n 1) TooMany
    (cond (eqb n 2) OutOfRange
    (cond (eqb n 7) Miscounted
    (cond (eqb n 8) Empty
    (cond (eqb n 9) Unbound
    (cond (eqb n 20) UnboundFunction
    (cond (eqb n 21) SetConstructorDisallowed NoRoom))))))

-- the counts after a call, or its refusal
abbrev pub answered : Added → Result Counts Refusal
answered done = cond (eqb done.number 0) (Ok done.counts) (Err (refusal_of done.number))
