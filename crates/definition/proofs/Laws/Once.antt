-- No second outcome, for any function that the borrow checker covers: stated over its parameters' kinds, its result's kind and
-- its contract's own reading.
use Rattle.std.specs.Prelude.{ℕ, List, ◌≡◌}
use Rattle.std.proofs.Common.{sym, ◌∙◌}
use contract.Lifetimes.{Lfts}
use denote.Triple.Clauses.{Lasts, at_exit}
use borrow.Fn.Kind.{ParamKind, ResultKind}
use borrow.Fn.Kinds.{Out, Dens, res_t, ended_of}

-- of a function with n lifetimes, these parameters and this result: what a caller is left with, the result and the last list of
-- each `&mut` slice
abbrev pub Left : (n : ℕ) (ps : List (ParamKind n)) (r : ResultKind n) (κs : Lfts n) → Dens κs ps → Type 0
Left n ps r κs a = (res_t r κs).Denot × Lasts (ended_of n ps r) κs a

-- any two outcomes that meet the promise for the same arguments are equal
abbrev pub Once : (n : ℕ) (ps : List (ParamKind n)) (r : ResultKind n) → Out n ps r → Type 0
Once n ps r post =
    (κs : Lfts n) (a : Dens κs ps) (o o' : Left n ps r κs a)
    → post κs a o.0 (at_exit (ended_of n ps r) κs a o.1) → post κs a o'.0 (at_exit (ended_of n ps r) κs a o'.1) → o ≡ o'

-- two things that equal a third
pub one : {A : Type 0} {x y z : A} → x ≡ z → y ≡ z → x ≡ y
one p q = p ∙ sym q
