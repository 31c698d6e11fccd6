-- The numbers of refusals: none is 0, and a number tells which refusal it is.
use Rattle.std.specs.Prelude.{ℕ, ◌<◌, ◌≡◌, cond, eqb, Result, Ok, Err}
use Rattle.std.proofs.Common.{refl, sym, ap, ◌∙◌, arith}
use Rattle.definition.specs.declared.Refusal.{Refusal}
use Rattle.definition.specs.declared.Refusal.TheVariants.{TooMany, OutOfRange, NotTrees, TooDeep, SmallWork, ShortList, Miscounted, Empty, Unbound, NoRoom, UnboundFunction, SetConstructorDisallowed, Malformed, Unknown, TooLong}
use Rattle.definition.specs.Numbers.{number_of, refused}

-- no refusal has the number 0
pub positive : (r : Refusal) → 0 < number_of r
positive TooMany = omega arith
positive OutOfRange = omega arith
positive NotTrees = omega arith
positive TooDeep = omega arith
positive SmallWork = omega arith
positive ShortList = omega arith
positive Miscounted = omega arith
positive Empty = omega arith
positive Unbound = omega arith
positive NoRoom = omega arith
positive UnboundFunction = omega arith
positive SetConstructorDisallowed = omega arith
positive Malformed = omega arith
positive Unknown = omega arith
positive TooLong = omega arith

-- the number tells which refusal it is, if any
unnumbered : ℕ → Result Unit Refusal
unnumbered n =
    cond (eqb n 1) (Err TooMany) (
    cond (eqb n 2) (Err OutOfRange) (
    cond (eqb n 3) (Err NotTrees) (
    cond (eqb n 4) (Err TooDeep) (
    cond (eqb n 5) (Err SmallWork) (
    cond (eqb n 6) (Err ShortList) (
    cond (eqb n 7) (Err Miscounted) (
    cond (eqb n 8) (Err Empty) (
    cond (eqb n 9) (Err Unbound) (
    cond (eqb n 10) (Err NoRoom) (
    cond (eqb n 20) (Err UnboundFunction) (
    cond (eqb n 21) (Err SetConstructorDisallowed) (
    cond (eqb n 50) (Err Malformed) (
    cond (eqb n 51) (Err Unknown) (
    cond (eqb n 52) (Err TooLong) (
    Ok tt)))))))))))))))

known : (r : Result Unit Refusal) → unnumbered (refused r) ≡ r
unfolding unnumbered
known (Ok u) = refl
known (Err TooMany) = refl
known (Err OutOfRange) = refl
known (Err NotTrees) = refl
known (Err TooDeep) = refl
known (Err SmallWork) = refl
known (Err ShortList) = refl
known (Err Miscounted) = refl
known (Err Empty) = refl
known (Err Unbound) = refl
known (Err NoRoom) = refl
known (Err UnboundFunction) = refl
known (Err SetConstructorDisallowed) = refl
known (Err Malformed) = refl
known (Err Unknown) = refl
known (Err TooLong) = refl

pub one_refusal : {r s : Result Unit Refusal} {n : ℕ} → refused r ≡ n → refused s ≡ n → r ≡ s
one_refusal {r} {s} p q = sym (known r) ∙ ap unnumbered (p ∙ sym q) ∙ known s
