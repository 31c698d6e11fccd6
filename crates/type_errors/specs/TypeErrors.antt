-- ConstraintError::to_type_error: what an entry of the error list, or the outcome 31, is as a type error.
use Rattle.std.specs.Prelude.{ℕ, ◌+◌, ◌*◌, ◌-◌, ◌≡◌, true, ◌&&◌, cond, List, [], ◌∷◌, leb, ltb, eqb, length, get_or, Option, None, Some, Result, Ok, Err}
use Rattle.definition.specs.Numbers as refusal
use Rattle.definition.specs.declared.Outcome.{Outcome}
use Rattle.definition.specs.declared.Refusal.{Refusal}
use Rattle.definition.specs.declared.Refusal.TheVariants.{TooMany, OutOfRange}
use Rattle.definition.specs.Sizes.{max_records, entry_cells}
use Rattle.definition.specs.Update.{Entry, inconsistent_constraint, unconstrained_var, no_constraint_satisfied, impossible_case_identified}
use Rattle.definition.specs.Refusal.{expected_fits}
use Rattle.type_errors.specs.declared.TypeError.{TypeError}
use Rattle.type_errors.specs.declared.TypeError.TheVariants.{Mismatch, InferenceFailure, AllAlternativeFailed, Arity}

-- what an entry is, or why it is refused
abbrev pub Answer : Type 0
Answer = Result (Option TypeError) Refusal

-- the case of an entry, by its number. The zeroes past an error's end are no error; any other number is refused with 2,
-- and so is an expected count that no record has. An arity shows one less than the count expected
unfoldable pub type_error_of : Entry → Answer
type_error_of e =
    cond (eqb e.number 0) (Ok None)
    (cond (eqb e.number inconsistent_constraint) (Ok (Some (Mismatch e.first e.second e.third)))
    (cond (eqb e.number no_constraint_satisfied) (Ok (Some (AllAlternativeFailed e.first)))
    (cond (eqb e.number impossible_case_identified) (cond (expected_fits e.second) (Ok (Some (Arity e.first (e.second - 1)))) (Err OutOfRange))
    (Err OutOfRange))))

-- an entry by what is read of it
abbrev pub entry : ℕ → ℕ → ℕ → ℕ → Entry
entry number first second third =
    record { number = number; source = 0; place = 0; first = first; second = second; third = third }

-- the entry that stands at a number in the error list
abbrev pub entry_at : List ℕ → ℕ → Entry
entry_at errors i =
    entry (get_or errors (i * entry_cells) 0) (get_or errors (i * entry_cells + 3) 0) (get_or errors (i * entry_cells + 4) 0) (get_or errors (i * entry_cells + 5) 0)

-- 1: more records than there can be or than the list has entries for, or an entry that is none of theirs
unfoldable pub type_error_at : List ℕ → ℕ → ℕ → Answer
type_error_at errors records i =
    cond (leb records max_records && leb (records * entry_cells) (length errors) && ltb i records)
    (type_error_of (entry_at errors i))
    (Err TooMany)

-- UnconstrainedVar is in the outcome; any other outcome is refused with 2
unfoldable pub type_error_of_outcome : Outcome → Result TypeError Refusal
type_error_of_outcome o = cond (eqb o.number unconstrained_var) (Ok (InferenceFailure o.term)) (Err OutOfRange)

-- what an outcome is, told as an entry is
abbrev pub told : Result TypeError Refusal → Answer
told (Ok e) = Ok (Some e)
told (Err r) = Err r

-- document 01's number of each case, of no error and of a refusal; and the values of each
abbrev pub number_of : Answer → ℕ
number_of (Ok (Some (Mismatch x expected actual))) = inconsistent_constraint
number_of (Ok (Some (InferenceFailure x))) = unconstrained_var
number_of (Ok (Some (AllAlternativeFailed n))) = no_constraint_satisfied
number_of (Ok (Some (Arity h n))) = impossible_case_identified
number_of (Ok None) = 0
number_of (Err r) = refusal.number_of r

abbrev pub values_of : Answer → List ℕ
values_of (Ok (Some (Mismatch x expected actual))) = x ∷ expected ∷ actual ∷ []
values_of (Ok (Some (InferenceFailure x))) = x ∷ []
values_of (Ok (Some (AllAlternativeFailed n))) = n ∷ []
values_of (Ok (Some (Arity h n))) = h ∷ n ∷ []
values_of (Ok None) = []
values_of (Err r) = []

-- the number and the values of an error entry are those that document 01 gives its case; an arity shows expected − 1
pub mismatch_told : (e : Entry) → e.number ≡ inconsistent_constraint →
    (number_of (type_error_of e) ≡ e.number) × (values_of (type_error_of e) ≡ e.first ∷ e.second ∷ e.third ∷ [])
unfolding type_error_of
mismatch_told e h = (rw h, rw h)

pub none_told : (e : Entry) → e.number ≡ no_constraint_satisfied →
    (number_of (type_error_of e) ≡ e.number) × (values_of (type_error_of e) ≡ e.first ∷ [])
unfolding type_error_of
none_told e h = (rw h, rw h)

pub arity_told : (e : Entry) → e.number ≡ impossible_case_identified → expected_fits e.second ≡ true →
    (number_of (type_error_of e) ≡ e.number) × (values_of (type_error_of e) ≡ e.first ∷ (e.second - 1) ∷ [])
unfolding type_error_of
arity_told e h k = (rw (h, k), rw (h, k))

-- and 31's the outcome's
pub open_told : (o : Outcome) → o.number ≡ unconstrained_var →
    (number_of (told (type_error_of_outcome o)) ≡ o.number) × (values_of (told (type_error_of_outcome o)) ≡ o.term ∷ [])
unfolding type_error_of_outcome
open_told o h = (rw h, rw h)
