-- A type error as numbers: document 01's number of its case, then its values, 0 where there is none.
use Rattle.std.specs.Prelude.{ℕ, ◌≡◌, get_or}
use Rattle.std.proofs.Common.{ap, sym}
use Rattle.type_errors.specs.TypeErrors.{Answer, number_of, values_of}
use Rattle.sortlib.specs.declared.Told.{Told}

abbrev pub in_order : (number first second third : ℕ) → Told
in_order number first second third = record { number = number; first = first; second = second; third = third }

abbrev pub told_of : Answer → Told
told_of e = in_order (number_of e) (get_or (values_of e) 0 0) (get_or (values_of e) 1 0) (get_or (values_of e) 2 0)

-- what is told of one is told of what it equals
pub same_told : (e e' : Answer) → e ≡ e' → told_of e' ≡ told_of e
same_told e e' h = sym (ap (λ (t : Answer). told_of t) h)
