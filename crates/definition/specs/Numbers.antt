-- Document 01's numbers: of a refusal, of a kind of records.
use Rattle.std.specs.Prelude.{ℕ, zero, suc, Result, Ok, Err}
use Rattle.definition.specs.declared.Refusal.{Refusal}
use Rattle.definition.specs.declared.Refusal.TheVariants.{TooMany, OutOfRange, NotTrees, TooDeep, SmallWork, ShortList, Miscounted, Empty, Unbound, NoRoom, UnboundFunction, SetConstructorDisallowed, Malformed, Unknown, TooLong}
use Rattle.definition.specs.declared.Kind.{Kind}
use Rattle.definition.specs.declared.Kind.TheVariants.{Eq, Assign, And, Xor, Impossible, Implies}
use Rattle.definition.specs.declared.Outcome.{Outcome}

abbrev pub number_of : Refusal → ℕ
number_of TooMany = 1
number_of OutOfRange = 2
number_of NotTrees = 3
number_of TooDeep = 4
number_of SmallWork = 5
number_of ShortList = 6
number_of Miscounted = 7
number_of Empty = 8
number_of Unbound = 9
number_of NoRoom = 10
number_of UnboundFunction = 20
number_of SetConstructorDisallowed = 21
number_of Malformed = 50
number_of Unknown = 51
number_of TooLong = 52

-- the number of the refusal, 0 where nothing is refused
abbrev pub refused : {A : Type 0} → Result A Refusal → ℕ
refused (Ok a) = 0
refused (Err r) = number_of r

abbrev pub kind_number : Kind → ℕ
kind_number Eq = 0
kind_number Assign = 1
kind_number And = 2
kind_number Xor = 3
kind_number Impossible = 4
kind_number Implies = 5

-- the kind with the number; a number above 5 is refused with 2
abbrev pub kind_of_number : ℕ → Result Kind Refusal
kind_of_number zero = Ok Eq
kind_of_number (suc zero) = Ok Assign
kind_of_number (suc (suc zero)) = Ok And
kind_of_number (suc (suc (suc zero))) = Ok Xor
kind_of_number (suc (suc (suc (suc zero)))) = Ok Impossible
kind_of_number (suc (suc (suc (suc (suc zero))))) = Ok Implies
kind_of_number (suc (suc (suc (suc (suc (suc k)))))) = Err OutOfRange

-- the outcome of a refusal with this number
abbrev pub refused_by : ℕ → Outcome
refused_by number = record { number = number; passes = 0; term = 0; place = 0 }
