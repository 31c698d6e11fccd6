-- The kinds of an atom and of a term, each by its number.
use Rattle.std.specs.Prelude.{ℕ, zero, suc, Result, Ok, Err}
use Rattle.definition.specs.declared.Refusal.{Refusal}
use Rattle.definition.specs.declared.Refusal.TheVariants.{OutOfRange}
use Rattle.grounded_body.specs.declared.AtomKind.{AtomKind}
use Rattle.grounded_body.specs.declared.AtomKind.TheVariants.{Function, Primitive, Equality}
use Rattle.grounded_body.specs.declared.TermKind.{TermKind}
use Rattle.grounded_body.specs.declared.TermKind.TheVariants.{Variable, Global, Literal}

abbrev pub atom_number : AtomKind → ℕ
atom_number Function = 0
atom_number Primitive = 1
atom_number Equality = 2

-- the kind with the number; a number above 2 is refused with 2
abbrev pub atom_of_number : ℕ → Result AtomKind Refusal
atom_of_number zero = Ok Function
atom_of_number (suc zero) = Ok Primitive
atom_of_number (suc (suc zero)) = Ok Equality
atom_of_number (suc (suc (suc k))) = Err OutOfRange

abbrev pub term_of_number : ℕ → Result TermKind Refusal
term_of_number zero = Ok Variable
term_of_number (suc zero) = Ok Global
term_of_number (suc (suc zero)) = Ok Literal
term_of_number (suc (suc (suc k))) = Err OutOfRange

-- what an atom is read as: the definitions take any number above 1 for an equality's
abbrev pub atom_kind : ℕ → AtomKind
atom_kind zero = Function
atom_kind (suc zero) = Primitive
atom_kind (suc (suc k)) = Equality
