-- The numbers of the kinds of signatures, terms, atoms and actions, as the code's enums have them.
use Rattle.std.specs.Prelude.{ℕ, zero, suc, Result, Ok, Err}
use Rattle.definition.specs.declared.Refusal.{Refusal}
use Rattle.definition.specs.declared.Refusal.TheVariants.{OutOfRange}
use Rattle.rule_signatures.specs.declared.SignatureKind.{SignatureKind}
use Rattle.rule_signatures.specs.declared.SignatureKind.TheVariants.{Function, Constructor, SimplePrimitive, AllEqualPrimitive}
use Rattle.rule_signatures.specs.declared.TermKind.{TermKind}
use Rattle.rule_signatures.specs.declared.TermKind.TheVariants.{Variable, Global, Literal}
use Rattle.rule_lent.specs.declared.calls.Atom.{Atom}
use Rattle.rule_lent.specs.declared.calls.Atom.TheVariants.{Applies, Equality}
use Rattle.rule_lent.specs.declared.calls.Action.{Action}
use Rattle.rule_lent.specs.declared.calls.Action.TheVariants.{Let, Set, Change, Union, LetAtomTerm, Panic}

-- a number that is no kind is refused with 2
abbrev pub signature_of_number : ℕ → Result SignatureKind Refusal
signature_of_number zero = Ok Function
signature_of_number (suc zero) = Ok Constructor
signature_of_number (suc (suc zero)) = Ok SimplePrimitive
signature_of_number (suc (suc (suc zero))) = Ok AllEqualPrimitive
signature_of_number (suc (suc (suc (suc k)))) = Err OutOfRange

abbrev pub term_of_number : ℕ → Result TermKind Refusal
term_of_number zero = Ok Variable
term_of_number (suc zero) = Ok Global
term_of_number (suc (suc zero)) = Ok Literal
term_of_number (suc (suc (suc k))) = Err OutOfRange

abbrev pub atom_of_number : ℕ → Result Atom Refusal
atom_of_number zero = Ok Applies
atom_of_number (suc zero) = Ok Equality
atom_of_number (suc (suc k)) = Err OutOfRange

abbrev pub action_of_number : ℕ → Result Action Refusal
action_of_number zero = Ok Let
action_of_number (suc zero) = Ok Set
action_of_number (suc (suc zero)) = Ok Change
action_of_number (suc (suc (suc zero))) = Ok Union
action_of_number (suc (suc (suc (suc zero)))) = Ok LetAtomTerm
action_of_number (suc (suc (suc (suc (suc zero))))) = Ok Panic
action_of_number (suc (suc (suc (suc (suc (suc k)))))) = Err OutOfRange
