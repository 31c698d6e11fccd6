-- The tests of numbers that are kinds, by what the kinds' enums make of them.
use Rattle.std.specs.Prelude.{ℕ, zero, suc, ◌+◌, ◌≡◌, refl, Bool, true, false, cond, ◌&&◌, List, Result, Ok, Err, leb, ltb}
use Rattle.std.specs.Result.{is_ok}
use Rattle.definition.specs.declared.Refusal.{Refusal}
use Rattle.std.proofs.Common.{arith, le-leb}
use Rattle.definition.specs.declared.Refusal.TheVariants.{OutOfRange}
use Rattle.rule_signatures.specs.Tables.{signature_kind, kind_of_term, start_at, count_at, common_at, length_at, output_at, kind_at, term_kind, term_value}
use Rattle.rule_signatures.specs.declared.SignatureKind.{SignatureKind}
use Rattle.rule_signatures.specs.declared.SignatureKind.TheVariants.{Function, Constructor, SimplePrimitive, AllEqualPrimitive}
use Rattle.rule_signatures.specs.declared.TermKind.{TermKind}
use Rattle.rule_signatures.specs.declared.TermKind.TheVariants.{Variable, Global, Literal}
use Rattle.rule_lent.specs.declared.calls.Atom.{Atom}
use Rattle.rule_lent.specs.declared.calls.Action.{Action}
use Rattle.rule_lent.specs.declared.calls.Action.TheVariants.{Let, Set, Change, Union, LetAtomTerm, Panic}
use Rattle.rule_lent.specs.Numbers.{signature_of_number, term_of_number, atom_of_number, action_of_number}
use Rattle.rule_lent.specs.Call.{Source, call_kind, x_of, y_of}
use Rattle.rule_lent.specs.Lend.{asked}
use Rattle.rule_lent.specs.Fit.{max_length, signature_fits_on, signature_fits, term_fits_on, term_cells_fit, variable_fits, call_part_fits, atom_fits, action_fits}

-- a number below the kinds has one, another has none
pub signature_kinds : (n : ℕ) → signature_of_number n ≡ cond (leb 4 n) (Err OutOfRange) (Ok (signature_kind n))
signature_kinds zero = refl
signature_kinds (suc zero) = refl
signature_kinds (suc (suc zero)) = refl
signature_kinds (suc (suc (suc zero))) = refl
signature_kinds (suc (suc (suc (suc k)))) = rw (le-leb 4 (suc (suc (suc (suc k)))) (omega arith))

pub term_kinds : (n : ℕ) → term_of_number n ≡ cond (leb 3 n) (Err OutOfRange) (Ok (kind_of_term n))
term_kinds zero = refl
term_kinds (suc zero) = refl
term_kinds (suc (suc zero)) = refl
term_kinds (suc (suc (suc k))) = rw (le-leb 3 (suc (suc (suc k))) (omega arith))

-- a term that was read
abbrev pub term_tested : ℕ → ℕ → Result TermKind Refusal → Bool
term_tested sorts value (Ok Variable) = true
term_tested sorts value (Ok Global) = true
term_tested sorts value (Ok Literal) = ltb value sorts
term_tested sorts value (Err e) = false

term_on : (sorts value k : ℕ) → term_fits_on sorts value k ≡ term_tested sorts value (term_of_number k)
unfolding term_fits_on
term_on sorts value zero = refl
term_on sorts value (suc zero) = refl
term_on sorts value (suc (suc zero)) = refl
term_on sorts value (suc (suc (suc k))) = refl

pub term_told : (terms : List ℕ) (sorts t : ℕ) (r : Result TermKind Refusal) → r ≡ term_of_number (term_kind terms t) →
    term_cells_fit terms sorts t ≡ term_tested sorts (term_value terms t) r
unfolding term_cells_fit
term_told terms sorts t r e = rw e (term_on sorts (term_value terms t) (term_kind terms t))

-- a signature that was read
abbrev pub signature_tested : List ℕ → ℕ → ℕ → ℕ → Result SignatureKind Refusal → Bool
signature_tested signatures used sorts i (Ok Function) = leb (start_at signatures i + count_at signatures i) used
signature_tested signatures used sorts i (Ok Constructor) = leb (start_at signatures i + count_at signatures i) used
signature_tested signatures used sorts i (Ok SimplePrimitive) = leb (start_at signatures i + count_at signatures i) used
signature_tested signatures used sorts i (Ok AllEqualPrimitive) =
    leb (common_at signatures i) sorts && (leb (length_at signatures i) (max_length + 1) && leb (output_at signatures i) sorts)
signature_tested signatures used sorts i (Err e) = false

signature_on : (signatures : List ℕ) (used sorts i k : ℕ) → signature_fits_on signatures used sorts i k ≡ signature_tested signatures used sorts i (signature_of_number k)
unfolding signature_fits_on
signature_on signatures used sorts i zero = refl
signature_on signatures used sorts i (suc zero) = refl
signature_on signatures used sorts i (suc (suc zero)) = refl
signature_on signatures used sorts i (suc (suc (suc zero))) = refl
signature_on signatures used sorts i (suc (suc (suc (suc k)))) = refl

pub signature_told : (signatures : List ℕ) (used sorts i : ℕ) (r : Result SignatureKind Refusal) → r ≡ signature_of_number (kind_at signatures i) →
    signature_fits signatures used sorts i ≡ signature_tested signatures used sorts i r
unfolding signature_fits
signature_told signatures used sorts i r e = rw e (signature_on signatures used sorts i (kind_at signatures i))

-- an atom that was read
atom_on : (c : Source) (arguments i k : ℕ) → atom_fits c arguments i k ≡ (is_ok (atom_of_number k) && call_part_fits c arguments i)
unfolding atom_fits
atom_on c arguments i zero = refl
atom_on c arguments i (suc zero) = refl
atom_on c arguments i (suc (suc k)) = refl

pub atom_told : (q : Bool) (calls : List ℕ) (arguments i : ℕ) (r : Result Atom Refusal) → r ≡ atom_of_number (call_kind (asked q calls) i) →
    atom_fits (asked q calls) arguments i (call_kind (asked q calls) i) ≡ (is_ok r && call_part_fits (asked q calls) arguments i)
atom_told q calls arguments i r e = rw e (atom_on (asked q calls) arguments i (call_kind (asked q calls) i))

-- an action that was read
abbrev pub action_tested : List ℕ → ℕ → Source → ℕ → ℕ → Result Action Refusal → Bool
action_tested terms n c arguments i (Ok Let) = call_part_fits c arguments i && variable_fits terms n (x_of c i)
action_tested terms n c arguments i (Ok Set) = call_part_fits c arguments i && ltb (x_of c i) n
action_tested terms n c arguments i (Ok Change) = call_part_fits c arguments i
action_tested terms n c arguments i (Ok Union) = ltb (x_of c i) n && ltb (y_of c i) n
action_tested terms n c arguments i (Ok LetAtomTerm) = variable_fits terms n (x_of c i) && ltb (y_of c i) n
action_tested terms n c arguments i (Ok Panic) = true
action_tested terms n c arguments i (Err e) = false

action_on : (terms : List ℕ) (n : ℕ) (c : Source) (arguments i k : ℕ) → action_fits terms n c arguments i k ≡ action_tested terms n c arguments i (action_of_number k)
unfolding action_fits
action_on terms n c arguments i zero = refl
action_on terms n c arguments i (suc zero) = refl
action_on terms n c arguments i (suc (suc zero)) = refl
action_on terms n c arguments i (suc (suc (suc zero))) = refl
action_on terms n c arguments i (suc (suc (suc (suc zero)))) = refl
action_on terms n c arguments i (suc (suc (suc (suc (suc zero))))) = refl
action_on terms n c arguments i (suc (suc (suc (suc (suc (suc k)))))) = refl

pub action_told : (terms : List ℕ) (n : ℕ) (q : Bool) (calls : List ℕ) (arguments i : ℕ) (r : Result Action Refusal) → r ≡ action_of_number (call_kind (asked q calls) i) →
    action_fits terms n (asked q calls) arguments i (call_kind (asked q calls) i) ≡ action_tested terms n (asked q calls) arguments i r
action_told terms n q calls arguments i r e = rw e (action_on terms n (asked q calls) arguments i (call_kind (asked q calls) i))
