-- Refusals 1 and 2 of a generator: tests over all that is lent, which pass where neither is given.
use Rattle.std.specs.Prelude.{ℕ, zero, suc, ◌+◌, ◌*◌, Bool, true, false, ◌&&◌, cond, List, leb, ltb, eqb, length, take}
use Rattle.definition.specs.declared.Counts.{Counts}
use Rattle.definition.specs.Lists.{from, all}
use Rattle.definition.specs.Problem.{Problem}
use Rattle.definition.specs.Refusal.{counts_fit, cells_fit, unless}
use Rattle.rule_signatures.specs.Tables.{signature_cells, term_cells, kind_at, start_at, count_at, common_at, length_at, output_at, term_kind, term_value}
use Rattle.rule_lent.specs.declared.Lent.{Lent}
use Rattle.rule_lent.specs.Call.{Source, call_cells, call_kind, call_cell, x_of, y_of}

-- Everything that a call is lent.
pub record Lending : Type 0 where
  pub query : Bool
  pub lent : Lent
  pub problem : Problem
  pub signatures : List ℕ
  pub signature_sorts : List ℕ
  pub globals : List ℕ
  pub terms : List ℕ
  pub calls : List ℕ
  pub arguments : List ℕ

abbrev pub source_of : Lending → Source
source_of d = record { query = d.query; calls = d.calls; arguments = take d.lent.arguments d.arguments }

-- largest counts
abbrev pub max_signatures : ℕ
max_signatures = 256

abbrev pub max_signature_sorts : ℕ
max_signature_sorts = 2048

abbrev pub max_globals : ℕ
max_globals = 256

abbrev pub max_arguments : ℕ
max_arguments = 2048

-- a context is below this
abbrev pub contexts : ℕ
contexts = 8

-- an exact length is at most this
abbrev pub max_length : ℕ
max_length = 9999

-- 1: no count exceeds its largest size or its list. The number of atoms or actions is bounded by its list alone
abbrev pub terms_counted : ℕ → List ℕ → Bool
terms_counted terms list = leb (terms * term_cells) (length list)

unfoldable pub tables_counted : Lending → Bool
tables_counted d =
    leb d.lent.signatures max_signatures && leb (d.lent.signatures * signature_cells) (length d.signatures)
    && (leb d.lent.signature_sorts max_signature_sorts && leb d.lent.signature_sorts (length d.signature_sorts))
    && (leb d.lent.globals max_globals && leb d.lent.globals (length d.globals))
    && (leb d.lent.arguments max_arguments && leb d.lent.arguments (length d.arguments))
    && leb (d.lent.calls * call_cells) (length d.calls)
    && terms_counted d.problem.counts.terms d.terms

-- 2: a signature's part of the sorts lies within them; a common and an output sort are sorts, an exact length is not too large
unfoldable pub signature_fits_on : List ℕ → ℕ → ℕ → ℕ → ℕ → Bool
signature_fits_on signatures used sorts i zero = leb (start_at signatures i + count_at signatures i) used
signature_fits_on signatures used sorts i (suc zero) = leb (start_at signatures i + count_at signatures i) used
signature_fits_on signatures used sorts i (suc (suc zero)) = leb (start_at signatures i + count_at signatures i) used
signature_fits_on signatures used sorts i (suc (suc (suc zero))) =
    leb (common_at signatures i) sorts && (leb (length_at signatures i) (max_length + 1) && leb (output_at signatures i) sorts)
signature_fits_on signatures used sorts i (suc (suc (suc (suc k)))) = false

unfoldable pub signature_fits : List ℕ → ℕ → ℕ → ℕ → Bool
signature_fits signatures used sorts i = signature_fits_on signatures used sorts i (kind_at signatures i)

-- a term is a variable, a global of any number, or a literal whose sort is one
unfoldable pub term_fits_on : ℕ → ℕ → ℕ → Bool
term_fits_on sorts value zero = true
term_fits_on sorts value (suc zero) = true
term_fits_on sorts value (suc (suc zero)) = ltb value sorts
term_fits_on sorts value (suc (suc (suc k))) = false

unfoldable pub term_cells_fit : List ℕ → ℕ → ℕ → Bool
term_cells_fit terms sorts t = term_fits_on sorts (term_value terms t) (term_kind terms t)

-- a bound term is a variable
abbrev pub variable_fits : List ℕ → ℕ → ℕ → Bool
variable_fits terms n t = ltb t n && eqb (term_kind terms t) 0

-- an atom or action: its kind, its part of the arguments, the terms x and y where its kind reads them
abbrev pub call_part_fits : Source → ℕ → ℕ → Bool
call_part_fits c arguments i = leb (call_cell c i 2 + call_cell c i 3) arguments

unfoldable pub atom_fits : Source → ℕ → ℕ → ℕ → Bool
atom_fits c arguments i zero = call_part_fits c arguments i
atom_fits c arguments i (suc zero) = call_part_fits c arguments i
atom_fits c arguments i (suc (suc k)) = false

unfoldable pub action_fits : List ℕ → ℕ → Source → ℕ → ℕ → ℕ → Bool
action_fits terms n c arguments i zero = call_part_fits c arguments i && variable_fits terms n (x_of c i)
action_fits terms n c arguments i (suc zero) = call_part_fits c arguments i && ltb (x_of c i) n
action_fits terms n c arguments i (suc (suc zero)) = call_part_fits c arguments i
action_fits terms n c arguments i (suc (suc (suc zero))) = ltb (x_of c i) n && ltb (y_of c i) n
action_fits terms n c arguments i (suc (suc (suc (suc zero)))) = variable_fits terms n (x_of c i) && ltb (y_of c i) n
action_fits terms n c arguments i (suc (suc (suc (suc (suc zero))))) = true
action_fits terms n c arguments i (suc (suc (suc (suc (suc (suc k)))))) = false

unfoldable pub call_fits : List ℕ → ℕ → Source → ℕ → ℕ → Bool
call_fits terms n c arguments i = cond c.query (atom_fits c arguments i (call_kind c i)) (action_fits terms n c arguments i (call_kind c i))

unfoldable pub terms_fit : List ℕ → ℕ → ℕ → Bool
terms_fit terms n sorts = all (term_cells_fit terms sorts) (from 0 n)

unfoldable pub tables_fit : Lending → Bool
tables_fit d =
    ltb d.lent.context contexts
    && all (signature_fits d.signatures d.lent.signature_sorts d.problem.counts.sorts) (from 0 d.lent.signatures)
    && all (λ s. ltb s d.problem.counts.sorts) (take d.lent.signature_sorts d.signature_sorts)
    && all (λ g. leb g d.problem.counts.sorts) (take d.lent.globals d.globals)
    && terms_fit d.terms d.problem.counts.terms d.problem.counts.sorts
    && all (λ a. ltb a d.problem.counts.terms) (take d.lent.arguments d.arguments)
    && all (call_fits d.terms d.problem.counts.terms (source_of d) d.lent.arguments) (from 0 d.lent.calls)

-- 1 over all that is lent, then 2: of a problem, and by two tests of what else is lent
abbrev pub refusal_with : Problem → (counted fits : Bool) → ℕ
refusal_with p counted fits = unless (counts_fit p && counted) 1 (unless (cells_fit p && fits) 2 0)

unfoldable pub lent_refusal : Lending → ℕ
lent_refusal d = refusal_with d.problem (tables_counted d) (tables_fit d)

-- a typed local is lent the problem and the terms; its term is a variable, its sort one of the sorts
abbrev pub local_fits : Counts → List ℕ → ℕ → ℕ → Bool
local_fits c terms term sort = terms_fit terms c.terms c.sorts && (variable_fits terms c.terms term && ltb sort c.sorts)

abbrev pub local_tested : Problem → List ℕ → ℕ → ℕ → ℕ
local_tested p terms term sort = refusal_with p (terms_counted p.counts.terms terms) (local_fits p.counts terms term sort)
