-- Everything that a call is lent, put together from its parts.
use Rattle.std.specs.Prelude.{ℕ, Bool, true, false, List, []}
use Rattle.definition.specs.declared.Counts.{Counts}
use Rattle.definition.specs.Problem.{Problem}
use Rattle.solve_records.specs.Lent.{lent as problem_of}
use Rattle.rule_lent.specs.declared.Lent.{Lent}
use Rattle.rule_lent.specs.declared.Tables.{Tables}
use Rattle.rule_lent.specs.declared.calls.Listed.{Listed}
use Rattle.rule_lent.specs.declared.calls.Listed.TheVariants.{Atoms, Actions}
use Rattle.rule_lent.specs.Call.{Source}
use Rattle.rule_lent.specs.Fit.{Lending}

abbrev pub lending : Bool → Lent → Problem → (signatures signature_sorts globals terms calls arguments : List ℕ) → Lending
lending query lent problem signatures signature_sorts globals terms calls arguments =
    record {
      query = query;
      lent = lent;
      problem = problem;
      signatures = signatures;
      signature_sorts = signature_sorts;
      globals = globals;
      terms = terms;
      calls = calls;
      arguments = arguments;
    }

abbrev pub is_query : Listed → Bool
is_query Atoms = true
is_query Actions = false

-- the same of what the code's structs hold
abbrev pub lends : Listed → Tables → List ℕ → Problem → Lending
lends listed t terms problem =
    lending (is_query listed) t.lent problem t.signatures.now t.signature_sorts.now t.globals.now terms t.calls.now t.arguments.now

-- the counts alone, where nothing else of a problem is read
abbrev pub counted : Counts → Problem
counted counts = problem_of counts [] [] [] []

-- the atoms or actions alone, where no argument is read
abbrev pub asked : Bool → List ℕ → Source
asked query calls = record { query = query; calls = calls; arguments = [] }
