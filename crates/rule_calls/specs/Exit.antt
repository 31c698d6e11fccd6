-- What a call leaves: its answer and every list that it may write. A refused call changes nothing.
use Rattle.std.specs.Prelude.{ℕ, ◌-◌, ◌*◌, List, [], ◌∷◌, length, take, replicate}
use Rattle.definition.specs.declared.Counts.{Counts}
use Rattle.definition.specs.Sizes.{max_terms}
use Rattle.definition.specs.Lists.{from}
use Rattle.definition.specs.Problem.{Problem}
use Rattle.definition.specs.Refusal.{unless, first_given}
use Rattle.rule_cells.specs.Put.{assign, puts}
use Rattle.rule_signatures.specs.Tables.{term_cells}
use Rattle.rule_heads.specs.Alternatives.{Given, plain}
use Rattle.rule_ranges.specs.Enter.{marked, terms_in}
use Rattle.rule_steps.specs.declared.Lengths.{Lengths}
use Rattle.rule_steps.specs.Ask.{Tables}
use Rattle.rule_steps.specs.Given.{State, Verdict, refused, added, unless_refused, counts_after, after, room_for, run}
use Rattle.rule_lent.specs.Fit.{Lending, source_of, lent_refusal, local_tested}
use Rattle.rule_calls.specs.declared.Added.{Added}

abbrev pub tables_of : Lending → Tables
tables_of d = record {
  signatures = d.signatures;
  declared = d.lent.signatures;
  signature_sorts = take d.lent.signature_sorts d.signature_sorts;
  globals = take d.lent.globals d.globals;
  terms = take (d.problem.counts.terms * term_cells) d.terms;
  context = d.lent.context;
}

abbrev pub lengths_of : Problem → List ℕ → Lengths
lengths_of p terms =
    record { records = length p.records; side = length p.side; tops = length p.tops; range = length p.range; terms = length terms }

-- the marks of the terms that are in the range
abbrev pub marks_of : List ℕ → ℕ → List ℕ
marks_of range n = marked (replicate max_terms 0) (terms_in range (from 0 n))

abbrev pub state_of : Problem → State
state_of p = record {
  counts = p.counts;
  records = p.records;
  side = p.side;
  tops = p.tops;
  range = p.range;
  marks = marks_of p.range p.counts.range;
}

-- a call that passes 1 and 2
abbrev pub call_verdict : Lending → Verdict
call_verdict d =
    unless_refused (lent_refusal d) 0 0
    (run (tables_of d) (lengths_of d.problem d.terms) (source_of d) (state_of d.problem) (from 0 d.lent.calls))

-- its answer, and the lists at exit
unfoldable pub answer_of : Counts → Verdict → Added
answer_of c (refused n h p) = record { number = n; head = h; place = p; counts = c }
answer_of c (added s) = record { number = 0; head = 0; place = 0; counts = s.counts }

unfoldable pub problem_after : Problem → Verdict → Problem
problem_after p (refused n h q) = p
problem_after p (added s) =
    record { counts = s.counts; records = s.records; side = s.side; tops = s.tops; range = s.range }

-- the fresh terms are variables
unfoldable pub terms_after : ℕ → List ℕ → Verdict → List ℕ
terms_after n terms (refused m h p) = terms
terms_after n terms (added s) = puts terms (n * term_cells) (replicate ((s.counts.terms - n) * term_cells) 0)

-- assign_local_var_type: an Assign, and its variable enters the range
abbrev pub local_given : ℕ → ℕ → Given
local_given term sort = plain (assign term sort ∷ [])

unfoldable pub local_refusal : Problem → List ℕ → ℕ → ℕ → ℕ
local_refusal p terms term sort =
    first_given (local_tested p terms term sort)
    (unless (room_for (lengths_of p terms) (counts_after p.counts (marks_of p.range p.counts.range) (local_given term sort) (term ∷ []) 0)) 10 0)

abbrev pub local_verdict : Problem → List ℕ → ℕ → ℕ → ℕ → Verdict
local_verdict p terms term sort place =
    unless_refused (local_refusal p terms term sort) 0 0 (added (after (state_of p) (record { place = place }) (local_given term sort) (term ∷ []) 0))
