-- What an entry point leaves, field by field.
use Rattle.std.specs.Prelude.{ℕ, ◌-◌, ◌*◌, ◌≤◌, ◌≡◌, Result, Ok, Err, List, length}
use Rattle.definition.specs.declared.Counts.{Counts}
use Rattle.definition.specs.declared.Refusal.{Refusal}
use Rattle.definition.specs.Numbers.{number_of}
use Rattle.definition.specs.Sizes.{range_cells}
use Rattle.definition.specs.Lists.{from}
use Rattle.definition.specs.Problem.{Problem}
use Rattle.rule_lent.specs.declared.Lent.{Lent}
use Rattle.rule_lent.specs.declared.Tables.{Tables as LentTables}
use Rattle.rule_lent.specs.declared.calls.Listed.{Listed}
use Rattle.rule_steps.specs.declared.Lengths.{Lengths}
use Rattle.rule_steps.specs.Ask.{Tables, Source}
use Rattle.rule_calls.specs.declared.Added.{Added}
use Rattle.rule_calls.specs.declared.Refused.{Refused}
use Rattle.rule_steps.specs.Given.{State, Verdict, refused, added, of_head, run}
use Rattle.rule_steps.specs.Step.{seen_tables, seen_source, Few, Steps}
use Rattle.rule_calls.specs.Exit.{answer_of, problem_after, terms_after}

-- what a call answers that reached these counts, or was refused where it had these before it
abbrev pub told : Counts → Result Counts Refused → Added
told before (Ok counts) = record { number = 0; head = 0; place = 0; counts = counts }
told before (Err r) = record { number = number_of r.refusal; head = r.head; place = r.place; counts = before }

-- a refusal that carries no head and no place
abbrev pub headless : Refusal → Refused
headless refusal = record { refusal = refusal; head = 0; place = 0 }

-- 20 and 21 carry the head and the place
abbrev pub refused_with : ℕ → ℕ → ℕ → Counts → Added
refused_with number head place counts =
    record { number = number; head = of_head number head; place = of_head number place; counts = counts }

-- the verdict of a run over these tables and terms, from a state on
abbrev pub verdict_over : Listed → LentTables → List ℕ → Lengths → State → Verdict
verdict_over listed t terms lengths s =
    run (seen_tables t terms) lengths (seen_source listed t) s (from 0 t.lent.calls)

-- a typed local: the answer, and the three lists that it may write
pub record LocalLeft (p : Problem) (v : Verdict) (records tops range : List ℕ) (r : Added) : Type 0 where
  pub answer : r ≡ answer_of p.counts v
  pub records' : records ≡ (problem_after p v).records
  pub tops' : tops ≡ (problem_after p v).tops
  pub range' : range ≡ (problem_after p v).range

-- The lists that a call adds to.
pub record Holds (p : Problem) (records side tops range : List ℕ) : Type 0 where
  pub records' : records ≡ p.records
  pub side' : side ≡ p.side
  pub tops' : tops ≡ p.tops
  pub range' : range ≡ p.range

-- at a run's end: nothing is said of them where it is refused
abbrev pub Filled : Verdict → (records side tops range : List ℕ) → Type 0
Filled (refused n h q) records side tops range = Unit {0}
Filled (added s) records side tops range =
    Holds (record { counts = s.counts; records = s.records; side = s.side; tops = s.tops; range = s.range }) records side tops range

-- numbers small enough that none wraps, and the range's entries are there
pub record Ready (lent : Lent) (arguments range : List ℕ) (c : Counts) : Type 0 where
  pub steps : Steps lent.signatures lent.context arguments c
  pub range_lent : c.range * range_cells ≤ length range

-- while atoms or actions are left: what these give from here is what all give from the start
pub record Going (T : Tables) (l : Lengths) (c : Source) (start s : State) (i n : ℕ) : Type 0 where
  pub rest : run T l c s (from i (n - i)) ≡ run T l c start (from 0 n)
  pub few : Few s.counts

pub record RunLeft (o : Counts) (v : Verdict) (records side tops range : List ℕ) (r : Added) : Type 0 where
  pub answer : r ≡ answer_of o v
  pub lists : Filled v records side tops range

-- a query: the answer, and the four lists that it may write
pub record CallLeft (p : Problem) (v : Verdict) (records side tops range : List ℕ) (r : Added) : Type 0 where
  pub answer : r ≡ answer_of p.counts v
  pub lists : Holds (problem_after p v) records side tops range

-- actions: the list of terms, too, where the fresh ones are cleared
pub record ActionsLeft (p : Problem) (v : Verdict) (terms cleared records side tops range : List ℕ) (r : Added) : Type 0 where
  pub left : CallLeft p v records side tops range r
  pub terms' : cleared ≡ terms_after p.counts.terms terms v
