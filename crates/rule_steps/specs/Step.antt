-- What reading and adding one atom or action leaves, field by field.
use Rattle.std.specs.Prelude.{ℕ, zero, suc, ◌≤◌, ◌<◌, ◌≡◌, Bool, false, cond, List, [], eqb, length, take, Result, Ok, Err, IfOk}
use Rattle.definition.specs.declared.Counts.{Counts}
use Rattle.definition.specs.declared.Refusal.{Refusal}
use Rattle.definition.specs.declared.Refusal.TheVariants.{NoRoom}
use Rattle.definition.specs.Numbers.{refused}
use Rattle.definition.specs.Sizes.{max_records, max_side, max_tops, max_range, max_terms}
use Rattle.rule_cells.specs.declared.Origin.{Origin}
use Rattle.rule_heads.specs.Alternatives.{Given, alternatives}
use Rattle.rule_steps.specs.declared.Form.{Form}
use Rattle.rule_steps.specs.declared.Form.TheVariants.{Nothing, Equality, Application}
use Rattle.rule_steps.specs.declared.Lengths.{Lengths}
use Rattle.rule_steps.specs.declared.Work.{Work}
use Rattle.rule_steps.specs.declared.adding.Asking.{Asking}
use Rattle.rule_lent.specs.declared.Tables.{Tables as Lent}
use Rattle.rule_lent.specs.declared.calls.Listed.{Listed}
use Rattle.rule_lent.specs.Lend.{is_query}
use Rattle.rule_steps.specs.Ask.{Tables, Source, Ask, ask}
use Rattle.rule_steps.specs.Given.{State, counts_after, after, room_for, early_refusal, ask_refusal, stepped}

-- what is lent, put together from its parts
abbrev pub tables : (signatures : List ℕ) (declared : ℕ) (signature_sorts globals terms : List ℕ) (context : ℕ) → Tables
tables signatures declared signature_sorts globals terms context =
    record { signatures = signatures; declared = declared; signature_sorts = signature_sorts; globals = globals; terms = terms; context = context }

abbrev pub source : Bool → (calls arguments : List ℕ) → Source
source query calls arguments = record { query = query; calls = calls; arguments = arguments }

-- the same of what the code's struct holds
abbrev pub seen_tables : Lent → List ℕ → Tables
seen_tables t terms = tables t.signatures.now t.lent.signatures t.signature_sorts.now t.globals.now terms t.lent.context

abbrev pub seen_source : Listed → Lent → Source
seen_source listed t = source (is_query listed) t.calls.now t.arguments.now

abbrev pub state : Counts → (records side tops range marks : List ℕ) → State
state counts records side tops range marks =
    record { counts = counts; records = records; side = side; tops = tops; range = range; marks = marks }

-- the arguments are few, and the buffers hold what may be asked
pub record Buffers (own args bound : List ℕ) : Type 0 where
  pub few : length own ≤ 2048
  pub args_long : length args ≡ 2049
  pub bound_long : length bound ≡ 2049

-- what is asked, with its lists at the front of two buffers
pub record Asked (a : Ask) (args bound : List ℕ) (w : Work) : Type 0 where
  pub args' : take w.args args ≡ a.args
  pub args_held : w.args ≤ 2049
  pub few : length a.args ≤ 2049
  pub bound' : take w.bound bound ≡ a.bound
  pub bound_held : w.bound ≤ 2049
  pub form : w.form ≡ a.form
  pub fresh : w.fresh ≡ a.fresh
  pub fresh_few : w.fresh ≤ 1
  pub forbidden : w.forbidden ≡ a.forbidden
  pub miscounted : w.miscounted ≡ a.miscounted

-- a head applied to so many arguments; two terms that are equal
abbrev pub applied : (head args bound fresh : ℕ) → Bool → Work
applied head args bound fresh forbidden =
    record { form = Application head; args = args; bound = bound; fresh = fresh; forbidden = forbidden; miscounted = eqb args 0 }

abbrev pub equal : (x y args bound : ℕ) → Bool → Work
equal x y args bound miscounted =
    record { form = Equality x y; args = args; bound = bound; fresh = 0; forbidden = false; miscounted = miscounted }

-- what is asked, from its parts
abbrev pub asked_of : Work → (args bound : List ℕ) → Ask
asked_of w args bound =
    record { args = args; form = w.form; bound = bound; fresh = w.fresh; forbidden = w.forbidden; miscounted = w.miscounted }

abbrev pub asked_by : Asking → Ask
asked_by a = asked_of a.work a.statement.args.now a.bound.now

-- the alternatives of a form's head
unfoldable pub found_for : (signatures : List ℕ) (declared context : ℕ) → Form → List ℕ
found_for signatures declared context Nothing = []
found_for signatures declared context (Equality x y) = []
found_for signatures declared context (Application h) = alternatives signatures declared h context

-- counts small enough that none wraps: what 1 has tested, and 10 after each step
pub record Few (c : Counts) : Type 0 where
  pub records : c.records ≤ max_records
  pub side : c.side ≤ max_side
  pub tops : c.tops ≤ max_tops
  pub range : c.range ≤ max_range
  pub terms : c.terms ≤ max_terms

pub record Steps (declared context : ℕ) (arguments : List ℕ) (c : Counts) : Type 0 where
  pub few : Few c
  pub declared_few : declared ≤ 256
  pub context_few : context < 8
  pub arguments_few : length arguments ≤ 2048

-- the same while one atom or action is added
pub record Adding (c : Counts) (fresh : ℕ) (found args : List ℕ) : Type 0 where
  pub few : Few c
  pub fresh_few : fresh ≤ 1
  pub found_few : length found ≤ 257
  pub args_few : length args ≤ 2049

-- what adding leaves: the lists with all constraints, and the answer, 10 or the counts after it
pub record Adds (l : Lengths) (s : State) (o : Origin) (g : Given) (bound : List ℕ) (fresh : ℕ) (records side tops range marks : List ℕ) (r : Result Counts Refusal) : Type 0 where
  pub answer : r ≡ cond (room_for l (counts_after s.counts s.marks g bound fresh)) (Ok (counts_after s.counts s.marks g bound fresh)) (Err NoRoom)
  pub lists : state (counts_after s.counts s.marks g bound fresh) records side tops range marks ≡ after s o g bound fresh

-- A step writes the lists once 21 to 9 are passed.
unfoldable pub left_by : (refusal : ℕ) → State → State → State
left_by zero s s' = s'
left_by (suc n) s s' = s

-- these are the lists of a state
pub record Lists (s : State) (records side tops range marks : List ℕ) : Type 0 where
  pub records' : records ≡ s.records
  pub side' : side ≡ s.side
  pub tops' : tops ≡ s.tops
  pub range' : range ≡ s.range
  pub marks' : marks ≡ s.marks

-- what a step leaves: its refusal, or the counts after it; `added` and `few'` say it again where nothing is refused
pub record Stepped (T : Tables) (l : Lengths) (c : Source) (s : State) (i : ℕ) (records side tops range marks : List ℕ) (r : Result Counts Refusal) : Type 0 where
  pub number : refused r ≡ ask_refusal T l s.counts s.marks (ask T s.counts.terms c i)
  pub counts' : IfOk r (λ k. k ≡ (stepped T c s i (ask T s.counts.terms c i)).counts)
  pub lists : Lists (left_by (early_refusal T (ask T s.counts.terms c i)) s (stepped T c s i (ask T s.counts.terms c i))) records side tops range marks
  pub added : IfOk r (λ k. state k records side tops range marks ≡ stepped T c s i (ask T s.counts.terms c i))
  pub few' : IfOk r Few
