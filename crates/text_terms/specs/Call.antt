-- The call of a line, by the numbers of its words.
use Rattle.std.specs.Prelude.{ℕ, ◌+◌, ◌-◌, ◌*◌, ◌<◌, ◌≤◌, ◌≡◌, Bool, ◌&&◌, cond, Option, Some, None, is_some, List, [], ◌∷◌, eqb, ltb, length, get_or}
use Rattle.definition.specs.Refusal.{first_given}
use Rattle.definition.specs.Numbers.{refused}
use Rattle.definition.specs.declared.Counts.{Counts}
use Rattle.rule_lent.specs.Fit.{contexts, max_signatures}
use Rattle.rule_lent.specs.declared.Lent.{Lent}
use Rattle.text_words.specs.Parts.{parts_of, part_cells, find, Whole, all_of}
use Rattle.text_grammar.specs.Bytes.{Word}
use Rattle.text_definition.specs.declared.Numbers.{Numbers}
use Rattle.text_definition.specs.declared.Declared.{Declared}
use Rattle.text_words.specs.declared.parts.Parts.{Parts}
use Rattle.text_definition.specs.Run.{at}
use Rattle.text_terms.specs.declared.shape.Shape.{Shape}
use Rattle.text_terms.specs.declared.shape.Way.{Way}
use Rattle.text_terms.specs.declared.call.Call.{Call}
use Rattle.text_terms.specs.declared.hearing.Heard.{Heard}
use Rattle.text_terms.specs.Shape.{is_local, fitting, Shaped}
use Rattle.text_terms.specs.Named.{Room, LineNamed}
use Rattle.rule_heads.specs.Alternatives.{function_of, is_constructor, alternatives, head_refusal}

-- The refusal of a line with too many terms: of n signatures, in this context, by the kind of its call and its head
unfoldable pub too_many_on : List ℕ → ℕ → ℕ → ℕ → Bool → ℕ → ℕ
too_many_on signatures n context kind headed head =
    cond headed
    (cond (eqb kind 1 && is_constructor signatures (function_of signatures n head)) 21
    (first_given (head_refusal signatures (alternatives signatures n head context)) 10))
    10

-- the number of word i where i lies before the end, else 0
abbrev pub number_at : List ℕ → ℕ → ℕ → ℕ
number_at numbers i end = cond (ltb i end) (get_or numbers i 0) 0

-- the number of the name that a word is, 0 where the line has no such word
abbrev pub number_of : Option ℕ → List Word → List Word → ℕ
number_of None ws names = 0
number_of (Some i) ws names = find (at ws i) names

-- the call of a line of this shape, at this place: `head_names` are the heads' names
abbrev pub call_by : Shape → List Word → List Word → List ℕ → ℕ → Call
call_by h ws head_names numbers place = record {
  kind = h.kind;
  head = number_of h.head ws head_names;
  start = h.args.start;
  given = h.args.end - h.args.start;
  x = number_at numbers h.others.start h.others.end;
  y = number_at numbers (h.others.start + 1) h.others.end;
  place = place;
}

-- the sort of a typed local; w is its word
abbrev pub sort_by : Way → Word → List Word → ℕ
sort_by way w sort_names = cond (is_local way) (find w sort_names) 0

-- its eight cells
abbrev pub call_cells : Call → List ℕ
call_cells c = c.kind ∷ c.head ∷ 0 ∷ c.given ∷ c.x ∷ c.y ∷ c.place ∷ 0 ∷ []

-- what a call is lent, and the problem's counts, with so many terms
abbrev pub lent_by : Numbers → ℕ → Lent
lent_by n given = record { signatures = n.heads; signature_sorts = n.used; globals = n.globals; context = n.context; calls = 1; arguments = given }

abbrev pub counts_by : Numbers → ℕ → Counts
counts_by n term_names = record {
  records = n.problem.records;
  side = n.problem.side;
  tops = n.problem.tops;
  range = n.problem.range;
  terms = term_names;
  sorts = n.sorts;
}

-- the numbers after a call that left these counts
abbrev pub numbers_by : Numbers → Counts → Numbers
numbers_by n counts = record {
  sorts = n.sorts;
  globals = n.globals;
  heads = n.heads;
  terms = counts.terms;
  used = n.used;
  context = n.context;
  problem = counts;
}

-- what the tables hold a line of k words can be heard by
pub record Hearable (h : Shape) (l : Parts) (d : Declared) (term_names : List ℕ) : Type 0 where
  pub shaped : Shaped h l.count
  pub words' : Whole l
  pub heads' : d.numbers.heads * part_cells ≤ length d.head_names.now
  pub room : Room d d.numbers.terms term_names
  pub context< : d.numbers.context < contexts
  pub heads≤ : d.numbers.heads ≤ max_signatures

-- A line of k words is heard: its terms are named, `count` of them; its call, a typed local's sort, and its refusal where they
-- are too many.
pub record Hears (h : Shape) (l : Parts) (place : ℕ) (d : Declared) (term_names terms numbers : List ℕ) (r : Heard) (term_names' terms' numbers' : List ℕ) : Type 0 where
  pub line : LineNamed l h d term_names terms numbers r.named term_names' terms' numbers'
  pub call' : r.call ≡ call_by h (all_of l) (parts_of l.text.now d.head_names.now d.numbers.heads) numbers' place
  pub sort' : r.sort ≡ sort_by h.way (at (all_of l) 2) (parts_of l.text.now d.sort_names.now d.numbers.sorts)
  pub full' : refused r.full ≡ cond (fitting r.named (l.count - h.args.start)) 0 (too_many_on d.signatures.now d.numbers.heads d.numbers.context h.kind (is_some h.head) r.call.head)
