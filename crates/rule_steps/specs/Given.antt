-- The constraints that an atom or an action gives, the lists with them, its refusals, and a whole call.
use Rattle.std.specs.Prelude.{ℕ, zero, suc, ◌+◌, ◌*◌, Bool, ◌&&◌, cond, List, [], ◌∷◌, ◌++◌, leb, length}
use Rattle.definition.specs.declared.Counts.{Counts}
use Rattle.definition.specs.Sizes.{max_records, max_side, max_tops, max_range, max_terms, record_cells, range_cells}
use Rattle.definition.specs.Refusal.{first_given}
use Rattle.rule_cells.specs.declared.Origin.{Origin}
use Rattle.rule_cells.specs.Put.{eq, puts, lay}
use Rattle.rule_signatures.specs.Tables.{unbound, term_cells}
use Rattle.rule_signatures.specs.Gives.{fixed, any}
use Rattle.rule_heads.specs.Alternatives.{Given, plain, alternatives, head_gives, head_refusal}
use Rattle.rule_heads.specs.Layout.{records_of, side_of, tops_of}
use Rattle.rule_ranges.specs.Enter.{new, marked, entries}
use Rattle.rule_steps.specs.declared.Form.{Form}
use Rattle.rule_steps.specs.declared.Form.TheVariants.{Nothing, Equality, Application}
use Rattle.rule_steps.specs.declared.Lengths.{Lengths}
use Rattle.rule_steps.specs.Ask.{Tables, Source, Ask, ask, head_of, place_of}

-- first one Assign for each literal or global, then what the form says
abbrev pub alternatives_of : Tables → ℕ → List ℕ
alternatives_of T head = alternatives T.signatures T.declared head T.context

unfoldable pub given_on : Tables → List ℕ → Form → Given
given_on T args Nothing = plain (fixed T.terms T.globals args)
given_on T args (Equality x y) = plain (fixed T.terms T.globals args ++ eq x y ∷ [])
given_on T args (Application h) =
    head_gives T.signatures T.signature_sorts args (fixed T.terms T.globals args) (alternatives_of T h)

abbrev pub given : Tables → Ask → Given
given T a = given_on T a.args a.form

-- What a call works on: the counts, the lists it adds to, and the marks of the terms in the range.
pub record State : Type 0 where
  pub counts : Counts
  pub records : List ℕ
  pub side : List ℕ
  pub tops : List ℕ
  pub range : List ℕ
  pub marks : List ℕ

-- the counts and the lists with these constraints, these range terms and so many fresh terms
unfoldable pub counts_after : Counts → List ℕ → Given → List ℕ → ℕ → Counts
counts_after c marks g bound fresh = record {
  records = c.records + length (records_of c.records c.side g);
  side = c.side + length (side_of c.records g);
  tops = c.tops + length (tops_of c.records c.side g);
  range = c.range + length (new marks bound);
  terms = c.terms + fresh;
  sorts = c.sorts;
}

unfoldable pub after : State → Origin → Given → List ℕ → ℕ → State
after s o g bound fresh = record {
  counts = counts_after s.counts s.marks g bound fresh;
  records = lay o s.records s.counts.records (records_of s.counts.records s.counts.side g);
  side = puts s.side s.counts.side (side_of s.counts.records g);
  tops = puts s.tops s.counts.tops (tops_of s.counts.records s.counts.side g);
  range = puts s.range (s.counts.range * range_cells) (entries o.place (new s.marks bound));
  marks = marked s.marks bound;
}

-- 10: no count passes its largest size or its list
unfoldable pub room_for : Lengths → Counts → Bool
room_for l c =
    leb c.records max_records && leb (c.records * record_cells) l.records
    && (leb c.side max_side && leb c.side l.side)
    && (leb c.tops max_tops && leb c.tops l.tops)
    && (leb c.range max_range && leb (c.range * range_cells) l.range)
    && (leb c.terms max_terms && leb (c.terms * term_cells) l.terms)

-- 20 and 8
unfoldable pub form_refusal : Tables → Form → ℕ
form_refusal T Nothing = 0
form_refusal T (Equality x y) = 0
form_refusal T (Application h) = head_refusal T.signatures (alternatives_of T h)

-- 21, 7, 20, 8, 9, in this order; 0 for none
unfoldable pub early_refusal : Tables → Ask → ℕ
early_refusal T a =
    cond a.forbidden 21
    (cond a.miscounted 7
    (first_given (form_refusal T a.form) (cond (any (unbound T.terms T.globals) a.args) 9 0)))

-- and 10 after them
unfoldable pub ask_refusal : Tables → Lengths → Counts → List ℕ → Ask → ℕ
ask_refusal T l c marks a =
    first_given (early_refusal T a) (cond (room_for l (counts_after c marks (given T a) a.bound a.fresh)) 0 10)

-- How a call ends: refused with its number, head and place, or all is added.
pub data Verdict : Type 0 where
  refused : ℕ → ℕ → ℕ → Verdict
  added : State → Verdict

-- 20 and 21 are of the head: they carry it and the place
abbrev pub of_head : ℕ → ℕ → ℕ
of_head number value = cond (leb 20 number) value 0

unfoldable pub unless_refused : ℕ → ℕ → ℕ → Verdict → Verdict
unless_refused zero head place rest = rest
unless_refused (suc n) head place rest = refused (suc n) (of_head (suc n) head) (of_head (suc n) place)

-- the atoms or actions in order; the first that is refused ends it
abbrev pub origin_of : Source → ℕ → Origin
origin_of c i = record { place = place_of c i }

abbrev pub stepped : Tables → Source → State → ℕ → Ask → State
stepped T c s i a = after s (origin_of c i) (given T a) a.bound a.fresh

unfoldable pub run : Tables → Lengths → Source → State → List ℕ → Verdict
run T l c s [] = added s
run T l c s (i ∷ is) =
    let a = ask T s.counts.terms c i in
    unless_refused (ask_refusal T l s.counts s.marks a) (head_of c i) (place_of c i) (run T l c (stepped T c s i a) is)
