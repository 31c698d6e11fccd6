-- How a text ends: what its lines left, and what solve made of it.
use Rattle.std.specs.Prelude.{ℕ, ◌*◌, ◌<◌, ◌≤◌, ◌≡◌, Bool, List, [], eqb, length, replicate, Result, Ok, Err}
use Rattle.std.proofs.Common.{arith, sym, ◌∙◌, lt-ltb, le-ltb, ne_eqb}
use Rattle.std.proofs.Math.Path.{refl, ap}
use Rattle.std.proofs.Math.Bool.{true, false}
use Rattle.definition.specs.Sizes.{max_records, max_side, max_tops, max_range, max_terms, record_cells, range_cells}
use Rattle.definition.specs.declared.Counts.{Counts}
use Rattle.definition.specs.declared.Outcome.{Outcome}
use Rattle.definition.specs.Buffers.{Exit, exit}
use Rattle.solve_records.specs.Lent.{lent}
use Rattle.solver.specs.Entry.{Solved}
use Rattle.rule_signatures.specs.Tables.{signature_cells, term_cells}
use Rattle.rule_lent.specs.Fit.{max_signatures, max_signature_sorts, max_globals}
use Rattle.text_words.specs.Bytes.{line_feed}
use Rattle.text_words.specs.Parts.{split, parts_from}
use Rattle.text_words.specs.Laws.Parts.{parts_count}
use Rattle.text_definition.specs.declared.Numbers.{Numbers}
use Rattle.text_definition.specs.declared.Ended.{Ended}
use Rattle.text_definition.specs.Decls.{Decls, start}
use Rattle.text_definition.specs.Run.{Run, going, stopped, on_lines, refused_at as stopped_at, solved, end_of, unless_long, text_end, max_bytes}
use Rattle.text_definition.specs.Store.{Store, Within, decls_of, exit_of, end_from}
use Rattle.text_calls.specs.Laws.Once.{same_numbers}
use Rattle.text_lines.specs.declared.Printed.{Printed}
use Rattle.text_lines.specs.declared.Lists.{Lists}
use Rattle.text_lines.specs.declared.run.Refused.{Refused}
use Rattle.text_lines.specs.Lists.{store_in}
use Rattle.text_lines.specs.Run.{none, LinesRead}
use Rattle.text_lines.specs.Laws.Run.{none_within}
use Rattle.text_lines.specs.Ending.{counts_of, exit_from, exit_after, refused_at, refused_by, Finished, Long, whole}

-- 52
pub long_ends : (s : List ℕ) (r : Ended) (t : Store) (e : Exit) → max_bytes < length s → r ≡ refused_at 52 0 → end_from s r t e ≡ text_end s
unfolding unless_long
long_ends s r t e h p = rw (p, lt-ltb max_bytes (length s) h)

-- lists of one length
pub zeroes : {m k : ℕ} → m ≡ k → replicate {A = ℕ} m 0 ≡ replicate k 0
zeroes e = ap (λ (k : ℕ). replicate {A = ℕ} k 0) e

-- the lists that are cleared are those of the start
pub cleared : (s : List ℕ) (t : Store) → t.signatures ≡ replicate (max_signatures * signature_cells) 0 → t.signature_sorts ≡ replicate max_signature_sorts 0
    → t.globals ≡ replicate max_globals 0 → t.terms ≡ replicate (max_terms * term_cells) 0 → t.records ≡ replicate (max_records * record_cells) 0
    → t.side ≡ replicate max_side 0 → t.tops ≡ replicate max_tops 0 → t.range ≡ replicate (max_range * range_cells) 0 → decls_of s none t ≡ start
unfolding start parts_from
cleared s t a b c d e f g h i = record {
  sort_names = [];
  global_names = [];
  head_names = [];
  term_names = [];
  signatures = a i;
  used = 0;
  signature_sorts = b i;
  globals = c i;
  terms = d i;
  context = 0;
  problem = record { counts = record { records = 0; side = 0; tops = 0; range = 0; terms = 0; sorts = 0 }; records = e i; side = f i; tops = g i; range = h i };
}

-- how a refusal ends a text
module _ (e : Refused) (no : e.number ≡ 0 → ⊥) (r : Ended) (p : r ≡ refused_by e) where
  pub refused_whole : r ≡ whole r
  refused_whole = rw (p, ne_eqb e.number 0 no)

  pub refused_ends : (s : List ℕ) (t : Store) (x : Exit) → end_from s r t x ≡ stopped_at e.number e.place
  refused_ends s t x = rw (p, ne_eqb e.number 0 no)

pub refused_within : (e : Refused) (r : Ended) → r ≡ refused_by e → Within r.numbers
refused_within e r p = rw p none_within

-- the last step, by whether a line was refused
pub finish_refused : (e : Refused) (p : Printed) (l : Lists) (r : Ended) (work' sort_list' errors' : List ℕ) → r ≡ refused_by e
    → work' ≡ replicate (length l.work) 0 → sort_list' ≡ replicate (length p.sort_list) 0 → errors' ≡ replicate (length p.errors) 0
    → Finished (Err e) p l r
    (record { sort_names = p.sort_names; head_names = p.head_names; term_names = p.term_names; sort_list = sort_list'; errors = errors' })
    (record { global_names = l.global_names; signatures = l.signatures; signature_sorts = l.signature_sorts; globals = l.globals; terms = l.terms; records = l.records; side = l.side; tops = l.tops; range = l.range; words = l.words; numbers = l.numbers; work = work' })
finish_refused e p l r work' sort_list' errors' h w v u = record {
  ended = h;
  left = λ i. record { outcome = (h i).outcome; work = w i; sort_list = v i; errors = u i };
  kept = refl;
  scratch = (refl, refl);
}

pub finish_solved : (n : Numbers) (p : Printed) (l : Lists) (counts : Counts) (outcome : Outcome) (work' sort_list' errors' : List ℕ) → Long p l → counts ≡ counts_of n
    → Solved (lent counts l.records l.side l.tops l.range) (replicate (length l.work) 0) (replicate (length p.sort_list) 0) (replicate (length p.errors) 0) outcome work' sort_list' errors'
    → Finished (Ok n) p l (record { refused = 0; place = 0; outcome = outcome; numbers = n })
    (record { sort_names = p.sort_names; head_names = p.head_names; term_names = p.term_names; sort_list = sort_list'; errors = errors' })
    (record { global_names = l.global_names; signatures = l.signatures; signature_sorts = l.signature_sorts; globals = l.globals; terms = l.terms; records = l.records; side = l.side; tops = l.tops; range = l.range; words = l.words; numbers = l.numbers; work = work' })
finish_solved n p l counts outcome work' sort_list' errors' long c q =
    let whole : exit (lent counts l.records l.side l.tops l.range) (replicate (length l.work) 0) (replicate (length p.sort_list) 0) (replicate (length p.errors) 0) ≡ exit_from n p l =
    λ i. exit (lent (c i) l.records l.side l.tops l.range) (replicate (length l.work) 0) (replicate (length p.sort_list) 0) (replicate (length p.errors) 0) in
    record {
      ended = λ i. record { refused = 0; place = 0; outcome = (q.outcome ∙ ap (λ (x : Exit). x.outcome) whole) i; numbers = n };
      left = (λ i. record { outcome = q.outcome i; work = q.work_at_exit i; sort_list = q.sort_list_at_exit i; errors = q.errors_at_exit i }) ∙ whole;
      kept = refl;
      scratch = (refl, refl);
      long = long;
    }

-- either way the outcome and the three lists are what solve leaves, or zeroes
pub finished_left : (lines : Result Numbers Refused) (p : Printed) (l : Lists) (r : Ended) (p' : Printed) (l' : Lists) → Finished lines p l r p' l'
    → record { outcome = r.outcome; work = l'.work; sort_list = p'.sort_list; errors = p'.errors } ≡ exit_after lines p l
finished_left (Ok n) p l r p' l' f = f.left
finished_left (Err e) p l r p' l' f = f.left

-- what the three clauses of `read_text` say
abbrev pub TextRead : List ℕ → Ended → Printed → Lists → Type 0
TextRead s r p l = (end_from s r (store_in p l) (exit_of r l.work p.sort_list p.errors) ≡ text_end s) × (Within r.numbers × (r ≡ whole r))

all_lines : (s : List ℕ) (d : Decls) (q : Run) → d ≡ start → length s ≤ max_bytes → q ≡ on_lines (going d) 1 (split line_feed s) → end_of q ≡ text_end s
unfolding unless_long
all_lines s d q started short e = ap end_of e ∙ rw (le-ltb max_bytes (length s) short) (ap (λ x. end_of (on_lines (going x) 1 (split line_feed s))) started)

solved_ends : (s : List ℕ) (n : Numbers) (p : Printed) (l : Lists) (r : Ended) (p' : Printed) (l' : Lists) → Finished (Ok n) p l r p' l'
    → end_from s r (store_in p' l') (exit_of r l'.work p'.sort_list p'.errors) ≡ end_of (going (decls_of s n (store_in p l)))
unfolding end_of
solved_ends s n p l r p' l' f =
    ap (λ (t : Store). end_from s r t (exit_of r l'.work p'.sort_list p'.errors)) f.kept
    ∙ rw (f.left, f.ended)
    (rw (parts_count s p.term_names 0 n.terms, parts_count s p.sort_names 0 n.sorts, f.long.work', f.long.sort_list', f.long.errors') refl)

pub text_read : (s : List ℕ) (t₀ : Store) (p : Printed) (l : Lists) (r : Ended) (p' : Printed) (l' : Lists) (lines : Result Numbers Refused) → decls_of s none t₀ ≡ start
    → length s ≤ max_bytes → LinesRead s t₀ lines (store_in p l) → Finished lines p l r p' l' → TextRead s r p' l'
unfolding end_of
text_read s t₀ p l r p' l' (Err e) started short read f =
    (refused_ends e read.ends r f.ended s (store_in p' l') _ ∙ all_lines s (decls_of s none t₀) (stopped e.number e.place) started short read.run, (refused_within e r f.ended, refused_whole e read.ends r f.ended))
text_read s t₀ p l r p' l' (Ok n) started short read f =
    (solved_ends s n p l r p' l' f ∙ all_lines s (decls_of s none t₀) (going (decls_of s n (store_in p l))) started short read.run, (rw f.ended read.ends, rw f.ended))

-- two answers that say the same of a text are equal
module _ (s : List ℕ) (r r' : Ended) (t t' : Store) (work sort_list errors work' sort_list' errors' : List ℕ) (w : r ≡ whole r) (w' : r' ≡ whole r')
    (e : end_from s r t (exit_of r work sort_list errors) ≡ end_from s r' t' (exit_of r' work' sort_list' errors')) where
  solved_both : {d d' : Decls} {x x' : Exit} → solved d x ≡ solved d' x' → (d ≡ d') × (x ≡ x')
  solved_both p = (cc, cc)

  refused_both : {n n' p p' : ℕ} → stopped_at n p ≡ stopped_at n' p' → (n ≡ n') × (p ≡ p')
  refused_both q = (cc, cc)

  neither : {d : Decls} {x : Exit} {n p : ℕ} → solved d x ≡ stopped_at n p → ⊥
  neither q = let z : ◌≡◌ {A = ℕ} 0 1 = cc in omega arith

  answer_by : (b b' : Bool) → eqb r.refused 0 ≡ b → eqb r'.refused 0 ≡ b' → r ≡ r'
  answer_by true true h h' =
      let q : (decls_of s r.numbers t ≡ decls_of s r'.numbers t') × (exit_of r work sort_list errors ≡ exit_of r' work' sort_list' errors') = solved_both (rw (h, h') at e) in
      let n : r.numbers ≡ r'.numbers = same_numbers s r.numbers r'.numbers t t' q.0 in
      (rw h at w) ∙ (λ i. record { refused = 0; place = 0; outcome = (q.1 i).outcome; numbers = n i }) ∙ sym (rw h' at w')
  answer_by false false h h' =
      let q : (r.refused ≡ r'.refused) × (r.place ≡ r'.place) = refused_both (rw (h, h') at e) in
      (rw h at w) ∙ (λ i. refused_at (q.0 i) (q.1 i)) ∙ sym (rw h' at w')
  answer_by true false h h' = absurd (neither (rw (h, h') at e))
  answer_by false true h h' = absurd (neither (sym (rw (h, h') at e)))

  pub one_answer : r ≡ r'
  one_answer = answer_by (eqb r.refused 0) (eqb r'.refused 0) refl refl
