-- The lines of a text, one at a time.
use Rattle.std.specs.Prelude.{ℕ, suc, ◌+◌, ◌<◌, ◌≤◌, ◌≡◌, Bool, cond, List, [], ◌∷◌, eqb, leb, length, drop, Result, Ok, Err}
use Rattle.std.proofs.Common.{arith, add-one, ◌∙◌, ne_eqb, le-leb, leb-true, leb-false, length-drop}
use Rattle.std.proofs.Math.Path.{refl, ap, sym}
use Rattle.std.proofs.Math.Bool.{true, false}
use Rattle.std.proofs.lemmas.Bool.{lt-leb}
use Rattle.text_words.specs.Bytes.{line_feed, up_to}
use Rattle.text_words.specs.Parts.{split, between}
use Rattle.text_words.specs.Laws.Names.{up_to_most}
use Rattle.text_words.specs.Laws.Cut.{split_next, split_last}
use Rattle.text_definition.specs.Decls.{Decls}
use Rattle.text_definition.specs.Run.{Run, going, stopped, after, on_line, on_lines, max_bytes}
use Rattle.text_definition.specs.Store.{Store, Sized, Within, decls_of}
use Rattle.text_definition.specs.declared.Numbers.{Numbers}
use Rattle.text_lines.specs.Line.{line_next, left_from, Readable, Taken}
use Rattle.text_lines.specs.Run.{none, rest, behind, Told, Reading, LinesRead}

-- a refusal ends all
stopped_for_all : (n at place : ℕ) (ls : List (List ℕ)) → on_lines (stopped n at) place ls ≡ stopped n at
unfolding on_lines on_line
stopped_for_all n at place [] = refl
stopped_for_all n at place (l ∷ ls) = stopped_for_all n at (suc place) ls

-- one line
on_line_lem : (d : Decls) (place : ℕ) (l : List ℕ) → on_line (going d) place l ≡ after place (line_next d l place)
unfolding on_line after
on_line_lem d place [] = refl
on_line_lem d place (b ∷ bs) = rw (ne_eqb (suc (length bs)) 0 (λ e. omega arith))

-- what a line leaves
abbrev run_after : List ℕ → Result Numbers ℕ → ℕ → Store → Run
run_after s (Ok n) place t = going (decls_of s n t)
run_after s (Err m) place t = stopped m place

after_left : (s : List ℕ) (place : ℕ) (r : Result Numbers ℕ) (t : Store) → after place (left_from s r t) ≡ run_after s r place t
unfolding after
after_left s place (Ok n) t = refl
after_left s place (Err m) t = refl

-- what is left of a text
rest_there : (s : List ℕ) (at : ℕ) → at ≤ length s → rest s at ≡ split line_feed (drop at s)
rest_there s at h = rw (le-leb at (length s) h)

rest_none : (s : List ℕ) (at : ℕ) → length s < at → rest s at ≡ []
rest_none s at h = rw (lt-leb at (length s) h)

-- one line more
module _ (s : List ℕ) (at place end : ℕ) (d : Decls) (more : at ≤ length s) (ends : end ≡ at + length (up_to line_feed (drop at s))) (q : Run)
    (here : on_line (going d) place (between s at end) ≡ q) where
  first_lines : on_lines (going d) place (rest s at) ≡ on_lines (going d) place (split line_feed (drop at s))
  first_lines = ap (on_lines (going d) place) (rest_there s at more)

  next_turn : end < length s → on_lines (going d) place (rest s at) ≡ on_lines q (suc place) (rest s (end + 1))
  unfolding on_lines
  next_turn h =
      first_lines ∙ ap (on_lines (going d) place) (split_next line_feed s at end ends h)
      ∙ ap (λ (r : Run). on_lines r (suc place) (split line_feed (drop (end + 1) s))) here
      ∙ sym (ap (on_lines q (suc place)) (rest_there s (end + 1) (omega arith)))

  last_turn : length s ≤ end → on_lines (going d) place (rest s at) ≡ on_lines q (suc place) (rest s (end + 1))
  unfolding on_lines
  last_turn h =
      first_lines ∙ ap (on_lines (going d) place) (split_last line_feed s at end ends h)
      ∙ here
      ∙ sym (ap (on_lines q (suc place)) (rest_none s (end + 1) (omega arith)))

  turned : on_lines (going d) place (rest s at) ≡ on_lines q (suc place) (rest s (end + 1))
  turned = by (leb (length s) end) refl
    where
      by : (b : Bool) → leb (length s) end ≡ b → on_lines (going d) place (rest s at) ≡ on_lines q (suc place) (rest s (end + 1))
      by true e = last_turn (leb-true (length s) end e)
      by false e = next_turn (leb-false (length s) end e)

pub none_within : Within none
none_within = record { sorts≤ = omega arith; globals≤ = omega arith; heads≤ = omega arith; terms≤ = omega arith; used≤ = omega arith }

-- the reading starts, goes on, ends
module _ {s : List ℕ} {t₀ : Store} where
  pub reading_starts : {n : Numbers} → n ≡ none → Reading s t₀ 0 0 n t₀
  reading_starts e = rw e (record {
    run = ap (on_lines (going (decls_of s none t₀)) 1) (rest_there s 0 (omega arith));
    place≤ = omega arith;
    at≤ = omega arith;
    within = none_within;
    context< = omega arith;
  })

  module _ {at place end : ℕ} {n : Numbers} {t : Store} (h : Reading s t₀ at place n t) (more : at ≤ length s) (ends : end ≡ at + length (up_to line_feed (drop at s))) where
    pub end_inside : end ≤ length s
    end_inside = omega (arith, up_to_most line_feed (drop at s), length-drop at s)

    pub line_readable : length s ≤ max_bytes → Readable s at end n
    line_readable short = record { short = short; ordered = omega arith; inside = end_inside; within = h.within; context< = h.context< }

    pub behind_beyond : (k : ℕ) → at < behind (length s) end k
    behind_beyond k = by (eqb k 0)
      where
        by : (b : Bool) → at < cond b (end + 1) (length s + 1)
        by true = omega arith
        by false = omega arith

    module _ {place' : ℕ} (p : place' ≡ place + 1) where
      on_this : (r : Result Numbers ℕ) (t' : Store) → Taken s (line_next (decls_of s n t) (between s at end) (suc place)) r t'
          → on_lines (going (decls_of s none t₀)) 1 (split line_feed s) ≡ on_lines (run_after s r (suc place) t') (suc (suc place)) (rest s (end + 1))
      on_this r t' q =
          sym h.run
          ∙ turned s at (suc place) end (decls_of s n t) more ends (run_after s r (suc place) t')
          (on_line_lem (decls_of s n t) (suc place) (between s at end) ∙ ap (after (suc place)) (sym q.taken') ∙ after_left s (suc place) r t')

      here : place' ≡ suc place
      here = p ∙ add-one place

      pub reading_turn : {n' : Numbers} {t' : Store} → Taken s (line_next (decls_of s n t) (between s at end) place') (Ok n') t' → Reading s t₀ (end + 1) place' n' t'
      reading_turn {n'} {t'} q =
          rw here (record { run = sym (on_this (Ok n') t' (rw here at q)); place≤ = omega (arith, h.place≤); at≤ = omega (arith, end_inside); within = q.sizes.0; context< = q.sizes.1 })

      pub reading_stops : {m : ℕ} {t' : Store} → Taken s (line_next (decls_of s n t) (between s at end) place') (Err m) t'
          → LinesRead s t₀ (Err (record { number = m; place = place' })) t'
      reading_stops {m} {t'} q =
          rw here (record { run = sym (on_this (Err m) t' (rw here at q) ∙ stopped_for_all m (suc place) (suc (suc place)) (rest s (end + 1))); ends = q.sizes })

      pub reading_refused : {m k : ℕ} {t' : Store} → Told s (line_next (decls_of s n t) (between s at end) place') place' (Err (record { number = m; place = k })) t'
          → LinesRead s t₀ (Err (record { number = m; place = k })) t'
      reading_refused q = rw q.1 (reading_stops q.0)

  pub reading_ends : {at place : ℕ} {n : Numbers} {t : Store} → Reading s t₀ at place n t → length s < at → LinesRead s t₀ (Ok n) t
  unfolding on_lines
  reading_ends {at} {place} {n} {t} h l = record { run = sym (ap (on_lines (going (decls_of s n t)) (suc place)) (rest_none s at l)) ∙ h.run; ends = h.within }

-- lists that are as long as they were have their sizes
pub sized_kept : {t t' : Store} → length t'.sort_names ≡ length t.sort_names → length t'.global_names ≡ length t.global_names → length t'.head_names ≡ length t.head_names
    → length t'.term_names ≡ length t.term_names → length t'.signatures ≡ length t.signatures → length t'.signature_sorts ≡ length t.signature_sorts
    → length t'.globals ≡ length t.globals → length t'.terms ≡ length t.terms → length t'.records ≡ length t.records
    → length t'.side ≡ length t.side → length t'.tops ≡ length t.tops → length t'.range ≡ length t.range → Sized t → Sized t'
sized_kept a b c d e f g h i j k l z = record {
  tabled = record { sort_names' = a ∙ z.tabled.sort_names'; global_names' = b ∙ z.tabled.global_names'; head_names' = c ∙ z.tabled.head_names'; signatures' = e ∙ z.tabled.signatures' };
  term_names' = d ∙ z.term_names';
  signature_sorts' = f ∙ z.signature_sorts';
  globals' = g ∙ z.globals';
  terms' = h ∙ z.terms';
  records' = i ∙ z.records';
  side' = j ∙ z.side';
  tops' = k ∙ z.tops';
  range' = l ∙ z.range';
}
