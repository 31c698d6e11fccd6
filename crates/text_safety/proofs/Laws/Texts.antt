-- Whole texts.
use Rattle.std.specs.Prelude.{ℕ, zero, suc, ◌+◌, ◌*◌, ◌≤◌, ◌≡◌, ◌⊎◌, Bool, true, List, [], ◌∷◌, ltb, length, replicate}
use Rattle.std.proofs.Common.{arith, ap, inr}
use Rattle.std.proofs.Math.Path.{refl}
use Rattle.std.proofs.Math.Logic.{inl}
use Rattle.std.proofs.Math.Bool.{false}
use Rattle.std.proofs.lemmas.List.{length-replicate}
use Rattle.definition.specs.Sizes.{max_records, max_terms, entry_cells, room_frames}
use Rattle.definition.specs.Problem.{Problem}
use Rattle.definition.specs.Refusal.{records_refusal, room_refusal, first_given, refusal}
use Rattle.definition.specs.Solve.{solve, outcome_of}
use Rattle.definition.specs.Buffers.{exit, exit_on}
use Rattle.definition.proofs.Laws.Refused.{Counted, accepted, counted as counted_by, room_taken}
use Rattle.meaning.proofs.Exit.{Ending, answers, opens, fails, ending}
use Rattle.rule_safety.proofs.Laws.Grown.{wider}
use Rattle.text_words.specs.Bytes.{line_feed, space}
use Rattle.text_words.specs.Parts.{split}
use Rattle.text_definition.specs.Decls.{Decls, start, counted}
use Rattle.text_definition.specs.Declare.{Next, refused, next}
use Rattle.text_definition.specs.Run.{line, Run, going, stopped, after, on_line, on_lines, End, refused_at, solved, solving, end_of, unless_long, text_end, max_bytes}
use Rattle.text_definition.specs.Rows.{ending_of, refusing}
use Rattle.text_safety.specs.Told.{Told, work_room, refusal_of}
use Rattle.text_safety.proofs.Laws.Good.{Good, After, good_start}
use Rattle.text_safety.proofs.Laws.Lines.{line_kept}

abbrev pub Kept : Run → Type 0
Kept (going d) = Good d
Kept (stopped n place) = Told n

after_kept : (place : ℕ) (x : Next) → After x → Kept (after place x)
unfolding after
after_kept place (next d) h = h
after_kept place (refused n) h = h

on_line_lem : (r : Run) (place : ℕ) (bs : List ℕ) → Kept r → Kept (on_line r place bs)
unfolding on_line
on_line_lem (stopped n at) place bs h = h
on_line_lem (going d) place [] h = h
on_line_lem (going d) place (b ∷ bs) h = after_kept place (line d (split space (b ∷ bs)) place) (line_kept d h (split space (b ∷ bs)) place)

pub on_lines_lem : (r : Run) (place : ℕ) (ls : List (List ℕ)) → Kept r → Kept (on_lines r place ls)
unfolding on_lines
on_lines_lem r place [] h = h
on_lines_lem r place (l ∷ ls) h = on_lines_lem (on_line r place l) (suc place) ls (on_line_lem r place l h)

-- how a text ends
abbrev pub Ends : End → Type 0
Ends (refused_at n place) = (n ≡ 52) ⊎ Told n
Ends (solved d x) = Good d × (x ≡ solving d)

lines_end : (r : Run) → Kept r → Ends (end_of r)
unfolding end_of
lines_end (going d) h = (h, refl)
lines_end (stopped n place) h = inr h

pub text_ends : (s : List ℕ) → Ends (text_end s)
text_ends s = on (ltb max_bytes (length s))
  where
    on : (b : Bool) → Ends (unless_long b s)
    on true = unfold unless_long in inl refl
    on false = unfold unless_long in lines_end (on_lines (going start) 1 (split line_feed s)) (on_lines_lem (going start) 1 (split line_feed s) good_start)

-- solve takes what there is then: its records, and the room and the lists that it is lent
records_taken : (d : Decls) → Good d → records_refusal (counted d (length d.term_names)) ≡ 0
records_taken d o = wider d.problem (length d.term_names) (length d.sort_names) o.problem.taken o.problem.few_terms o.terms.most o.problem.few_sorts o.sorts

room_lent : (p : Problem) (work sorts errors : List ℕ) → Counted p → room_frames * (max_terms + max_records) ≤ length work → max_terms ≤ length sorts →
    max_records * entry_cells ≤ length errors → room_refusal p.counts.terms p.counts.records (length work) (length sorts) (length errors) ≡ 0
room_lent p work sorts errors c w s e = room_taken _ _ _ _ _ (record {
  room = omega (arith, c.terms, c.records);
  sort_cells = omega (arith, c.terms);
  error_cells = omega (arith, c.records);
})

zeroes : (k : ℕ) → length (replicate k zero) ≡ k
zeroes k = length-replicate k zero

pub all_taken : (d : Decls) → Good d → refusal_of d ≡ 0
unfolding refusal first_given
all_taken d o =
    let p : Problem = counted d (length d.term_names) in
    let c : Counted p = counted_by p (accepted p (records_taken d o)).counts in
    let work : List ℕ = replicate work_room 0 in
    let sorts : List ℕ = replicate max_terms 0 in
    let errors : List ℕ = replicate (max_records * entry_cells) 0 in
    let long : room_frames * (max_terms + max_records) ≤ length work = omega (arith, zeroes work_room) in
    rw (records_taken d o, room_lent p work sorts errors c long (omega (arith, zeroes max_terms)) (omega (arith, zeroes (max_records * entry_cells))))

-- and so its number is that of an answer, of a term without a sort, or of a conflict
refused_not : (d : Decls) (n : ℕ) → Ending (counted d (length d.term_names)) n → ending_of n ≡ refusing → ⊥
refused_not d n (answers k f e h) r = let z : ◌≡◌ {A = ℕ} 0 1 = cc (ap ending_of e) in absurd (omega arith)
refused_not d n (opens k t place e h) r = let z : ◌≡◌ {A = ℕ} 0 1 = cc (ap ending_of e) in absurd (omega arith)
refused_not d n (fails k x xs (inl e) h) r = let z : ◌≡◌ {A = ℕ} 0 1 = cc (ap ending_of e) in absurd (omega arith)
refused_not d n (fails k x xs (inr (inl e)) h) r = let z : ◌≡◌ {A = ℕ} 0 1 = cc (ap ending_of e) in absurd (omega arith)
refused_not d n (fails k x xs (inr (inr e)) h) r = let z : ◌≡◌ {A = ℕ} 0 1 = cc (ap ending_of e) in absurd (omega arith)

pub not_refusing : (d : Decls) → Good d → ending_of (solving d).outcome.number ≡ refusing → ⊥
unfolding exit exit_on
not_refusing d o r =
    refused_not d (outcome_of (solve (counted d (length d.term_names)))).number (ending (counted d (length d.term_names)) (records_taken d o)) (rw (all_taken d o) at r)
