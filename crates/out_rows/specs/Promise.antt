-- That the line suffices, and that the rows put from what is lent are the text's rows.
use Prim.Native.Nat.{ℕ, zero, suc, ◌+◌, ◌*◌, ◌≤◌}
use Rattle.std.proofs.Common.{arith, subst, ◌∙◌}
use Rattle.std.specs.Prelude.{◌≡◌, Bool, ◌&&◌, List, [], ◌∷◌, ltb, eqb, length, get_or}
use Rattle.std.proofs.Math.Path.{refl, ap, sym}
use Rattle.std.proofs.Math.Bool.{true, false, cond}
use borrow.Author.Tests.{le-leb, ltb-false}
use Rattle.std.proofs.Math.Dec.{leb}
use Rattle.definition.specs.Sizes.{max_terms, max_records, entry_cells}
use Rattle.definition.specs.Lists.{from, joined}
use Rattle.text_words.specs.Bytes.{line_feed}
use Rattle.text_words.specs.Parts.{split}
use Rattle.text_words.specs.Laws.Parts.{parts_count}
use Rattle.text_definition.specs.declared.Ended.{Ended}
use Rattle.text_definition.specs.Decls.{Decls, start}
use Rattle.text_definition.specs.Run.{End, refused_at, solved, Run, going, stopped, on_lines, end_of, unless_long, text_end, max_bytes}
use Rattle.text_definition.specs.Rows.{Told, mismatch, none, arity, nothing, Ending, answered, unsorted, conflict, refusing, ending_of, told, row_of, row_count, solved_row, ok_row, open_row, conflict_row, entry_row, term_row, sorts_text}
use Rattle.text_definition.specs.Store.{Store, decls_of, exit_of, end_from}
use Rattle.out_rows.specs.Rows.{named, left, ended}
use Rattle.out_rows.specs.Few.{FewEnd, text_few}
use Rattle.out_rows.specs.Room.{room_of, fitted, line_bytes, counted_rows}

joined_alike : (f g : ℕ → List ℕ) → ((k : ℕ) → f k ≡ g k) → (ks : List ℕ) → joined f ks ≡ joined g ks
unfolding joined
joined_alike f g h [] = refl
joined_alike f g h (k ∷ ks) = rw (h k, joined_alike f g h ks)

-- a line of so many bytes has room for every row of every text
pub suffices : (s : List ℕ) → room_of s (text_end s) ≤ line_bytes
unfolding unless_long end_of room_of
suffices s = by (ltb max_bytes (length s)) refl
  where
    run : (r : Run) → length s ≤ max_bytes → room_of s (end_of r) ≤ line_bytes
    run (going d) h = omega arith
    run (stopped n place) h = omega arith

    by : (t : Bool) → ltb max_bytes (length s) ≡ t → room_of s (unless_long t s) ≤ line_bytes
    by true e = omega arith
    by false e = run (on_lines (going start) 1 (split line_feed s)) (ltb-false max_bytes (length s) e)

-- No row reads another list than those that are lent for it.
module _ (s : List ℕ) (r : Ended) (t : Store) (work sort_list errors : List ℕ) where
  abbrev whole : End
  whole = end_from s r t (exit_of r work sort_list errors)

  abbrev lent : End
  lent = ended s t.sort_names t.head_names t.term_names sort_list errors r

  abbrev d : Decls
  d = decls_of s r.numbers t

  abbrev d' : Decls
  d' = named s t.sort_names t.head_names t.term_names r

  same_entry : (w : Told) (i : ℕ) → entry_row w d (exit_of r work sort_list errors) i ≡ entry_row w d' (left sort_list errors r) i
  unfolding entry_row
  same_entry mismatch i = refl
  same_entry none i = refl
  same_entry arity i = refl
  same_entry nothing i = refl

  same_term : (t sort : ℕ) → term_row d t sort ≡ term_row d' t sort
  unfolding term_row
  same_term t zero = refl
  same_term t (suc sort) = refl

  same_solved : (w : Ending) (k : ℕ) → solved_row w d (exit_of r work sort_list errors) k ≡ solved_row w d' (left sort_list errors r) k
  unfolding solved_row ok_row open_row conflict_row
  same_solved answered zero = refl
  same_solved answered (suc t) = same_term t (get_or sort_list t 0)
  same_solved unsorted zero = refl
  same_solved unsorted (suc zero) = refl
  same_solved unsorted (suc (suc k)) = refl
  same_solved conflict zero = refl
  same_solved conflict (suc i) = same_entry (told (get_or errors (i * entry_cells) 0)) i
  same_solved refusing k = refl

  same_row : (k : ℕ) → row_of whole k ≡ row_of lent k
  unfolding row_of
  same_row k = by (eqb r.refused 0)
    where
      by : (b : Bool) → row_of (cond b (solved d (exit_of r work sort_list errors)) (refused_at r.refused r.place)) k ≡ row_of (cond b (solved d' (left sort_list errors r)) (refused_at r.refused r.place)) k
      by true = same_solved (ending_of r.outcome.number) k
      by false = refl

  same_room : room_of s whole ≡ room_of s lent
  unfolding room_of
  same_room = by (eqb r.refused 0)
    where
      by : (b : Bool) → room_of s (cond b (solved d (exit_of r work sort_list errors)) (refused_at r.refused r.place)) ≡ room_of s (cond b (solved d' (left sort_list errors r)) (refused_at r.refused r.place))
      by true = refl
      by false = refl

  -- what is put into a line that suffices is the text's row
  pub row_of_text : (room k : ℕ) → whole ≡ text_end s → line_bytes ≤ room → fitted s room lent k ≡ row_of (text_end s) k
  unfolding fitted
  row_of_text room k is h =
      ap (λ (b : Bool). cond b (row_of lent k) []) (le-leb (room_of s lent) room (omega (arith, suffices s, sym same_room ∙ ap (room_of s) is)))
      ∙ sym (same_row k) ∙ ap (λ (x : End). row_of x k) is

  -- and there are as many
  few : whole ≡ text_end s → FewEnd whole
  few is = subst FewEnd (sym is) (text_few s)

  pub rows_of_text : whole ≡ text_end s → counted_rows r ≡ row_count (text_end s)
  unfolding row_count counted_rows
  rows_of_text is = by (eqb r.refused 0) (few is) ∙ ap row_count is
    where
      by : (x : Bool) → FewEnd (cond x (solved d (exit_of r work sort_list errors)) (refused_at r.refused r.place))
          → cond x (cond (leb r.numbers.terms max_terms && leb r.numbers.problem.records max_records) (r.numbers.terms + r.numbers.problem.records + 2) 0) 1
          ≡ row_count (cond x (solved d (exit_of r work sort_list errors)) (refused_at r.refused r.place))
      by true h =
          let count = parts_count s t.term_names 0 r.numbers.terms in
          rw (le-leb r.numbers.terms max_terms (omega (arith, h.terms≤, count)), le-leb r.numbers.problem.records max_records h.records≤)
          (ap (λ (n : ℕ). n + r.numbers.problem.records + 2) (sym count))
      by false h = refl

  -- all of them one after another are the whole output
  pub output_of_text : (room : ℕ) → whole ≡ text_end s → line_bytes ≤ room → joined (fitted s room lent) (from 0 (counted_rows r)) ≡ sorts_text s
  unfolding sorts_text
  output_of_text room is h =
      joined_alike (fitted s room lent) (row_of (text_end s)) (λ k. row_of_text room k is h) (from 0 (counted_rows r))
      ∙ ap (λ (n : ℕ). joined (row_of (text_end s)) (from 0 n)) (rows_of_text is)
