-- That every row has room: a row has three names at most, each part of the text, and a hundred bytes beside them.
use Prim.Native.Nat.{ℕ, zero, suc, ◌+◌, ◌-◌, ◌*◌, ◌≤◌}
use native.Mathlib.Omega.{arith}
use Rattle.std.specs.Prelude.{◌≡◌, Bool, cond, List, [], ◌∷◌, eqb, get_or}
use Rattle.std.proofs.Math.Path.{refl}
use Rattle.std.proofs.Math.Bool.{true, false}
use borrow.Author.Tests.{leb-true}
use Rattle.std.proofs.Math.Dec.{leb}
use Rattle.std.proofs.Math.ListN.{length, length-append}
use Rattle.definition.specs.Sizes.{entry_cells}
use Rattle.definition.specs.Buffers.{Exit}
use Rattle.text_words.specs.Parts.{parts_of}
use Rattle.text_words.specs.Laws.Put.{decimal_most}
use Rattle.text_definition.specs.declared.Ended.{Ended}
use Rattle.text_definition.specs.Decls.{Decls}
use Rattle.text_definition.specs.Run.{refused_at, solved}
use Rattle.text_definition.specs.Rows.{term_text, Told, mismatch, none, arity, nothing, Ending, answered, unsorted, conflict, refusing, ending_of, told, entry_cell, sorted, refused_row, row_of, solved_row, ok_row, open_row, conflict_row, entry_row, term_row, only_first}
use Rattle.out_rows.specs.Pieces.{term_of, term_room}
use Rattle.out_rows.specs.Rows.{named, left, ended}
use Rattle.out_rows.specs.Room.{besides, room_of, fitted}
use Rattle.out_rows.specs.Laws.{name_most}

term_most : (s term_names : List ℕ) (n t : ℕ) → length (term_of s term_names n t) ≤ term_room s
unfolding term_text
term_most s term_names n t = by (get_or (parts_of s term_names n) t []) (name_most s term_names n t)
  where
    by : (w : List ℕ) → length w ≤ length s → length (term_text t w) ≤ term_room s
    by [] h = omega (arith, decimal_most 20 t)
    by (b ∷ bs) h = omega arith

refused_most : (n place k : ℕ) → length (only_first (refused_row n place) k) ≤ besides
unfolding only_first
refused_most n place zero = simp length-append (omega (arith, decimal_most 20 n, decimal_most 20 place))
refused_most n place (suc k) = omega arith

module _ (s sort_names head_names term_names sort_list errors : List ℕ) (r : Ended) where
  abbrev d : Decls
  d = named s sort_names head_names term_names r

  abbrev e : Exit
  e = left sort_list errors r

  abbrev most : ℕ
  most = 3 * length s + besides

  term_row_most : (t sort : ℕ) → length (term_row d t sort) ≤ most
  unfolding term_row
  term_row_most t zero = omega arith
  term_row_most t (suc sort) = simp length-append (omega (arith, term_most s term_names r.numbers.terms t, name_most s sort_names r.numbers.sorts sort))

  entry_most : (w : Told) (i : ℕ) → length (entry_row w d e i) ≤ most
  unfolding entry_row
  entry_most mismatch i =
      simp length-append
      (omega (arith, decimal_most 20 (entry_cell e i 2), term_most s term_names r.numbers.terms (entry_cell e i 3), name_most s sort_names r.numbers.sorts (entry_cell e i 4), name_most s sort_names r.numbers.sorts (entry_cell e i 5)))
  entry_most none i = simp length-append (omega (arith, decimal_most 20 (entry_cell e i 3)))
  entry_most arity i =
      simp length-append (omega (arith, decimal_most 20 (entry_cell e i 2), name_most s head_names r.numbers.heads (entry_cell e i 3), decimal_most 20 (entry_cell e i 4 - 1)))
  entry_most nothing i = omega arith

  solved_most : (w : Ending) (k : ℕ) → length (solved_row w d e k) ≤ most
  unfolding solved_row ok_row open_row conflict_row
  solved_most answered zero = simp length-append (omega (arith, decimal_most 20 (sorted sort_list), decimal_most 20 r.outcome.passes))
  solved_most answered (suc t) = term_row_most t (get_or sort_list t 0)
  solved_most unsorted zero = simp length-append (omega (arith, decimal_most 20 r.outcome.passes))
  solved_most unsorted (suc zero) = simp length-append (omega (arith, decimal_most 20 r.outcome.place, term_most s term_names r.numbers.terms r.outcome.term))
  solved_most unsorted (suc (suc k)) = omega arith
  solved_most conflict zero = simp length-append (omega (arith, decimal_most 20 r.outcome.passes))
  solved_most conflict (suc i) = entry_most (told (get_or errors (i * entry_cells) 0)) i
  solved_most refusing k = omega (arith, refused_most r.outcome.number 0 k)

  row_most : (k : ℕ) → length (row_of (ended s sort_names head_names term_names sort_list errors r) k) ≤ room_of s (ended s sort_names head_names term_names sort_list errors r)
  unfolding row_of room_of
  row_most k = by (eqb r.refused 0)
    where
      by : (b : Bool) → length (row_of (cond b (solved d e) (refused_at r.refused r.place)) k) ≤ room_of s (cond b (solved d e) (refused_at r.refused r.place))
      by true = solved_most (ending_of r.outcome.number) k
      by false = refused_most r.refused r.place k

  -- what is put into a line fits it
  pub row_fits : (room k : ℕ) → length (fitted s room (ended s sort_names head_names term_names sort_list errors r) k) ≤ room
  unfolding fitted
  row_fits room k = by (leb (room_of s (ended s sort_names head_names term_names sort_list errors r)) room) refl
    where
      by : (b : Bool) → leb (room_of s (ended s sort_names head_names term_names sort_list errors r)) room ≡ b → length (cond b (row_of (ended s sort_names head_names term_names sort_list errors r) k) []) ≤ room
      by true h = omega (arith, row_most k, leb-true (room_of s (ended s sort_names head_names term_names sort_list errors r)) room h)
      by false h = omega arith
