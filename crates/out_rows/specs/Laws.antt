-- Laws about the pieces, the rows and their room.
use Prim.Native.Nat.{ℕ, zero, suc, ◌+◌, ◌-◌, ◌*◌, ◌<◌, ◌≤◌}
use Rattle.std.proofs.Common.{arith, subst, ◌∙◌, length-take, length-drop}
use Rattle.std.specs.Prelude.{◌≡◌, Bool, ◌&&◌, ◌||◌, leb, eqb, take, get_or}
use Rattle.std.proofs.Math.Path.{refl, ap, sym}
use Rattle.std.proofs.Math.Bool.{true, false, cond}
use mathlib.Core.List.{List, [], ◌∷◌, ◌++◌}
use borrow.Author.Tests.{eq-eqb, ne_eqb, le-leb, lt-leb, leb-true}
use Rattle.std.proofs.Math.ListN.{length, drop, get_or-eq_default}
use Rattle.definition.specs.Sizes.{entry_cells, max_terms, max_records}
use Rattle.definition.specs.Buffers.{Exit}
use Rattle.text_words.specs.Bytes.{line_feed, hash}
use Rattle.text_words.specs.Parts.{between, parts_from, parts_of}
use Rattle.text_words.specs.Put.{decimal, Put}
use Rattle.text_words.specs.Laws.Parts.{parts_count}
use Rattle.text_words.specs.Laws.Table.{part_there}
use Rattle.text_words.specs.Laws.Put.{put_nothing}
use Rattle.text_grammar.specs.Bytes.{bytes}
use Rattle.text_definition.specs.declared.Ended.{Ended}
use Rattle.text_definition.specs.Decls.{Decls}
use Rattle.text_definition.specs.Run.{End, refused_at, solved}
use Rattle.text_definition.specs.Rows.{term_text, printed, sort_text, sorted, term_row, only_first, ok_row, open_row, Told, mismatch, none, arity, nothing, told, entry_cell, entry_row, conflict_row, refused_row, Ending, conflict, refusing, ending_of, solved_row, row_of}
use Rattle.out_rows.specs.Pieces.{name_of}
use Rattle.out_rows.specs.Row.{one_number, two_numbers}
use Rattle.out_rows.specs.Room.{besides, room_of, fitted, counted_rows}

-- the numbers that come with entries
abbrev pub is_conflict : ℕ → Bool
is_conflict n = eqb n 30 || (eqb n 32 || eqb n 33)

-- a part is at most as long as the text
between_most : (s : List ℕ) (start end : ℕ) → length (between s start end) ≤ length s
between_most s start end = omega (arith, length-take (end - start) (drop start s), length-drop start s)

parts_most : (s table : List ℕ) (j n i : ℕ) → length (get_or (parts_from s table j n) i []) ≤ length s
unfolding parts_from
parts_most s table j zero i = omega arith
parts_most s table j (suc n) zero = between_most s (get_or table (j * 2) 0) (get_or table (j * 2 + 1) 0)
parts_most s table j (suc n) (suc i) = parts_most s table (suc j) n i

pub name_most : (s table : List ℕ) (n i : ℕ) → length (name_of s table n i) ≤ length s
name_most s table n i = parts_most s table 0 n i

-- a name that is not in the table
pub name_behind : (s table : List ℕ) (n i : ℕ) → n ≤ i → name_of s table n i ≡ []
name_behind s table n i h = get_or-eq_default (parts_of s table n) [] (omega (arith, parts_count s table 0 n))

pub name_outside : (s table : List ℕ) (n i : ℕ) → i < n → length table ≤ i * 2 + 1 → name_of s table n i ≡ []
name_outside s table n i h l =
    part_there s table n i h
    ∙ ap (between s (get_or table (i * 2) 0)) (get_or-eq_default table 0 l)
    ∙ ap (λ (k : ℕ). take k (drop (get_or table (i * 2) 0) s)) (let e : 0 - get_or table (i * 2) 0 ≡ 0 = omega arith in e)

-- a term's text, by its name
pub fresh_term : (t : ℕ) (w : List ℕ) → length w ≡ 0 → hash ∷ decimal t ≡ term_text t w
unfolding term_text
fresh_term t [] e = refl
fresh_term t (b ∷ bs) e = absurd (omega arith)

pub named_term : (t : ℕ) (w : List ℕ) → (length w ≡ 0 → ⊥) → w ≡ term_text t w
unfolding term_text
named_term t [] ne = absurd (ne refl)
named_term t (b ∷ bs) ne = refl

-- rows by their number
pub only_first_lem : (row : List ℕ) (k : ℕ) → k ≡ 0 → only_first row k ≡ row
unfolding only_first
only_first_lem row k h = rw h

pub only_behind : (row : List ℕ) (k : ℕ) → (k ≡ 0 → ⊥) → only_first row k ≡ []
unfolding only_first
only_behind row zero ne = absurd (ne refl)
only_behind row (suc k) ne = refl

-- a term's row, by whether it has a sort
pub term_unsorted : (d : Decls) (t sort : ℕ) → sort ≡ 0 → term_row d t sort ≡ []
unfolding term_row
term_unsorted d t sort h = rw h

pub term_sorted : (d : Decls) (t cell sort : ℕ) → cell ≡ suc sort → term_row d t cell ≡ printed d t ++ bytes " " ++ sort_text d sort ++ line_feed ∷ []
unfolding term_row
term_sorted d t cell sort h = rw h

module _ (d : Decls) (e : Exit) where
  pub ok_first : (k : ℕ) → k ≡ 0 → ok_row d e k ≡ two_numbers (bytes "ok ") (sorted e.sort_list) (bytes " passes ") e.outcome.passes
  unfolding ok_row
  ok_first k h = rw h

  pub ok_later : (t k : ℕ) → k ≡ suc t → ok_row d e k ≡ term_row d t (get_or e.sort_list t 0)
  unfolding ok_row
  ok_later t k h = rw h

  pub open_first : (k : ℕ) → k ≡ 0 → open_row d e k ≡ one_number (bytes "open ") e.outcome.passes
  unfolding open_row
  open_first k h = rw h

  pub open_second : (k : ℕ) → k ≡ 1 → open_row d e k ≡ bytes "unsorted " ++ decimal e.outcome.place ++ bytes " " ++ printed d e.outcome.term ++ line_feed ∷ []
  unfolding open_row
  open_second k h = rw h

  pub open_behind : (k : ℕ) → (k ≡ 0 → ⊥) → (k ≡ 1 → ⊥) → open_row d e k ≡ []
  unfolding open_row
  open_behind zero ne ne' = absurd (ne refl)
  open_behind (suc zero) ne ne' = absurd (ne' refl)
  open_behind (suc (suc k)) ne ne' = refl

  pub conflict_first : (k : ℕ) → k ≡ 0 → conflict_row d e k ≡ one_number (bytes "conflict ") e.outcome.passes
  unfolding conflict_row
  conflict_first k h = rw h

  pub conflict_later : (i k : ℕ) → k ≡ suc i → conflict_row d e k ≡ entry_row (told (get_or e.errors (i * entry_cells) 0)) d e i
  unfolding conflict_row
  conflict_later i k h = rw h

-- how many rows there are
module _ (r : Ended) where
  pub rows_refused : (r.refused ≡ 0 → ⊥) → counted_rows r ≡ 1
  unfolding counted_rows
  rows_refused ne = rw (ne_eqb r.refused 0 ne)

  pub rows_many_terms : r.refused ≡ 0 → max_terms < r.numbers.terms → counted_rows r ≡ 0
  unfolding counted_rows
  rows_many_terms h t = rw (eq-eqb r.refused 0 h, lt-leb r.numbers.terms max_terms t)

  pub rows_many_records : r.refused ≡ 0 → r.numbers.terms ≤ max_terms → max_records < r.numbers.problem.records → counted_rows r ≡ 0
  unfolding counted_rows
  rows_many_records h t n = rw (eq-eqb r.refused 0 h, le-leb r.numbers.terms max_terms t, lt-leb r.numbers.problem.records max_records n)

  pub rows_counted : r.refused ≡ 0 → r.numbers.terms ≤ max_terms → r.numbers.problem.records ≤ max_records → counted_rows r ≡ r.numbers.terms + r.numbers.problem.records + 2
  unfolding counted_rows
  rows_counted h t n = rw (eq-eqb r.refused 0 h, le-leb r.numbers.terms max_terms t, le-leb r.numbers.problem.records max_records n)

-- an entry by its number, read cell by cell
module _ (d : Decls) (e : Exit) (i number : ℕ) (is : number ≡ entry_cell e i 0) where
  told_by : told number ≡ told (get_or e.errors (i * entry_cells) 0)
  told_by = ap told (is ∙ ap (λ (k : ℕ). get_or e.errors k 0) (let q : i * 8 + 0 ≡ i * 8 = omega arith in q))

  row_by : (w : Told) → told number ≡ w → entry_row w d e i ≡ entry_row (told (get_or e.errors (i * entry_cells) 0)) d e i
  row_by w h = ap (λ (x : Told). entry_row x d e i) (sym h ∙ told_by)

  pub entry_mismatch : (place t expected actual : ℕ) → place ≡ entry_cell e i 2 → t ≡ entry_cell e i 3 → expected ≡ entry_cell e i 4 → actual ≡ entry_cell e i 5 → number ≡ 30
      → bytes "mismatch " ++ decimal place ++ bytes " " ++ printed d t ++ bytes " " ++ sort_text d expected ++ bytes " " ++ sort_text d actual ++ line_feed ∷ []
      ≡ entry_row (told (get_or e.errors (i * entry_cells) 0)) d e i
  unfolding entry_row
  entry_mismatch place t expected actual a b x y h = rw (a, b, x, y) (row_by mismatch (ap told h))

  pub entry_none : (count : ℕ) → count ≡ entry_cell e i 3 → number ≡ 32 → one_number (bytes "none ") count ≡ entry_row (told (get_or e.errors (i * entry_cells) 0)) d e i
  unfolding entry_row
  entry_none count a h = rw a (row_by none (ap told h))

  pub entry_arity : (place head second count : ℕ) → place ≡ entry_cell e i 2 → head ≡ entry_cell e i 3 → second ≡ entry_cell e i 4 → count ≡ second - 1 → number ≡ 33
      → bytes "arity " ++ decimal place ++ bytes " " ++ get_or d.head_names head [] ++ bytes " " ++ decimal count ++ line_feed ∷ []
      ≡ entry_row (told (get_or e.errors (i * entry_cells) 0)) d e i
  unfolding entry_row
  entry_arity place head second count a b x y h = rw (y, a, b, x) (row_by arity (ap told h))

  pub entry_nothing : (number ≡ 30 → ⊥) → (number ≡ 32 → ⊥) → (number ≡ 33 → ⊥) → entry_row (told (get_or e.errors (i * entry_cells) 0)) d e i ≡ []
  unfolding entry_row
  entry_nothing p q r = sym (row_by nothing (rw (ne_eqb number 30 p, ne_eqb number 32 q, ne_eqb number 33 r)))

-- past an answer and a term without a sort, the ending is a conflict or a refusal
ending_by : (n : ℕ) → (n ≡ 0 → ⊥) → (n ≡ 31 → ⊥) → ending_of n ≡ cond (is_conflict n) conflict refusing
ending_by n a b = rw (ne_eqb n 0 a, ne_eqb n 31 b) (by (eqb n 30) (eqb n 32) (eqb n 33))
  where
    by : (x y z : Bool) → cond x conflict (cond y conflict (cond z conflict refusing)) ≡ cond (x || (y || z)) conflict refusing
    by true y z = refl
    by false true z = refl
    by false false true = refl
    by false false false = refl

-- rows by the outcome's number
module _ (d : Decls) (e : Exit) (k : ℕ) where
  abbrev Row : ℕ → List ℕ
  Row n = solved_row (ending_of n) d e k

  pub row_answered : (n : ℕ) → n ≡ 0 → ok_row d e k ≡ Row n
  unfolding solved_row
  row_answered n h = ap Row (sym h)

  pub row_unsorted : (n : ℕ) → n ≡ 31 → open_row d e k ≡ Row n
  unfolding solved_row
  row_unsorted n h = ap Row (sym h)

  pub row_conflict : (n : ℕ) → (n ≡ 0 → ⊥) → (n ≡ 31 → ⊥) → is_conflict n ≡ true → conflict_row d e k ≡ Row n
  unfolding solved_row
  row_conflict n a b h = ap (λ (w : Ending). solved_row w d e k) (sym (ending_by n a b ∙ ap (λ (t : Bool). cond t conflict refusing) h))

  pub row_refusing : (n : ℕ) → n ≡ e.outcome.number → (n ≡ 0 → ⊥) → (n ≡ 31 → ⊥) → is_conflict n ≡ false → only_first (refused_row n 0) k ≡ Row n
  unfolding solved_row
  row_refusing n is a b h =
      ap (λ (m : ℕ). only_first (refused_row m 0) k) is
      ∙ ap (λ (w : Ending). solved_row w d e k) (sym (ending_by n a b ∙ ap (λ (t : Bool). cond t conflict refusing) h))

-- what a line has room for
module _ (s : List ℕ) (d : Decls) (e : Exit) (r : Ended) (room k : ℕ) where
  abbrev end : End
  end = cond (eqb r.refused 0) (solved d e) (refused_at r.refused r.place)

  pub fitted_short : room < besides → fitted s room end k ≡ []
  unfolding fitted room_of
  fitted_short h = by (eqb r.refused 0)
    where
      by : (t : Bool) → (let x = cond t (solved d e) (refused_at r.refused r.place) in cond (leb (room_of s x) room) (row_of x k) []) ≡ []
      by true = rw (lt-leb (3 * length s + besides) room (omega arith))
      by false = rw (lt-leb besides room h)

  pub fitted_refused : (r.refused ≡ 0 → ⊥) → besides ≤ room → only_first (refused_row r.refused r.place) k ≡ fitted s room end k
  unfolding fitted room_of row_of
  fitted_refused ne h = rw (ne_eqb r.refused 0 ne, le-leb besides room h)

  pub fitted_narrow : r.refused ≡ 0 → room < 3 * length s + besides → fitted s room end k ≡ []
  unfolding fitted room_of row_of
  fitted_narrow z h = rw (eq-eqb r.refused 0 z, lt-leb (3 * length s + besides) room h)

  pub fitted_solved : r.refused ≡ 0 → 3 * length s + besides ≤ room → solved_row (ending_of e.outcome.number) d e k ≡ fitted s room end k
  unfolding fitted room_of row_of
  fitted_solved z h = rw (eq-eqb r.refused 0 z, le-leb (3 * length s + besides) room h)

-- a row for each term and each record, and two
pub rows_most : (r : Ended) → counted_rows r ≤ max_terms + max_records + 2
unfolding counted_rows
rows_most r = by (eqb r.refused 0) (leb r.numbers.terms max_terms) refl (leb r.numbers.problem.records max_records) refl
  where
    by : (x y : Bool) → leb r.numbers.terms max_terms ≡ y → (z : Bool) → leb r.numbers.problem.records max_records ≡ z
        → cond x (cond (y && z) (r.numbers.terms + r.numbers.problem.records + 2) 0) 1 ≤ max_terms + max_records + 2
    by false y h z k = omega arith
    by true false h z k = omega arith
    by true true h false k = omega arith
    by true true h true k = omega (arith, leb-true r.numbers.terms max_terms h, leb-true r.numbers.problem.records max_records k)

pub put_none : {out : List ℕ} {at : ℕ} {a : List ℕ} → a ≡ [] → Put out at a at out
put_none {out} {at} h = subst (λ (l : List ℕ). Put out at l at out) (sym h) (put_nothing out at)
