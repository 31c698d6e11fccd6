-- Lists that show a text's output, row by row.
use Rattle.std.specs.Prelude.{ℕ, suc, ◌+◌, ◌-◌, ◌*◌, ◌<◌, ◌≤◌, ◌≡◌, refl, List, [], ◌++◌, length, take, drop, replicate}
use Rattle.std.proofs.Common.{add-one, arith, ap, sym, subst, ◌∙◌, le-leb, length-append}
use Rattle.std.proofs.lemmas.Bool.{lt-leb}
use Rattle.std.proofs.lemmas.List.Edits.{sets, sets-eq}
use Rattle.std.proofs.Math.Seq.{take-append_seam}
use Rattle.definition.specs.Sizes.{max_terms, max_records, entry_cells}
use Rattle.text_words.specs.Put.{Put}
use Rattle.text_words.specs.Laws.Put.{sets_append, put_reads}
use Rattle.definition.specs.Lists.{from, joined}
use Rattle.text_definition.specs.declared.Ended.{Ended}
use Rattle.text_definition.specs.Run.{text_end}
use Rattle.text_definition.specs.Rows.{row_of, row_count, sorts_text}
use Rattle.text_definition.specs.Store.{Store, end_from, exit_of}
use Rattle.out_rows.specs.Rows.{ended}
use Rattle.out_rows.specs.Room.{fitted, line_bytes, counted_rows}
use Rattle.out_rows.specs.Promise.{row_of_text, rows_of_text}
use Rattle.out_rows.specs.declared.Shown.{Shown}
use Rattle.text_lines.specs.declared.Printed.{Printed}
use Rattle.out_text.specs.Front.{at_front}

pub record Shows (s sort_names head_names term_names sort_list errors : List ℕ) (r : Ended) : Type 0 where
  pub rows : (room k : ℕ) → line_bytes ≤ room → fitted s room (ended s sort_names head_names term_names sort_list errors r) k ≡ row_of (text_end s) k
  pub count : counted_rows r ≡ row_count (text_end s)

abbrev pub ShowsText : Shown → Type 0
ShowsText w = Shows w.text.now w.sort_names.now w.head_names.now w.term_names.now w.sort_list.now w.errors.now w.ended

-- lists of zeroes, of the largest sizes: two cells for each of 256 names
abbrev pub blank : Printed
blank = record {
  sort_names = replicate 512 0;
  head_names = replicate 512 0;
  term_names = replicate 512 0;
  sort_list = replicate max_terms 0;
  errors = replicate (max_records * entry_cells) 0;
}

-- what is shown of a text that ended so is what the lists have
pub record IsShown (p : Printed) (s : List ℕ) (r : Ended) (w : Shown) : Type 0 where
  pub text : w.text.now ≡ s
  pub sort_names : w.sort_names.now ≡ p.sort_names
  pub head_names : w.head_names.now ≡ p.head_names
  pub term_names : w.term_names.now ≡ p.term_names
  pub sort_list : w.sort_list.now ≡ p.sort_list
  pub errors : w.errors.now ≡ p.errors
  pub ended : w.ended ≡ r

-- what `read_text` leaves
pub shows_text : (s : List ℕ) (r : Ended) (t : Store) (work sort_list errors : List ℕ) → end_from s r t (exit_of r work sort_list errors) ≡ text_end s → Shows s t.sort_names t.head_names t.term_names sort_list errors r
shows_text s r t work sort_list errors is = record {
  rows = λ room k h. row_of_text s r t work sort_list errors room k is h;
  count = rows_of_text s r t work sort_list errors is;
}

-- Bytes put where they fit: if they do, they stand from `at` up to `end` and all else is as it was.
pub record PutWhole (out : List ℕ) (at : ℕ) (bytes : List ℕ) (end : ℕ) (out' : List ℕ) : Type 0 where
  pub ends : end ≡ at + length bytes
  pub holds : end ≤ length out → out' ≡ sets out at bytes

pub put_fits : {out : List ℕ} {at : ℕ} {bytes : List ℕ} {end : ℕ} {out' : List ℕ} → Put out at bytes end out' → PutWhole out at bytes end out'
put_fits p = record { ends = p.ends; holds = λ h. p.holds }

pub put_past : (out : List ℕ) (at : ℕ) (bytes : List ℕ) (end : ℕ) → end ≡ at + length bytes → length out < end → PutWhole out at bytes end out
put_past out at bytes end e past = record { ends = e; holds = λ h. absurd (omega arith) }

-- what stands at the front of a line after a row was put there
put_front : {out : List ℕ} {bytes : List ℕ} {end : ℕ} {out' : List ℕ} → Put out 0 bytes end out' → end ≤ length out → take end out' ≡ bytes
put_front {out} {bytes} {end} {out'} p h =
    ap (λ (l : List ℕ). take end l) (put_reads p h)
    ∙ ap (λ (k : ℕ). take k (bytes ++ drop end out)) (let e : end ≡ length bytes = omega (arith, p.ends) in e) ∙ take-append_seam bytes (drop end out)

-- the rows from row k on
unfoldable pub rows_from : List ℕ → ℕ → ℕ → List ℕ
rows_from s k n = joined (row_of (text_end s)) (from k (n - k))

pub rows_all : (s : List ℕ) (n : ℕ) → n ≡ row_count (text_end s) → rows_from s 0 n ≡ sorts_text s
unfolding rows_from sorts_text
rows_all s n h = ap (λ (m : ℕ). joined (row_of (text_end s)) (from 0 m)) (let e : n - 0 ≡ row_count (text_end s) = omega arith in e)

pub rows_next : (s : List ℕ) (k n : ℕ) → k < n → rows_from s k n ≡ row_of (text_end s) k ++ rows_from s (k + 1) n
unfolding rows_from from joined
rows_next s k n h =
    ap (λ (m : ℕ). joined (row_of (text_end s)) (from k m)) (let e : n - k ≡ suc (n - (k + 1)) = omega arith in e)
    ∙ ap (λ (m : ℕ). row_of (text_end s) k ++ joined (row_of (text_end s)) (from m (n - (k + 1)))) (sym (add-one k))

pub rows_end : (s : List ℕ) (k n : ℕ) → n ≤ k → rows_from s k n ≡ []
unfolding rows_from from joined
rows_end s k n h = ap (λ (m : ℕ). joined (row_of (text_end s)) (from k m)) (let e : n - k ≡ 0 = omega arith in e)

-- Rows up to k have `at` bytes: with the rows that are left these are all bytes of the output. No row is longer than a line.
pub record Counted (s : List ℕ) (rows k at : ℕ) : Type 0 where
  pub bytes : at + length (rows_from s k rows) ≡ length (sorts_text s)
  pub most : at ≤ k * line_bytes

pub counted_none : (s : List ℕ) (rows : ℕ) → rows ≡ row_count (text_end s) → Counted s rows 0 0
counted_none s rows h = record { bytes = omega (arith, ap length (rows_all s rows h)); most = omega arith }

-- row k, of n bytes, and those behind it
row_counted : (s : List ℕ) (rows k n : ℕ) → k < rows → n ≡ length (row_of (text_end s) k) → length (rows_from s k rows) ≡ n + length (rows_from s (k + 1) rows)
row_counted s rows k n h is = omega (arith, is, ap length (rows_next s k rows h) ∙ length-append (row_of (text_end s) k) (rows_from s (k + 1) rows))

pub counted_next : (s : List ℕ) (rows k at n : ℕ) → Counted s rows k at → k < rows → n ≡ length (row_of (text_end s) k) → n ≤ line_bytes → Counted s rows (k + 1) (at + n)
counted_next s rows k at n l h is short = record {
  bytes = omega (arith, row_counted s rows k n h is, l.bytes);
  most = omega (arith, l.most, short);
}

pub counted_most : (s : List ℕ) (rows k at n : ℕ) → Counted s rows k at → k < rows → n ≡ length (row_of (text_end s) k) → at + n ≤ length (sorts_text s)
counted_most s rows k at n l h is = omega (arith, row_counted s rows k n h is, l.bytes)

pub counted_end : {s : List ℕ} {rows k at : ℕ} → Counted s rows k at → rows ≤ k → at ≡ length (sorts_text s)
counted_end {s} {rows} {k} {at} l h = omega (arith, l.bytes, ap length (rows_end s k rows h))

-- Rows up to k stand in `out`, the next place is `at`: with the rows that are left put behind them, `out` is as if all were put
-- into what it was.
pub record Rest (s first : List ℕ) (rows k at : ℕ) (out : List ℕ) : Type 0 where
  pub counted : Counted s rows k at
  pub same : length out ≡ length first
  pub whole : length (sorts_text s) ≤ length first → sets out at (rows_from s k rows) ≡ sets first 0 (sorts_text s)

pub rest_all : (s first : List ℕ) (rows : ℕ) → rows ≡ row_count (text_end s) → Rest s first rows 0 0 first
rest_all s first rows h = record {
  counted = counted_none s rows h;
  same = refl;
  whole = λ fits. ap (sets first 0) (rows_all s rows h);
}

-- a turn: row k is put into the line, and from there behind the rows before it
module _ (s first : List ℕ) (rows k at : ℕ) (out line line' row : List ℕ) (n end : ℕ) (out' : List ℕ) where
  pub rest_next : Rest s first rows k at out → k < rows → row ≡ row_of (text_end s) k → length line ≡ line_bytes → Put line 0 row n line' → n ≤ length line
      → length out' ≡ length out → PutWhole out at (take n line') end out' → Rest s first rows (k + 1) end out'
  rest_next l h e long put short same p =
      let later = rows_from s (k + 1) rows in
      let next = rows_next s k rows h ∙ ap (λ (x : List ℕ). x ++ later) (sym (put_front put short ∙ e)) in
      let is : length (take n line') ≡ length (row_of (text_end s) k) = ap length (put_front put short ∙ e) in
      let counts = counted_next s rows k at (length (take n line')) l.counted h is (omega (arith, ap length (put_front put short), put.ends)) in record {
        counted = subst (λ (m : ℕ). Counted s rows (k + 1) m) (sym p.ends) counts;
        same = same ∙ l.same;
        whole = λ fits.
            ap (λ (o : List ℕ). sets o end later) (p.holds (omega (arith, counts.bytes, l.same, p.ends)))
            ∙ ap (λ (m : ℕ). sets (sets out at (take n line')) m later) p.ends ∙ sym (sets_append out at (take n line') later) ∙ ap (sets out at) (sym next) ∙ l.whole fits;
      }

pub rest_end : {s first : List ℕ} {rows k at : ℕ} {out : List ℕ} → Rest s first rows k at out → rows ≤ k → PutWhole first 0 (sorts_text s) at out
rest_end {s} {first} {rows} {k} {at} {out} l h = record {
  ends = omega (arith, counted_end l.counted h);
  holds = λ fits. ap (sets out at) (sym (rows_end s k rows h)) ∙ l.whole (omega (arith, counted_end l.counted h));
}

-- what is put at the front where all fits, and what stays where it does not
pub front_whole : {bytes out : List ℕ} {end : ℕ} {out' : List ℕ} → PutWhole out 0 bytes end out' → length bytes ≤ length out → out' ≡ at_front bytes out
front_whole {bytes} {out} p h =
    p.holds (omega (arith, p.ends)) ∙ sets-eq bytes out 0 (omega arith)
    ∙ rw (le-leb (length bytes) (length out) h) (ap (λ (k : ℕ). bytes ++ drop k out) (let e : 0 + length bytes ≡ length bytes = omega arith in e))

pub front_kept : (bytes out : List ℕ) → length out < length bytes → out ≡ at_front bytes out
front_kept bytes out h = rw (lt-leb (length bytes) (length out) h) refl
