-- What follows from what was read and written.
use Rattle.std.specs.Prelude.{ℕ, ◌+◌, ◌≤◌, ◌<◌, ◌≡◌, List, Bool, Result, Ok, Err, true, false, is_err, ltb, length}
use Rattle.std.proofs.Common.{arith, ap, ◌∙◌, sym, ltb-true, lt-ltb, le-ltb}
use Rattle.text_definition.specs.Run.{text_end}
use Rattle.text_definition.specs.Rows.{row_of, sorts_text}
use Rattle.out_rows.specs.Room.{line_bytes}
use Rattle.out_text.specs.Shows.{Counted, counted_next, counted_most}
use Rattle.out_write.specs.declared.system.Broken.{Broken}
use Rattle.out_write.specs.Handed.{Handed, taken}

-- the system took at most all, and writing failed exactly where these are not all
pub handed_told : (n : ℕ) (w : Result ℕ Broken) → Handed n w → (taken w ≤ n) × (is_err w ≡ ltb (taken w) n)
handed_told n (Ok k) h = (omega arith, sym (le-ltb k n (omega arith)))
handed_told n (Err b) h = (omega arith, sym (lt-ltb b.bytes n h))

-- where writing did not fail, the system took all
pub handed_whole : (n : ℕ) (w : Result ℕ Broken) → Handed n w → is_err w ≡ false → taken w ≡ n
handed_whole n (Ok k) h e = h
handed_whole n (Err b) h e = cc

-- how many bytes the system took, and whether writing failed
abbrev pub outcome : Result ℕ Broken → ℕ × Bool
outcome w = (taken w, is_err w)

-- No second outcome for as many bytes: why writing failed is the system's to say.
pub handed_once : (n : ℕ) (w w' : Result ℕ Broken) → Handed n w → Handed n w' → taken w ≡ taken w' → outcome w ≡ outcome w'
handed_once n w w' p q e i = (e i, ((handed_told n w p).1 ∙ ap (λ (k : ℕ). ltb k n) e ∙ sym (handed_told n w' q).1) i)

-- A row is written: where writing it failed, writing the output has; else the rows up to the next are written.
module _ (s : List ℕ) (rows k at n : ℕ) (w : Result ℕ Broken) where
  pub row_failed : Counted s rows k at → k < rows → n ≡ length (row_of (text_end s) k) → Handed n w → is_err w ≡ true → (b : Broken) → b.bytes ≡ at + taken w → Handed (length (sorts_text s)) (Err b)
  row_failed l h is p e b q =
      let part = ltb-true (taken w) n (sym (handed_told n w p).1 ∙ e) in
      omega (arith, q, part, counted_most s rows k at n l h is)

  pub row_whole : Counted s rows k at → k < rows → n ≡ length (row_of (text_end s) k) → n ≤ line_bytes → Handed n w → is_err w ≡ false → Counted s rows (k + 1) (at + taken w)
  row_whole l h is short p e =
      let all = handed_whole n w p e in
      counted_next s rows k at (taken w) l h (all ∙ is) (omega (arith, all, short))
