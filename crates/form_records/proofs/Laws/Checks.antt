-- The check over cells that were laid out answers and leaves what the check over records does.
use Prim.Native.Nat.{ℕ, zero, suc, ◌+◌, ◌*◌, ◌/◌, ◌≤◌, ◌<◌}
use Rattle.std.specs.Prelude.{◌≡◌, Bool, true, false, ◌&&◌, List, leb, length, get_or, take, drop, Result, Ok, Err}
use Rattle.std.specs.Result.{is_ok}
use Rattle.std.proofs.Math.Path.{refl, ap}
use Rattle.std.proofs.Common.{sym, ◌∙◌, arith, take-take, get_or-take, length-take-le, leb-true, leb-false, le-leb, true≢false}
use Rattle.std.proofs.Math.ListN.{length-take}
use Rattle.std.proofs.lemmas.Bool.{lt-leb}
use Rattle.definition.specs.declared.Counts.{Counts}
use Rattle.definition.specs.declared.Refusal.{Refusal}
use Rattle.definition.specs.Numbers.{number_of, refused}
use Rattle.definition.specs.Sizes.{record_cells, max_records}
use Rattle.definition.specs.Refusal.{counts_fit, records_refusal, unless}
use Rattle.definition.proofs.Laws.Refused.{Counted, counted, accepted, refused_counts}
use Rattle.solve_records.specs.Lent.{lent}
use Rattle.solve_records.proofs.Bools.{leb_same}
use Rattle.definition.proofs.Laws.Numbers.{positive}
use Rattle.rule_cells.specs.Put.{puts}
use Rattle.rule_cells.specs.Laws.{puts_length, take_puts}
use Rattle.form_records.specs.declared.Record.{Record}
use Rattle.form_records.specs.Cells.{cells_of, flat, none, laid}
use Rattle.form_records.specs.Cells.{counted as counted_of}
use Rattle.form_records.specs.Left.{given, left_on, Checked, Left}
use Rattle.form_records.proofs.Laws.Flat.{length_flat, cell_at, length_laid, laid_front}
use Rattle.form_records.proofs.Laws.Prefix.{same_front}

-- the two tests of the lists
passed : (s t : Bool) (rest : ℕ) → s ≡ true → t ≡ true → unless (s && t) 1 rest ≡ rest
passed s t rest e f = rw (e, f)

missed : (s t : Bool) (rest : ℕ) → s ≡ true → t ≡ false → unless (s && t) 1 rest ≡ 1
missed s t rest e f = rw (e, f)

missed_first : (s t : Bool) (rest : ℕ) → s ≡ false → unless (s && t) 1 rest ≡ 1
missed_first s t rest e = rw e

-- 1 is given where the records counted pass their largest size or their list
refused_many : (c : Counts) (list side tops range : List ℕ) → max_records < c.records → records_refusal (lent c list side tops range) ≡ 1
unfolding counts_fit
refused_many c list side tops range h = refused_counts (lent c list side tops range) (rw (lt-leb c.records max_records h))

refused_short : (c : Counts) (list side tops range : List ℕ) → length list < c.records * record_cells → records_refusal (lent c list side tops range) ≡ 1
refused_short c list side tops range h = go (counts_fit (lent c list side tops range)) refl
  where
    go : (t : Bool) → counts_fit (lent c list side tops range) ≡ t → records_refusal (lent c list side tops range) ≡ 1
    go true e = absurd (omega (arith, (counted (lent c list side tops range) e).records_lent))
    go false e = refused_counts (lent c list side tops range) e

-- Where the flat list has room for the counted records, the records are refused exactly as their flat list is; where it has not, with 1.
module _ (c : Counts) (rs : List Record) (side tops range old : List ℕ) where
  pub as_the_cells : c.records * record_cells ≤ length old → records_refusal (given c rs side tops range old) ≡ records_refusal (lent c (flat rs) side tops range)
  as_the_cells held = go (leb (c.records * record_cells) (length (flat rs))) refl
    where
      go : (lent_all : Bool) → leb (c.records * record_cells) (length (flat rs)) ≡ lent_all → records_refusal (given c rs side tops range old) ≡ records_refusal (lent c (flat rs) side tops range)
      go true e =
          let l = leb-true (c.records * record_cells) (length (flat rs)) e in
          same_front c (take (length old) (flat rs)) (flat rs) side tops range (omega (arith, l, length-take (length old) (flat rs))) l (take-take (c.records * record_cells) (length old) (flat rs) held)
      go false e =
          let l = leb-false (c.records * record_cells) (length (flat rs)) e in
          refused_short c (take (length old) (flat rs)) side tops range (omega (arith, l, length-take (length old) (flat rs))) ∙ sym (refused_short c (flat rs) side tops range l)

  pub without_room : length old < c.records * record_cells → records_refusal (given c rs side tops range old) ≡ 1
  without_room h = refused_short c (take (length old) (flat rs)) side tops range (omega (arith, h, length-take (length old) (flat rs)))

module _ (c : Counts) (rs : List Record) (side tops range old zeroes : List ℕ) (room : length zeroes ≡ max_records * record_cells) where
  abbrev n : ℕ
  n = c.records

  -- the cells that are laid out, of the counted records alone
  abbrev cells : List ℕ
  cells = laid rs (counted_of n (length rs)) zeroes

  -- the cells that the flat list has room for
  abbrev fitting : List ℕ
  fitting = take (length old) (flat rs)

  -- where all the counted records are lent and there is room for them
  module _ (few : n ≤ max_records) (lent_all : n ≤ length rs) (held : n * record_cells ≤ length old) where
    all_laid : counted_of n (length rs) ≡ n
    all_laid = rw (le-leb n max_records few, le-leb n (length rs) lent_all)

    front : take (n * record_cells) cells ≡ take (n * record_cells) (flat rs)
    front = rw all_laid (laid_front rs n zeroes lent_all (omega arith))

    cells_reach : n * record_cells ≤ length cells
    cells_reach = omega (arith, length_laid rs (counted_of n (length rs)) zeroes)

    fitting_reach : n * record_cells ≤ length fitting
    fitting_reach = omega (arith, length-take (length old) (flat rs), length_flat rs)

    alike : records_refusal (lent c cells side tops range) ≡ records_refusal (given c rs side tops range old)
    alike = same_front c cells fitting side tops range cells_reach fitting_reach (front ∙ sym (take-take (n * record_cells) (length old) (flat rs) held))

  -- else both refuse with 1
  number_same : unless (leb n (length rs) && leb (n * record_cells) (length old)) 1 (records_refusal (lent c cells side tops range)) ≡ records_refusal (given c rs side tops range old)
  number_same = go (leb n (length rs)) refl (leb (n * record_cells) (length old)) refl (leb n max_records) refl
    where
      short : length fitting < n * record_cells → records_refusal (given c rs side tops range old) ≡ 1
      short = refused_short c fitting side tops range

      go : (lent_all : Bool) → leb n (length rs) ≡ lent_all → (held : Bool) → leb (n * record_cells) (length old) ≡ held → (few : Bool) → leb n max_records ≡ few →
          unless (leb n (length rs) && leb (n * record_cells) (length old)) 1 (records_refusal (lent c cells side tops range)) ≡ records_refusal (given c rs side tops range old)
      go true e true f true g =
          passed _ _ _ e f ∙ alike (leb-true n max_records g) (leb-true n (length rs) e) (leb-true (n * record_cells) (length old) f)
      go true e true f false g =
          let many = leb-false n max_records g in
          passed _ _ _ e f ∙ refused_many c cells side tops range many ∙ sym (refused_many c fitting side tops range many)
      go true e false f few g = missed _ _ _ e f ∙ sym (short (omega (arith, leb-false (n * record_cells) (length old) f, length-take (length old) (flat rs))))
      go false e held f few g = missed_first _ _ _ e ∙ sym (short (omega (arith, leb-false n (length rs) e, length-take (length old) (flat rs), length_flat rs)))

  -- what is known where nothing is refused
  known : records_refusal (given c rs side tops range old) ≡ 0 → Counted (given c rs side tops range old)
  known h = counted (given c rs side tops range old) (accepted (given c rs side tops range old) h).counts

  left_same : (r : ℕ) → r ≡ records_refusal (given c rs side tops range old) → left_on r n cells old ≡ left_on r n (flat rs) old
  unfolding left_on
  left_same zero e =
      let k = known (sym e) in
      ap (puts old 0) (front k.records (omega (arith, k.records_lent, length-take (length old) (flat rs), length_flat rs)) (omega (arith, k.records_lent, length-take (length old) (flat rs))))
  left_same (suc k) e = refl

  pub checked : (r : ℕ) (left : List ℕ) → Left c (length rs) cells side tops range old r left → Checked c rs side tops range old r left
  checked r left h =
      let e : r ≡ records_refusal (given c rs side tops range old) = h.number ∙ number_same in
      record { number = e; cells = h.cells ∙ left_same r e }

-- What the flat list that is left holds: the counted records, each cell the field of its record; so `solve` does not refuse it with 1 to 4.
module _ (c : Counts) (rs : List Record) (side tops range old left : List ℕ) (h : Checked c rs side tops range old 0 left) where
  abbrev held : ℕ
  held = c.records * record_cells

  counts_known : Counted (given c rs side tops range old)
  counts_known = counted (given c rs side tops range old) (accepted (given c rs side tops range old) (sym h.number)).counts

  reach : (held ≤ length old) × (held ≤ length (flat rs))
  reach = omega (arith, counts_known.records_lent, length-take (length old) (flat rs))

  put : left ≡ puts old 0 (take held (flat rs))
  unfolding left_on
  put = h.cells

  pub left_length : length left ≡ length old
  left_length = ap length put ∙ puts_length old 0 (take held (flat rs))

  pub left_front : take held left ≡ take held (flat rs)
  left_front =
      let l : length (take held (flat rs)) ≡ held = length-take-le held (flat rs) reach.1 in
      ap (take held) put ∙ ap (λ (j : ℕ). take j (puts old 0 (take held (flat rs)))) (sym l) ∙ take_puts old (take held (flat rs)) (omega (arith, l, reach.0))

  pub left_accepted : records_refusal (lent c left side tops range) ≡ 0
  left_accepted =
      same_front c left (take (length old) (flat rs)) side tops range (omega (arith, left_length, reach)) counts_known.records_lent
      (left_front ∙ sym (take-take held (length old) (flat rs) reach.0)) ∙ sym h.number

  pub left_cell : (i k : ℕ) → i < c.records → k < record_cells → get_or left (i * record_cells + k) 0 ≡ get_or (cells_of (get_or rs i none)) k 0
  left_cell i k l m =
      let at : i * record_cells + k < held = omega arith in
      sym (get_or-take held left (i * record_cells + k) 0 at) ∙ ap (λ (x : List ℕ). get_or x (i * record_cells + k) 0) left_front
      ∙ get_or-take held (flat rs) (i * record_cells + k) 0 at ∙ cell_at rs i k m

-- the ways that the check over cells ends
divided : (a b : ℕ) → leb a (b / record_cells) ≡ leb (a * record_cells) b
divided a b = leb_same a (b / record_cells) (a * record_cells) b (λ w. omega arith) (λ w. omega arith)

module _ (c : Counts) (lent_records : ℕ) (cells side tops range old : List ℕ) where
  abbrev test : Bool
  test = leb c.records lent_records && leb c.records (length old / record_cells)

  abbrev number : ℕ
  number = records_refusal (lent c cells side tops range)

  pub left_short : test ≡ false → Left c lent_records cells side tops range old 1 old
  unfolding left_on
  left_short e = record { number = rw (sym (divided c.records (length old)), e); cells = refl }

  pub left_held : (t : Result Unit Refusal) (left : List ℕ) → test ≡ true → refused t ≡ number → is_ok t ≡ true →
      left ≡ puts old 0 (take (c.records * record_cells) (drop 0 cells)) → Left c lent_records cells side tops range old (refused t) left
  unfolding left_on
  left_held (Ok u) left e f g h = record { number = rw (sym (divided c.records (length old)), e) f; cells = h }
  left_held (Err r) left e f g h = absurd (true≢false (sym g))

  pub left_refused : (r : ℕ) → test ≡ true → r ≡ number → (r ≡ 0 → ⊥) → Left c lent_records cells side tops range old r old
  unfolding left_on
  left_refused zero e f given' = absurd (given' refl)
  left_refused (suc r) e f given' = record { number = rw (sym (divided c.records (length old)), e) f; cells = refl }

  pub left_refused_by : (t : Result Unit Refusal) → test ≡ true → refused t ≡ number → is_ok t ≡ false → Left c lent_records cells side tops range old (refused t) old
  unfolding left_on
  left_refused_by (Ok u) e f g = absurd (true≢false g)
  left_refused_by (Err r) e f g = record { number = rw (sym (divided c.records (length old)), e) f; cells = untouched (number_of r) (positive r) }
    where
      untouched : (n : ℕ) → 0 < n → old ≡ left_on n c.records cells old
      untouched zero h = absurd (omega arith)
      untouched (suc n) h = refl

  pub held_cells : 0 ≡ number → (c.records ≤ max_records) × (c.records * record_cells ≤ length cells)
  held_cells f =
      let k = counted (lent c cells side tops range) (accepted (lent c cells side tops range) (sym f)).counts in
      (k.records, k.records_lent)
