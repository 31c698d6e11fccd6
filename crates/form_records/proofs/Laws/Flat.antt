-- Cells and fields: what stands where in the flat list, and the list with the first records laid out.
use Rattle.std.specs.Prelude.{ℕ, zero, suc, ◌+◌, ◌*◌, ◌≤◌, ◌<◌, ◌≡◌, refl, Bool, true, false, leb, List, [], ◌∷◌, ◌++◌, length, get_or, take, drop}
use Rattle.std.proofs.Common.{sym, ap, ◌∙◌, arith, zero-add, length-take-le, take_at, drop_at, take-add, drop-drop, get_or-append-add, get_or-take, leb-true}
use Rattle.std.proofs.Math.ListN.{get_or-append, get_or-eq_default}
use Rattle.std.proofs.Math.Seq.{drop-append-add}
use Rattle.definition.specs.Sizes.{max_records, record_cells}
use Rattle.definition.proofs.Laws.Kept.{cell_of_zeroes}
use Rattle.rule_cells.specs.Put.{puts}
use Rattle.rule_cells.specs.Laws.{puts_is, puts_length}
use Rattle.form_records.specs.declared.Record.{Record}
use Rattle.form_records.specs.Cells.{cells_of, flat, none, laid, counted}

pub length_flat : (rs : List Record) → length (flat rs) ≡ length rs * record_cells
unfolding flat
length_flat [] = refl
length_flat (r ∷ rs) = omega (arith, length_flat rs)

-- past the last record there is nothing
pub flat_past : (rs : List Record) (i at : ℕ) → length rs ≤ i → i * record_cells ≤ at → 0 ≡ get_or (flat rs) at 0
flat_past rs i at h l = sym (get_or-eq_default (flat rs) 0 (omega (arith, length_flat rs)))

pub none_past : (rs : List Record) (i at : ℕ) → length rs ≤ i → 0 ≡ get_or (cells_of (get_or rs i none)) at 0
none_past rs i at h = sym (ap (λ (r : Record). get_or (cells_of r) at 0) (get_or-eq_default rs none h) ∙ cell_of_zeroes record_cells at)

-- one record further is 8 cells further
further : (i k : ℕ) → suc i * record_cells + k ≡ record_cells + (i * record_cells + k)
further i k = omega arith

further_on : (i : ℕ) → suc i * record_cells ≡ record_cells + i * record_cells
further_on i = omega arith

-- the cell k of record i is its k-th field, also past the list's end
pub cell_at : (rs : List Record) (i k : ℕ) → k < record_cells → get_or (flat rs) (i * record_cells + k) 0 ≡ get_or (cells_of (get_or rs i none)) k 0
unfolding flat
cell_at [] i k h = sym (cell_of_zeroes record_cells k)
cell_at (r ∷ rs) zero k h = rw (zero-add k) (get_or-append (cells_of r) (flat rs) 0 k h)
cell_at (r ∷ rs) (suc i) k h =
    ap (λ (j : ℕ). get_or (cells_of r ++ flat rs) j 0) (further i k) ∙ get_or-append-add (cells_of r) (flat rs) (i * record_cells + k) 0 ∙ cell_at rs i k h

-- the cells from record i on begin with its own
drop_flat : (rs : List Record) (i : ℕ) → i < length rs → drop (i * record_cells) (flat rs) ≡ cells_of (get_or rs i none) ++ drop (suc i * record_cells) (flat rs)
unfolding flat
drop_flat [] i h = absurd (omega arith)
drop_flat (r ∷ rs) zero h = refl
drop_flat (r ∷ rs) (suc i) h = skipped (suc i) i (further_on i) ∙ drop_flat rs i (omega arith) ∙ ap (λ (l : List ℕ). cells_of (get_or rs i none) ++ l) (sym (skipped (suc (suc i)) (suc i) (further_on (suc i))))
  where
    skipped : (n m : ℕ) → n * record_cells ≡ record_cells + m * record_cells → drop (n * record_cells) (cells_of r ++ flat rs) ≡ drop (m * record_cells) (flat rs)
    skipped n m e = ap (λ (j : ℕ). drop j (cells_of r ++ flat rs)) e ∙ drop-append-add (cells_of r) (flat rs) (m * record_cells)

pub length_laid : (rs : List Record) (n : ℕ) (list : List ℕ) → length (laid rs n list) ≡ length list
unfolding laid
length_laid rs zero list = refl
length_laid rs (suc n) list = puts_length (laid rs n list) (n * record_cells) (cells_of (get_or rs n none)) ∙ length_laid rs n list

take_flat : (rs : List Record) (n : ℕ) → n < length rs → take (suc n * record_cells) (flat rs) ≡ take (n * record_cells) (flat rs) ++ cells_of (get_or rs n none)
take_flat rs n h =
    let e : suc n * record_cells ≡ n * record_cells + record_cells = omega arith in
    ap (λ (j : ℕ). take j (flat rs)) e ∙ take-add (n * record_cells) record_cells (flat rs)
    ∙ ap (λ (l : List ℕ). take (n * record_cells) (flat rs) ++ take record_cells l) (drop_flat rs n h)
    ∙ ap (λ (l : List ℕ). take (n * record_cells) (flat rs) ++ l) (take_at (cells_of (get_or rs n none)) (drop (suc n * record_cells) (flat rs)) record_cells refl)

-- one record more
laid_step : (rs : List Record) (n : ℕ) (list now : List ℕ) → n < length rs → suc n * record_cells ≤ length list → length now ≡ length list →
    now ≡ take (n * record_cells) (flat rs) ++ drop (n * record_cells) list →
    puts now (n * record_cells) (cells_of (get_or rs n none)) ≡ take (suc n * record_cells) (flat rs) ++ drop (suc n * record_cells) list
laid_step rs n list now h l e is =
    puts_is now at c (omega arith) ∙ ap (λ (x : List ℕ). x ++ c ++ drop (at + record_cells) now) front
    ∙ ap (λ (x : List ℕ). take at (flat rs) ++ c ++ x) behind ∙ ap (λ (x : List ℕ). x ++ drop (suc n * record_cells) list) (sym (take_flat rs n h))
  where
    at : ℕ
    at = n * record_cells

    c : List ℕ
    c = cells_of (get_or rs n none)

    reaches : length (take at (flat rs)) ≡ at
    reaches = length-take-le at (flat rs) (omega (arith, length_flat rs))

    front : take at now ≡ take at (flat rs)
    front = ap (take at) is ∙ take_at (take at (flat rs)) (drop at list) at reaches

    behind : drop (at + record_cells) now ≡ drop (suc n * record_cells) list
    behind =
        let e : n * record_cells + record_cells ≡ suc n * record_cells = omega arith in
        sym (drop-drop record_cells at now) ∙ ap (λ (x : List ℕ). drop record_cells (drop at x)) is
        ∙ ap (drop record_cells) (drop_at (take at (flat rs)) (drop at list) at reaches) ∙ drop-drop record_cells at list ∙ ap (λ (j : ℕ). drop j list) e

-- the readable form: the records' cells, and behind them what stood there
pub laid_is : (rs : List Record) (n : ℕ) (list : List ℕ) → n ≤ length rs → n * record_cells ≤ length list →
    laid rs n list ≡ take (n * record_cells) (flat rs) ++ drop (n * record_cells) list
unfolding laid
laid_is rs zero list h l = refl
laid_is rs (suc n) list h l = laid_step rs n list (laid rs n list) (omega arith) l (length_laid rs n list) (laid_is rs n list (omega arith) (omega arith))

-- so the cells in front are the records'
pub laid_front : (rs : List Record) (n : ℕ) (list : List ℕ) → n ≤ length rs → n * record_cells ≤ length list →
    take (n * record_cells) (laid rs n list) ≡ take (n * record_cells) (flat rs)
laid_front rs n list h l =
    ap (take (n * record_cells)) (laid_is rs n list h l)
    ∙ take_at (take (n * record_cells) (flat rs)) (drop (n * record_cells) list) (n * record_cells) (length-take-le (n * record_cells) (flat rs) (omega (arith, length_flat rs)))

-- the first records of a list are laid out as the list's own
laid_of_front : (rs : List Record) (n m : ℕ) (list : List ℕ) → m ≤ n → laid (take n rs) m list ≡ laid rs m list
unfolding laid
laid_of_front rs n zero list h = refl
laid_of_front rs n (suc m) list h = rw (laid_of_front rs n m list (omega arith), get_or-take n rs m none (omega arith)) refl

pub laid_of_taken : (rs : List Record) (n : ℕ) (list : List ℕ) → n ≤ length rs → laid (take n rs) (length (take n rs)) list ≡ laid rs n list
laid_of_taken rs n list h = rw (length-take-le n rs h) (laid_of_front rs n n list (omega arith))

-- what is looked at is lent, and few
pub counted_few : (count lent : ℕ) → (counted count lent ≤ lent) × (counted count lent ≤ max_records)
counted_few count lent = go (leb count max_records) refl (leb count lent) refl
  where
    go : (few : Bool) → leb count max_records ≡ few → (there : Bool) → leb count lent ≡ there → (counted count lent ≤ lent) × (counted count lent ≤ max_records)
    go true e true f = rw (e, f) (leb-true count lent f, leb-true count max_records e)
    go true e false f = rw (e, f) (omega arith, omega arith)
    go false e there f = rw e (omega arith, omega arith)

-- the records that are looked at, laid out
pub looked_at : (rs seen : List Record) (count : ℕ) (list : List ℕ) → seen ≡ take (counted count (length rs)) rs →
    laid seen (length seen) list ≡ laid rs (counted count (length rs)) list
looked_at rs seen count list e = rw e (laid_of_taken rs (counted count (length rs)) list (counted_few count (length rs)).0)

pub few_looked_at : (rs seen : List Record) (count : ℕ) → seen ≡ take (counted count (length rs)) rs → length seen ≤ max_records
few_looked_at rs seen count e =
    omega (arith, ap length e, length-take-le (counted count (length rs)) rs (counted_few count (length rs)).0, (counted_few count (length rs)).1)
