-- Reading back what was put into a list, and what stood before it.
use Rattle.std.specs.Prelude.{ℕ, zero, suc, ◌+◌, ◌*◌, ◌≤◌, ◌<◌, ◌≡◌, refl, List, [], ◌∷◌, ◌++◌, length, get_or, take, drop, set}
use Rattle.std.proofs.Common.{arith, add-zero, suc-add, zero-add, le_refl, sym, ap, ◌∙◌, length-set, length-append, get_or-set_same, get_or-set_other, take-take, take-add, drop-drop}
use Rattle.std.proofs.lemmas.List.{take-set-le}
use Rattle.std.proofs.Math.Seq.{take-nil, length-sets, take-append_seam, drop-append_seam}
use Rattle.definition.specs.Problem.{part}
use Rattle.rule_cells.specs.declared.Origin.{Origin}
use Rattle.rule_cells.specs.Laws.{part_puts}
use Rattle.rule_cells.specs.Put.{Record, eq, assign, and, xor, impossible, puts, cells, lay}

-- a cell, and the cells, before what was put
pub before_puts : (l : List ℕ) (i j : ℕ) (vs : List ℕ) → j < i → get_or (puts l i vs) j 0 ≡ get_or l j 0
before_puts l i j [] h = refl
before_puts l i j (v ∷ vs) h = before_puts (set l i v) (suc i) j vs (omega arith) ∙ get_or-set_other l i j v 0 (λ e. omega arith)

pub take_puts_before : (l : List ℕ) (i n : ℕ) (vs : List ℕ) → n ≤ i → take n (puts l i vs) ≡ take n l
take_puts_before l i n [] h = refl
take_puts_before l i n (v ∷ vs) h = take_puts_before (set l i v) (suc i) n vs (omega arith) ∙ take-set-le n l i v h

-- a cell of what was put
pub at_puts : (l : List ℕ) (i j : ℕ) (vs : List ℕ) → i + length vs ≤ length l → j < length vs → get_or (puts l i vs) (i + j) 0 ≡ get_or vs j 0
at_puts l i j [] h k = absurd (omega arith)
at_puts l i zero (v ∷ vs) h k = rw (add-zero i) (before_puts (set l i v) (suc i) i vs (omega arith) ∙ get_or-set_same l i v 0 (omega arith))
at_puts l i (suc j) (v ∷ vs) h k =
    let e : i + suc j ≡ suc i + j = omega arith in
    ap (λ (n : ℕ). get_or (puts (set l i v) (suc i) vs) n 0) e ∙ at_puts (set l i v) (suc i) j vs (omega (arith, length-set l i v)) (omega arith)

-- the first n cells with what was put behind them
pub take_puts_all : (l : List ℕ) (n : ℕ) (vs : List ℕ) → n + length vs ≤ length l → take (n + length vs) (puts l n vs) ≡ take n l ++ vs
take_puts_all l n vs h = rw (take-add, take_puts_before l n n vs, part_puts l n vs h, le_refl)

-- a part that lies within the first m cells
drop_take : (a b : ℕ) (l : List ℕ) → drop a (take (a + b) l) ≡ take b (drop a l)
drop_take zero b l = rw zero-add
drop_take (suc a) b [] = rw (take-nil (suc a + b), take-nil b)
drop_take (suc a) b (x ∷ l) = rw suc-add (drop_take a b l)

pub part_kept : (l k : List ℕ) (m a b : ℕ) → take m l ≡ take m k → a + b ≤ m → part l a b ≡ part k a b
part_kept l k m a b e h =
    sym (drop_take a b l) ∙ ap (drop a) (sym (take-take (a + b) m l h) ∙ ap (take (a + b)) e ∙ take-take (a + b) m k h) ∙ drop_take a b k

-- a list stands in another from cell m on
abbrev pub At : List ℕ → ℕ → List ℕ → Type 0
At l m xs = part l m (length xs) ≡ xs

pub at_append : (l : List ℕ) (m : ℕ) (xs ys : List ℕ) → At l m (xs ++ ys) → At l m xs × At l (m + length xs) ys
at_append l m xs ys h =
    let n : length (xs ++ ys) ≡ length xs + length ys = length-append xs ys in
    let whole : take (length xs + length ys) (drop m l) ≡ xs ++ ys = ap (λ (k : ℕ). take k (drop m l)) (sym n) ∙ h in (
      sym (take-take (length xs) (length xs + length ys) (drop m l) (omega arith)) ∙ ap (take (length xs)) whole ∙ take-append_seam xs ys,
      ap (take (length ys)) (sym (drop-drop (length xs) m l)) ∙ sym (drop_take (length xs) (length ys) (drop m l)) ∙ ap (drop (length xs)) whole ∙ drop-append_seam xs ys,
    )

-- the first three cells of a constraint's record
abbrev pub kind_in : Record → ℕ
kind_in (eq x y) = 0
kind_in (assign x s) = 1
kind_in (and a n) = 2
kind_in (xor a n) = 3
kind_in (impossible h e) = 4

abbrev pub first_in : Record → ℕ
first_in (eq x y) = x
first_in (assign x s) = x
first_in (and a n) = a
first_in (xor a n) = a
first_in (impossible h e) = h

abbrev pub second_in : Record → ℕ
second_in (eq x y) = y
second_in (assign x s) = s
second_in (and a n) = n
second_in (xor a n) = n
second_in (impossible h e) = e

-- constraints stand in a record list as its records from n on
pub record Is (l : List ℕ) (n : ℕ) (r : Record) : Type 0 where
  pub kind : get_or l (n * 8) 0 ≡ kind_in r
  pub first : get_or l (n * 8 + 1) 0 ≡ first_in r
  pub second : get_or l (n * 8 + 2) 0 ≡ second_in r

abbrev pub Standing : List ℕ → ℕ → List Record → Type 0
Standing l n [] = Unit {0}
Standing l n (r ∷ rs) = Is l n r × Standing l (suc n) rs

pub standing_append : (l : List ℕ) (n : ℕ) (a b : List Record) → Standing l n (a ++ b) → Standing l n a × Standing l (n + length a) b
standing_append l n [] b h = (tt, rw (add-zero n) h)
standing_append l n (r ∷ a) b h =
    let e : n + suc (length a) ≡ suc n + length a = omega arith in
    let t = standing_append l (suc n) a b h.1 in
    ((h.0, t.0), rw e t.1)

-- what is laid stands there, and what stood before it stays
pub before_lay : (o : Origin) (l : List ℕ) (n j : ℕ) (rs : List Record) → j < n * 8 → get_or (lay o l n rs) j 0 ≡ get_or l j 0
unfolding lay
before_lay o l n j [] h = refl
before_lay o l n j (r ∷ rs) h = before_lay o (puts l (n * 8) (cells o r)) (suc n) j rs (omega arith) ∙ before_puts l (n * 8) j (cells o r) h

pub length_lay : (o : Origin) (l : List ℕ) (n : ℕ) (rs : List Record) → length (lay o l n rs) ≡ length l
unfolding lay
length_lay o l n [] = refl
length_lay o l n (r ∷ rs) = length_lay o (puts l (n * 8) (cells o r)) (suc n) rs ∙ length-sets l (n * 8) (cells o r)

cells_length : (o : Origin) (r : Record) → length (cells o r) ≡ 8
unfolding cells
cells_length o (eq x y) = refl
cells_length o (assign x s) = refl
cells_length o (and a n) = refl
cells_length o (xor a n) = refl
cells_length o (impossible h e) = refl

record Front (l : List ℕ) (r : Record) : Type 0 where
  zeroth : get_or l 0 0 ≡ kind_in r
  first : get_or l 1 0 ≡ first_in r
  second : get_or l 2 0 ≡ second_in r

front : (o : Origin) (r : Record) → Front (cells o r) r
unfolding cells
front o (eq x y) = record { zeroth = refl; first = refl; second = refl }
front o (assign x s) = record { zeroth = refl; first = refl; second = refl }
front o (and a n) = record { zeroth = refl; first = refl; second = refl }
front o (xor a n) = record { zeroth = refl; first = refl; second = refl }
front o (impossible h e) = record { zeroth = refl; first = refl; second = refl }

laid_one : (o : Origin) (l : List ℕ) (n : ℕ) (r : Record) (rs : List Record) → suc n * 8 ≤ length l → Is (lay o (puts l (n * 8) (cells o r)) (suc n) rs) n r
laid_one o l n r rs h =
    let l' : List ℕ = puts l (n * 8) (cells o r) in
    let e : length (cells o r) ≡ 8 = cells_length o r in
    let at : (j : ℕ) → j < 8 → get_or (lay o l' (suc n) rs) (n * 8 + j) 0 ≡ get_or (cells o r) j 0 =
    λ j k. before_lay o l' (suc n) (n * 8 + j) rs (omega arith) ∙ at_puts l (n * 8) j (cells o r) (omega arith) (omega arith) in
    let f : Front (cells o r) r = front o r in
    let first : get_or (lay o l' (suc n) rs) (n * 8) 0 ≡ kind_in r = ap (λ (i : ℕ). get_or (lay o l' (suc n) rs) i 0) (sym (add-zero (n * 8))) ∙ at 0 (omega arith) ∙ f.zeroth in
    record { kind = first; first = at 1 (omega arith) ∙ f.first; second = at 2 (omega arith) ∙ f.second }

pub laid : (o : Origin) (l : List ℕ) (n : ℕ) (rs : List Record) → (n + length rs) * 8 ≤ length l → Standing (lay o l n rs) n rs
unfolding lay
laid o l n [] h = tt
laid o l n (r ∷ rs) h =
    (laid_one o l n r rs (omega arith), laid o (puts l (n * 8) (cells o r)) (suc n) rs (omega (arith, length-sets l (n * 8) (cells o r))))
