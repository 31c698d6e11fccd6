-- Laws of `puts` and `lay`.
use Rattle.std.specs.Prelude.{ℕ, suc, ◌+◌, ◌-◌, ◌*◌, min, ◌≤◌, ◌<◌, ◌≡◌, refl, List, [], ◌∷◌, ◌++◌, length, take, drop, set, get_or}
use Rattle.std.proofs.Common.{arith, zero-add, add-zero, add-suc, suc-add, ap, ◌∙◌, append_assoc, length-drop, take_at, drop_at, take_all, add-one, sym, length-take-le, take-append-drop, drop_of_length-le, drop-cons}
use lib.Seq.{paste}
use Rattle.std.proofs.lemmas.List.{set_past}
use Rattle.std.proofs.Math.Nat.{sub-zero}
use Rattle.std.proofs.lemmas.List.Edits.{sets-eq}
use Rattle.std.proofs.Math.Seq.{length-sets}
use Rattle.definition.specs.Lists.{from}
use Rattle.rule_cells.specs.declared.Origin.{Origin}
use Rattle.definition.specs.Sizes.{record_cells}
use Rattle.rule_cells.specs.Put.{puts, Record, cells, lay}

-- one after the other
pub puts_append : (l : List ℕ) (i : ℕ) (a b : List ℕ) → puts l i (a ++ b) ≡ puts (puts l i a) (i + length a) b
puts_append l i [] b = rw (add-zero i)
puts_append l i (v ∷ a) b = rw (add-suc, ← suc-add) (puts_append (set l i v) (suc i) a b)

pub lay_append : (o : Origin) (l : List ℕ) (n : ℕ) (a b : List Record) → lay o l n (a ++ b) ≡ lay o (lay o l n a) (n + length a) b
unfolding lay
lay_append o l n [] b = rw (add-zero n)
lay_append o l n (r ∷ a) b = rw (add-suc, ← suc-add) (lay_append o (puts l (n * record_cells) (cells o r)) (suc n) a b)

-- the readable form: what stood before, the values, what stood behind them
pub puts_is : (l : List ℕ) (i : ℕ) (a : List ℕ) → i + length a ≤ length l → puts l i a ≡ take i l ++ a ++ drop (i + length a) l
puts_is l i a h = sets-eq a l i h

-- and at the front
take_none : (l : List ℕ) → take 0 l ≡ []
take_none [] = refl
take_none (x ∷ l) = refl

pub puts_front : (l a : List ℕ) → length a ≤ length l → puts l 0 a ≡ a ++ drop (length a) l
puts_front l a h = puts_is l 0 a (omega arith) ∙ ap (λ (before : List ℕ). before ++ a ++ drop (0 + length a) l) (take_none l) ∙ rw zero-add

pub puts_length : (l : List ℕ) (i : ℕ) (a : List ℕ) → length (puts l i a) ≡ length l
puts_length l i a = length-sets l i a

-- what was put is read back
pub part_puts : (l : List ℕ) (i : ℕ) (a : List ℕ) → i + length a ≤ length l → take (length a) (drop i (puts l i a)) ≡ a
part_puts l i a h =
    let before : length (take i l) ≡ i = length-take-le i l (omega arith) in
    rw (puts_is l i a h, append_assoc, drop_at (take i l) (a ++ drop (i + length a) l) i before, take_at a (drop (i + length a) l) (length a) refl)

pub take_puts : (l a : List ℕ) → length a ≤ length l → take (length a) (puts l 0 a) ≡ a
take_puts l a h = part_puts l 0 a (omega arith)

-- the cells used of a buffer are what was put at its front
pub front : (l l' a : List ℕ) (n : ℕ) → l' ≡ puts l 0 a → n ≡ length a → length a ≤ length l → take n l' ≡ a
front l l' a n e k h = rw (e, k) (take_puts l a h)

-- past the list's end nothing is put; so a copy that ends with the list puts all
puts_idle : (l : List ℕ) (i : ℕ) (vs : List ℕ) → (0 < length vs → length l ≤ i) → puts l i vs ≡ l
puts_idle l i [] h = refl
puts_idle l i (v ∷ vs) h =
    let past : length l ≤ i = h (omega arith) in
    let same : set l i v ≡ l = set_past l i v past in
    rw same (puts_idle l (suc i) vs (λ k. omega arith))

pub puts_past : (l : List ℕ) (i : ℕ) (vs : List ℕ) → length l ≤ i → l ≡ puts l i vs
puts_past l i vs h = sym (puts_idle l i vs (λ k. h))

pub puts_cut : (l : List ℕ) (i n : ℕ) (vs part : List ℕ) → i < length l → n ≡ min (length vs) (length l - i) → part ≡ take n vs → paste l i part n ≡ puts l i vs
puts_cut l i n vs part h e q =
    let k : length part ≡ n = rw q (length-take-le n vs (omega arith)) in
    let left : puts (puts l i part) (i + n) (drop n vs) ≡ puts l i part =
    puts_idle (puts l i part) (i + n) (drop n vs) (λ some. omega (arith, puts_length l i part, length-drop n vs)) in
    let whole : vs ≡ part ++ drop n vs = rw q (sym (take-append-drop n vs)) in
    let all : puts l i vs ≡ puts l i part = ap (puts l i) whole ∙ puts_append l i part (drop n vs) ∙ rw k left in
    let none : take n part ≡ part = take_all n part (omega arith) in
    rw none (sym (all ∙ puts_is l i part (omega arith) ∙ rw k))

-- nothing is put yet; nothing is left to put
pub puts_start : (l : List ℕ) (at : ℕ) (vs : List ℕ) → puts l (at + 0) vs ≡ puts l at vs
puts_start l at vs = rw add-zero

pub puts_end : (l l' : List ℕ) (at i : ℕ) (vs : List ℕ) → length vs ≤ i → puts l' (at + i) (drop i vs) ≡ puts l at vs → l' ≡ puts l at vs
puts_end l l' at i vs h e = rw (drop_of_length-le vs h) at e

-- a turn of a loop that puts a list
pub puts_turn : (l l' : List ℕ) (at i : ℕ) (vs : List ℕ) → i < length vs → l' ≡ set l (at + i) (get_or vs i 0) → puts l' (at + (i + 1)) (drop (i + 1) vs) ≡ puts l (at + i) (drop i vs)
puts_turn l l' at i vs h e = rw (e, add-one, add-suc, drop-cons vs i 0 h)

-- the same of a loop that puts numbers one above the other
pub numbers_start : (l : List ℕ) (at first n : ℕ) → puts l (at + 0) (from (first + 0) (n - 0)) ≡ puts l at (from first n)
numbers_start l at first n = rw (add-zero at, add-zero first, sub-zero)

pub numbers_end : (l l' : List ℕ) (at first i n : ℕ) → n ≤ i → puts l' (at + i) (from (first + i) (n - i)) ≡ puts l at (from first n) → l' ≡ puts l at (from first n)
unfolding from
numbers_end l l' at first i n h e = let k : n - i ≡ 0 = omega arith in rw k at e

-- a turn of a loop that puts the numbers from `first` on
pub numbers_turn : (l l' : List ℕ) (at first i n : ℕ) → i < n → l' ≡ set l (at + i) (first + i) → puts l' (at + (i + 1)) (from (first + (i + 1)) (n - (i + 1))) ≡ puts l (at + i) (from (first + i) (n - i))
unfolding from
numbers_turn l l' at first i n h e = let k : n - i ≡ suc (n - (i + 1)) = omega arith in rw (k, e, add-one, add-suc, add-suc)
