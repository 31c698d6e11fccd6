-- A list lent from a cell on, and the whole when that part is back.
use Prim.Native.Nat.{ℕ, ◌+◌, ◌-◌, ◌≤◌}
use mathlib.Core.Path.{◌≡◌, ap, ◌∙◌}
use mathlib.Core.List.{List, ◌++◌}
use native.Mathlib.Omega.{arith}
use lib.ListN.{length, take, drop, length-append, length-drop}
use lib.Seq.{length-take-le}
use Rattle.solve_leaves.specs.Laws.Cells.{mid_end, put_end, before_end, end_part}

abbrev pub lent_from : ℕ → List ℕ → List ℕ
lent_from k l = take (length l - k) (drop k l)

abbrev pub back : ℕ → List ℕ → List ℕ → List ℕ
back k l part = take k l ++ (part ++ drop (length l - k) (drop k l))

pub lent_length : (k : ℕ) (l : List ℕ) → length (lent_from k l) ≡ length l - k
lent_length k l = ap length (mid_end k l) ∙ length-drop k l

pub back_length : (k : ℕ) (l part : List ℕ) → k ≤ length l → length part ≡ length (lent_from k l) → length (back k l part) ≡ length l
back_length k l part h e =
    ap length (put_end k l part) ∙ length-append (take k l) part ∙ sums (length (take k l)) (length part) (length-take-le k l h) (e ∙ lent_length k l)
  where
    sums : (a b : ℕ) → a ≡ k → b ≡ length l - k → a + b ≡ length l
    sums a b p q = omega arith

pub back_before : (k m : ℕ) (l part : List ℕ) → m ≤ k → k ≤ length l → take m (back k l part) ≡ take m l
back_before k m l part h g = ap (take m) (put_end k l part) ∙ before_end k m l part h g

pub back_part : (k : ℕ) (l part : List ℕ) → k ≤ length l → drop k (back k l part) ≡ part
back_part k l part h = ap (drop k) (put_end k l part) ∙ end_part k l part h
