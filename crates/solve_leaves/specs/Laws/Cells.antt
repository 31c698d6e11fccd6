-- Lists of cells: copies, and parts that are lent.
use Rattle.std.specs.Prelude.{ℕ, zero, suc, ◌+◌, ◌-◌, ◌<◌, ◌≤◌, ◌≡◌, refl, ◌⊎◌, true, false, List, ◌++◌, length, take, drop, get_or}
use Rattle.std.proofs.Common.{sym, ap, ◌∙◌, ⊎_elim, append_assoc, append-nil, arith, length-take, length-drop, drop_of_length-le, take_all, take-take, take_at, drop_at, get_or-take, get_or-drop, length-take-le}
use Rattle.definition.specs.Update.{is_sorted}
use Rattle.std.proofs.Math.Seq.{paste}
use Rattle.std.proofs.lemmas.List.Edits.{drop-paste}
use Rattle.std.proofs.lemmas.List.{take-append-le}

-- a part to the end of the list is the rest of the list
pub mid_end : (k : ℕ) (l : List ℕ) → take (length l - k) (drop k l) ≡ drop k l
mid_end k l = take_all (length l - k) (drop k l) (simp length-drop (omega arith))

-- and the list with another part in its place
pub put_end : (k : ℕ) (l ys : List ℕ) → take k l ++ (ys ++ drop (length l - k) (drop k l)) ≡ take k l ++ ys
put_end k l ys =
    ap (λ (r : List ℕ). take k l ++ (ys ++ r)) (drop_of_length-le (drop k l) {i = length l - k} (simp length-drop (omega arith)))
    ∙ ap (λ (r : List ℕ). take k l ++ r) (append-nil ys)

-- what stands in front of it, and the part itself
pub before_end : (k m : ℕ) (l ys : List ℕ) → m ≤ k → k ≤ length l → take m (take k l ++ ys) ≡ take m l
before_end k m l ys h g = take-append-le m (take k l) ys (simp length-take (omega arith)) ∙ take-take m k l h

pub end_part : (k : ℕ) (l ys : List ℕ) → k ≤ length l → drop k (take k l ++ ys) ≡ ys
end_part k l ys h = drop_at (take k l) ys k (length-take-le k l h)

-- after a copy: what stands before the target, and the target
pub paste_before : (d : List ℕ) (at : ℕ) (s : List ℕ) (n m : ℕ) → m ≤ at → at ≤ length d → take m (paste d at s n) ≡ take m d
paste_before d at s n m h g =
    ap (take m) (append_assoc (take at d) (take n s) (drop (at + n) d)) ∙ before_end at m d (take n s ++ drop (at + n) d) h g

pub paste_there : (d : List ℕ) (at : ℕ) (s : List ℕ) (n : ℕ) → at ≤ length d → n ≤ length s → take n (drop at (paste d at s n)) ≡ take n s
paste_there d at s n h g =
    ap (λ (l : List ℕ). take n (drop at l)) (append_assoc (take at d) (take n s) (drop (at + n) d))
    ∙ ap (take n) (end_part at d (take n s ++ drop (at + n) d) h)
    ∙ take_at (take n s) (drop (at + n) d) n (length-take-le n s g)

-- a cell of the source is not touched while the target is written
pub source_kept : (d : List ℕ) (at source n i : ℕ) → at + n ≤ length d → source + n ≤ length d → (source + n ≤ at) ⊎ (at + n ≤ source) → i < n
    → get_or (paste d at (drop source d) i) (source + i) 0 ≡ get_or (drop source d) i 0
source_kept d at source n i t s apart h = ⊎_elim before behind apart ∙ sym (get_or-drop source d i 0)
  where
    l : List ℕ
    l = paste d at (drop source d) i

    before : source + n ≤ at → get_or l (source + i) 0 ≡ get_or d (source + i) 0
    before k =
        sym (get_or-take at l (source + i) 0 (omega arith)) ∙ ap (λ (m : List ℕ). get_or m (source + i) 0) (paste_before d at (drop source d) i at (omega arith) (omega arith))
        ∙ get_or-take at d (source + i) 0 (omega arith)

    past : at + n ≤ source → (at + i) + (source - at) ≡ source + i
    past k = omega arith

    behind : at + n ≤ source → get_or l (source + i) 0 ≡ get_or d (source + i) 0
    behind k =
        ap (λ (j : ℕ). get_or l j 0) (sym (past k))
        ∙ sym (get_or-drop (at + i) l (source - at) 0)
        ∙ ap (λ (m : List ℕ). get_or m (source - at) 0) (drop-paste d at (drop source d) i (omega arith) (simp length-drop (omega arith)))
        ∙ get_or-drop (at + i) d (source - at) 0
        ∙ ap (λ (j : ℕ). get_or d j 0) (past k)

-- a cell that is not 0 has a sort
pub sorted : (k : ℕ) → (k ≡ 0 → ⊥) → is_sorted k ≡ true
unfolding is_sorted
sorted zero h = absurd (h refl)
sorted (suc k) h = refl

-- and 0 is none
pub unsorted : (k : ℕ) → k ≡ 0 → is_sorted k ≡ false
unfolding is_sorted
unsorted k h = rw h
