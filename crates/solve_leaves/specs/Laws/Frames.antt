-- The frame at the front of a list of cells: reading and writing it.
use Rattle.std.specs.Prelude.{ℕ, zero, suc, ◌+◌, ◌<◌, ◌≡◌, List, [], ◌∷◌, take, drop, get_or, set}
use Rattle.std.proofs.Common.{sym, ap, ◌∙◌, arith, zero-add, suc-add, take-take, drop-set-lt, get_or-take, get_or-drop}
use Rattle.std.proofs.Math.Seq.{take-nil, take-set-lt}
use Rattle.std.proofs.lemmas.List.{take-set-le, drop-set-add}
use Rattle.definition.specs.declared.Counts.{Counts}
use Rattle.definition.specs.Frame.{sort_of, state_of, put_sort, put_state}
use Rattle.solve_leaves.specs.Room.{frame_cells, frame_of}

-- `take` under `drop` is `drop` under `take`
pub take_drop : (k m : ℕ) (l : List ℕ) → take m (drop k l) ≡ drop k (take (k + m) l)
take_drop zero m l = ap (λ (j : ℕ). take j l) (sym (zero-add m))
take_drop (suc k) m [] = take-nil m ∙ ap (drop (suc k)) (sym (take-nil (suc k + m)))
take_drop (suc k) m (x ∷ l) = take_drop k m l ∙ ap (λ (j : ℕ). drop (suc k) (take j (x ∷ l))) (sym (suc-add k m))

-- a frame is its cells
pub same_frame : (n : Counts) (a b : List ℕ) → take (frame_cells n) a ≡ take (frame_cells n) b → frame_of n a ≡ frame_of n b
same_frame n a b e = λ i. record { sorts = sorts i; states = states i }
  where
    sorts : take n.terms a ≡ take n.terms b
    sorts = sym (take-take n.terms (frame_cells n) a (omega arith)) ∙ ap (take n.terms) e ∙ take-take n.terms (frame_cells n) b (omega arith)

    states : take n.records (drop n.terms a) ≡ take n.records (drop n.terms b)
    states = take_drop n.terms n.records a ∙ ap (drop n.terms) e ∙ sym (take_drop n.terms n.records b)

pub sort_at : (n : Counts) (cells : List ℕ) (t : ℕ) → t < n.terms → sort_of (frame_of n cells) t ≡ get_or cells t 0
sort_at n cells t h = get_or-take n.terms cells t 0 h

pub state_at : (n : Counts) (cells : List ℕ) (r : ℕ) → r < n.records → state_of (frame_of n cells) r ≡ get_or cells (n.terms + r) 0
state_at n cells r h = get_or-take n.records (drop n.terms cells) r 0 h ∙ get_or-drop n.terms cells r 0

pub sort_put : (n : Counts) (cells : List ℕ) (t v : ℕ) → t < n.terms → put_sort (frame_of n cells) t v ≡ frame_of n (set cells t v)
sort_put n cells t v h = λ i. record { sorts = sorts i; states = states i }
  where
    sorts : set (take n.terms cells) t v ≡ take n.terms (set cells t v)
    sorts = sym (take-set-lt n.terms cells t v h)

    states : take n.records (drop n.terms cells) ≡ take n.records (drop n.terms (set cells t v))
    states = ap (take n.records) (sym (drop-set-lt n.terms cells t v h))

pub state_put : (n : Counts) (cells : List ℕ) (r v : ℕ) → r < n.records → put_state (frame_of n cells) r v ≡ frame_of n (set cells (n.terms + r) v)
state_put n cells r v h = λ i. record { sorts = sorts i; states = states i }
  where
    sorts : take n.terms cells ≡ take n.terms (set cells (n.terms + r) v)
    sorts = sym (take-set-le n.terms cells (n.terms + r) v (omega arith))

    states : set (take n.records (drop n.terms cells)) r v ≡ take n.records (drop n.terms (set cells (n.terms + r) v))
    states = sym (take-set-lt n.records (drop n.terms cells) r v h) ∙ ap (take n.records) (sym (drop-set-add n.terms cells r v))
