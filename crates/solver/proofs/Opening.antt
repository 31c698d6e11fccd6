-- The first open range entry, found by going through the entries in order.
use Prim.Native.Nat.{ℕ, zero, suc, ◌+◌, ◌-◌, ◌*◌, ◌<◌, ◌≤◌}
use mathlib.Core.List.{List}
use mathlib.Core.Path.{◌≡◌, refl, sym, ◌∙◌}
use lib.ListN.{get_or}
use Rattle.definition.specs.Frame.{Frame}
use Rattle.definition.specs.Lists.{from}
use Rattle.definition.specs.Problem.{Problem}
use Rattle.definition.proofs.Laws.Left.{from_step, from_end}
use Rattle.definition.specs.Sizes.{range_cells}
use Rattle.definition.specs.Solve.{Open, all_found, open_at, open_if, first_open}

if_open : (t place s : ℕ) (rest : Open) → s ≡ 0 → open_if t place s rest ≡ open_at t place
unfolding open_if
if_open t place s rest e = rw e

if_sorted : (t place s : ℕ) (rest : Open) → (s ≡ 0 → ⊥) → open_if t place s rest ≡ rest
unfolding open_if
if_sorted t place zero rest ne = absurd (ne refl)
if_sorted t place (suc s) rest ne = refl

-- what is left from i on, as one entry and the rest
from_next : (p : Problem) (f : Frame) (i n : ℕ) → i < n
    → first_open p f (from i (n - i))
    ≡ open_if (get_or p.range (i * range_cells) 0) (get_or p.range (i * range_cells + 1) 0)
    (get_or f.sorts (get_or p.range (i * range_cells) 0) 0) (first_open p f (from (i + 1) (n - (i + 1))))
unfolding first_open
from_next p f i n lt = rw (from_step i n lt)

module _ (range sorts : List ℕ) (i n : ℕ) (lt : i < n) where
  -- no sort at i: this is the entry
  pub open_here : get_or sorts (get_or range (i * range_cells) 0) 0 ≡ 0
      → (p : Problem) (f : Frame) → p.range ≡ range → f.sorts ≡ sorts
      → open_at (get_or range (i * range_cells) 0) (get_or range (i * range_cells + 1) 0) ≡ first_open p f (from i (n - i))
  open_here z p f er es =
      let z' : get_or f.sorts (get_or p.range (i * range_cells) 0) 0 ≡ 0 = rw (er, es) z in
      rw (← er) (sym (from_next p f i n lt ∙ if_open _ _ _ _ z'))

  -- a sort at i: the entry is among the others
  pub open_later : (get_or sorts (get_or range (i * range_cells) 0) 0 ≡ 0 → ⊥)
      → (p : Problem) (f : Frame) → p.range ≡ range → f.sorts ≡ sorts
      → first_open p f (from (i + 1) (n - (i + 1))) ≡ first_open p f (from i (n - i))
  open_later ne p f er es =
      let ne' : get_or f.sorts (get_or p.range (i * range_cells) 0) 0 ≡ 0 → ⊥ = rw (er, es) ne in
      sym (from_next p f i n lt ∙ if_sorted _ _ _ _ ne')

-- none left
pub open_none : (p : Problem) (f : Frame) (i n : ℕ) → n ≤ i → all_found ≡ first_open p f (from i (n - i))
unfolding first_open
open_none p f i n h = rw (from_end i n h)
