-- Tests on numbers that say the same, and tests joined by `&&`.
use Prim.Native.Nat.{ℕ, ◌+◌, ◌*◌, ◌-◌, ◌/◌, ◌≤◌, ◌<◌}
use mathlib.Core.Path.{◌≡◌, refl, sym, ◌∙◌}
use mathlib.Core.Bool.{Bool, true, false, ◌&&◌}
use native.Mathlib.Omega.{arith}
use lib.Dec.{leb}
use lib.ListN.{length}
use borrow.Author.Tests.{leb-true, leb-false, le-leb, lt-leb}
use Rattle.definition.specs.Sizes.{max_records, max_side, max_tops, max_range, max_terms, max_sorts, record_cells, range_cells}
use Rattle.definition.specs.Problem.{Problem}
use Rattle.definition.specs.Refusal.{counts_fit}

pub leb_same : (a b c d : ℕ) → (a ≤ b → c ≤ d) → (b < a → d < c) → leb a b ≡ leb c d
leb_same a b c d f g = go (leb a b) refl
  where
    go : (t : Bool) → leb a b ≡ t → leb a b ≡ leb c d
    go true e = e ∙ sym (le-leb c d (f (leb-true a b e)))
    go false e = e ∙ sym (lt-leb c d (g (leb-false a b e)))

-- a part ends within the cells if it is no longer than what is left of them
pub part_left : (start n cells : ℕ) → start ≤ cells → leb n (cells - start) ≡ leb (start + n) cells
part_left start n cells h = leb_same n (cells - start) (start + n) cells (λ w. omega arith) (λ w. omega arith)

-- the test of the counts, with lists divided
pub counts_divided : (p : Problem) → counts_fit p ≡
    (leb p.counts.records max_records && leb p.counts.records (length p.records / record_cells)
    && (leb p.counts.side max_side && leb p.counts.side (length p.side))
    && (leb p.counts.tops max_tops && leb p.counts.tops (length p.tops))
    && (leb p.counts.range max_range && leb p.counts.range (length p.range / range_cells))
    && leb p.counts.terms max_terms
    && leb p.counts.sorts max_sorts)
unfolding counts_fit
counts_divided p =
    let a : leb (p.counts.records * record_cells) (length p.records) ≡ leb p.counts.records (length p.records / record_cells) =
    leb_same (p.counts.records * record_cells) (length p.records) p.counts.records (length p.records / record_cells) (λ w. omega arith) (λ w. omega arith) in
    let b : leb (p.counts.range * range_cells) (length p.range) ≡ leb p.counts.range (length p.range / range_cells) =
    leb_same (p.counts.range * range_cells) (length p.range) p.counts.range (length p.range / range_cells) (λ w. omega arith) (λ w. omega arith) in
    rw (a, b)

pub part_past : (start n cells : ℕ) → cells < start → leb (start + n) cells ≡ false
part_past start n cells h = lt-leb (start + n) cells (omega arith)
