-- `copy_cells` meets its contract. After i turns the first i cells of the source stand at the target.
use Prim.Native.Nat.{ℕ, ◌+◌, ◌<◌}
use mathlib.Core.Path.{◌≡◌, refl, ap, sym, ◌∙◌}
use mathlib.Core.List.{List}
use native.Mathlib.Omega.{arith}
use native.Mathlib.Numerals.{add-one}
use lib.ListN.{length, drop, set, get_or, length-drop}
use lib.Seq.{paste, paste-zero, paste-suc, length-paste}
use Rattle.solve_leaves.specs.Room.{Apart}
use Rattle.solve_leaves.specs.Laws.Cells.{source_kept}
use Rattle.solve_leaves.proofs.frame.copy_cells.Goals as goal

-- a turn: one more cell stands at the target
copied : (d : List ℕ) (source target n i : ℕ) (cells : List ℕ) → Apart source target n d → i < n → cells ≡ paste d target (drop source d) i
    → (length (set cells (target + i) (get_or cells (source + i) 0)) ≡ length d) × (set cells (target + i) (get_or cells (source + i) 0) ≡ paste d target (drop source d) (i + 1))
copied d source target n i cells h l e = (ap length put ∙ length-paste d target (drop source d) (i + 1) (omega (arith, h.target_in)) (simp length-drop (omega (arith, h.source_in))), put)
  where
    put : set cells (target + i) (get_or cells (source + i) 0) ≡ paste d target (drop source d) (i + 1)
    put =
        ap (λ (l : List ℕ). set l (target + i) (get_or l (source + i) 0)) e
        ∙ ap (set (paste d target (drop source d) i) (target + i)) (source_kept d target source n i h.target_in h.source_in h.apart l)
        ∙ paste-suc d target (drop source d) i 0 (omega (arith, h.target_in)) (simp length-drop (omega (arith, h.source_in)))
        ∙ ap (paste d target (drop source d)) (sym (add-one i))

pub loop-i-init : goal.loop-i-init
loop-i-init c =
    let a = c.args in
    (refl, paste-zero a.cells.now a.to (drop a.from a.cells.now))

pub loop-i-preserved : goal.loop-i-preserved
loop-i-preserved c =
    let a = c.args in
    let i = c.loop-i.i in
    copied a.cells.now a.from a.to a.n i c.loop-i.cells c.requires c.loop-i-test.true c.loop-i.invariant.1

pub returns : goal.returns
returns c =
    let a = c.args in
    let whole : c.loop-i.i ≡ a.n = omega arith in
    c.loop-i.invariant.1 ∙ ap (paste a.cells.now a.to (drop a.from a.cells.now)) whole
