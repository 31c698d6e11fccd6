-- Marking name after name: one mark, the invariant of a loop that marks, and what it says where the loop ends.
use Prim.Native.Nat.{ℕ, ◌+◌, ◌≤◌, ◌<◌}
use mathlib.Core.Path.{◌≡◌, refl, sym, ◌∙◌}
use mathlib.Core.Bool.{Bool, true, false, ◌&&◌}
use mathlib.Core.Logic.{inl, inr, ⊎_elim}
use mathlib.Core.List.{List, [], ◌∷◌, ◌++◌}
use native.Mathlib.Decide.{ℕ_discrete}
use native.Mathlib.Omega.{arith}
use lib.ListN.{length, get_or, set}
use lib.Seq.{get_or-set_same, get_or-set_other}
use Rattle.definition.specs.Lists.{count}
use Rattle.definition.proofs.Laws.Lists.{count_here, count_other, count_append}
use Rattle.solve_records.specs.Marks.{Marked, Twice, Marking}

-- a number's own count
count_one : (x : ℕ) → count x (x ∷ []) ≡ 1
unfolding count
count_one x = count_here x x [] refl

count_no : (k x : ℕ) → (k ≡ x → ⊥) → count k (x ∷ []) ≡ 0
unfolding count
count_no k x h = count_other k x [] h

-- a number that is marked is named again; one that is not gets its mark
pub named_again : (x bound : ℕ) (marks : List ℕ) → x < bound → (get_or marks x 0 ≡ 0 → ⊥) → Twice bound (x ∷ []) marks
named_again x bound marks l h = record { number = x; inside = l; again = omega (arith, count_one x) }

pub named_first : (x : ℕ) (marks : List ℕ) → x < length marks → get_or marks x 0 ≡ 0 → Marked (x ∷ []) marks (set marks x 1)
named_first x marks l h = record { counted = λ k. go k (ℕ_discrete k x) }
  where
    go : (k : ℕ) → Dec (k ≡ x) → get_or (set marks x 1) k 0 ≡ get_or marks k 0 + count k (x ∷ [])
    go k (yes e) = rw e (get_or-set_same marks x 1 0 l ∙ omega (arith, count_one x))
    go k (no e) = get_or-set_other marks x k 1 0 e ∙ omega (arith, count_no k x e)

-- In a loop: what is left to name has the test that all names have, and with the marks it gives the counts of all names.
pub record Going (fits_left fits : Bool) (left names marks₀ marks : List ℕ) : Type 0 where
  pub test : fits_left ≡ fits
  pub cells : (k : ℕ) → get_or marks k 0 + count k left ≡ get_or marks₀ k 0 + count k names

pub go_start : (fits : Bool) (names marks : List ℕ) → Going fits fits names names marks marks
go_start fits names marks = record { test = refl; cells = λ k. refl }

-- the next names are xs: they are marked, or the loop stops there
module _ {fits_left fits : Bool} {left names marks₀ marks : List ℕ} (g : Going fits_left fits left names marks₀ marks)
    (fx fits_rest : Bool) (xs rest marks' : List ℕ) (e : left ≡ xs ++ rest) (t : fits_left ≡ fx && fits_rest) where
  here : (k : ℕ) → get_or marks k 0 + count k xs + count k rest ≡ get_or marks₀ k 0 + count k names
  here k = let w : get_or marks k 0 + count k (xs ++ rest) ≡ get_or marks₀ k 0 + count k names = rw e at (g.cells k) in omega (arith, count_append k xs rest)

  pub go_on : (fx ≡ true) × Marked xs marks marks' → Going fits_rest fits rest names marks₀ marks'
  go_on m = record {
    test = let w : fits_left ≡ true && fits_rest = rw m.0 at t in sym w ∙ g.test;
    cells = λ k. omega (arith, here k, m.1.counted k);
  }

  pub go_stop : (bound most : ℕ) → bound ≤ most → Marking fx bound xs marks marks' false → Marking fits most names marks₀ marks' false
  go_stop bound most l m = ⊎_elim
      (λ (f : fx ≡ false). inl (let w : fits_left ≡ false && fits_rest = rw f at t in sym g.test ∙ w))
      (λ (d : Twice bound xs marks). inr (record { number = d.number; inside = omega (arith, d.inside); again = omega (arith, d.again, here d.number) }))
      m

pub go_end : {fits_left fits : Bool} {left names marks₀ marks : List ℕ} → Going fits_left fits left names marks₀ marks → (bound : ℕ) →
    left ≡ [] → fits_left ≡ true → Marking fits bound names marks₀ marks true
unfolding count
go_end {left} {names} {marks₀} {marks} g bound e t = (sym g.test ∙ t, record { counted = at })
  where
    at : (k : ℕ) → get_or marks k 0 ≡ get_or marks₀ k 0 + count k names
    at k = let w : get_or marks k 0 + count k [] ≡ get_or marks₀ k 0 + count k names = rw e at (g.cells k) in omega arith
