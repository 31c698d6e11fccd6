-- The refusals in their order.
use Rattle.std.specs.Prelude.{ℕ, ◌≡◌, refl, Bool, true, false, List, []}
use Rattle.std.proofs.Common.{sym, ◌∙◌, arith}
use Rattle.definition.specs.declared.Counts.{Counts}
use Rattle.definition.specs.declared.Refusal.{Refusal}
use Rattle.definition.specs.Numbers.{number_of}
use Rattle.definition.specs.Problem.{Problem, node}
use Rattle.definition.specs.Refusal.{counts_fit, cells_fit, children_below, named, named_once, trees_fit, depth_fits, unless, records_refusal}
use Rattle.definition.proofs.Laws.Numbers.{positive}
use Rattle.definition.proofs.Laws.Refused.{none_of_two}
use Rattle.solve_records.specs.Lent.{lent, cells_refusal}
use Rattle.solve_records.proofs.Depths.{depths_lent}

-- the tests of 3 and 4 do not read the range
trees_lent : (c : Counts) (records side tops range : List ℕ) →
    trees_fit (lent c records side tops []) ≡ trees_fit (lent c records side tops range)
unfolding trees_fit named_once named children_below node
trees_lent c records side tops range = refl

depths_same : (c : Counts) (records side tops range : List ℕ) →
    depth_fits (lent c records side tops []) ≡ depth_fits (lent c records side tops range)
depths_same c records side tops range = sym (depths_lent c records side tops []) ∙ depths_lent c records side tops range

-- so an answer for them without the range is one for the whole problem
pub trees_told : (c : Counts) (records side tops range : List ℕ) (r b : Bool) → r ≡ trees_fit (lent c records side tops []) → r ≡ b →
    trees_fit (lent c records side tops range) ≡ b
trees_told c records side tops range r b e h = sym (trees_lent c records side tops range) ∙ sym e ∙ h

pub depths_told : (c : Counts) (records side tops range : List ℕ) (r b : Bool) → r ≡ depth_fits (lent c records side tops []) → r ≡ b →
    depth_fits (lent c records side tops range) ≡ b
depths_told c records side tops range r b e h = sym (depths_same c records side tops range) ∙ sym e ∙ h

-- 1 or 2 is given before 3 and 4; where neither is, both tests passed
first_two : (a b : Bool) (e rest : ℕ) → e ≡ unless a 1 (unless b 2 0) → (e ≡ 0 → ⊥) → e ≡ unless a 1 (unless b 2 rest)
first_two false b e rest h n = h
first_two true false e rest h n = h
first_two true true e rest h n = absurd (n h)

pub early_given : (p : Problem) (r : Refusal) → number_of r ≡ cells_refusal p → number_of r ≡ records_refusal p
unfolding records_refusal
early_given p r h = first_two (counts_fit p) (cells_fit p) (number_of r) (unless (trees_fit p) 3 (unless (depth_fits p) 4 0)) h (λ e. omega (arith, positive r))

pub cells_pass : (p : Problem) → 0 ≡ cells_refusal p → (counts_fit p ≡ true) × (cells_fit p ≡ true)
cells_pass p h = none_of_two (counts_fit p) (cells_fit p) (sym h)
