-- A cell of a table whose entries have so many cells each.
use Rattle.std.specs.Prelude.{ℕ, zero, suc, ◌+◌, ◌*◌, ◌≤◌, ◌<◌, ◌≡◌, refl, List, length, get_or}
use Rattle.std.proofs.Common.{arith, add-zero, le-mul_of_pos_right, sym}
use Rattle.std.proofs.Math.ListN.{get_or-eq_default}

-- where cell k of entry i stands
abbrev pub field_at : ℕ → ℕ → ℕ → ℕ
field_at number width zero = number * width
field_at number width (suc k) = number * width + suc k

pub field_at_lem : (number width k : ℕ) → number * width + k ≡ field_at number width k
field_at_lem number width zero = add-zero (number * width)
field_at_lem number width (suc k) = refl

-- an entry that starts past the list has no cell in it
pub field_past : (l : List ℕ) (number width k : ℕ) → k < width → length l ≤ number → 0 ≡ get_or l (field_at number width k) 0
field_past l number width k h f =
    let w : number ≤ number * width = le-mul_of_pos_right number (omega arith) in
    let g : length l ≤ field_at number width k = omega (arith, field_at_lem number width k) in
    sym (get_or-eq_default l 0 g)
