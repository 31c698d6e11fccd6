-- A law that the code's older form cited; it still holds.
use Rattle.std.specs.Prelude.{ℕ, zero, suc, ◌≡◌, refl, false}
use Rattle.solve_leaves.specs.Leaf.{is_leaf}

pub other_kind : (k : ℕ) → (k ≡ 0 → ⊥) → (k ≡ 1 → ⊥) → (k ≡ 4 → ⊥) → false ≡ is_leaf k
other_kind zero n0 n1 n4 = absurd (n0 refl)
other_kind (suc zero) n0 n1 n4 = absurd (n1 refl)
other_kind (suc (suc zero)) n0 n1 n4 = refl
other_kind (suc (suc (suc zero))) n0 n1 n4 = refl
other_kind (suc (suc (suc (suc zero)))) n0 n1 n4 = absurd (n4 refl)
other_kind (suc (suc (suc (suc (suc k))))) n0 n1 n4 = refl
