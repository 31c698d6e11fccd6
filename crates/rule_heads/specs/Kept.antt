-- Laws that the code's older form cited; they still hold.
use Rattle.std.specs.Prelude.{ℕ, zero, suc, ◌<◌, ◌≡◌, refl, false, List, [], ◌∷◌, eqb}
use Rattle.std.proofs.Common.{arith}
use Rattle.rule_signatures.specs.Tables.{kind_at}
use Rattle.rule_heads.specs.Alternatives.{is_constructor}

-- a context that is none of the first seven is the eighth
pub seventh : (n : ℕ) → n < 8 → (n ≡ 0 → ⊥) → (n ≡ 1 → ⊥) → (n ≡ 2 → ⊥) → (n ≡ 3 → ⊥) → (n ≡ 4 → ⊥) → (n ≡ 5 → ⊥) → (n ≡ 6 → ⊥) → n ≡ 7
seventh zero h a b c d e f g = absurd (a refl)
seventh (suc zero) h a b c d e f g = absurd (b refl)
seventh (suc (suc zero)) h a b c d e f g = absurd (c refl)
seventh (suc (suc (suc zero))) h a b c d e f g = absurd (d refl)
seventh (suc (suc (suc (suc zero)))) h a b c d e f g = absurd (e refl)
seventh (suc (suc (suc (suc (suc zero))))) h a b c d e f g = absurd (f refl)
seventh (suc (suc (suc (suc (suc (suc zero)))))) h a b c d e f g = absurd (g refl)
seventh (suc (suc (suc (suc (suc (suc (suc n))))))) h a b c d e f g = omega arith

-- whether the head's function is a constructor
pub constructor_is : (s : List ℕ) (fs : List ℕ) (i : ℕ) → fs ≡ i ∷ [] → is_constructor s fs ≡ eqb (kind_at s i) 1
unfolding is_constructor
constructor_is s fs i e = rw e

pub constructor_not : (s : List ℕ) (fs : List ℕ) → fs ≡ [] → is_constructor s fs ≡ false
unfolding is_constructor
constructor_not s fs e = rw e
