-- The cells of a range's entries.
use Rattle.std.specs.Prelude.{ℕ, zero, suc, ◌*◌, ◌≡◌, refl, List, [], ◌∷◌, length, get_or}
use Rattle.std.proofs.Common.{arith}
use Rattle.rule_ranges.specs.Enter.{entries}

pub entries_length : (place : ℕ) (ts : List ℕ) → length (entries place ts) ≡ length ts * 2
unfolding entries
entries_length place [] = refl
entries_length place (t ∷ ts) = omega (arith, entries_length place ts)

pub entry_term : (place : ℕ) (ts : List ℕ) (i : ℕ) → get_or (entries place ts) (i * 2) 0 ≡ get_or ts i 0
unfolding entries
entry_term place [] i = refl
entry_term place (t ∷ ts) zero = refl
entry_term place (t ∷ ts) (suc i) = let e : suc i * 2 ≡ suc (suc (i * 2)) = omega arith in rw e (entry_term place ts i)
