-- `entering` meets its contract.
use Rattle.std.proofs.Common.{ℕ, zero, suc, ◌≡◌, ◌∙◌, refl, List, [], ◌∷◌, length, get_or, arith, ne_eqb}
use Rattle.std.proofs.lemmas.Bool.Decides.{nat_tests}
use Rattle.rule_ranges.specs.Enter.{new}
use Rattle.rule_calls.specs.Laws.{new_counted}
use Rattle.rule_calls.proofs.entering.Goals as goal

-- by what the term's mark says
counted : (marks : List ℕ) (t v r : ℕ) → v ≡ get_or marks t 0 → (v ≡ 0 → r ≡ 1) → ((v ≡ 0 → ⊥) → r ≡ 0) → r ≡ length (new marks (t ∷ []))
counted marks t zero r e none some = none refl ∙ new_counted marks t 0 e
counted marks t (suc v) r e none some =
    let h : suc v ≡ 0 → ⊥ = λ k. omega arith in
    some h ∙ (rw (ne_eqb (suc v) 0 h) at (new_counted marks t (suc v) e))

pub returns : goal.returns
returns c = counted _ _ _ _ c.cell.ensures (λ e. grind (arith, nat_tests)) (λ n. grind (arith, nat_tests))
