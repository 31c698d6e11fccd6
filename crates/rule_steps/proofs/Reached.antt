-- What a step answers, by its refusal's number and the counts that it reaches.
use Rattle.std.specs.Prelude.{ℕ, ◌≡◌, Result, Ok, Err, IfOk}
use Rattle.std.proofs.Common.{sym, ap, arith, ◌∙◌}
use Rattle.definition.specs.declared.Counts.{Counts}
use Rattle.definition.specs.declared.Refusal.{Refusal}
use Rattle.definition.specs.Numbers.{refused}
use Rattle.definition.proofs.Laws.Numbers.{positive, one_refusal}

abbrev error_of : Refusal → Result Unit Refusal → Refusal
error_of d (Ok a) = d
error_of d (Err r) = r

pub one_reached : {n : ℕ} (c : Counts) (r s : Result Counts Refusal) → refused r ≡ n → refused s ≡ n → IfOk r (λ k. k ≡ c) → IfOk s (λ k. k ≡ c) → r ≡ s
one_reached c (Ok a) (Ok b) p q e f = ap Ok (e ∙ sym f)
one_reached c (Ok a) (Err b) p q e f = absurd (omega (arith, positive b))
one_reached c (Err a) (Ok b) p q e f = absurd (omega (arith, positive a))
one_reached c (Err a) (Err b) p q e f = ap (λ r. Err (error_of a r)) (one_refusal {r = Err a} {s = Err b} p q)
