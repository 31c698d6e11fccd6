-- `head_or_room` meets its contract.
use mathlib.Core.Path.{◌≡◌, refl, ap, sym, ◌∙◌}
use native.Mathlib.Omega.{arith}
use borrow.Author.Rules.{rules}
use Rattle.std.specs.Prelude.{ℕ, ◌<◌, ◌≤◌, List, length, take}
use Rattle.std.proofs.lemmas.List.Edits.{sets}
use Rattle.std.proofs.lemmas.Result.{err_from_is_err_and}
use Rattle.definition.specs.Numbers.{number_of}
use Rattle.definition.specs.Refusal.{first_given}
use Rattle.definition.proofs.Laws.Numbers.{positive}
use Rattle.definition.proofs.Laws.Refused.{first_given_lem}
use Rattle.rule_heads.specs.Alternatives.{alternatives, head_refusal}
use Rattle.text_terms.specs.Laws.Call.{found_there}
use Rattle.text_terms.proofs.full.head_or_room.Goals.{After-part}
use Rattle.text_terms.proofs.full.head_or_room.Goals as goal

-- what was found, over a front as long as that
found_front : (signatures : List ℕ) (n head context k m : ℕ) (l l' found : List ℕ) → m ≡ k → n ≤ 256 → length l ≡ 257
    → (l' ≡ sets l 0 (alternatives signatures n head context)) × (k ≡ length (alternatives signatures n head context)) → found ≡ take m l' → found ≡ alternatives signatures n head context
found_front signatures n head context k m l l' found e h f g w = found_there signatures n head context k l l' found h f g (rw e at w)

listed : (c : After-part) → let a = c.args in c.part.result.now ≡ alternatives a.signatures.now a.n a.head a.context
listed c = let a = c.args in found_front a.signatures.now a.n a.head a.context c.find-k.result _ _ _ _ (omega arith) (search rules) refl c.find-k.ensures c.part.ensures

pub returns-in_err-head_refusal : goal.returns-in_err-head_refusal
returns-in_err-head_refusal c =
    let a = c.args in
    let h = head_refusal a.signatures.now (alternatives a.signatures.now a.n a.head a.context) in
    let p = err_from_is_err_and c.from_residual.result c.from_residual.ensures.1 in
    let e = c.in_err-head_refusal.field-0.0 in
    let q : number_of e ≡ h = c.in_err-head_refusal.ensures ∙ ap (head_refusal a.signatures.now) (listed (goal.at.returns-in_err-head_refusal c).After-part) in
    rw (p.1, p.2) (q ∙ sym (first_given_lem h 10 (λ z. let w : 0 < number_of e = positive e in omega arith)))

pub returns : goal.returns
unfolding first_given
returns c = rw (sym (c.in_ok-head_refusal.ensures ∙ ap (head_refusal c.args.signatures.now) (listed (goal.at.returns c).After-part)))
