-- `is_constructor` meets its contract.
use Rattle.std.proofs.Common.{rules, ℕ, zero, suc, Bool, false, List, [], ◌∷◌, eqb, ◌≡◌, refl, sym, arith, ◌∙◌}
use borrow.Author.Tests.{ne_eqb}
use denote.Enum.Bare.{sameb}
use Rattle.std.specs.Option.{MatchOption}
use Rattle.rule_signatures.specs.contracts.SignatureKind.{the_type}
use Rattle.rule_signatures.specs.declared.SignatureKind.TheVariants.{Constructor}
use Rattle.rule_signatures.specs.Tables.{kind_at, signature_kind}
use Rattle.rule_heads.specs.Alternatives.{function_of, is_constructor}
use Rattle.rule_heads.specs.Laws.{first_of}
use Rattle.rule_heads.proofs.alternatives.is_constructor.Goals as goal

same_kind : (k : ℕ) → sameb the_type (signature_kind k) Constructor ≡ eqb k 1
same_kind zero = refl
same_kind (suc zero) = refl
same_kind (suc (suc zero)) = refl
same_kind (suc (suc (suc k))) = sym (ne_eqb (suc (suc (suc k))) 1 (λ e. omega arith))

of_first : (s fs : List ℕ) (r : Bool) → MatchOption (first_of fs) (r ≡ false) (λ n. r ≡ sameb the_type (signature_kind (kind_at s n)) Constructor) → r ≡ is_constructor s fs
unfolding is_constructor
of_first s [] r h = h
of_first s (i ∷ is) r h = h ∙ same_kind (kind_at s i)

pub returns : goal.returns
returns c =
    let s = c.args.signatures.now in
    let h : MatchOption c.first_function.result (c.is_some_and.result ≡ false) (λ n. c.is_some_and.result ≡ sameb the_type (signature_kind (kind_at s n)) Constructor) = search rules in
    of_first s (function_of s c.args.declared c.args.head) _ (rw c.first_function.ensures at h)
