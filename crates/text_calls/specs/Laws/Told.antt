-- A call that is refused has the number of a refusal: 1, 2, 7 to 10, 20 or 21.
use Prim.Native.Nat.{ℕ, zero, suc}
use native.Mathlib.Omega.{arith}
use Rattle.std.specs.Prelude.{◌≡◌, ◌⊎◌, Bool, true, false, cond}
use Rattle.std.proofs.Common.{inl, inr}
use Rattle.std.proofs.Math.Path.{refl}
use mathlib.Core.List.{List, [], ◌∷◌}
use Rattle.definition.specs.Numbers.{number_of}
use Rattle.definition.specs.Problem.{Problem}
use Rattle.definition.specs.Refusal.{first_given}
use Rattle.definition.specs.declared.Counts.{Counts}
use Rattle.rule_heads.specs.Alternatives.{some_empty, head_refusal}
use Rattle.rule_lent.specs.Fit.{Lending, lent_refusal}
use Rattle.rule_steps.specs.declared.Form.{Form}
use Rattle.rule_steps.specs.declared.Form.TheVariants.{Nothing, Equality, Application}
use Rattle.rule_steps.specs.declared.Lengths.{Lengths}
use Rattle.rule_steps.specs.Ask.{Tables, Source, Ask, ask}
use Rattle.rule_steps.specs.Given.{State, Verdict, refused, added, unless_refused, form_refusal, early_refusal, ask_refusal, stepped, run}
use Rattle.rule_calls.specs.Exit.{call_verdict, local_refusal, local_verdict}
use Rattle.text_calls.specs.Refusal.{refusal_of}

-- none, or one with the number
abbrev May : ℕ → Type 0
May n = (n ≡ 0) ⊎ (number_of (refusal_of n) ≡ n)

may_cond : (b : Bool) (x y : ℕ) → May x → May y → May (cond b x y)
may_cond true x y p q = p
may_cond false x y p q = q

may_first : (n m : ℕ) → May n → May m → May (first_given n m)
unfolding first_given
may_first zero m p q = q
may_first (suc n) m p q = p

abbrev pub Told : Verdict → Type 0
Told (refused n h p) = number_of (refusal_of n) ≡ n
Told (added s) = Unit {0}

told_unless : (n head place : ℕ) (v : Verdict) → May n → Told v → Told (unless_refused n head place v)
unfolding unless_refused
told_unless zero head place v p q = q
told_unless (suc n) head place v (inl e) q = absurd (omega arith)
told_unless (suc n) head place v (inr e) q = e

may_head : (signatures is : List ℕ) → May (head_refusal signatures is)
unfolding head_refusal refusal_of
may_head signatures [] = inr refl
may_head signatures (i ∷ is) = may_cond (some_empty signatures (i ∷ is)) 8 0 (inr refl) (inl refl)

may_form : (T : Tables) (f : Form) → May (form_refusal T f)
unfolding form_refusal
may_form T Nothing = inl refl
may_form T (Equality x y) = inl refl
may_form T (Application h) = may_head T.signatures _

may_early : (T : Tables) (a : Ask) → May (early_refusal T a)
unfolding early_refusal refusal_of
may_early T a =
    may_cond a.forbidden 21 _ (inr refl)
    (may_cond a.miscounted 7 _ (inr refl)
    (may_first (form_refusal T a.form) _ (may_form T a.form) (may_cond _ 9 0 (inr refl) (inl refl))))

may_ask : (T : Tables) (l : Lengths) (c : Counts) (marks : List ℕ) (a : Ask) → May (ask_refusal T l c marks a)
unfolding ask_refusal refusal_of
may_ask T l c marks a = may_first (early_refusal T a) _ (may_early T a) (may_cond _ 0 10 (inl refl) (inr refl))

run_told : (T : Tables) (l : Lengths) (c : Source) (s : State) (is : List ℕ) → Told (run T l c s is)
unfolding run
run_told T l c s [] = tt
run_told T l c s (i ∷ is) = told_unless _ _ _ _ (may_ask T l s.counts s.marks _) (run_told T l c (stepped T c s i (ask T s.counts.terms c i)) is)

-- 1 and 2
may_with : (a b : Bool) → May (cond a (cond b 0 2) 1)
unfolding refusal_of
may_with a b = may_cond a (cond b 0 2) 1 (may_cond b 0 2 (inl refl) (inr refl)) (inr refl)

may_lent : (d : Lending) → May (lent_refusal d)
unfolding lent_refusal
may_lent d = may_with _ _

may_local : (p : Problem) (terms : List ℕ) (term sort : ℕ) → May (local_refusal p terms term sort)
unfolding local_refusal refusal_of
may_local p terms term sort = may_first _ _ (may_with _ _) (may_cond _ 0 10 (inl refl) (inr refl))

pub call_told : (d : Lending) → Told (call_verdict d)
call_told d = told_unless (lent_refusal d) 0 0 _ (may_lent d) (run_told _ _ _ _ _)

pub local_told : (p : Problem) (terms : List ℕ) (term sort place : ℕ) → Told (local_verdict p terms term sort place)
local_told p terms term sort place = told_unless (local_refusal p terms term sort) 0 0 _ (may_local p terms term sort) tt
