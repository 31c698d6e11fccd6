-- Laws of the alternatives of a head, and what the loops over them need.
use Rattle.std.specs.Prelude.{ℕ, Option, Some, None, zero, suc, ◌+◌, ◌-◌, ◌≤◌, ◌<◌, ◌≡◌, refl, Bool, true, false, cond, List, [], ◌∷◌, length, take, set}
use Rattle.std.proofs.Common.{sym, ap, ◌∙◌, zero-le, suc-le-suc, arith, add-one}
use Rattle.definition.specs.Lists.{from}
use Rattle.definition.proofs.Laws.Left.{from_step, from_end}
use Rattle.rule_cells.specs.Put.{puts}
use Rattle.std.specs.Option.{option_map}
use Rattle.std.specs.List.{find, range_with_len}
use Rattle.definition.proofs.Laws.Chains.{from_made}
use Rattle.rule_heads.specs.Alternatives.{keep, is_function, function_of, is_permitted, alternatives, some_empty, head_refusal}

-- the first number of a list
abbrev pub first_of : List ℕ → Option ℕ
first_of [] = None
first_of (x ∷ xs) = Some x

-- a list of at most one
pub one_is : (xs : List ℕ) (i : ℕ) → Some i ≡ first_of (take 1 xs) → take 1 xs ≡ i ∷ []
one_is [] i e = let z : ◌≡◌ {A = ℕ} 0 1 = cc in absurd (omega arith)
one_is (x ∷ xs) i e = cc

pub one_not : (xs : List ℕ) → None ≡ first_of (take 1 xs) → take 1 xs ≡ []
one_not [] e = refl
one_not (x ∷ xs) e = let z : ◌≡◌ {A = ℕ} 0 1 = cc in absurd (omega arith)

-- the numbers from i to n that pass, one turn on
module _ (t : ℕ → Bool) (i n : ℕ) where
  pub keep_has : i < n → t i ≡ true → keep t (from i (n - i)) ≡ i ∷ keep t (from (i + 1) (n - (i + 1)))
  unfolding keep
  keep_has h e = rw (from_step i n h, e)

  pub keep_not : i < n → t i ≡ false → keep t (from i (n - i)) ≡ keep t (from (i + 1) (n - (i + 1)))
  unfolding keep
  keep_not h e = rw (from_step i n h, e)

  pub keep_end : n ≤ i → keep t (from i (n - i)) ≡ []
  unfolding keep
  keep_end h = rw (from_end i n h)

  pub keep_put : (l l' : List ℕ) (e : ℕ) → i < n → t i ≡ true → l' ≡ set l e i → puts l' (e + 1) (keep t (from (i + 1) (n - (i + 1)))) ≡ puts l e (keep t (from i (n - i)))
  keep_put l l' e h k q = rw (keep_has h k, q, add-one)

  pub keep_counted : (e : ℕ) → i < n → t i ≡ true → e + 1 + length (keep t (from (i + 1) (n - (i + 1)))) ≡ e + length (keep t (from i (n - i)))
  keep_counted e h k = rw (keep_has h k) (omega arith)

-- the numbers kept are not more than there are
pub keep_few : (t : ℕ → Bool) (i n : ℕ) → length (keep t (from i n)) ≤ n
unfolding keep from
keep_few t i zero = zero-le
keep_few t i (suc n) = cases (t i) (keep_few t (suc i) n)
  where
    cases : (b : Bool) → length (keep t (from (suc i) n)) ≤ n → length (cond b (i ∷ keep t (from (suc i) n)) (keep t (from (suc i) n))) ≤ suc n
    cases true h = suc-le-suc h
    cases false h = omega arith

-- the first number that passes, as a search over the numbers finds it
find_kept : (t : ℕ → Bool) (xs : List ℕ) → find t xs ≡ first_of (take 1 (keep t xs))
unfolding keep
find_kept t [] = refl
find_kept t (x ∷ xs) = cases (t x) (find_kept t xs)
  where
    cases : (b : Bool) → find t xs ≡ first_of (take 1 (keep t xs)) → cond b (Some x) (find t xs) ≡ first_of (take 1 (cond b (x ∷ keep t xs) (keep t xs)))
    cases true h = refl
    cases false h = h

same_option : (r : Option ℕ) → option_map (λ x. x) r ≡ r
same_option None = refl
same_option (Some x) = refl

pub found_first : (s : List ℕ) (n h : ℕ) (r : Option ℕ) → option_map (λ x. x) r ≡ find (is_function s h) (range_with_len 0 n) → r ≡ first_of (function_of s n h)
unfolding function_of
found_first s n h r e = sym (same_option r) ∙ e ∙ ap (find (is_function s h)) (from_made 0 n) ∙ find_kept (is_function s h) (from 0 n)

-- the head's function, if there is one
module _ (s : List ℕ) (n h : ℕ) where
  pub first_is : (i : ℕ) → Some i ≡ first_of (function_of s n h) → function_of s n h ≡ i ∷ []
  unfolding function_of
  first_is i e = one_is (keep (is_function s h) (from 0 n)) i e

  pub first_not : None ≡ first_of (function_of s n h) → function_of s n h ≡ []
  unfolding function_of
  first_not e = one_not (keep (is_function s h) (from 0 n)) e

  module _ (x : ℕ) (f f₁ f₂ : List ℕ) (r : ℕ) where
    pub find_is : (i : ℕ) → function_of s n h ≡ i ∷ [] → f₁ ≡ set f 0 i → f₂ ≡ puts f₁ 1 (keep (is_permitted s h x) (from 0 n)) → r ≡ 1 + length (keep (is_permitted s h x) (from 0 n))
        → (f₂ ≡ puts f 0 (alternatives s n h x)) × (r ≡ length (alternatives s n h x))
    unfolding alternatives
    find_is i e e₁ e₂ er = (rw (e, e₂, e₁), rw e (omega arith))

    pub find_not : function_of s n h ≡ [] → f₂ ≡ puts f 0 (keep (is_permitted s h x) (from 0 n)) → r ≡ 0 + length (keep (is_permitted s h x) (from 0 n))
        → (f₂ ≡ puts f 0 (alternatives s n h x)) × (r ≡ length (alternatives s n h x))
    unfolding alternatives
    find_not e e₂ er = (rw (e, e₂), rw e (omega arith))

pub refusal_none : (s xs : List ℕ) → length xs ≡ 0 → head_refusal s xs ≡ 20
unfolding head_refusal
refusal_none s [] e = refl
refusal_none s (x ∷ xs) e = absurd (omega arith)

pub refusal_some : (s xs : List ℕ) → (length xs ≡ 0 → ⊥) → head_refusal s xs ≡ cond (some_empty s xs) 8 0
unfolding head_refusal
refusal_some s [] e = absurd (e refl)
refusal_some s (x ∷ xs) e = refl
