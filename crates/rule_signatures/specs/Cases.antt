-- What each branch of the functions that lay out constraints leaves is what the definitions give there.
use Rattle.std.specs.Prelude.{ℕ, Option, Some, None, suc, ◌+◌, ◌-◌, ◌*◌, ◌≤◌, ◌≡◌, refl, Bool, true, false, cond, eqb, length, get_or, take}
use Rattle.std.specs.Option.{option_eq}
use Rattle.std.proofs.Common.{zero-le, suc-le-suc, arith, ap, ◌∙◌, drop_of_length-le, length-drop, length-take-le}
use Rattle.std.proofs.Math.Numerals.{add-one}
use Rattle.std.proofs.Math.Path.{sym}
use mathlib.Core.List.{List, [], ◌∷◌, map, zip_with}
use borrow.Author.Tests.{eq-eqb, ne_eqb}
use Rattle.std.proofs.Math.ListN.{drop}
use Rattle.std.proofs.lemmas.List.{length-map}
use Rattle.definition.specs.Sizes.{record_cells}
use Rattle.definition.specs.Problem.{part}
use Rattle.rule_cells.specs.declared.Origin.{Origin}
use Rattle.rule_cells.specs.Put.{Record, eq, assign, impossible, puts, cells, lay}
use Rattle.rule_signatures.specs.declared.Signature.{Signature}
use Rattle.rule_signatures.specs.declared.Signature.TheVariants.{Simple, AllEqual}
use Rattle.rule_signatures.specs.declared.SimpleTypeConstraint.{SimpleTypeConstraint}
use Rattle.rule_signatures.specs.declared.AllEqualTypeConstraint.{AllEqualTypeConstraint}
use Rattle.rule_signatures.specs.Gives.{is_zero, alike, output, exact, simple_gives, gives}
use Rattle.rule_signatures.specs.Laid.{Laid}

zip_length : (args sorts : List ℕ) → length args ≡ length sorts → length (zip_with assign args sorts) ≡ length args
unfolding zip_with
zip_length [] sorts h = refl
zip_length (x ∷ xs) [] h = absurd (omega arith)
zip_length (x ∷ xs) (s ∷ ss) h = ap suc (zip_length xs ss (omega arith))

module _ (o : Origin) (l l' : List ℕ) (n : ℕ) (args : List ℕ) where
  pub alike_some : (common : Option ℕ) (s : ℕ) → common ≡ Some s → l' ≡ lay o l n (map (λ a. assign a s) args) → Laid o l l' n (alike common args) (length args)
  unfolding alike
  alike_some common s e h = rw e (record { records = h; count = sym (length-map args (λ a. assign a s)) })

  pub alike_none : (common : Option ℕ) (first : ℕ) (later : List ℕ) → common ≡ None → args ≡ first ∷ later → l' ≡ lay o l n (map (λ a. eq a first) later)
      → Laid o l l' n (alike common args) (length later)
  unfolding alike
  alike_none common first later e q h = rw (e, q) (record { records = h; count = sym (length-map later (λ a. eq a first)) })

  pub alike_empty : (common : Option ℕ) → common ≡ None → length args ≡ 0 → l' ≡ l → Laid o l l' n (alike common args) 0
  unfolding alike lay
  alike_empty common e q h = let none : drop 1 args ≡ [] = drop_of_length-le args {i = 1} (omega arith) in rw (e, none) (record { records = h; count = refl })

  pub output_none : (common out : Option ℕ) (r : ℕ) → out ≡ None → Laid o l l' n (alike common args) r → Laid o l l' n (output common out args) r
  unfolding output
  output_none common out r e h = rw e h

  pub output_some : (common out : Option ℕ) (s left lst r : ℕ) (l₁ rest : List ℕ) → out ≡ Some s → left ≡ length args - 1 → lst ≡ get_or args left 0
      → l₁ ≡ puts l (n * record_cells) (cells o (assign lst s)) → rest ≡ take left args → Laid o l₁ l' (n + 1) (alike common rest) r
      → Laid o l l' n (output common out args) (r + 1)
  unfolding output lay
  output_some common out s left lst r l₁ rest e el ei e₁ er h =
      rw e (record {
        records = rw (er, e₁, ei, el, add-one) at h.records;
        count = rw (er, el) at (ap (λ (k : ℕ). k + 1) h.count) ∙ add-one (length (alike common (take (length args - 1) args)));
      })

  pub exact_none : (head : ℕ) (len : Option ℕ) (given : List Record) (r : ℕ) → len ≡ None → Laid o l l' n given r → Laid o l l' n (exact head len args given) r
  unfolding exact
  exact_none head len given r e h = rw e h

  pub exact_right : (head : ℕ) (len : Option ℕ) (k : ℕ) (given : List Record) (r : ℕ) → len ≡ Some k → length args ≡ k → Laid o l l' n given r → Laid o l l' n (exact head len args given) r
  unfolding exact
  exact_right head len k given r e q h = rw (e, eq-eqb (length args) k q) h

  pub exact_wrong : (head : ℕ) (len : Option ℕ) (k : ℕ) (given : List Record) (r : ℕ) → len ≡ Some k → (length args ≡ k → ⊥) → Laid o l l' n (impossible head k ∷ []) r → Laid o l l' n (exact head len args given) r
  unfolding exact
  exact_wrong head len k given r e q h = rw (e, ne_eqb (length args) k q) h

  pub simple_right : (head : ℕ) (own sorts : List ℕ) → own ≡ sorts → length args ≡ length own → l' ≡ lay o l n (zip_with assign args own) → Laid o l l' n (simple_gives head sorts args) (length args)
  unfolding simple_gives
  simple_right head own sorts e q h =
      rw (← e, eq-eqb (length args) (length own) q) (record { records = h; count = sym (zip_length args own q) })

  pub simple_wrong : (head : ℕ) (own sorts : List ℕ) (r : ℕ) → own ≡ sorts → (length args ≡ length own → ⊥) → Laid o l l' n (impossible head (length own) ∷ []) r → Laid o l l' n (simple_gives head sorts args) r
  unfolding simple_gives
  simple_wrong head own sorts r e q h = rw (← e, ne_eqb (length args) (length own) q) h

  pub gives_simple : (sorts : List ℕ) (g : Signature) (s : SimpleTypeConstraint) (r : ℕ) → g ≡ Simple s → Laid o l l' n (simple_gives s.head (part sorts s.start s.count) args) r → Laid o l l' n (gives sorts g args) r
  unfolding gives
  gives_simple sorts g s r e h = rw e h

  pub gives_equal : (sorts : List ℕ) (g : Signature) (a : AllEqualTypeConstraint) (r : ℕ) → g ≡ AllEqual a → Laid o l l' n (exact a.head a.length args (output a.common a.output args)) r → Laid o l l' n (gives sorts g args) r
  unfolding gives
  gives_equal sorts g a r e h = rw e h

-- there are not many
pub alike_few : (common : Option ℕ) (args : List ℕ) → length (alike common args) ≤ length args
unfolding alike
alike_few (Some s) args = omega (arith, length-map args (λ a. assign a s))
alike_few None args = omega (arith, length-map (drop 1 args) (λ a. eq a (get_or args 0 0)), length-drop 1 args)

output_few : (common out : Option ℕ) (args : List ℕ) → length (output common out args) ≤ length args + 1
unfolding output
output_few common None args = omega (arith, alike_few common args)
output_few common (Some s) args = omega (arith, alike_few common (take (length args - 1) args), length-take-le (length args - 1) args (omega arith))

exact_few : (head : ℕ) (len : Option ℕ) (args : List ℕ) (given : List Record) (b : ℕ) → 1 ≤ b → length given ≤ b → length (exact head len args given) ≤ b
unfolding exact
exact_few head None args given b k h = h
exact_few head (Some e) args given b k h = cases (eqb (length args) e)
  where
    cases : (t : Bool) → length (cond t given (impossible head e ∷ [])) ≤ b
    cases true = h
    cases false = k

simple_few : (head : ℕ) (sorts args : List ℕ) → length (simple_gives head sorts args) ≤ length args + 1
unfolding simple_gives zip_with
simple_few head sorts args = cases (eqb (length args) (length sorts))
  where
    zips : (xs ss : List ℕ) → length (zip_with assign xs ss) ≤ length xs
    zips [] ss = zero-le
    zips (x ∷ xs) [] = zero-le
    zips (x ∷ xs) (s ∷ ss) = suc-le-suc (zips xs ss)

    cases : (t : Bool) → length (cond t (zip_with assign args sorts) (impossible head (length sorts) ∷ [])) ≤ length args + 1
    cases true = omega (arith, zips args sorts)
    cases false = omega arith

pub gives_few : (sorts : List ℕ) (g : Signature) (args : List ℕ) → length (gives sorts g args) ≤ length args + 1
unfolding gives
gives_few sorts (Simple s) args = simple_few s.head (part sorts s.start s.count) args
gives_few sorts (AllEqual a) args = exact_few a.head a.length args (output a.common a.output args) (length args + 1) (omega arith) (output_few a.common a.output args)

-- the test for an exact length of 0
pub zero_is : (len : Option ℕ) → option_eq eqb len (Some 0) ≡ is_zero len
unfolding is_zero
zero_is None = refl
zero_is (Some n) = refl
