-- Laws about the grammar: the keywords in their list, and a turn of each loop over words and forms.
use Rattle.std.specs.Prelude.{ℕ, zero, suc, ◌+◌, ◌-◌, ◌<◌, ◌≤◌, ◌≡◌, refl, Bool, true, false, ◌&&◌, cond, Some, drop, get_or}
use Rattle.std.specs.List.{list_all, range_with_len, find}
use Rattle.std.specs.Option.{unwrap_or}
use Rattle.std.proofs.Common.{add-one, arith, ap, ◌∙◌, le-leb, drop_of_length-le, drop-cons}
use Rattle.std.proofs.Math.Nat.{sub-zero}
use Rattle.std.proofs.Math.Path.{sym}
use mathlib.Core.List.{List, [], ◌∷◌}
use Rattle.std.proofs.lemmas.Bool.{lt-leb}
use Rattle.text_words.specs.Parts.{part_at, parts_from, parts_of}
use Rattle.text_words.specs.Laws.Parts.{parts_next, parts_end, parts_count}
use Rattle.text_grammar.specs.declared.Form.{Form}
use Rattle.text_grammar.specs.declared.Form.TheVariants.{Malformed}
use Rattle.text_grammar.specs.declared.Kind.{Kind}
use Rattle.text_grammar.specs.declared.Pattern.{Pattern}
use Rattle.text_grammar.specs.Bytes.{Word}
use Rattle.text_grammar.specs.Grammar.{pattern_of, kind_at, spelt, pass_from, fits, forms, first_form}

-- a number that is none of the first n is at least n: the last arm of a `match`
abbrev pub NoneBelow : ℕ → ℕ → Type 0
NoneBelow zero k = Unit {0}
NoneBelow (suc n) k = NoneBelow n k × (k ≡ n → ⊥)

pub past : (n k : ℕ) → NoneBelow n k → n ≤ k
past zero k ne = omega arith
past (suc n) k ne = let h : n ≤ k = past n k ne.0 in let d : k ≡ n → ⊥ = ne.1 in omega arith

pub kind_further : (r : Pattern) (i : ℕ) → 7 ≤ i → kind_at r i ≡ r.further
unfolding kind_at
kind_further r zero h = absurd (omega arith)
kind_further r (suc zero) h = absurd (omega arith)
kind_further r (suc (suc zero)) h = absurd (omega arith)
kind_further r (suc (suc (suc zero))) h = absurd (omega arith)
kind_further r (suc (suc (suc (suc zero)))) h = absurd (omega arith)
kind_further r (suc (suc (suc (suc (suc zero))))) h = absurd (omega arith)
kind_further r (suc (suc (suc (suc (suc (suc zero)))))) h = absurd (omega arith)
kind_further r (suc (suc (suc (suc (suc (suc (suc i))))))) h = refl

-- the words, a turn at a time: those from word i on pass exactly if all do
pub record Passing (t : Kind → Word → Bool) (r : Pattern) (s table : List ℕ) (n i : ℕ) : Type 0 where
  pub within : i ≤ n
  pub left : pass_from t r i (parts_from s table i (n - i)) ≡ pass_from t r 0 (parts_of s table n)

pub pass_start : (t : Kind → Word → Bool) (r : Pattern) (s table : List ℕ) (n : ℕ) → Passing t r s table n 0
pass_start t r s table n = record { within = omega arith; left = rw sub-zero }

module _ {t : Kind → Word → Bool} {r : Pattern} {s table : List ℕ} {n i : ℕ} (p : Passing t r s table n i) where
  pub pass_fails : i < n → t (kind_at r i) (part_at s table i) ≡ false → pass_from t r 0 (parts_of s table n) ≡ false
  unfolding pass_from
  pass_fails h e = sym p.left ∙ rw (parts_next s table [] i n h, e)

  pub pass_next : i < n → t (kind_at r i) (part_at s table i) ≡ true → Passing t r s table n (i + 1)
  unfolding pass_from
  pass_next h e = record {
    within = omega arith;
    left = rw (ap (λ (k : ℕ). pass_from t r k (parts_from s table (i + 1) (n - (i + 1)))) (add-one i)) (rw (parts_next s table [] i n h, e) at p.left);
  }

  pub pass_end : n ≤ i → pass_from t r 0 (parts_of s table n) ≡ true
  unfolding pass_from
  pass_end h = sym p.left ∙ rw (parts_end s table [] i n h)

module _ (f : Form) (r : Pattern) (s table : List ℕ) (n : ℕ) (e : r ≡ pattern_of f) where
  pub fits_short : n < r.fewest → fits f (parts_of s table n) ≡ false
  fits_short h = rw (parts_count s table 0 n, lt-leb (pattern_of f).fewest n (rw e at h))

  pub fits_long : r.fewest ≤ n → fits f (parts_of s table n) ≡ pass_from (spelt f) r 0 (parts_of s table n)
  fits_long h = rw (parts_count s table 0 n, le-leb (pattern_of f).fewest n (rw e at h), e)

-- the forms, a turn at a time
module _ (ws : List Word) (i : ℕ) where
  pub first_here : i < 16 → fits (get_or forms i Malformed) ws ≡ true → first_form ws (drop i forms) ≡ get_or forms i Malformed
  unfolding first_form
  first_here h e = rw (drop-cons forms i Malformed h, e)

  pub first_next : i < 16 → fits (get_or forms i Malformed) ws ≡ false → first_form ws (drop i forms) ≡ first_form ws (drop (i + 1) forms)
  unfolding first_form
  first_next h e = rw (drop-cons forms i Malformed h, e) (ap (λ (k : ℕ). first_form ws (drop k forms)) (sym (add-one i)))

  pub first_end : 16 ≤ i → first_form ws (drop i forms) ≡ Malformed
  unfolding first_form
  first_end h = rw (drop_of_length-le forms {i = i} h)

-- as the chains make them: the words by their numbers, the first form that fits
pub pass_made : (t : Kind → Word → Bool) (r : Pattern) (s table : List ℕ) (i n : ℕ) → list_all (λ k. t (kind_at r k) (part_at s table k)) (range_with_len i n) ≡ pass_from t r i (parts_from s table i n)
unfolding pass_from parts_from
pass_made t r s table i zero = refl
pass_made t r s table i (suc n) = ap (λ (b : Bool). t (kind_at r i) (part_at s table i) && b) (rw (add-one i) (pass_made t r s table (suc i) n))

pub first_made : (ws : List Word) (fs : List Form) → unwrap_or (find (λ f. fits f ws) fs) Malformed ≡ first_form ws fs
unfolding first_form
first_made ws [] = refl
first_made ws (f ∷ fs) = by (fits f ws) (first_made ws fs)
  where
    by : (t : Bool) → unwrap_or (find (λ g. fits g ws) fs) Malformed ≡ first_form ws fs → unwrap_or (cond t (Some f) (find (λ g. fits g ws) fs)) Malformed ≡ cond t f (first_form ws fs)
    by true e = refl
    by false e = e
