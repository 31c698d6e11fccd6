-- What a byte's or a word's test comes to once part of it is known: the returns of the code.
use Rattle.std.specs.Prelude.{ℕ, zero, suc, ◌+◌, ◌-◌, ◌*◌, ◌<◌, ◌≤◌, min, ◌≡◌, refl, Bool, true, ◌&&◌, cond, List, [], ◌∷◌, eqb, leb, ltb, length, take, drop, get_or, None}
use Rattle.std.specs.List.{position}
use Rattle.std.specs.Option.{unwrap_or}
use Rattle.std.specs.Bool.{then_some}
use Rattle.std.proofs.Math.Path.{ap}
use Rattle.std.proofs.Common.{sym, ◌∙◌, arith, add-one, length-drop, take_all}
use Rattle.std.proofs.Math.Bool.{false, or-false}
use borrow.Author.Tests.{eq-eqb, ne_eqb, le-leb, lt-leb, leb-true, ltb-true, ltb-false, le-ltb}
use Rattle.std.proofs.lemmas.List.Recursion.{is_position_or_len}
use Rattle.definition.specs.Lists.{all}
use Rattle.definition.proofs.Laws.Lists.{and_true, and_false}
use Rattle.text_words.specs.Bytes.{is_digit, up_to, non_empty}
use Rattle.text_words.specs.Bytes.{colon, at_sign, equals}
use Rattle.text_words.specs.Parts.{between}
use Rattle.text_words.specs.Laws.Walk.{unwrap_found}
use Rattle.text_words.specs.Names.{is_name_byte, is_absent, is_name, is_variable, is_literal, is_term, sort_part, name_part, digits_from, is_number, number_below, if_below}

-- a byte of a name, by its place among the letters and digits
module _ (b : ℕ) where
  pub byte_from_a : 97 ≤ b → is_name_byte b ≡ leb b 122
  unfolding is_name_byte
  byte_from_a h =
      simp (le-leb 97 b h, le-leb 65 b (omega arith), lt-leb b 90 (omega arith), le-leb 48 b (omega arith), lt-leb b 57 (omega arith), ne_eqb b 95 (omega arith), ne_eqb b 45 (omega arith), or-false)

  pub byte_underscore : b ≡ 95 → is_name_byte b ≡ true
  unfolding is_name_byte
  byte_underscore e = rw e

  pub byte_from_A : b < 97 → (b ≡ 95 → ⊥) → 65 ≤ b → is_name_byte b ≡ leb b 90
  unfolding is_name_byte
  byte_from_A l ne h =
      simp (lt-leb 97 b l, le-leb 65 b h, le-leb 48 b (omega arith), lt-leb b 57 (omega arith), ne_eqb b 95 ne, ne_eqb b 45 (omega arith), or-false)

  pub byte_from_0 : b < 65 → 48 ≤ b → is_name_byte b ≡ leb b 57
  unfolding is_name_byte
  byte_from_0 l h =
      simp (lt-leb 97 b (omega arith), lt-leb 65 b l, le-leb 48 b h, ne_eqb b 95 (omega arith), ne_eqb b 45 (omega arith), or-false)

  pub byte_below_0 : b < 48 → is_name_byte b ≡ eqb b 45
  unfolding is_name_byte
  byte_below_0 l = simp (lt-leb 97 b (omega arith), lt-leb 65 b (omega arith), lt-leb 48 b l, ne_eqb b 95 (omega arith))

-- whether there is a byte
empty : (w : List ℕ) → length w ≡ 0 → non_empty w ≡ false
empty [] e = refl
empty (b ∷ bs) e = absurd (omega arith)

filled : (w : List ℕ) → (length w ≡ 0 → ⊥) → non_empty w ≡ true
filled [] ne = absurd (ne refl)
filled (b ∷ bs) ne = refl

-- a name, by the tests that the code makes one after another
module _ (w : List ℕ) where
  pub name_empty : length w ≡ 0 → is_name w ≡ false
  unfolding is_name
  name_empty e = rw (empty w e)

  pub name_absent : is_absent w ≡ true → is_name w ≡ false
  unfolding is_name
  name_absent e = rw e (and_false (non_empty w) false refl)

  pub name_bytes : (length w ≡ 0 → ⊥) → is_absent w ≡ false → is_name w ≡ all is_name_byte w
  unfolding is_name
  name_bytes ne e = rw (filled w ne, e)

-- the part before the first b is a part of the text
pub up_to_most : (b : ℕ) (w : List ℕ) → length (up_to b w) ≤ length w
unfolding up_to
up_to_most b [] = omega arith
up_to_most b (x ∷ xs) = by (eqb x b) (up_to_most b xs)
  where
    by : (t : Bool) → length (up_to b xs) ≤ length xs → length (cond t [] (x ∷ up_to b xs)) ≤ suc (length xs)
    by true h = omega arith
    by false h = omega arith

-- as `position` finds it
pub up_to_found : (b : ℕ) (w : List ℕ) → unwrap_or (position (λ x. eqb x b) w) (length w) ≡ length (up_to b w)
unfolding up_to
up_to_found b w = unwrap_found (λ x. eqb x b) w ∙ sym (is_position_or_len (λ xs. length (up_to b xs)) (λ x. eqb x b) refl (λ x xs. by (eqb x b) x xs) w)
  where
    by : (t : Bool) (x : ℕ) (xs : List ℕ) → length (cond t [] (x ∷ up_to b xs)) ≡ cond t 0 (1 + length (up_to b xs))
    by true x xs = refl
    by false x xs = omega arith

pub up_to_take : (b : ℕ) (w : List ℕ) → take (length (up_to b w)) w ≡ up_to b w
unfolding up_to
up_to_take b [] = refl
up_to_take b (x ∷ xs) = by (eqb x b) (up_to_take b xs)
  where
    by : (t : Bool) → take (length (up_to b xs)) xs ≡ up_to b xs → take (length (cond t [] (x ∷ up_to b xs))) (x ∷ xs) ≡ cond t [] (x ∷ up_to b xs)
    by true e = refl
    by false e = ap (λ (l : List ℕ). x ∷ l) e

-- a part that goes on to the end
pub to_end : (w : List ℕ) (k : ℕ) → between w k (length w) ≡ drop k w
to_end w k = take_all (length w - k) (drop k w) (omega (arith, length-drop k w))

-- the two parts of a literal
module _ (w : List ℕ) (n : ℕ) (e : n ≡ 0 + length (up_to colon w)) where
  pub sort_part_lem : between w 0 n ≡ sort_part w
  sort_part_lem = ap (λ (k : ℕ). take k w) (let q : n - 0 ≡ length (up_to colon w) = omega arith in q) ∙ up_to_take colon w

  pub name_part_lem : between w (n + 1) (length w) ≡ name_part w
  name_part_lem = to_end w (n + 1) ∙ ap (λ (k : ℕ). drop k w) (let q : n + 1 ≡ suc (length (up_to colon w)) = omega arith in q)

  pub not_literal : is_name (between w 0 n) ≡ false → is_literal w ≡ false
  unfolding is_literal
  not_literal f = rw (← sort_part_lem, f)

  pub literal_name : is_name (between w 0 n) ≡ true → is_literal w ≡ is_name (between w (n + 1) (length w))
  unfolding is_literal
  literal_name t = ap (λ (b : Bool). b && is_name (name_part w)) (ap is_name (sym sort_part_lem) ∙ t) ∙ ap is_name (sym name_part_lem)

-- a term, by its first byte
pub term_empty : (w : List ℕ) → length w ≡ 0 → is_term w ≡ false
unfolding is_term
term_empty [] e = refl
term_empty (x ∷ xs) e = absurd (omega arith)

pub term_global : (w : List ℕ) → get_or w 0 0 ≡ at_sign → is_term w ≡ is_name (between w 1 (length w))
unfolding is_term
term_global [] e = absurd (omega arith)
term_global (x ∷ xs) e = rw (eq-eqb x at_sign e, to_end (x ∷ xs) 1)

pub term_literal : (w : List ℕ) → get_or w 0 0 ≡ equals → is_term w ≡ is_literal (between w 1 (length w))
unfolding is_term
term_literal [] e = absurd (omega arith)
term_literal (x ∷ xs) e = rw (ne_eqb x at_sign (omega arith), eq-eqb x equals e, to_end (x ∷ xs) 1)

pub term_variable : (w : List ℕ) → (length w ≡ 0 → ⊥) → (get_or w 0 0 ≡ at_sign → ⊥) → (get_or w 0 0 ≡ equals → ⊥) → is_term w ≡ is_variable w
unfolding is_term
term_variable [] ne a l = absurd (ne refl)
term_variable (x ∷ xs) ne a l = rw (ne_eqb x at_sign a, ne_eqb x equals l)

-- a number, by the tests that the code makes one after another
module _ (bound : ℕ) (w : List ℕ) where
  no_number : is_number w ≡ false → number_below bound w ≡ bound
  unfolding number_below
  no_number e = rw e

  pub number_empty : length w ≡ 0 → number_below bound w ≡ bound
  unfolding is_number
  number_empty e = no_number (rw (empty w e))

  pub number_long : 4 < length w → number_below bound w ≡ bound
  unfolding is_number
  number_long h = no_number (and_false (non_empty w) _ (rw (lt-leb (length w) 4 h)))

  pub number_other : all is_digit w ≡ false → number_below bound w ≡ bound
  unfolding is_number
  number_other e = no_number (and_false (non_empty w) _ (and_false (leb (length w) 4) _ e))

  pub number_digits : (length w ≡ 0 → ⊥) → length w ≤ 4 → all is_digit w ≡ true → number_below bound w ≡ min (digits_from 0 w) bound
  unfolding number_below is_number
  number_digits ne h e = rw (filled w ne, e, le-leb (length w) 4 h)

  -- as an `Option`: none, or what the digits are worth
  pub none_below : number_below bound w ≡ bound → None ≡ if_below bound w
  none_below e = rw (e, le-ltb bound bound (omega arith))

  pub some_below : (v : ℕ) → number_below bound w ≡ min v bound → then_some (ltb v bound) v ≡ if_below bound w
  some_below v e = by (ltb v bound) refl
    where
      by : (t : Bool) → ltb v bound ≡ t → then_some t v ≡ if_below bound w
      by true l = let q : number_below bound w ≡ v = omega (arith, e, ltb-true v bound l) in rw (q, l)
      by false l = none_below (omega (arith, e, ltb-false v bound l))

-- the largest number of so many digits
unfoldable pub most : ℕ → ℕ
most zero = 0
most (suc i) = most i * 10 + 9

pub most_next : (i : ℕ) → most (i + 1) ≡ most i * 10 + 9
unfolding most
most_next i = rw add-one

pub most_four : (i : ℕ) → i ≤ 4 → most i ≤ 9999
unfolding most
most_four zero h = omega arith
most_four (suc zero) h = omega arith
most_four (suc (suc zero)) h = omega arith
most_four (suc (suc (suc zero))) h = omega arith
most_four (suc (suc (suc (suc zero)))) h = omega arith
most_four (suc (suc (suc (suc (suc i))))) h = absurd (omega arith)

-- a digit lies between `0` and `9`
pub digit_bounds : (b : ℕ) → is_digit b ≡ true → (48 ≤ b) × (b ≤ 57)
digit_bounds b e = let p = and_true (leb 48 b) (leb b 57) e in (leb-true 48 b p.0, leb-true b 57 p.1)
