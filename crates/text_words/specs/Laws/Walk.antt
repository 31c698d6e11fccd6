-- What a function of a list gives from place i on, in terms of what it gives from the next place on: a turn of each loop.
use Rattle.std.specs.Prelude.{ℕ, suc, ◌+◌, ◌-◌, ◌*◌, ◌<◌, ◌≤◌, ◌≡◌, refl, Bool, true, false, not, ◌&&◌, cond, List, [], ◌∷◌, Some, None, eqb, ltb, length, drop, get_or}
use Rattle.std.specs.Str.{bytes_eq}
use Rattle.std.specs.List.{position, position_or_len}
use Rattle.std.specs.Option.{unwrap_or}
use Rattle.std.proofs.lemmas.List.Sums.{prefix_len-le-length}
use Rattle.std.specs.Bool.{Decides}
use Rattle.std.proofs.lemmas.Bool.{false≢true}
use Rattle.std.proofs.lemmas.Slice.Eq.{bytes_eq-Decides}
use Rattle.std.proofs.Common.{ap, sym, ◌∙◌, arith}
use borrow.Author.Tests.{eq-eqb, ne_eqb, ltb-false}
use Rattle.std.proofs.Math.ListN.{drop_of_length-le}
use Rattle.definition.proofs.Laws.Left.{drop_step}
use Rattle.definition.proofs.Laws.Lists.{and_false}
use Rattle.text_words.specs.Bytes.{up_to, same}
use Rattle.text_words.specs.Names.{digits_from}

module _ (w : List ℕ) (i : ℕ) (h : i < length w) where
  pub digits_next : (v : ℕ) → digits_from v (drop i w) ≡ digits_from (v * 10 + (get_or w i 0 - 48)) (drop (i + 1) w)
  unfolding digits_from
  digits_next v = rw (drop_step w i h)

  pub up_to_here : (b : ℕ) → get_or w i 0 ≡ b → up_to b (drop i w) ≡ []
  unfolding up_to
  up_to_here b e = rw (drop_step w i h, eq-eqb (get_or w i 0) b e)

  pub up_to_next : (b : ℕ) → (get_or w i 0 ≡ b → ⊥) → length (up_to b (drop i w)) ≡ suc (length (up_to b (drop (i + 1) w)))
  unfolding up_to
  up_to_next b ne = rw (drop_step w i h, ne_eqb (get_or w i 0) b ne)

pub digits_end : (v : ℕ) (w : List ℕ) (i : ℕ) → length w ≤ i → digits_from v (drop i w) ≡ v
unfolding digits_from
digits_end v w i h = rw (drop_of_length-le w h)

pub up_to_end : (b : ℕ) (w : List ℕ) (i : ℕ) → length w ≤ i → up_to b (drop i w) ≡ []
unfolding up_to
up_to_end b w i h = rw (drop_of_length-le w h)

-- two lists side by side
module _ (a b : List ℕ) (i : ℕ) where
  pub same_differs : i < length a → i < length b → (get_or a i 0 ≡ get_or b i 0 → ⊥) → same (drop i a) (drop i b) ≡ false
  unfolding same
  same_differs h k ne = rw (drop_step a i h, drop_step b i k, ne_eqb (get_or a i 0) (get_or b i 0) ne)

  pub same_next : i < length a → i < length b → get_or a i 0 ≡ get_or b i 0 → same (drop i a) (drop i b) ≡ same (drop (i + 1) a) (drop (i + 1) b)
  unfolding same
  same_next h k e = rw (drop_step a i h, drop_step b i k, eq-eqb (get_or a i 0) (get_or b i 0) e)

  pub same_end : length a ≤ i → length b ≤ i → same (drop i a) (drop i b) ≡ true
  unfolding same
  same_end h k = rw (drop_of_length-le a h, drop_of_length-le b k)

-- lists of different lengths differ
pub same_length : (a b : List ℕ) → (length a ≡ length b → ⊥) → same a b ≡ false
unfolding same
same_length [] [] ne = absurd (ne refl)
same_length [] (y ∷ b) ne = refl
same_length (x ∷ a) [] ne = refl
same_length (x ∷ a) (y ∷ b) ne = and_false (eqb x y) _ (same_length a b (λ e. ne (ap suc e)))

-- as `==` compares two lists
pub same_made : (xs ys : List ℕ) → bytes_eq xs ys ≡ same xs ys
unfolding same
same_made [] [] = refl
same_made [] (y ∷ ys) = refl
same_made (x ∷ xs) [] = refl
same_made (x ∷ xs) (y ∷ ys) = ap (λ (b : Bool). eqb x y && b) (same_made xs ys)

-- the place of the first element that passes, the list's length where none does
pub unwrap_found : {X : Type 0} (p : X → Bool) (xs : List X) → unwrap_or (position p xs) (length xs) ≡ position_or_len p xs
unwrap_found p xs = by (ltb (position_or_len p xs) (length xs)) refl
  where
    by : (t : Bool) → ltb (position_or_len p xs) (length xs) ≡ t → unwrap_or (cond t (Some (position_or_len p xs)) None) (length xs) ≡ position_or_len p xs
    by true e = refl
    by false e = omega (arith, ltb-false _ _ e, prefix_len-le-length (λ x. not (p x)) xs)

-- as a test that decides whether the lists are one
pub same_decides : (xs ys : List ℕ) (r : Bool) → Decides r (xs ≡ ys) → r ≡ same xs ys
same_decides xs ys true d = sym ((bytes_eq-Decides xs ys).1 (d.0 refl)) ∙ same_made xs ys
same_decides xs ys false d = by (bytes_eq xs ys) refl
  where
    by : (t : Bool) → bytes_eq xs ys ≡ t → false ≡ same xs ys
    by true e = absurd (false≢true (d.1 ((bytes_eq-Decides xs ys).0 e)))
    by false e = sym e ∙ same_made xs ys
