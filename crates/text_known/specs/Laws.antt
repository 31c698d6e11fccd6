-- Laws about names: whether a table has one, and what a term asks for by its first byte.
use Rattle.std.specs.Prelude.{ℕ, zero, suc, ◌+◌, ◌≡◌, Bool, true, false, ◌||◌, cond, ltb, length, get_or, take}
use Rattle.std.specs.List.{list_any, range_with_len}
use Rattle.std.proofs.Common.{arith, add-one, ap, sym}
use Rattle.std.proofs.Math.Path.{refl}
use mathlib.Core.List.{List, [], ◌∷◌}
use borrow.Author.Tests.{eq-eqb, ne_eqb}
use Rattle.text_words.specs.Parts.{parts_of, find}
use Rattle.text_words.specs.Laws.Parts.{parts_count}
use Rattle.text_grammar.specs.Bytes.{Word}
use Rattle.definition.specs.Lists.{from}
use Rattle.rule_heads.specs.Alternatives.{keep, is_function, function_of}
use Rattle.text_words.specs.Bytes.{at_sign, equals, non_empty}
use Rattle.text_words.specs.Names.{sort_part}
use Rattle.text_words.specs.Parts.{between}
use Rattle.text_words.specs.Laws.Names.{to_end}
use Rattle.text_definition.specs.Decls.{is_in, has_function, known_term}

pub in_parts : (s table : List ℕ) (n : ℕ) (w : Word) → ltb (find w (parts_of s table n)) n ≡ is_in w (parts_of s table n)
in_parts s table n w = ap (ltb (find w (parts_of s table n))) (sym (parts_count s table 0 n))

-- a term, by its first byte
module _ (sort_names global_names : List Word) where
  pub known_empty : (w : Word) → length w ≡ 0 → known_term sort_names global_names w ≡ true
  unfolding known_term
  known_empty [] e = refl
  known_empty (b ∷ bs) e = absurd (omega arith)

  pub known_global : (w : Word) → get_or w 0 0 ≡ at_sign → known_term sort_names global_names w ≡ is_in (between w 1 (length w)) global_names
  unfolding known_term
  known_global [] e = absurd (omega arith)
  known_global (b ∷ bs) e = rw (eq-eqb b at_sign e, to_end (b ∷ bs) 1)

  pub known_literal : (w : Word) → get_or w 0 0 ≡ equals → known_term sort_names global_names w ≡ is_in (sort_part (between w 1 (length w))) sort_names
  unfolding known_term
  known_literal [] e = absurd (omega arith)
  known_literal (b ∷ bs) e = rw (ne_eqb b at_sign (omega arith), eq-eqb b equals e, to_end (b ∷ bs) 1)

  pub known_variable : (w : Word) → (get_or w 0 0 ≡ at_sign → ⊥) → (get_or w 0 0 ≡ equals → ⊥) → known_term sort_names global_names w ≡ true
  unfolding known_term
  known_variable [] a l = refl
  known_variable (b ∷ bs) a l = rw (ne_eqb b at_sign a, ne_eqb b equals l)

-- as the chain makes it: one of the numbers passes
pub any_made : (t : ℕ → Bool) (i n : ℕ) → list_any t (range_with_len i n) ≡ non_empty (take 1 (keep t (from i n)))
unfolding keep from
any_made t i zero = refl
any_made t i (suc n) = by (t i) (rw (add-one i) (any_made t (suc i) n))
  where
    by : (b : Bool) → list_any t (range_with_len (i + 1) n) ≡ non_empty (take 1 (keep t (from (suc i) n)))
        → (b || list_any t (range_with_len (i + 1) n)) ≡ non_empty (take 1 (cond b (i ∷ keep t (from (suc i) n)) (keep t (from (suc i) n))))
    by true e = refl
    by false e = e

pub function_made : (signatures : List ℕ) (n head : ℕ) → list_any (is_function signatures head) (range_with_len 0 n) ≡ has_function signatures n head
unfolding function_of
function_made signatures n head = any_made (is_function signatures head) 0 n
