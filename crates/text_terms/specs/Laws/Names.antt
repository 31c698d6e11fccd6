-- Laws about names: where a word stands among them, what is new, and that naming one list of words behind another names both.
use Rattle.std.specs.Prelude.{ℕ, suc, ◌*◌, ◌<◌, ◌≤◌, ◌≡◌, Bool, true, false, cond, eqb, length, get_or}
use Rattle.std.proofs.Common.{arith, ap, sym, ◌∙◌, length-append}
use Rattle.std.proofs.Math.Path.{refl}
use mathlib.Core.List.{List, [], ◌∷◌, ◌++◌, append_assoc, append-nil}
use borrow.Author.Tests.{ltb-true, ltb-false, eq-eqb, ne_eqb}
use Rattle.text_words.specs.Bytes.{same, at_sign, equals}
use Rattle.text_words.specs.Names.{sort_part}
use Rattle.text_words.specs.Parts.{between, find}
use Rattle.text_words.specs.Laws.Names.{to_end}
use Rattle.text_words.specs.Laws.Table.{find_most}
use Rattle.text_grammar.specs.Bytes.{Word}
use Rattle.text_definition.specs.Decls.{Decls, is_in}
use Rattle.text_definition.specs.Say.{with_terms, cells_of, cells_of_all}
use Rattle.text_terms.specs.Named.{new_terms, naming}

pub same_self : (w : Word) → same w w ≡ true
unfolding same
same_self [] = refl
same_self (b ∷ bs) = rw (eq-eqb b b refl, same_self bs)

-- where a word stands
pub find_in : (w : Word) (names more : List Word) → find w names < length names → find w (names ++ more) ≡ find w names
unfolding find
find_in w [] more h = absurd (omega arith)
find_in w (p ∷ ps) more h = by (same p w) (find_in w ps more) h
  where
    by : (t : Bool) → (find w ps < length ps → find w (ps ++ more) ≡ find w ps) → cond t 0 (suc (find w ps)) < suc (length ps)
        → cond t 0 (suc (find w (ps ++ more))) ≡ cond t 0 (suc (find w ps))
    by true rest k = refl
    by false rest k = ap suc (rest (omega arith))

pub find_end : (w : Word) (names more : List Word) → length names ≤ find w names → find w (names ++ w ∷ more) ≡ length names
unfolding find
find_end w [] more h = rw (same_self w)
find_end w (p ∷ ps) more h = by (same p w) (find_end w ps more) h
  where
    by : (t : Bool) → (length ps ≤ find w ps → find w (ps ++ w ∷ more) ≡ length ps) → suc (length ps) ≤ cond t 0 (suc (find w ps))
        → cond t 0 (suc (find w (ps ++ w ∷ more))) ≡ suc (length ps)
    by true rest k = absurd (omega arith)
    by false rest k = ap suc (rest (omega arith))

-- the names with more words among them begin with the names
pub with_new : (names ws : List Word) → with_terms names ws ≡ names ++ new_terms names ws
unfolding with_terms new_terms
with_new names [] = sym (append-nil names)
with_new names (w ∷ ws) = by (is_in w names) (with_new names ws) (with_new (names ++ w ∷ []) ws)
  where
    by : (t : Bool) → with_terms names ws ≡ names ++ new_terms names ws → with_terms (names ++ w ∷ []) ws ≡ names ++ w ∷ [] ++ new_terms (names ++ w ∷ []) ws
        → with_terms (cond t names (names ++ w ∷ [])) ws ≡ names ++ cond t (new_terms names ws) (w ∷ new_terms (names ++ w ∷ []) ws)
    by true old new = old
    by false old new = new ∙ append_assoc names (w ∷ []) (new_terms (names ++ w ∷ []) ws)

-- a word's number stands once it is there, and a new word's is the count before it
pub number_first : (w : Word) (names ws : List Word) → find w (with_terms names (w ∷ ws)) ≡ find w names
unfolding with_terms
number_first w names ws = by (is_in w names) refl
  where
    by : (t : Bool) → is_in w names ≡ t → find w (with_terms (cond t names (names ++ w ∷ [])) ws) ≡ find w names
    by true e = rw (with_new names ws) (find_in w names (new_terms names ws) (ltb-true (find w names) (length names) e))
    by false e =
        let h : length names ≤ find w names = ltb-false (find w names) (length names) e in
        rw (with_new (names ++ w ∷ []) ws, append_assoc names (w ∷ []) (new_terms (names ++ w ∷ []) ws))
        (find_end w names (new_terms (names ++ w ∷ []) ws) h ∙ (let k : length names ≡ find w names = omega (arith, find_most w names) in k))

-- one list behind another
pub with_both : (names xs ys : List Word) → with_terms names (xs ++ ys) ≡ with_terms (with_terms names xs) ys
unfolding with_terms
with_both names [] ys = refl
with_both names (x ∷ xs) ys = with_both (cond (is_in x names) names (names ++ x ∷ [])) xs ys

pub new_both : (names xs ys : List Word) → new_terms names (xs ++ ys) ≡ new_terms names xs ++ new_terms (with_terms names xs) ys
unfolding new_terms with_terms
new_both names [] ys = refl
new_both names (x ∷ xs) ys = by (is_in x names) (new_both names xs ys) (new_both (names ++ x ∷ []) xs ys)
  where
    by : (t : Bool) → new_terms names (xs ++ ys) ≡ new_terms names xs ++ new_terms (with_terms names xs) ys
        → new_terms (names ++ x ∷ []) (xs ++ ys) ≡ new_terms (names ++ x ∷ []) xs ++ new_terms (with_terms (names ++ x ∷ []) xs) ys → cond t (new_terms names (xs ++ ys)) (x ∷ new_terms (names ++ x ∷ []) (xs ++ ys))
        ≡ cond t (new_terms names xs) (x ∷ new_terms (names ++ x ∷ []) xs) ++ new_terms (with_terms (cond t names (names ++ x ∷ [])) xs) ys
    by true old new = old
    by false old new = ap (λ (l : List Word). x ∷ l) new

-- a term has two cells
cells_two : (d : Decls) (w : Word) → length (cells_of d w) ≡ 2
unfolding cells_of
cells_two d [] = refl
cells_two d (b ∷ bs) = by (eqb b 64) (eqb b 61) _ _
  where
    by : (t u : Bool) (x y : ℕ) → length (cond t (1 ∷ x ∷ []) (cond u (2 ∷ y ∷ []) (0 ∷ 0 ∷ []))) ≡ 2
    by true u x y = refl
    by false true x y = refl
    by false false x y = refl

pub cells_count : (d : Decls) (ws : List Word) → length (cells_of_all d ws) ≡ length ws * 2
unfolding cells_of_all
cells_count d [] = refl
cells_count d (w ∷ ws) = omega (arith, length-append (cells_of d w) (cells_of_all d ws), cells_two d w, cells_count d ws)

pub cells_both : (d : Decls) (xs ys : List Word) → cells_of_all d (xs ++ ys) ≡ cells_of_all d xs ++ cells_of_all d ys
unfolding cells_of_all
cells_both d [] ys = refl
cells_both d (x ∷ xs) ys = rw (cells_both d xs ys) (sym (append_assoc (cells_of d x) (cells_of_all d xs) (cells_of_all d ys)))

-- the cells of a term depend on the names of sorts and globals alone
pub cells_named : (d : Decls) (ws : List Word) → cells_of_all (naming d.sort_names d.global_names) ws ≡ cells_of_all d ws
unfolding cells_of_all cells_of
cells_named d [] = refl
cells_named d ([] ∷ ws) = rw (cells_named d ws)
cells_named d ((b ∷ bs) ∷ ws) = rw (cells_named d ws)

-- a term's cells, by its first byte
module _ (d : Decls) where
  pub cells_empty : (w : Word) → length w ≡ 0 → 0 ∷ 0 ∷ [] ≡ cells_of d w
  unfolding cells_of
  cells_empty [] e = refl
  cells_empty (b ∷ bs) e = absurd (omega arith)

  pub cells_global : (w : Word) → get_or w 0 0 ≡ at_sign → 1 ∷ find (between w 1 (length w)) d.global_names ∷ [] ≡ cells_of d w
  unfolding cells_of
  cells_global [] e = absurd (omega arith)
  cells_global (b ∷ bs) e = rw (eq-eqb b at_sign e, to_end (b ∷ bs) 1)

  pub cells_literal : (w : Word) → get_or w 0 0 ≡ equals → 2 ∷ find (sort_part (between w 1 (length w))) d.sort_names ∷ [] ≡ cells_of d w
  unfolding cells_of
  cells_literal [] e = absurd (omega arith)
  cells_literal (b ∷ bs) e = rw (ne_eqb b at_sign (omega arith), eq-eqb b equals e, to_end (b ∷ bs) 1)

  pub cells_variable : (w : Word) → (get_or w 0 0 ≡ at_sign → ⊥) → (get_or w 0 0 ≡ equals → ⊥) → 0 ∷ 0 ∷ [] ≡ cells_of d w
  unfolding cells_of
  cells_variable [] a l = refl
  cells_variable (b ∷ bs) a l = rw (ne_eqb b at_sign a, ne_eqb b equals l)
