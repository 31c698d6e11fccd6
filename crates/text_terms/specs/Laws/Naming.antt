-- Naming, a word at a time and one range behind another.
use Prim.Native.Nat.{ℕ, zero, suc, ◌+◌, ◌-◌, ◌*◌, ◌<◌, ◌≤◌, min}
use Rattle.std.proofs.Common.{add-one, ap, sym, ◌∙◌, get_or-set_same, get_or-set_other}
use native.Mathlib.Omega.{arith}
use Rattle.std.specs.Prelude.{◌≡◌, Bool, ltb, length, get_or, set, replicate}
use Rattle.std.proofs.Math.Path.{refl}
use Rattle.std.proofs.Math.Bool.{true, false}
use mathlib.Core.List.{List, [], ◌∷◌, ◌++◌, append_assoc, append-nil}
use borrow.Author.Tests.{lt-ltb, le-ltb, ltb-true, ltb-false}
use Rattle.std.proofs.Math.ListN.{length-append}
use Rattle.std.proofs.lemmas.List.{replicate-append-replicate}
use Rattle.std.proofs.lemmas.List.Edits.{sets}
use Rattle.text_words.specs.Parts.{part_at, parts_from, parts_of, find}
use Rattle.text_words.specs.Laws.Parts.{parts_count}
use Rattle.text_words.specs.Laws.Put.{sets_append}
use Rattle.text_grammar.specs.Bytes.{Word}
use Rattle.text_definition.specs.Decls.{Decls, is_in}
use Rattle.text_definition.specs.Say.{with_terms, cells_of, cells_of_all}
use Rattle.text_terms.specs.Named.{new_terms, Named, Numbered, NamedRange, Unnamed}
use Rattle.text_words.specs.Laws.Table.{parts_put}
use Rattle.text_terms.specs.Laws.Names.{with_new, with_both, new_both, cells_count, cells_both, number_first}

-- the words of two ranges that meet
pub parts_both : (s words : List ℕ) (a m n : ℕ) → parts_from s words a (m + n) ≡ parts_from s words a m ++ parts_from s words (a + m) n
unfolding parts_from
parts_both s words a zero n =
    ap (parts_from s words a) (let e : zero + n ≡ n = omega arith in e) ∙ ap (λ (k : ℕ). parts_from s words k n) (let e : a ≡ a + zero = omega arith in e)
parts_both s words a (suc m) n =
    ap (parts_from s words a) (let e : suc m + n ≡ suc (m + n) = omega arith in e)
    ∙ ap (λ (l : List Word). part_at s words a ∷ l) (parts_both s words (suc a) m n)
    ∙ ap (λ (k : ℕ). part_at s words a ∷ parts_from s words (suc a) m ++ parts_from s words k n) (let e : suc a + m ≡ a + suc m = omega arith in e)

pub range_both : (s words : List ℕ) (a i b : ℕ) → a ≤ i → i ≤ b → parts_from s words a (b - a) ≡ parts_from s words a (i - a) ++ parts_from s words i (b - i)
range_both s words a i b h k =
    ap (parts_from s words a) (let e : b - a ≡ (i - a) + (b - i) = omega arith in e)
    ∙ parts_both s words a (i - a) (b - i)
    ∙ ap (λ (j : ℕ). parts_from s words a (i - a) ++ parts_from s words j (b - i)) (let e : a + (i - a) ≡ i = omega arith in e)

pub range_one : (s words : List ℕ) (i : ℕ) → parts_from s words i (i + 1 - i) ≡ part_at s words i ∷ []
unfolding parts_from
range_one s words i = ap (parts_from s words i) (let e : i + 1 - i ≡ suc zero = omega arith in e)

module _ (d : Decls) (names : List Word) (terms : List ℕ) where
  -- no word, and one: it is there, it is new, it is one too many
  module _ (n : ℕ) (e : length names ≡ n) where
    pub named_none : n ≤ 256 → Named d names terms [] n names terms
    unfolding with_terms new_terms cells_of_all
    named_none h = record { counted = omega arith; called = λ _. refl; celled = λ _. refl }

    module _ (w : Word) where
      pub named_known : n ≤ 256 → find w names < n → Named d names terms (w ∷ []) n names terms
      unfolding with_terms new_terms cells_of_all
      named_known h k =
          let t : is_in w names ≡ true = lt-ltb (find w names) (length names) (omega arith) in
          record { counted = rw t (omega arith); called = λ _. rw t; celled = λ _. rw t }

      pub named_new : n < 256 → n ≤ find w names → Named d names terms (w ∷ []) (n + 1) (names ++ w ∷ []) (sets terms (n * 2) (cells_of d w))
      unfolding with_terms new_terms cells_of_all
      named_new h k =
          let t : is_in w names ≡ false = le-ltb (find w names) (length names) (omega arith) in
          record { counted = rw t (omega (arith, length-append names (w ∷ []))); called = λ _. rw t; celled = λ _. rw (t, append-nil (cells_of d w), e) }

      pub named_over : (names' : List Word) (terms' : List ℕ) → n ≡ 256 → n ≤ find w names → Named d names terms (w ∷ []) (n + 1) names' terms'
      unfolding with_terms new_terms
      named_over names' terms' h k =
          let t : is_in w names ≡ false = le-ltb (find w names) (length names) (omega arith) in
          record { counted = rw t (omega (arith, length-append names (w ∷ []))); called = λ z. absurd (omega arith); celled = λ z. absurd (omega arith) }

  -- words behind words
  module _ (xs ys : List Word) (n : ℕ) (names₁ : List Word) (terms₁ : List ℕ) (a : Named d names terms xs n names₁ terms₁) where
    pub named_both : (m : ℕ) (names₂ : List Word) (terms₂ : List ℕ) → n ≤ 256 → Named d names₁ terms₁ ys m names₂ terms₂ → Named d names terms (xs ++ ys) m names₂ terms₂
    named_both m names₂ terms₂ h b =
        let e : with_terms names₁ ys ≡ with_terms names (xs ++ ys) = ap (λ (l : List Word). with_terms l ys) (a.called h) ∙ sym (with_both names xs ys) in
        let new = cells_of_all d (new_terms names xs) in
        let old = new_terms names₁ ys in
        let l : length names₁ * 2 ≡ length names * 2 + length new =
        omega (arith, ap length (a.called h), ap length (with_new names xs), length-append names (new_terms names xs), cells_count d (new_terms names xs)) in
        let o : new ++ cells_of_all d old ≡ cells_of_all d (new_terms names (xs ++ ys)) =
        ap (λ (q : List Word). new ++ cells_of_all d (new_terms q ys)) (a.called h)
        ∙ sym (cells_both d (new_terms names xs) (new_terms (with_terms names xs) ys))
        ∙ ap (cells_of_all d) (sym (new_both names xs ys)) in
        record {
          counted = b.counted ∙ ap (λ (q : List Word). min (length q) 257) e;
          called = λ k. b.called k ∙ e;
          celled = λ k. b.celled k
              ∙ ap (λ (c : List ℕ). sets c (length names₁ * 2) (cells_of_all d old)) (a.celled h)
              ∙ ap (λ (p : ℕ). sets (sets terms (length names * 2) new) p (cells_of_all d old)) l
              ∙ sym (sets_append terms (length names * 2) new (cells_of_all d old))
              ∙ ap (sets terms (length names * 2)) o;
        }

    pub named_full : (names₂ : List Word) (terms₂ : List ℕ) → 256 < n → Named d names terms (xs ++ ys) n names₂ terms₂
    named_full names₂ terms₂ h =
        let e : length (with_terms names (xs ++ ys)) ≡ length (with_terms names xs) + length (new_terms (with_terms names xs) ys) =
        ap length (with_both names xs ys ∙ with_new (with_terms names xs) ys) ∙ length-append (with_terms names xs) (new_terms (with_terms names xs) ys) in
        record { counted = omega (arith, a.counted); called = λ k. absurd (omega arith); celled = λ k. absurd (omega arith) }

-- the numbers of no word, of one more
module _ (s words : List ℕ) (names : List Word) (from : ℕ) (before : List ℕ) where
  pub numbered_none : Numbered s words names from from before before
  numbered_none = record { inside = λ j h k l. absurd (omega arith); below = λ j h. refl; above = λ j h. refl }

  pub numbered_more : (i to : ℕ) (mid after : List ℕ) → length mid ≡ length before → from ≤ i → i ≤ to → Numbered s words names from i before mid → Numbered s words names i to mid after
      → Numbered s words names from to before after
  numbered_more i to mid after len f t a b = record {
    inside = λ j h k l. by j h k l (ltb j i) refl;
    below = λ j h. b.below j (omega arith) ∙ a.below j h;
    above = λ j h. b.above j h ∙ a.above j (omega arith);
  }
    where
      by : (j : ℕ) → from ≤ j → j < to → j < length before → (q : Bool) → ltb j i ≡ q → get_or after j 0 ≡ find (part_at s words j) names
      by j h k l true e = let m : j < i = ltb-true j i e in b.below j m ∙ a.inside j h m l
      by j h k l false e = b.inside j (ltb-false j i e) k (omega arith)

pub numbered_one : (s words : List ℕ) (names more : List Word) (i : ℕ) (before : List ℕ)
    → Numbered s words (with_terms names (part_at s words i ∷ more)) i (i + 1) before (set before i (find (part_at s words i) names))
numbered_one s words names more i before = record {
  inside = λ j h k l. there j l (let e : j ≡ i = omega arith in e);
  below = λ j h. get_or-set_other before i j (find (part_at s words i) names) 0 (λ e. omega arith);
  above = λ j h. get_or-set_other before i j (find (part_at s words i) names) 0 (λ e. omega arith);
}
  where
    there : (j : ℕ) → j < length before → j ≡ i → get_or (set before i (find (part_at s words i) names)) j 0 ≡ find (part_at s words j) (with_terms names (part_at s words i ∷ more))
    there j l e = rw e (get_or-set_same before i (find (part_at s words i) names) 0 (omega arith) ∙ sym (number_first (part_at s words i) names more))

-- one word more, and the words of a range behind those before it
module _ (s words : List ℕ) (d : Decls) (names : List Word) (terms numbers : List ℕ) where
  -- word i, written at its place
  pub range_word : (i n : ℕ) (names₁ : List Word) (terms₁ : List ℕ) → Named d names terms (part_at s words i ∷ []) n names₁ terms₁
      → NamedRange s words i (i + 1) d names terms numbers n names₁ terms₁ (set numbers i (find (part_at s words i) names))
  range_word i n names₁ terms₁ a = record {
    named = rw (range_one s words i) a;
    numbered = λ h more. rw (a.called h) (rw (← with_both names (part_at s words i ∷ []) more) (numbered_one s words names more i numbers));
  }

module _ {s words : List ℕ} {d : Decls} {names : List Word} {terms numbers : List ℕ} where
  pub range_start : {from n : ℕ} → length names ≡ n → n ≤ 256 → NamedRange s words from from d names terms numbers n names terms numbers
  unfolding parts_from
  range_start {from} {n} e h = record {
    named = rw (let z : from - from ≡ zero = omega arith in z) (named_none d names terms n e h);
    numbered = λ _ more. numbered_none s words (with_terms names more) from numbers;
  }

  module _ {from i n : ℕ} {names₁ : List Word} {terms₁ numbers₁ : List ℕ} (a : NamedRange s words from i d names terms numbers n names₁ terms₁ numbers₁) (f : from ≤ i) where
    pub range_more : {to m : ℕ} {names₂ : List Word} {terms₂ numbers₂ : List ℕ} → n ≤ 256 → length numbers₁ ≡ length numbers → i ≤ to
        → NamedRange s words i to d names₁ terms₁ numbers₁ m names₂ terms₂ numbers₂ → NamedRange s words from to d names terms numbers m names₂ terms₂ numbers₂
    range_more {to} {m} {names₂} {terms₂} {numbers₂} h len t b = record {
      named = rw (range_both s words from i to f t) (named_both d names terms (parts_from s words from (i - from)) (parts_from s words i (to - i)) n names₁ terms₁ a.named m names₂ terms₂ h b.named);
      numbered = λ k more. numbered_more s words (with_terms names₂ more) from numbers i to numbers₁ numbers₂ len f t
          (rw (b.named.called k) (rw (← with_both names₁ (parts_from s words i (to - i)) more) (a.numbered h (parts_from s words i (to - i) ++ more))))
          (b.numbered k more);
    }

    pub range_full : {to : ℕ} {names₂ : List Word} {terms₂ numbers₂ : List ℕ} → 256 < n → i ≤ to → NamedRange s words from to d names terms numbers n names₂ terms₂ numbers₂
    range_full {to} {names₂} {terms₂} h t = record {
      named = rw (range_both s words from i to f t) (named_full d names terms (parts_from s words from (i - from)) (parts_from s words i (to - i)) n names₁ terms₁ a.named names₂ terms₂ h);
      numbered = λ k. absurd (omega arith);
    }

-- a term's two cells, written one by one
pub two_cells : (l : List ℕ) (n kind value : ℕ) (l₁ l₂ terms : List ℕ) → kind ∷ value ∷ [] ≡ terms → l₁ ≡ set l (n * 2) kind → l₂ ≡ set l₁ (n * 2 + 1) value → l₂ ≡ sets l (n * 2) terms
two_cells l n kind value l₁ l₂ terms e f g =
    g ∙ ap (λ (x : List ℕ). set x (n * 2 + 1) value) f ∙ ap (λ (k : ℕ). set (set l (n * 2) kind) k value) (add-one (n * 2)) ∙ ap (sets l (n * 2)) e

-- word i of a line, looked up in the table of n terms and its number written
module _ {s words terms numbers : List ℕ} {d : Decls} {i : ℕ} {numbers' : List ℕ} (term_names : List ℕ) (n number : ℕ)
    (looked : number ≡ find (part_at s words i) (parts_of s term_names n)) (put : numbers' ≡ set numbers i number) where
  written : (m : ℕ) (names' : List Word) (terms' : List ℕ) → Named d (parts_of s term_names n) terms (part_at s words i ∷ []) m names' terms'
      → NamedRange s words i (i + 1) d (parts_of s term_names n) terms numbers m names' terms' numbers'
  written m names' terms' a = rw (put, looked) (range_word s words d (parts_of s term_names n) terms numbers i m names' terms' a)

  pub word_known : n ≤ 256 → number < n → NamedRange s words i (i + 1) d (parts_of s term_names n) terms numbers n (parts_of s term_names n) terms numbers'
  word_known h k = written n (parts_of s term_names n) terms (named_known d (parts_of s term_names n) terms n (parts_count s term_names 0 n) (part_at s words i) h (omega arith))

  pub word_over : {names' : List Word} {terms' : List ℕ} → n ≤ 256 → 256 ≤ n → n ≤ number → NamedRange s words i (i + 1) d (parts_of s term_names n) terms numbers (n + 1) names' terms' numbers'
  word_over {names'} {terms'} h k l = written (n + 1) names' terms' (named_over d (parts_of s term_names n) terms n (parts_count s term_names 0 n) (part_at s words i) names' terms' (omega arith) (omega arith))

  pub word_new : (term_names' : List ℕ) {terms' : List ℕ} → n < 256 → n ≤ number → 256 * 2 ≤ length term_names
      → term_names' ≡ sets term_names (n * 2) (get_or words (i * 2) 0 ∷ get_or words (i * 2 + 1) 0 ∷ []) → terms' ≡ sets terms (n * 2) (cells_of d (part_at s words i))
      → NamedRange s words i (i + 1) d (parts_of s term_names n) terms numbers (n + 1) (parts_of s term_names' (n + 1)) terms' numbers'
  word_new term_names' h k r e f =
      rw (e, f, parts_put s term_names n (get_or words (i * 2) 0) (get_or words (i * 2 + 1) 0) (omega arith))
      (written (n + 1) (parts_of s term_names n ++ part_at s words i ∷ []) (sets terms (n * 2) (cells_of d (part_at s words i)))
      (named_new d (parts_of s term_names n) terms n (parts_count s term_names 0 n) (part_at s words i) h (omega arith)))

-- one more name that is empty
pub unnamed_none : (term_names : List ℕ) (i : ℕ) → Unnamed term_names i i term_names
unnamed_none term_names i s = sym (ap (λ (k : ℕ). parts_of s term_names i ++ replicate k []) (let e : i - i ≡ 0 = omega arith in e) ∙ append-nil (parts_of s term_names i))

pub unnamed_more : (term_names term_names₁ term_names₂ : List ℕ) (from i : ℕ) → from ≤ i → i * 2 + 1 < length term_names₁ → Unnamed term_names from i term_names₁ → term_names₂ ≡ sets term_names₁ (i * 2) (0 ∷ 0 ∷ [])
    → Unnamed term_names from (i + 1) term_names₂
unnamed_more term_names term_names₁ term_names₂ from i f h a e s =
    ap (λ (l : List ℕ). parts_of s l (i + 1)) e
    ∙ parts_put s term_names₁ i 0 0 h
    ∙ ap (λ (l : List Word). l ++ [] ∷ []) (a s)
    ∙ append_assoc (parts_of s term_names from) (replicate (i - from) []) ([] ∷ [])
    ∙ ap (λ (l : List Word). parts_of s term_names from ++ l) (replicate-append-replicate (i - from) 1 [] ∙ ap (λ (k : ℕ). replicate k []) (let z : i - from + 1 ≡ i + 1 - from = omega arith in z))
