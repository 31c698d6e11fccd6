-- Words of a line by their kinds, and names by their places.
use Prim.Native.Nat.{ℕ, zero, suc, ◌+◌, ◌≤◌, ◌<◌}
use Rattle.std.proofs.Common.{arith, sym, ap, ◌∙◌, subst, length-append, ltb-true, eqb-true, eq-eqb, ne_eqb}
use Rattle.std.proofs.Math.Decide.{dec_lt}
use Rattle.std.specs.Prelude.{◌≡◌, refl, Bool, true, false, not, ◌&&◌, cond, eqb, length, get_or, take, drop}
use Rattle.std.proofs.lemmas.Bool.{false≢true}
use mathlib.Core.List.{List, [], ◌∷◌, ◌++◌, append-nil, append_assoc, Memᴰ}
use Rattle.definition.proofs.Laws.Lists.{and_true}
use Rattle.definition.specs.Lists.{all}
use Rattle.text_words.specs.Bytes.{at_sign, equals, same}
use Rattle.text_words.specs.Names.{is_name_byte, is_absent, is_name, is_variable}
use Rattle.text_words.specs.Parts.{find}
use Rattle.text_grammar.specs.declared.Kind.{Kind}
use Rattle.text_grammar.specs.declared.Pattern.{Pattern}
use Rattle.text_grammar.specs.Bytes.{Word}
use Rattle.text_grammar.specs.Grammar.{kind_at, pass_from}
use Rattle.text_definition.specs.Decls.{is_in, known_term}
use Rattle.text_definition.specs.Say.{with_terms, numbers}

-- a word of a list of words
abbrev pub Of : Word → List Word → Type 0
Of w ws = Memᴰ w ws

pub word_at : (ws : List Word) (k : ℕ) → k < length ws → Of (get_or ws k []) ws
word_at [] k h = absurd (omega arith)
word_at (w ∷ ws) zero h = Memᴰ.head refl
word_at (w ∷ ws) (suc k) h = Memᴰ.tail (word_at ws k (omega arith))

pub of_take : (w : Word) (n : ℕ) (ws : List Word) → Of w (take n ws) → Of w ws
of_take w zero ws m = elim m [ ]
of_take w (suc n) [] m = m
of_take w (suc n) (v ∷ ws) (Memᴰ.head e) = Memᴰ.head e
of_take w (suc n) (v ∷ ws) (Memᴰ.tail m) = Memᴰ.tail (of_take w n ws m)

-- what holds of every word from number k on holds of the words behind the first k
pub from_words : (P : Word → Type 0) (k : ℕ) (ws : List Word) → ((j : ℕ) → k ≤ j → j < length ws → P (get_or ws j [])) → (w : Word) → Of w (drop k ws) →
    P w
from_words P zero [] h w m = elim m [ ]
from_words P zero (v ∷ ws) h w (Memᴰ.head e) = subst P (sym e) (h 0 (omega arith) (omega arith))
from_words P zero (v ∷ ws) h w (Memᴰ.tail m) = from_words P zero ws (λ j l u. h (suc j) (omega arith) (omega arith)) w m
from_words P (suc k) [] h w m = elim m [ ]
from_words P (suc k) (v ∷ ws) h w m = from_words P k ws (λ j l u. h (suc j) (omega arith) (omega arith)) w m

-- every word passes the test of its kind
pub pass_at : (t : Kind → Word → Bool) (r : Pattern) (i : ℕ) (ws : List Word) → pass_from t r i ws ≡ true → (k j : ℕ) → j ≡ i + k → k < length ws →
    t (kind_at r j) (get_or ws k []) ≡ true
unfolding pass_from
pass_at t r i [] h k j e l = absurd (omega arith)
pass_at t r i (w ∷ ws) h zero j e l = let f : j ≡ i = omega arith in rw f (and_true (t (kind_at r i) w) (pass_from t r (suc i) ws) h).0
pass_at t r i (w ∷ ws) h (suc k) j e l = pass_at t r (suc i) ws (and_true (t (kind_at r i) w) (pass_from t r (suc i) ws) h).1 k j (omega arith) (omega arith)

pub passes : (t : Kind → Word → Bool) (r : Pattern) (ws : List Word) → pass_from t r 0 ws ≡ true → (k : ℕ) → k < length ws →
    t (kind_at r k) (get_or ws k []) ≡ true
passes t r ws h k l = pass_at t r 0 ws h k k (omega arith) l

-- the words from the fifth, the fourth, the third on are of one kind
module _ (r : Pattern) (K : Kind) where
  abbrev pub From : ℕ → Type 0
  From k = (j : ℕ) → k ≤ j → kind_at r j ≡ K

  pub from_four : r.fourth ≡ K → r.fifth ≡ K → r.sixth ≡ K → r.further ≡ K → From 4
  unfolding kind_at
  from_four a b c d zero h = absurd (omega arith)
  from_four a b c d (suc zero) h = absurd (omega arith)
  from_four a b c d (suc (suc zero)) h = absurd (omega arith)
  from_four a b c d (suc (suc (suc zero))) h = absurd (omega arith)
  from_four a b c d (suc (suc (suc (suc zero)))) h = a
  from_four a b c d (suc (suc (suc (suc (suc zero))))) h = b
  from_four a b c d (suc (suc (suc (suc (suc (suc zero)))))) h = c
  from_four a b c d (suc (suc (suc (suc (suc (suc (suc j))))))) h = d

  earlier : (k : ℕ) → kind_at r k ≡ K → From (suc k) → From k
  earlier k e f j h = on (dec_lt k j)
    where
      on : Dec (k < j) → kind_at r j ≡ K
      on (yes l) = f j l
      on (no l) = let i : k ≡ j = omega arith in subst (λ (n : ℕ). kind_at r n ≡ K) i e

  pub from_three : r.third ≡ K → r.fourth ≡ K → r.fifth ≡ K → r.sixth ≡ K → r.further ≡ K → From 3
  from_three t a b c d = earlier 3 (unfold kind_at in t) (from_four a b c d)

  pub from_two : r.second ≡ K → r.third ≡ K → r.fourth ≡ K → r.fifth ≡ K → r.sixth ≡ K → r.further ≡ K → From 2
  from_two s t a b c d = earlier 2 (unfold kind_at in s) (from_three t a b c d)

-- names: the place of one that is there
pub same_true : (a b : Word) → same a b ≡ true → a ≡ b
unfolding same
same_true [] [] h = refl
same_true [] (y ∷ b) h = absurd (false≢true h)
same_true (x ∷ a) [] h = absurd (false≢true h)
same_true (x ∷ a) (y ∷ b) h =
    let (e, f) = and_true (eqb x y) (same a b) h in
    let i : x ≡ y = eqb-true x y e in
    let j : a ≡ b = same_true a b f in
    rw (i, j)

true_same : (a : Word) → same a a ≡ true
unfolding same
true_same [] = refl
true_same (x ∷ a) = rw (eq-eqb x x refl) (true_same a)

-- w is one of the names
abbrev pub Known : Word → List Word → Type 0
Known w names = find w names < length names

pub in_known : (w : Word) (names : List Word) → is_in w names ≡ true → Known w names
in_known w names h = ltb-true (find w names) (length names) h

pub found : (w : Word) (names : List Word) → Known w names → get_or names (find w names) [] ≡ w
unfolding find
found w [] h = absurd (omega arith)
found w (v ∷ names) h = on (same v w) refl h (found w names)
  where
    on : (b : Bool) → same v w ≡ b → cond b 0 (suc (find w names)) < suc (length names) → (Known w names → get_or names (find w names) [] ≡ w) →
        get_or (v ∷ names) (cond b 0 (suc (find w names))) [] ≡ w
    on true e l f = same_true v w e
    on false e l f = f (omega arith)

find_append : (w : Word) (a b : List Word) → Known w a → find w (a ++ b) ≡ find w a
unfolding find
find_append w [] b h = absurd (omega arith)
find_append w (v ∷ a) b h = on (same v w) h (find_append w a b)
  where
    on : (t : Bool) → cond t 0 (suc (find w a)) < suc (length a) → (Known w a → find w (a ++ b) ≡ find w a) →
        ◌≡◌ {A = ℕ} (cond t 0 (suc (find w (a ++ b)))) (cond t 0 (suc (find w a)))
    on true l f = refl
    on false l f = ap suc (f (omega arith))

pub known_append : (w : Word) (a b : List Word) → Known w a → Known w (a ++ b)
known_append w a b h = omega (arith, find_append w a b h, length-append a b)

known_last : (w : Word) (a : List Word) → Known w (a ++ w ∷ [])
unfolding find
known_last w [] = rw (true_same w) (omega arith)
known_last w (v ∷ a) = on (same v w) (known_last w a)
  where
    on : (t : Bool) → Known w (a ++ w ∷ []) → cond t 0 (suc (find w (a ++ w ∷ []))) < suc (length (a ++ w ∷ []))
    on true f = omega arith
    on false f = omega arith

-- the names of the terms of a line: those there were, then new ones of the line; every word of the line is one of them
pub record Extended (names ws all : List Word) : Type 0 where
  pub extra : List Word
  pub whole : all ≡ names ++ extra
  pub from : (w : Word) → Of w extra → Of w ws
  pub known : (w : Word) → Of w ws → Known w all

cases : (v : Word) (all : List Word) {w : Word} {ws : List Word} → Known w all → (Of v ws → Known v all) → Of v (w ∷ ws) → Known v all
cases v all k f (Memᴰ.head e) = rw e k
cases v all k f (Memᴰ.tail m) = f m

pub extended : (names ws : List Word) → Extended names ws (with_terms names ws)
unfolding with_terms
extended names [] = record { extra = []; whole = sym (append-nil names); from = λ w m. m; known = λ w m. elim m [ ] }
extended names (w ∷ ws) = on (is_in w names) refl (extended names ws) (extended (names ++ w ∷ []) ws)
  where
    on : (b : Bool) → is_in w names ≡ b → Extended names ws (with_terms names ws) → Extended (names ++ w ∷ []) ws (with_terms (names ++ w ∷ []) ws) →
        Extended names (w ∷ ws) (with_terms (cond b names (names ++ w ∷ [])) ws)
    on true e x y = record {
      extra = x.extra;
      whole = x.whole;
      from = λ v m. Memᴰ.tail (x.from v m);
      known = λ v m. cases v (with_terms names ws) (rw x.whole (known_append w names x.extra (in_known w names e))) (x.known v) m;
    }
    on false e x y = record {
      extra = w ∷ y.extra;
      whole = y.whole ∙ append_assoc names (w ∷ []) y.extra;
      from = λ v m. first v m;
      known = λ v m. cases v (with_terms (names ++ w ∷ []) ws) (rw y.whole (known_append w (names ++ w ∷ []) y.extra (known_last w names))) (y.known v) m;
    }
      where
        first : (v : Word) → Of v (w ∷ y.extra) → Of v (w ∷ ws)
        first v (Memᴰ.head i) = Memᴰ.head i
        first v (Memᴰ.tail i) = Memᴰ.tail (y.from v i)

-- a term's kind by its word: a global, a literal, a variable
abbrev pub word_kind : Word → ℕ
word_kind [] = 0
word_kind (b ∷ bs) = cond (eqb b at_sign) 1 (cond (eqb b equals) 2 0)

-- a byte of a name is neither of the two that begin a global and a literal
plain_byte : (b : ℕ) → is_name_byte b ≡ true → (eqb b at_sign ≡ false) × (eqb b equals ≡ false)
unfolding is_name_byte
plain_byte b h = (ne_eqb b 64 (λ e. false≢true (rw e at h)), ne_eqb b 61 (λ e. false≢true (rw e at h)))

first_byte : (b : ℕ) (bs : List ℕ) → is_variable (b ∷ bs) ≡ true → is_name_byte b ≡ true
unfolding is_variable is_name all
first_byte b bs h =
    let (a, c) = and_true (not (is_absent (b ∷ bs))) (is_name_byte b && all is_name_byte bs) h in
    (and_true (is_name_byte b) (all is_name_byte bs) c).0

pub variable_kind : (w : Word) → is_variable w ≡ true → word_kind w ≡ 0
variable_kind [] h = refl
variable_kind (b ∷ bs) h = let (a, c) = plain_byte b (first_byte b bs h) in rw (a, c)

pub variable_known : (sorts globals : List Word) (w : Word) → is_variable w ≡ true → known_term sorts globals w ≡ true
unfolding known_term
variable_known sorts globals [] h = refl
variable_known sorts globals (b ∷ bs) h = let (a, c) = plain_byte b (first_byte b bs h) in rw (a, c)

-- places of words
pub numbers_at : (names ws : List Word) (k : ℕ) → k < length ws → get_or (numbers names ws) k 0 ≡ find (get_or ws k []) names
numbers_at names [] k h = absurd (omega arith)
numbers_at names (w ∷ ws) zero h = refl
numbers_at names (w ∷ ws) (suc k) h = numbers_at names ws k (omega arith)

pub numbers_length : (names ws : List Word) → length (numbers names ws) ≡ length ws
numbers_length names [] = refl
numbers_length names (w ∷ ws) = ap suc (numbers_length names ws)
