-- Laws about parts of a text and tables of them.
use Prim.Native.Nat.{ℕ, zero, suc, ◌+◌, ◌-◌, ◌*◌, ◌<◌, ◌≤◌}
use Rattle.std.proofs.Common.{add-one, sym, ◌∙◌, length-drop, drop_of_length-le, take_all}
use Rattle.std.specs.Prelude.{◌≡◌, refl, Bool, true, false, not, cond, List, [], ◌∷◌, eqb, length, take, drop, get_or}
use Rattle.std.specs.List.{position, position_or_len, range_with_len}
use Rattle.std.specs.Option.{unwrap_or}
use Rattle.std.proofs.lemmas.List.FromFn.{length-range_with_len}
use Rattle.std.proofs.Math.Path.{ap}
use native.Mathlib.Omega.{arith}
use borrow.Author.Tests.{eq-eqb, ne_eqb}
use Rattle.std.proofs.Math.Seq.{take-nil, sets}
use Rattle.text_words.specs.Bytes.{same}
use Rattle.text_words.specs.Parts.{to_first, split, cuts_from, between, part_at, parts_from, find}
use Rattle.text_words.specs.Laws.Walk.{unwrap_found}
use Rattle.definition.proofs.Laws.Left.{drop_step}

-- a part that lies outside the text, or ends before it starts, is empty; one that ends behind the text ends with it
pub between_behind : (s : List ℕ) (start end : ℕ) → length s < start → [] ≡ between s start end
between_behind s start end h = rw (drop_of_length-le s {i = start} (omega arith), take-nil)

pub between_over : (s : List ℕ) (start end : ℕ) → length s < end → between s start (length s) ≡ between s start end
between_over s start end h =
    take_all (length s - start) (drop start s) (omega (arith, length-drop start s))
    ∙ sym (take_all (end - start) (drop start s) (omega (arith, length-drop start s)))

pub between_none : (s : List ℕ) (start end : ℕ) → end < start → [] ≡ between s start end
between_none s start end h = ap (λ (k : ℕ). take k (drop start s)) (let e : 0 ≡ end - start = omega arith in e)

-- the lookup, a turn at a time
module _ (s table w : List ℕ) (i n : ℕ) where
  pub parts_next : i < n → parts_from s table i (n - i) ≡ part_at s table i ∷ parts_from s table (i + 1) (n - (i + 1))
  unfolding parts_from
  parts_next h =
      ap (parts_from s table i) (let e : n - i ≡ suc (n - (i + 1)) = omega arith in e)
      ∙ ap (λ (k : ℕ). part_at s table i ∷ parts_from s table k (n - (i + 1))) (sym (add-one i))

  pub find_here : i < n → same (part_at s table i) w ≡ true → find w (parts_from s table i (n - i)) ≡ 0
  unfolding find
  find_here h e = rw (parts_next h, e)

  pub find_next : i < n → same (part_at s table i) w ≡ false → find w (parts_from s table i (n - i)) ≡ suc (find w (parts_from s table (i + 1) (n - (i + 1))))
  unfolding find
  find_next h e = rw (parts_next h, e)

  pub find_end : n ≤ i → find w (parts_from s table i (n - i)) ≡ 0
  unfolding find parts_from
  find_end h = ap (λ (k : ℕ). find w (parts_from s table i k)) (let e : n - i ≡ 0 = omega arith in e)

  pub parts_end : n ≤ i → parts_from s table i (n - i) ≡ []
  unfolding parts_from
  parts_end h = ap (parts_from s table i) (let e : n - i ≡ 0 = omega arith in e)

-- as `position` finds it
position_from : (s table w : List ℕ) (i n : ℕ) → position_or_len (λ k. same (part_at s table k) w) (range_with_len i n) ≡ find w (parts_from s table i n)
unfolding find parts_from
position_from s table w i zero = refl
position_from s table w i (suc n) = by (same (part_at s table i) w) (rw (add-one i) (position_from s table w (suc i) n))
  where
    by : (t : Bool) → position_or_len (λ k. same (part_at s table k) w) (range_with_len (i + 1) n) ≡ find w (parts_from s table (suc i) n)
        → cond (not t) (1 + position_or_len (λ k. same (part_at s table k) w) (range_with_len (i + 1) n)) 0 ≡ cond t 0 (suc (find w (parts_from s table (suc i) n)))
    by true e = refl
    by false e = omega (arith, e)

pub found_at : (s table w : List ℕ) (n : ℕ) → unwrap_or (position (λ k. same (part_at s table k) w) (range_with_len 0 n)) n ≡ find w (parts_from s table 0 n)
found_at s table w n =
    let tests = λ (k : ℕ). same (part_at s table k) w in
    ap (unwrap_or (position tests (range_with_len 0 n))) (sym (length-range_with_len 0 n)) ∙ unwrap_found tests (range_with_len 0 n) ∙ position_from s table w 0 n

-- a table of n parts has n parts
pub parts_count : (s table : List ℕ) (i n : ℕ) → length (parts_from s table i n) ≡ n
unfolding parts_from
parts_count s table i zero = refl
parts_count s table i (suc n) = ap suc (parts_count s table (suc i) n)

-- there is always a part
pub split_some : (b : ℕ) (s : List ℕ) → 1 ≤ length (split b s)
unfolding split to_first
split_some b [] = omega arith
split_some b (x ∷ xs) = by (eqb x b) (split b xs)
  where
    by : (t : Bool) (ps : List (List ℕ)) → 1 ≤ length (cond t ([] ∷ ps) (to_first x ps))
    by true ps = omega arith
    by false [] = omega arith
    by false (p ∷ ps) = omega arith

pub length_to_first : (x : ℕ) (ps : List (List ℕ)) → 1 ≤ length ps → length (to_first x ps) ≡ length ps
unfolding to_first
length_to_first x [] h = absurd (omega arith)
length_to_first x (p ∷ ps) h = refl

-- the cutter, a turn at a time: at a byte b, at another, at the end
module _ (b : ℕ) (line : List ℕ) (i : ℕ) where
  pub count_cut : i < length line → get_or line i 0 ≡ b → length (split b (drop i line)) ≡ suc (length (split b (drop (i + 1) line)))
  unfolding split
  count_cut h e = rw (drop_step line i h, eq-eqb (get_or line i 0) b e)

  pub count_on : i < length line → (get_or line i 0 ≡ b → ⊥) → length (split b (drop i line)) ≡ length (split b (drop (i + 1) line))
  unfolding split
  count_on h ne = rw (drop_step line i h, ne_eqb (get_or line i 0) b ne) (length_to_first (get_or line i 0) (split b (drop (i + 1) line)) (split_some b (drop (i + 1) line)))

  pub count_end : length line ≤ i → length (split b (drop i line)) ≡ 1
  unfolding split
  count_end h = rw (drop_of_length-le line h)

  module _ (base start : ℕ) where
    pub cut_on : i < length line → (get_or line i 0 ≡ b → ⊥) → cuts_from b start (base + i) (drop i line) ≡ cuts_from b start (base + (i + 1)) (drop (i + 1) line)
    unfolding cuts_from
    cut_on h ne =
        rw (drop_step line i h, ne_eqb (get_or line i 0) b ne)
        (ap (λ (k : ℕ). cuts_from b start k (drop (i + 1) line)) (let e : suc (base + i) ≡ base + (i + 1) = omega arith in e))

    pub cut_here : (table : List ℕ) (n : ℕ) → i < length line → get_or line i 0 ≡ b → sets table (n * 2) (cuts_from b start (base + i) (drop i line))
        ≡ sets (sets table (n * 2) (start ∷ (base + i) ∷ [])) ((n + 1) * 2) (cuts_from b (base + i + 1) (base + (i + 1)) (drop (i + 1) line))
    unfolding cuts_from
    cut_here table n h e =
        rw (drop_step line i h, eq-eqb (get_or line i 0) b e)
        (ap (λ (m : ℕ). sets (sets table (n * 2) (start ∷ (base + i) ∷ [])) m (cuts_from b (suc (base + i)) (suc (base + i)) (drop (i + 1) line)))
        (let q : suc (suc (n * 2)) ≡ (n + 1) * 2 = omega arith in q)
        ∙ ap (λ (k : ℕ). sets (sets table (n * 2) (start ∷ (base + i) ∷ [])) ((n + 1) * 2) (cuts_from b k (suc (base + i)) (drop (i + 1) line)))
        (let q : suc (base + i) ≡ base + i + 1 = omega arith in q)
        ∙ ap (λ (k : ℕ). sets (sets table (n * 2) (start ∷ (base + i) ∷ [])) ((n + 1) * 2) (cuts_from b (base + i + 1) k (drop (i + 1) line)))
        (let q : suc (base + i) ≡ base + (i + 1) = omega arith in q))

    pub cut_end : length line ≤ i → cuts_from b start (base + i) (drop i line) ≡ start ∷ (base + i) ∷ []
    unfolding cuts_from
    cut_end h = rw (drop_of_length-le line h)
