-- That a text's cuts spell its parts, and that it can be read a part at a time by positions.
use Rattle.std.specs.Prelude.{ℕ, zero, suc, ◌+◌, ◌-◌, ◌*◌, ◌<◌, ◌≤◌, ◌≡◌, refl, Bool, true, false, cond, eqb, length, take, drop, get_or}
use Rattle.std.proofs.Common.{add-one, sym, ◌∙◌, arith, length-drop, take-append-drop, take-suc, get_or-drop, drop-drop}
use Rattle.std.proofs.Math.Path.{ap}
use mathlib.Core.List.{List, [], ◌∷◌, ◌++◌, append-nil, append_assoc}
use Rattle.std.proofs.Math.ListN.{drop_of_length-le}
use Rattle.std.proofs.Math.Seq.{drop-cons}
use Rattle.std.proofs.lemmas.List.Edits.{sets, sets-eq}
use Rattle.text_words.specs.Bytes.{up_to}
use Rattle.text_words.specs.Parts.{to_first, split, cuts_from, cuts, between, part_at, parts_from, parts_of}
use Rattle.text_words.specs.Laws.Names.{up_to_take}
use Rattle.text_words.specs.Laws.Parts.{split_some, length_to_first}

-- the first part with bytes in front of it
unfoldable pub glue : List ℕ → List (List ℕ) → List (List ℕ)
glue w [] = w ∷ []
glue w (p ∷ ps) = (w ++ p) ∷ ps

glue_none : (ps : List (List ℕ)) → 1 ≤ length ps → glue [] ps ≡ ps
unfolding glue
glue_none [] h = absurd (omega arith)
glue_none (p ∷ ps) h = refl

glue_first : (w : List ℕ) (x : ℕ) (ps : List (List ℕ)) → glue w (to_first x ps) ≡ glue (w ++ x ∷ []) ps
unfolding glue to_first
glue_first w x [] = refl
glue_first w x (p ∷ ps) = ap (λ (l : List ℕ). l ∷ ps) (sym (append_assoc w (x ∷ []) p))

-- a table's parts behind its first
parts_shift : (s : List ℕ) (x y : ℕ) (t : List ℕ) (n i : ℕ) → parts_from s (x ∷ y ∷ t) (suc i) n ≡ parts_from s t i n
unfolding parts_from
parts_shift s x y t zero i = refl
parts_shift s x y t (suc n) i =
    ap (λ (p : List ℕ). p ∷ parts_from s (x ∷ y ∷ t) (suc (suc i)) n)
    (ap (λ (k : ℕ). between s (get_or (x ∷ y ∷ t) k 0) (get_or (x ∷ y ∷ t) (k + 1) 0)) (let e : suc i * 2 ≡ suc (suc (i * 2)) = omega arith in e)
    ∙ ap (λ (k : ℕ). between s (get_or t (i * 2) 0) (get_or (x ∷ y ∷ t) k 0)) (let e : suc (suc (i * 2)) + 1 ≡ suc (suc (i * 2 + 1)) = omega arith in e))
    ∙ ap (λ (ps : List (List ℕ)). part_at s t i ∷ ps) (parts_shift s x y t n (suc i))

-- one byte more
between_more : (s : List ℕ) (start at x : ℕ) (xs : List ℕ) → start ≤ at → at < length s → drop at s ≡ x ∷ xs → between s start (suc at) ≡ between s start at ++ x ∷ []
between_more s start at x xs h l e =
    ap (λ (k : ℕ). take k (drop start s)) (let q : suc at - start ≡ suc (at - start) = omega arith in q)
    ∙ take-suc (drop start s) (at - start) 0 (omega (arith, length-drop start s))
    ∙ ap (λ (b : ℕ). take (at - start) (drop start s) ++ b ∷ [])
    (get_or-drop start s (at - start) 0
    ∙ ap (λ (k : ℕ). get_or s k 0) (let q : start + (at - start) ≡ at + 0 = omega arith in q)
    ∙ sym (get_or-drop at s 0 0)
    ∙ ap (λ (t : List ℕ). get_or t 0 0) e)

-- the text goes on with these bytes
Goes : List ℕ → ℕ → List ℕ → Type 0
Goes s at xs = (rest : List ℕ) × (drop at s ≡ xs ++ rest)

goes_on : (s : List ℕ) (at x : ℕ) (xs : List ℕ) → Goes s at (x ∷ xs) → Goes s (suc at) xs
unfolding Goes
goes_on s at x xs g =
    (g.0, ap (λ (k : ℕ). drop k s) (sym (add-one at)) ∙ sym (drop-drop 1 at s) ∙ ap (drop 1) g.1)

goes_in : (s : List ℕ) (at x : ℕ) (xs : List ℕ) → Goes s at (x ∷ xs) → at < length s
unfolding Goes
goes_in s at x xs g = omega (arith, length-drop at s, ap length g.1)

-- what the cuts of a text spell, with a part begun at `start`
spelt : (b : ℕ) (s rest : List ℕ) (start at : ℕ) (xs : List ℕ) → start ≤ at → Goes s at xs
    → parts_from s (cuts_from b start at xs ++ rest) 0 (length (split b xs)) ≡ glue (between s start at) (split b xs)
unfolding Goes cuts_from split glue parts_from
spelt b s rest start at [] h g = ap (λ (w : List ℕ). w ∷ []) (sym (append-nil (between s start at)))
spelt b s rest start at (x ∷ xs) h g =
    by (eqb x b) (spelt b s rest (suc at) (suc at) xs (omega arith) (goes_on s at x xs g))
    (spelt b s rest start (suc at) xs (omega arith) (goes_on s at x xs g))
  where
    by : (t : Bool)
        → parts_from s (cuts_from b (suc at) (suc at) xs ++ rest) 0 (length (split b xs)) ≡ glue (between s (suc at) (suc at)) (split b xs)
        → parts_from s (cuts_from b start (suc at) xs ++ rest) 0 (length (split b xs)) ≡ glue (between s start (suc at)) (split b xs)
        → parts_from s (cond t (start ∷ at ∷ cuts_from b (suc at) (suc at) xs) (cuts_from b start (suc at) xs) ++ rest) 0 (length (cond t ([] ∷ split b xs) (to_first x (split b xs))))
        ≡ glue (between s start at) (cond t ([] ∷ split b xs) (to_first x (split b xs)))
    by true p q =
        ap (λ (ps : List (List ℕ)). between s start at ∷ ps)
        (parts_shift s start at (cuts_from b (suc at) (suc at) xs ++ rest) (length (split b xs)) 0 ∙ p
        ∙ ap (λ (k : ℕ). glue (take k (drop (suc at) s)) (split b xs)) (let e : suc at - suc at ≡ 0 = omega arith in e)
        ∙ glue_none (split b xs) (split_some b xs))
        ∙ ap (λ (w : List ℕ). w ∷ split b xs) (sym (append-nil (between s start at)))
    by false p q =
        ap (parts_from s (cuts_from b start (suc at) xs ++ rest) 0) (length_to_first x (split b xs) (split_some b xs)) ∙ q
        ∙ ap (λ (w : List ℕ). glue w (split b xs)) (between_more s start at x (xs ++ g.0) h (goes_in s at x xs g) g.1)
        ∙ sym (glue_first (between s start at) x (split b xs))

-- how many cells and parts there are at most
pub cuts_most : (b start at : ℕ) (xs : List ℕ) → length (cuts_from b start at xs) ≤ length xs * 2 + 2
unfolding cuts_from
cuts_most b start at [] = omega arith
cuts_most b start at (x ∷ xs) = by (eqb x b) (cuts_most b (suc at) (suc at) xs) (cuts_most b start (suc at) xs)
  where
    by : (t : Bool) → length (cuts_from b (suc at) (suc at) xs) ≤ length xs * 2 + 2 → length (cuts_from b start (suc at) xs) ≤ length xs * 2 + 2
        → length (cond t (start ∷ at ∷ cuts_from b (suc at) (suc at) xs) (cuts_from b start (suc at) xs)) ≤ suc (length xs) * 2 + 2
    by true p q = omega arith
    by false p q = omega arith

pub split_most : (b : ℕ) (xs : List ℕ) → length (split b xs) ≤ length xs + 1
unfolding split
split_most b [] = omega arith
split_most b (x ∷ xs) = by (eqb x b) (split_most b xs)
  where
    by : (t : Bool) → length (split b xs) ≤ length xs + 1 → length (cond t ([] ∷ split b xs) (to_first x (split b xs))) ≤ suc (length xs) + 1
    by true p = omega arith
    by false p = omega (arith, length_to_first x (split b xs) (split_some b xs))

-- the cuts of a part of a text, at the front of a table, spell its parts
pub cuts_spell : (b : ℕ) (s table : List ℕ) (base end : ℕ) → base ≤ end → end ≤ length s → length (between s base end) * 2 + 2 ≤ length table
    → parts_of s (sets table 0 (cuts b base (between s base end))) (length (split b (between s base end))) ≡ split b (between s base end)
unfolding Goes
cuts_spell b s table base end h l room =
    let line = between s base end in
    let cells = cuts b base line in
    ap (λ (t : List ℕ). parts_of s t (length (split b line))) (sets-eq cells table 0 (omega (arith, cuts_most b base base line)))
    ∙ spelt b s (drop (0 + length cells) table) base base line (omega arith) (drop (end - base) (drop base s), sym (take-append-drop (end - base) (drop base s)))
    ∙ ap (λ (k : ℕ). glue (take k (drop base s)) (split b line)) (let e : base - base ≡ 0 = omega arith in e)
    ∙ glue_none (split b line) (split_some b line)

-- a text, a part at a time: the bytes before the first b, and what is behind it
unfoldable pub behind : ℕ → List ℕ → List (List ℕ)
behind b [] = []
behind b (x ∷ xs) = split b xs

pub split_first : (b : ℕ) (xs : List ℕ) → split b xs ≡ up_to b xs ∷ behind b (drop (length (up_to b xs)) xs)
unfolding split up_to behind to_first
split_first b [] = refl
split_first b (x ∷ xs) = by (eqb x b) (split_first b xs)
  where
    by : (t : Bool) → split b xs ≡ up_to b xs ∷ behind b (drop (length (up_to b xs)) xs)
        → cond t ([] ∷ split b xs) (to_first x (split b xs)) ≡ cond t [] (x ∷ up_to b xs) ∷ behind b (drop (length (cond t [] (x ∷ up_to b xs))) (x ∷ xs))
    by true e = refl
    by false e = rw e

module _ (b : ℕ) (s : List ℕ) (at e : ℕ) (ends : e ≡ at + length (up_to b (drop at s))) where
  part_here : up_to b (drop at s) ≡ between s at e
  part_here = sym (up_to_take b (drop at s)) ∙ ap (λ (k : ℕ). take k (drop at s)) (let q : length (up_to b (drop at s)) ≡ e - at = omega arith in q)

  rest_here : drop (length (up_to b (drop at s))) (drop at s) ≡ drop e s
  rest_here = drop-drop (length (up_to b (drop at s))) at s ∙ ap (λ (k : ℕ). drop k s) (sym ends)

  pub split_next : e < length s → split b (drop at s) ≡ between s at e ∷ split b (drop (e + 1) s)
  unfolding behind
  split_next h =
      split_first b (drop at s) ∙ ap (λ (w : List ℕ). w ∷ behind b (drop (length (up_to b (drop at s))) (drop at s))) part_here
      ∙ ap (λ (t : List ℕ). between s at e ∷ behind b t) (rest_here ∙ drop-cons s e 0 h)
      ∙ ap (λ (k : ℕ). between s at e ∷ split b (drop k s)) (sym (add-one e))

  pub split_last : length s ≤ e → split b (drop at s) ≡ between s at e ∷ []
  unfolding behind
  split_last h =
      split_first b (drop at s) ∙ ap (λ (w : List ℕ). w ∷ behind b (drop (length (up_to b (drop at s))) (drop at s))) part_here
      ∙ ap (λ (t : List ℕ). between s at e ∷ behind b t) (rest_here ∙ drop_of_length-le s h)
