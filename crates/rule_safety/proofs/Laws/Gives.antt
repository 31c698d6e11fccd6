-- What tables that are not refused give: constraints whose values are in range.
use Prim.Native.Nat.{ℕ, zero, suc, ◌+◌, ◌-◌, ◌*◌, ◌≤◌, ◌<◌}
use native.Mathlib.Omega.{arith}
use Rattle.std.proofs.Math.Decide.{dec_lt}
use Rattle.std.proofs.Math.Path.{◌≡◌, refl}
use Rattle.std.proofs.Common.{sym, ap, ◌∙◌, subst, inl, inr, length-drop}
use Rattle.std.specs.Prelude.{Option, None, Some, ◌⊎◌, Bool, ◌&&◌, ◌||◌, cond, eqb, take, drop}
use Rattle.std.proofs.Math.Bool.{true, false, false≢true}
use mathlib.Core.List.Memᴰ
use mathlib.Core.List.{List, [], ◌∷◌, ◌++◌, map, zip_with}
use Rattle.std.proofs.Math.Dec.{leb}
use Rattle.std.proofs.Math.ListN.{length, get_or, length-take, get_or-eq_default}
use Rattle.std.proofs.Math.Seq.{get_or-take}
use borrow.Author.Tests.{ltb-true, leb-true, eqb-false}
use Rattle.definition.specs.Lists.{Among, from, without_last}
use Rattle.definition.specs.Problem.{part}
use Rattle.definition.proofs.Laws.Lists.{and_true, all_from, from_member, member_at, member_take}
use Rattle.rule_cells.specs.Put.{Record, eq, assign, impossible}
use Rattle.rule_signatures.specs.Tables.{term_cells, start_at, count_at, common_at, length_at, output_at, kind_at, head_at, maybe, signature_on, signature_at, term_kind, term_value, sort_on, known_sort}
use Rattle.rule_signatures.specs.Gives.{assign_if, fixed, simple_gives, alike, output, exact, gives, is_zero, empty, any}
use Rattle.rule_heads.specs.Alternatives.{keep, function_of, alternatives, is_function, is_permitted, some_empty, given_by, head_gives, head_refusal}
use Rattle.rule_lent.specs.Fit.{max_signature_sorts, max_length, signature_fits_on, signature_fits, term_fits_on, term_cells_fit, terms_fit}
use Rattle.rule_safety.proofs.Laws.Laid.{LeafFits, LeavesFit, AltsFit, GivenFits}

-- every number of the list is below n
abbrev pub Low : ℕ → List ℕ → Type 0
Low n ts = (t : ℕ) → Among t ts → t < n

-- members of parts
member_drop : (x n : ℕ) (xs : List ℕ) → Among x (drop n xs) → Among x xs
member_drop x zero xs m = m
member_drop x (suc n) [] m = m
member_drop x (suc n) (y ∷ xs) m = Memᴰ.tail (member_drop x n xs m)

pub low_part : (n start k : ℕ) (l : List ℕ) → Low n l → Low n (part l start k)
low_part n start k l h t m = h t (member_drop t start l (member_take t k (drop start l) m))

keep_member : (t : ℕ → Bool) (x : ℕ) (xs : List ℕ) → Among x (keep t xs) → Among x xs
unfolding keep
keep_member t x [] m = m
keep_member t x (y ∷ xs) m = go (t y) m (keep_member t x xs)
  where
    go : (b : Bool) → Among x (cond b (y ∷ keep t xs) (keep t xs)) → (Among x (keep t xs) → Among x xs) → Among x (y ∷ xs)
    go true (Memᴰ.head e) h = Memᴰ.head e
    go true (Memᴰ.tail k) h = Memᴰ.tail (h k)
    go false k h = Memᴰ.tail (h k)

pub alternatives_low : (signatures : List ℕ) (n head context : ℕ) → Low n (alternatives signatures n head context)
unfolding alternatives function_of
alternatives_low signatures n head context i m = go (Memᴰ.append_cases (function_of signatures n head) m)
  where
    low : Among i (from 0 n) → i < n
    low k = let (a, b) = from_member 0 n i k in omega arith

    go : Among i (function_of signatures n head) ⊎ Among i (keep (is_permitted signatures head context) (from 0 n)) → i < n
    go (inl k) = low (keep_member (is_function signatures head) i (from 0 n) (member_take i 1 (keep (is_function signatures head) (from 0 n)) k))
    go (inr k) = low (keep_member (is_permitted signatures head context) i (from 0 n) k)

-- no number passes the test
pub any_none : (t : ℕ → Bool) (x : ℕ) (xs : List ℕ) → any t xs ≡ false → Among x xs → t x ≡ false
unfolding any
any_none t x [] h x3 = elim x3 [ ]
any_none t x (y ∷ xs) h (Memᴰ.head e) = ap t e ∙ first (t y) (any t xs) h
  where
    first : (a b : Bool) → a || b ≡ false → a ≡ false
    first true b h = h
    first false b h = refl
any_none t x (y ∷ xs) h (Memᴰ.tail m) = any_none t x xs (second (t y) (any t xs) h) m
  where
    second : (a b : Bool) → a || b ≡ false → b ≡ false
    second true b h = absurd (false≢true (sym h))
    second false b h = h

-- 8 is not given: no alternative is empty
head_full : (signatures is : List ℕ) → head_refusal signatures is ≡ 0 → (i : ℕ) → Among i is → empty (signature_at signatures i) ≡ false
unfolding head_refusal
head_full signatures [] e i m = elim m [ ]
head_full signatures (j ∷ is) e i m = any_none (λ i. empty (signature_at signatures i)) i (j ∷ is) (go (some_empty signatures (j ∷ is)) e) m
  where
    go : (b : Bool) → ◌≡◌ {A = ℕ} (cond b 8 0) 0 → b ≡ false
    go true h = absurd (omega arith)
    go false h = refl

-- the value in a cell that is at most n
pub maybe_low : (n v s : ℕ) → v ≤ n → maybe v ≡ Some s → s < n
unfolding maybe
maybe_low n zero s h e = let z : ◌≡◌ {A = ℕ} 0 1 = cc in absurd (omega arith)
maybe_low n (suc v) s h e = let k : v ≡ s = cc in omega arith

-- the sort of a literal or a global
module _ (cells globals : List ℕ) (n sorts : ℕ) (fits : terms_fit cells n sorts ≡ true) (most : (v : ℕ) → get_or globals v 0 ≤ sorts) where
  sort_on_lem : (kind value s : ℕ) → term_fits_on sorts value kind ≡ true → sort_on globals value kind ≡ Some s → s < sorts
  unfolding term_fits_on sort_on
  sort_on_lem zero value s h e = let z : ◌≡◌ {A = ℕ} 0 1 = cc in absurd (omega arith)
  sort_on_lem (suc zero) value s h e = maybe_low sorts (get_or globals value 0) s (most value) e
  sort_on_lem (suc (suc zero)) value s h e = let k : value ≡ s = cc in omega (arith, ltb-true value sorts h)
  sort_on_lem (suc (suc (suc kind))) value s h e = absurd (false≢true h)

  pub known_low : (t s : ℕ) → known_sort (take (n * term_cells) cells) globals t ≡ Some s → s < sorts
  unfolding known_sort terms_fit term_cells_fit sort_on
  known_low t s e = on (dec_lt t n)
    where
      on : Dec (t < n) → s < sorts
      on (yes h) =
          sort_on_lem (term_kind cells t) (term_value cells t) s (all_from (term_cells_fit cells sorts) 0 n t fits (omega arith) (omega arith))
          (rw (get_or-take (n * 2) cells (t * 2) 0 (omega arith), get_or-take (n * 2) cells (t * 2 + 1) 0 (omega arith)) at e)
      on (no h) =
          let l : length (take (n * 2) cells) ≤ t * 2 = omega (arith, length-take (n * 2) cells) in
          let k : get_or (take (n * 2) cells) (t * 2) 0 ≡ 0 = get_or-eq_default (take (n * 2) cells) 0 l in
          let a : None ≡ Some s = rw k at e in
          let z : ◌≡◌ {A = ℕ} 0 1 = cc in
          absurd (omega arith)

-- constraints in range
module _ (terms sorts : ℕ) where
  abbrev Fit : List Record → Type 0
  Fit rs = LeavesFit terms sorts rs

  pub leaves_append : (a b : List Record) → Fit a → Fit b → Fit (a ++ b)
  leaves_append [] b f g = g
  leaves_append (r ∷ a) b f g = (f.0, leaves_append a b f.1 g)

  leaves_map : (f : ℕ → Record) (xs : List ℕ) → ((x : ℕ) → Among x xs → LeafFits terms sorts (f x)) → Fit (map f xs)
  leaves_map f [] h = tt
  leaves_map f (x ∷ xs) h = (h x (Memᴰ.head refl), leaves_map f xs (λ y m. h y (Memᴰ.tail m)))

  leaves_zip : (xs ys : List ℕ) → Low terms xs → Low sorts ys → Fit (zip_with assign xs ys)
  unfolding zip_with
  leaves_zip [] ys f g = tt
  leaves_zip (x ∷ xs) [] f g = tt
  leaves_zip (x ∷ xs) (y ∷ ys) f g =
      ((f x (Memᴰ.head refl), g y (Memᴰ.head refl)), leaves_zip xs ys (λ t m. f t (Memᴰ.tail m)) (λ t m. g t (Memᴰ.tail m)))

  pub fixed_fit : (cells globals ts : List ℕ) → ((t s : ℕ) → known_sort cells globals t ≡ Some s → s < sorts) → Low terms ts →
      Fit (fixed cells globals ts)
  unfolding fixed assign_if
  fixed_fit cells globals [] known low = tt
  fixed_fit cells globals (t ∷ ts) known low = go (known_sort cells globals t) refl (fixed_fit cells globals ts known (λ x m. low x (Memᴰ.tail m)))
    where
      go : (v : Option ℕ) → known_sort cells globals t ≡ v → Fit (fixed cells globals ts) → Fit (assign_if t v (fixed cells globals ts))
      go None e f = f
      go (Some s) e f = ((low t (Memᴰ.head refl), known t s e), f)

  module _ (args : List ℕ) (low : Low terms args) (some : 1 ≤ length args) where
    at_low : (i : ℕ) → i < length args → get_or args i 0 < terms
    at_low i h = low (get_or args i 0) (member_at args i h)

    alike_fit : (common : Option ℕ) (rest : List ℕ) → ((s : ℕ) → common ≡ Some s → s < sorts) → Low terms rest →
        (1 ≤ length rest → get_or rest 0 0 < terms) → Fit (alike common rest)
    unfolding alike
    alike_fit (Some s) rest c l f = leaves_map (λ a. assign a s) rest (λ a m. (l a m, c s refl))
    alike_fit None [] c l f = tt
    alike_fit None (x ∷ rest) c l f = leaves_map (λ a. eq a x) rest (λ a m. (l a (Memᴰ.tail m), f (omega arith)))

    first_low : (rest : List ℕ) → Low terms rest → 1 ≤ length rest → get_or rest 0 0 < terms
    first_low rest l h = l (get_or rest 0 0) (member_at rest 0 h)

    output_fit : (common out : Option ℕ) → ((s : ℕ) → common ≡ Some s → s < sorts) → ((s : ℕ) → out ≡ Some s → s < sorts) → Fit (output common out args)
    unfolding output
    output_fit common None c o = alike_fit common args c low (first_low args low)
    output_fit common (Some s) c o =
        let rest : List ℕ = without_last args in
        let l : Low terms rest = λ t m. low t (member_take t (length args - 1) args m) in
        ((at_low (length args - 1) (omega arith), o s refl), alike_fit common rest c l (first_low rest l))

    simple_fit : (head : ℕ) (ss : List ℕ) → Low sorts ss → 1 ≤ length ss → length ss ≤ max_length → Fit (simple_gives head ss args)
    unfolding simple_gives
    simple_fit head ss l a b = go (eqb (length args) (length ss))
      where
        go : (t : Bool) → Fit (cond t (zip_with assign args ss) (impossible head (length ss) ∷ []))
        go true = leaves_zip args ss low l
        go false = ((a, b), tt)

    exact_fit : (head : ℕ) (len : Option ℕ) (rest : List Record) → ((e : ℕ) → len ≡ Some e → (1 ≤ e) × (e ≤ max_length)) → Fit rest →
        Fit (exact head len args rest)
    unfolding exact
    exact_fit head None rest l f = f
    exact_fit head (Some e) rest l f = go (eqb (length args) e)
      where
        go : (t : Bool) → Fit (cond t rest (impossible head e ∷ []))
        go true = f
        go false = (l e refl, tt)

    -- a signature that fits and is not empty
    module _ (signatures ss : List ℕ) (sorts_low : Low sorts ss) (few : length ss ≤ max_signature_sorts) where
      simply : (i : ℕ) → start_at signatures i + count_at signatures i ≤ length ss → eqb (count_at signatures i) 0 ≡ false →
          Fit (simple_gives (head_at signatures i) (part ss (start_at signatures i) (count_at signatures i)) args)
      simply i h e =
          let whole : List ℕ = part ss (start_at signatures i) (count_at signatures i) in
          let n : count_at signatures i ≡ 0 → ⊥ = eqb-false (count_at signatures i) 0 e in
          let l : length whole ≡ count_at signatures i =
          length-take (count_at signatures i) (drop (start_at signatures i) ss) ∙ omega (arith, length-drop (start_at signatures i) ss) in
          simple_fit (head_at signatures i) whole (low_part sorts (start_at signatures i) (count_at signatures i) ss sorts_low) (positive (count_at signatures i) (length whole) l n) (omega arith)
        where
          positive : (c n : ℕ) → n ≡ c → (c ≡ 0 → ⊥) → 1 ≤ n
          positive zero n e h = absurd (h refl)
          positive (suc c) n e h = omega arith

      gives_on : (i kind : ℕ) → signature_fits_on signatures (length ss) sorts i kind ≡ true → empty (signature_on signatures i kind) ≡ false →
          Fit (gives ss (signature_on signatures i kind) args)
      unfolding signature_fits_on signature_on gives empty
      gives_on i zero h e = simply i (leb-true (start_at signatures i + count_at signatures i) (length ss) h) e
      gives_on i (suc zero) h e = simply i (leb-true (start_at signatures i + count_at signatures i) (length ss) h) e
      gives_on i (suc (suc zero)) h e = simply i (leb-true (start_at signatures i + count_at signatures i) (length ss) h) e
      gives_on i (suc (suc (suc zero))) h e =
          let (c, r) = and_true (leb (common_at signatures i) sorts) (leb (length_at signatures i) (max_length + 1) && leb (output_at signatures i) sorts) h in
          let (l, o) = and_true (leb (length_at signatures i) (max_length + 1)) (leb (output_at signatures i) sorts) r in
          exact_fit (head_at signatures i) (maybe (length_at signatures i)) (output (maybe (common_at signatures i)) (maybe (output_at signatures i)) args)
          (λ n k. (positive (maybe (length_at signatures i)) n e k, maybe_most (length_at signatures i) n (leb-true (length_at signatures i) (max_length + 1) l) k))
          (output_fit (maybe (common_at signatures i)) (maybe (output_at signatures i))
          (λ s k. maybe_low sorts (common_at signatures i) s (leb-true (common_at signatures i) sorts c) k)
          (λ s k. maybe_low sorts (output_at signatures i) s (leb-true (output_at signatures i) sorts o) k))
        where
          maybe_most : (v n : ℕ) → v ≤ max_length + 1 → maybe v ≡ Some n → n ≤ max_length
          maybe_most v n h k = omega (arith, maybe_low (max_length + 1) v n h k)

          positive : (v : Option ℕ) (n : ℕ) → is_zero v ≡ false → v ≡ Some n → 1 ≤ n
          positive v n e k = go n (subst (λ (w : Option ℕ). is_zero w ≡ false) k e)
            where
              go : (n : ℕ) → is_zero (Some n) ≡ false → 1 ≤ n
              go zero h = absurd (unfold is_zero in false≢true (sym h))
              go (suc n) h = omega arith
      gives_on i (suc (suc (suc (suc kind)))) h e = absurd (false≢true h)

      pub gives_fit : (i : ℕ) → signature_fits signatures (length ss) sorts i ≡ true → empty (signature_at signatures i) ≡ false →
          Fit (given_by signatures ss args i)
      unfolding signature_fits signature_at
      gives_fit i h e = gives_on i (kind_at signatures i) h e

      alts_fit : (is : List ℕ) → ((i : ℕ) → Among i is → Fit (given_by signatures ss args i)) →
          AltsFit terms sorts (map (given_by signatures ss args) is)
      alts_fit [] h = tt
      alts_fit (i ∷ is) h = (h i (Memᴰ.head refl), alts_fit is (λ j m. h j (Memᴰ.tail m)))

      pub head_fits : (before : List Record) (is : List ℕ) → Fit before → ((i : ℕ) → Among i is → signature_fits signatures (length ss) sorts i ≡ true) →
          head_refusal signatures is ≡ 0 →
          GivenFits terms sorts (head_gives signatures ss args before is)
      unfolding head_gives
      head_fits before [] f h e = f
      head_fits before (i ∷ []) f h e =
          let m : Among i (i ∷ []) = Memᴰ.head refl in
          leaves_append before (given_by signatures ss args i) f (gives_fit i (h i m) (head_full signatures (i ∷ []) e i m))
      head_fits before (i ∷ j ∷ is) f h e = (f, alts_fit (i ∷ j ∷ is) (λ k m. gives_fit k (h k m) (head_full signatures (i ∷ j ∷ is) e k m)))
