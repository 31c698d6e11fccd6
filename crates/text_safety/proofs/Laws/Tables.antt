-- The tables of a text, n being how many sorts there are: what fits stays when more is declared.
use Prim.Native.Nat.{ℕ, zero, suc, ◌+◌, ◌-◌, ◌*◌, ◌≤◌, ◌<◌}
use native.Mathlib.Omega.{arith}
use Rattle.std.proofs.Math.Decide.{dec_lt, ℕ_discrete}
use Rattle.std.proofs.Common.{add-zero, ap, ◌∙◌, length-append, get_or-append-add}
use Rattle.std.specs.Prelude.{◌≡◌, Bool, ◌&&◌, ltb, take, replicate}
use Rattle.std.proofs.Math.Path.{refl}
use Rattle.std.proofs.Math.Bool.{true, false, cond}
use mathlib.Core.List.Memᴰ
use mathlib.Core.List.{List, [], ◌∷◌, ◌++◌}
use Rattle.std.proofs.Math.Dec.{leb, eqb}
use Rattle.std.proofs.Math.ListN.{length, get_or, length-take, get_or-append, get_or-eq_default}
use Rattle.std.proofs.lemmas.List.Edits.{sets}
use Rattle.std.proofs.Math.Seq.{length-sets, get_or-take}
use borrow.Author.Tests.{lt-ltb, leb-true, le-leb, eq-eqb, ne_eqb}
use Rattle.definition.specs.Sizes.{max_terms}
use Rattle.definition.proofs.Laws.Lists.{and_true, true_and, from_all}
use Rattle.rule_signatures.specs.Tables.{signature_cells, term_cells, kind_at, start_at, count_at, common_at, length_at, output_at, term_kind, term_value, unbound}
use Rattle.rule_lent.specs.Fit.{max_signatures, max_signature_sorts, max_globals, max_length, signature_fits_on, signature_fits, term_fits_on, term_cells_fit, variable_fits, terms_fit}
use Rattle.rule_safety.proofs.Laws.Put.{before_puts, at_puts}
use Rattle.text_words.specs.Bytes.{at_sign, equals}
use Rattle.text_words.specs.Names.{sort_part}
use Rattle.text_words.specs.Parts.{find}
use Rattle.text_grammar.specs.Bytes.{Word}
use Rattle.text_definition.specs.Decls.{Decls, is_in, known_term}
use Rattle.text_definition.specs.Say.{cells_of, cells_of_all}
use Rattle.text_safety.proofs.Laws.Words.{Of, Known, in_known, found, word_kind}

-- globals: each has a sort
pub record Globals (n : ℕ) (names : List Word) (cells : List ℕ) : Type 0 where
  pub most : length names ≤ max_globals
  pub lent : length cells ≡ max_globals
  pub some : (g : ℕ) → g < length names → 1 ≤ get_or cells g 0
  pub low : (g : ℕ) → g < length names → get_or cells g 0 ≤ n

-- heads: each signature fits
pub record Heads (n : ℕ) (heads : List Word) (signatures : List ℕ) (used : ℕ) (cells : List ℕ) : Type 0 where
  pub most : length heads ≤ max_signatures
  pub lent : length signatures ≡ max_signatures * signature_cells
  pub fits : (i : ℕ) → i < length heads → signature_fits signatures used n i ≡ true
  pub most_sorts : used ≤ max_signature_sorts
  pub sorts_lent : length cells ≡ max_signature_sorts
  pub low : (j : ℕ) → j < used → get_or cells j 0 < n

-- terms, g being how many globals there are: the kind of each is that of its word
pub record Term (n g : ℕ) (w : Word) (kind value : ℕ) : Type 0 where
  pub spelt : kind ≡ word_kind w
  pub global : kind ≡ 1 → value < g
  pub literal : kind ≡ 2 → value < n

pub record Terms (n g : ℕ) (names : List Word) (cells : List ℕ) : Type 0 where
  pub most : length names ≤ max_terms
  pub lent : length cells ≡ max_terms * term_cells
  pub each : (t : ℕ) → t < length names → Term n g (get_or names t []) (term_kind cells t) (term_value cells t)

-- nothing is declared yet
pub no_globals : (n : ℕ) (cells : List ℕ) → length cells ≡ max_globals → Globals n [] cells
no_globals n cells h = record { most = omega arith; lent = h; some = λ g l. absurd (omega arith); low = λ g l. absurd (omega arith) }

pub no_heads : (n : ℕ) (signatures cells : List ℕ) → length signatures ≡ max_signatures * signature_cells → length cells ≡ max_signature_sorts →
    Heads n [] signatures 0 cells
no_heads n signatures cells h k = record {
  most = omega arith;
  lent = h;
  fits = λ i l. absurd (omega arith);
  most_sorts = omega arith;
  sorts_lent = k;
  low = λ j l. absurd (omega arith);
}

pub no_terms : (n g : ℕ) (cells : List ℕ) → length cells ≡ max_terms * term_cells → Terms n g [] cells
no_terms n g cells h = record { most = omega arith; lent = h; each = λ t l. absurd (omega arith) }

-- a signature whose cells are the same, where there are no fewer sorts
module _ (s k : List ℕ) (u v n m i : ℕ) (same : (j : ℕ) → j < 10 → get_or k (i * 10 + j) 0 ≡ get_or s (i * 10 + j) 0) (wide : u ≤ v) (more : n ≤ m) where
  kind_same : kind_at k i ≡ kind_at s i
  kind_same = let e : i * 10 + 0 ≡ i * 10 = omega arith in rw e at (same 0 (omega arith))

  part_on : leb (start_at s i + count_at s i) u ≡ true → leb (start_at k i + count_at k i) v ≡ true
  part_on h = rw (same 3 (omega arith), same 4 (omega arith)) (le-leb (start_at s i + count_at s i) v (omega (arith, leb-true (start_at s i + count_at s i) u h)))

  fits_on : (kind : ℕ) → signature_fits_on s u n i kind ≡ true → signature_fits_on k v m i kind ≡ true
  unfolding signature_fits_on
  fits_on zero h = part_on h
  fits_on (suc zero) h = part_on h
  fits_on (suc (suc zero)) h = part_on h
  fits_on (suc (suc (suc zero))) h =
      let (c, r) = and_true (leb (common_at s i) n) (leb (length_at s i) (max_length + 1) && leb (output_at s i) n) h in
      let (l, o) = and_true (leb (length_at s i) (max_length + 1)) (leb (output_at s i) n) r in
      rw (same 5 (omega arith), same 6 (omega arith), same 7 (omega arith))
      (true_and (leb (common_at s i) m) (leb (length_at s i) (max_length + 1) && leb (output_at s i) m) (le-leb (common_at s i) m (omega (arith, leb-true (common_at s i) n c)))
      (true_and (leb (length_at s i) (max_length + 1)) (leb (output_at s i) m) l (le-leb (output_at s i) m (omega (arith, leb-true (output_at s i) n o)))))
  fits_on (suc (suc (suc (suc kind)))) h = h

  pub fits_kept : signature_fits s u n i ≡ true → signature_fits k v m i ≡ true
  unfolding signature_fits
  fits_kept h = rw kind_same (fits_on (kind_at s i) h)

-- more sorts, more globals
pub more_globals_lem : (n m : ℕ) (names : List Word) (cells : List ℕ) → n ≤ m → Globals n names cells → Globals m names cells
more_globals_lem n m names cells h o = record { most = o.most; lent = o.lent; some = o.some; low = λ g l. omega (arith, o.low g l) }

pub more_heads : (n m : ℕ) (heads : List Word) (signatures : List ℕ) (used : ℕ) (cells : List ℕ) → n ≤ m → Heads n heads signatures used cells →
    Heads m heads signatures used cells
more_heads n m heads signatures used cells h o = record {
  most = o.most;
  lent = o.lent;
  fits = λ i l. fits_kept signatures signatures used used n m i (λ j k. refl) (omega arith) h (o.fits i l);
  most_sorts = o.most_sorts;
  sorts_lent = o.sorts_lent;
  low = λ j l. omega (arith, o.low j l);
}

pub more_terms : (n m g k : ℕ) (names : List Word) (cells : List ℕ) → n ≤ m → g ≤ k → Terms n g names cells → Terms m k names cells
more_terms n m g k names cells h i o = record {
  most = o.most;
  lent = o.lent;
  each = λ t l.
      let e = o.each t l in
      record { spelt = e.spelt; global = λ z. omega (arith, e.global z); literal = λ z. omega (arith, e.literal z) };
}

-- one more global
pub add_global_lem : (n s : ℕ) (name : Word) (names : List Word) (cells : List ℕ) → length names < max_globals → s < n → Globals n names cells →
    Globals n (names ++ name ∷ []) (sets cells (length names) (suc s ∷ []))
add_global_lem n s name names cells h l o = record {
  most = omega (arith, length-append names (name ∷ []));
  lent = length-sets cells (length names) (suc s ∷ []) ∙ o.lent;
  some = λ g k. on g (λ v. 1 ≤ v) k (o.some g) (omega arith);
  low = λ g k. on g (λ v. v ≤ n) k (o.low g) (omega arith);
}
  where
    on : (g : ℕ) (P : ℕ → Type 0) → g < length (names ++ name ∷ []) → (g < length names → P (get_or cells g 0)) → P (suc s) →
        P (get_or (sets cells (length names) (suc s ∷ [])) g 0)
    on g P k f e = at (dec_lt g (length names))
      where
        at : Dec (g < length names) → P (get_or (sets cells (length names) (suc s ∷ [])) g 0)
        at (yes i) = rw (before_puts cells (length names) g (suc s ∷ []) i) (f i)
        at (no i) =
            let z : g ≡ length names + 0 = omega (arith, length-append names (name ∷ [])) in
            rw (z, at_puts cells (length names) 0 (suc s ∷ []) (omega (arith, o.lent)) (omega arith)) e

-- one more signature: what it says fits
abbrev pub SaysFits : ℕ → ℕ → ℕ → ℕ → ℕ → Type 0
SaysFits n zero common exact output = Unit {0}
SaysFits n (suc zero) common exact output = Unit {0}
SaysFits n (suc (suc zero)) common exact output = Unit {0}
SaysFits n (suc (suc (suc zero))) common exact output = (common ≤ n) × (exact ≤ max_length + 1) × (output ≤ n)
SaysFits n (suc (suc (suc (suc kind)))) common exact output = ⊥

module _ (n kind head mask common exact output used : ℕ) (ss : List ℕ) where
  abbrev its_cells : List ℕ
  its_cells = kind ∷ head ∷ mask ∷ used ∷ length ss ∷ common ∷ exact ∷ output ∷ 0 ∷ 0 ∷ []

  cells_fit_lem : (signatures : List ℕ) (i : ℕ) → ((j : ℕ) → j < 10 → get_or signatures (i * 10 + j) 0 ≡ get_or its_cells j 0) → SaysFits n kind common exact output →
      signature_fits signatures (used + length ss) n i ≡ true
  unfolding signature_fits signature_fits_on
  cells_fit_lem signatures i same f = rw first (on kind f)
    where
      first : kind_at signatures i ≡ kind
      first = let e : i * 10 + 0 ≡ i * 10 = omega arith in rw e at (same 0 (omega arith))

      part : leb (start_at signatures i + count_at signatures i) (used + length ss) ≡ true
      part = rw (same 3 (omega arith), same 4 (omega arith)) (le-leb (used + length ss) (used + length ss) (omega arith))

      on : (k : ℕ) → SaysFits n k common exact output → signature_fits_on signatures (used + length ss) n i k ≡ true
      on zero f = part
      on (suc zero) f = part
      on (suc (suc zero)) f = part
      on (suc (suc (suc zero))) f =
          rw (same 5 (omega arith), same 6 (omega arith), same 7 (omega arith))
          (true_and (leb common n) (leb exact (max_length + 1) && leb output n) (le-leb common n f.0)
          (true_and (leb exact (max_length + 1)) (leb output n) (le-leb exact (max_length + 1) f.1) (le-leb output n f.2)))
      on (suc (suc (suc (suc k)))) f = absurd f

  pub add_head : (name : Word) (heads : List Word) (signatures cells : List ℕ) → length heads < max_signatures → used + length ss ≤ max_signature_sorts →
      SaysFits n kind common exact output →
      ((j : ℕ) → j < length ss → get_or ss j 0 < n) → Heads n heads signatures used cells → Heads n (heads ++ name ∷ []) (sets signatures (length heads * 10) its_cells) (used + length ss) (sets cells used ss)
  add_head name heads signatures cells h room f low o = record {
    most = omega (arith, length-append heads (name ∷ []));
    lent = length-sets signatures (length heads * 10) its_cells ∙ o.lent;
    fits = λ i l. at i l (dec_lt i (length heads));
    most_sorts = room;
    sorts_lent = length-sets cells used ss ∙ o.sorts_lent;
    low = λ j l. cell j l (dec_lt j used);
  }
    where
      at : (i : ℕ) → i < length (heads ++ name ∷ []) → Dec (i < length heads) →
          signature_fits (sets signatures (length heads * 10) its_cells) (used + length ss) n i ≡ true
      at i l (yes k) =
          fits_kept signatures (sets signatures (length heads * 10) its_cells) used (used + length ss) n n i
          (λ j b. before_puts signatures (length heads * 10) (i * 10 + j) its_cells (omega arith)) (omega arith) (omega arith) (o.fits i k)
      at i l (no k) =
          let e : i ≡ length heads = omega (arith, length-append heads (name ∷ [])) in
          rw e (cells_fit_lem (sets signatures (length heads * 10) its_cells) (length heads) (λ j b. at_puts signatures (length heads * 10) j its_cells (omega (arith, o.lent)) b) f)

      cell : (j : ℕ) → j < used + length ss → Dec (j < used) → get_or (sets cells used ss) j 0 < n
      cell j l (yes k) = rw (before_puts cells used j ss k) (o.low j k)
      cell j l (no k) =
          let e : j ≡ used + (j - used) = omega arith in
          rw (e, at_puts cells used (j - used) ss (omega (arith, o.sorts_lent)) (omega arith)) (low (j - used) (omega arith))

-- more terms: two cells for each word
abbrev pub CellsFor : ℕ → ℕ → List Word → List ℕ → Type 0
CellsFor n g [] [] = Unit {0}
CellsFor n g [] (k ∷ vs) = ⊥
CellsFor n g (w ∷ ws) [] = ⊥
CellsFor n g (w ∷ ws) (k ∷ []) = ⊥
CellsFor n g (w ∷ ws) (k ∷ v ∷ vs) = Term n g w k v × CellsFor n g ws vs

cells_length : (n g : ℕ) (ws : List Word) (vs : List ℕ) → CellsFor n g ws vs → length vs ≡ length ws * 2
cells_length n g [] [] c = refl
cells_length n g [] (k ∷ vs) c = absurd c
cells_length n g (w ∷ ws) [] c = absurd c
cells_length n g (w ∷ ws) (k ∷ []) c = absurd c
cells_length n g (w ∷ ws) (k ∷ v ∷ vs) c = omega (arith, cells_length n g ws vs c.1)

cells_at : (n g : ℕ) (ws : List Word) (vs : List ℕ) → CellsFor n g ws vs → (j : ℕ) → j < length ws →
    Term n g (get_or ws j []) (get_or vs (j * 2) 0) (get_or vs (j * 2 + 1) 0)
cells_at n g [] vs c j h = absurd (omega arith)
cells_at n g (w ∷ ws) [] c j h = absurd c
cells_at n g (w ∷ ws) (k ∷ []) c j h = absurd c
cells_at n g (w ∷ ws) (k ∷ v ∷ vs) c zero h = c.0
cells_at n g (w ∷ ws) (k ∷ v ∷ vs) c (suc j) h =
    let e : suc j * 2 ≡ suc (suc (j * 2)) = omega arith in
    let f : suc (suc (j * 2)) + 1 ≡ suc (suc (j * 2 + 1)) = omega arith in
    rw (e, f) (cells_at n g ws vs c.1 j (omega arith))

pub add_terms : (n g : ℕ) (names extra : List Word) (cells vs : List ℕ) → CellsFor n g extra vs → length names + length extra ≤ max_terms →
    Terms n g names cells →
    Terms n g (names ++ extra) (sets cells (length names * 2) vs)
add_terms n g names extra cells vs c h o = record {
  most = omega (arith, length-append names extra);
  lent = length-sets cells (length names * 2) vs ∙ o.lent;
  each = λ t l. at t l (dec_lt t (length names));
}
  where
    at : (t : ℕ) → t < length (names ++ extra) → Dec (t < length names) →
        Term n g (get_or (names ++ extra) t []) (get_or (sets cells (length names * 2) vs) (t * 2) 0) (get_or (sets cells (length names * 2) vs) (t * 2 + 1) 0)
    at t l (yes k) =
        rw (
          get_or-append names extra [] t k,
          before_puts cells (length names * 2) (t * 2) vs (omega arith),
          before_puts cells (length names * 2) (t * 2 + 1) vs (omega arith),
        ) (o.each t k)
    at t l (no k) =
        let j : ℕ = t - length names in
        let b : j < length extra = omega (arith, length-append names extra) in
        let long : length vs ≡ length extra * 2 = cells_length n g extra vs c in
        let e : t ≡ length names + j = omega arith in
        let word : get_or (names ++ extra) t [] ≡ get_or extra j [] = ap (λ (i : ℕ). get_or (names ++ extra) i []) e ∙ get_or-append-add names extra j [] in
        let cell : (i : ℕ) → i < 2 → get_or (sets cells (length names * 2) vs) (t * 2 + i) 0 ≡ get_or vs (j * 2 + i) 0 =
        λ i u.
        let f : t * 2 + i ≡ length names * 2 + (j * 2 + i) = omega arith in
        ap (λ (x : ℕ). get_or (sets cells (length names * 2) vs) x 0) f ∙ at_puts cells (length names * 2) (j * 2 + i) vs (omega (arith, o.lent)) (omega arith) in
        let first : get_or (sets cells (length names * 2) vs) (t * 2) 0 ≡ get_or vs (j * 2) 0 = simp add-zero at (cell 0 (omega arith)) in
        rw (word, first, cell 1 (omega arith)) (cells_at n g extra vs c j b)

-- fresh terms
pub fresh_cells : (n g k : ℕ) → CellsFor n g (replicate k []) (replicate (k * 2) 0)
fresh_cells n g zero = tt
fresh_cells n g (suc k) =
    let e : suc k * 2 ≡ suc (suc (k * 2)) = omega arith in
    rw e (record { spelt = refl; global = λ z. absurd (omega arith); literal = λ z. absurd (omega arith) }, fresh_cells n g k)

-- terms that a line names
module _ (d : Decls) where
  abbrev Fit : List Word → List ℕ → Type 0
  Fit ws vs = CellsFor (length d.sort_names) (length d.global_names) ws vs

  one_cells : (w : Word) (ws : List Word) (vs : List ℕ) → known_term d.sort_names d.global_names w ≡ true → Fit ws vs → Fit (w ∷ ws) (cells_of d w ++ vs)
  unfolding known_term cells_of
  one_cells [] ws vs h c = (record { spelt = refl; global = λ z. absurd (omega arith); literal = λ z. absurd (omega arith) }, c)
  one_cells (b ∷ bs) ws vs h c = on (eqb b at_sign) (eqb b equals) refl refl h
    where
      on : (x y : Bool) → eqb b at_sign ≡ x → eqb b equals ≡ y → cond x (is_in bs d.global_names) (cond y (is_in (sort_part bs) d.sort_names) true) ≡ true →
          Fit ((b ∷ bs) ∷ ws) (cond x (1 ∷ find bs d.global_names ∷ []) (cond y (2 ∷ find (sort_part bs) d.sort_names ∷ []) (0 ∷ 0 ∷ [])) ++ vs)
      on true y e f k = (record { spelt = rw e; global = λ z. in_known bs d.global_names k; literal = λ z. absurd (omega arith) }, c)
      on false true e f k = (record { spelt = rw (e, f); global = λ z. absurd (omega arith); literal = λ z. in_known (sort_part bs) d.sort_names k }, c)
      on false false e f k = (record { spelt = rw (e, f); global = λ z. absurd (omega arith); literal = λ z. absurd (omega arith) }, c)

  pub words_cells : (ws : List Word) → ((w : Word) → Of w ws → known_term d.sort_names d.global_names w ≡ true) → Fit ws (cells_of_all d ws)
  unfolding cells_of_all
  words_cells [] h = tt
  words_cells (w ∷ ws) h = one_cells w ws (cells_of_all d ws) (h w (Memᴰ.head refl)) (words_cells ws (λ v m. h v (Memᴰ.tail m)))

-- what the terms give: 2 is not given for them, 9 for none, a variable may be bound
module _ (n g : ℕ) (names : List Word) (cells : List ℕ) (o : Terms n g names cells) where
  pub terms_fit_lem : terms_fit cells (length names) n ≡ true
  unfolding terms_fit term_cells_fit term_fits_on
  terms_fit_lem = from_all (term_cells_fit cells n) 0 (length names) (λ t l h. let e = o.each t (omega arith) in on (term_kind cells t) (term_value cells t) (get_or names t []) e)
    where
      few : (w : Word) → word_kind w ≤ 2
      few [] = omega arith
      few (b ∷ bs) = at (eqb b at_sign) (eqb b equals)
        where
          at : (x y : Bool) → cond x 1 (cond y 2 0) ≤ 2
          at true y = omega arith
          at false true = omega arith
          at false false = omega arith

      on : (k v : ℕ) (w : Word) → Term n g w k v → term_fits_on n v k ≡ true
      on zero v w e = refl
      on (suc zero) v w e = refl
      on (suc (suc zero)) v w e = lt-ltb v n (e.literal refl)
      on (suc (suc (suc k))) v w e = absurd (omega (arith, e.spelt, few w))

  pub never_unbound : (gnames : List Word) (gcells : List ℕ) → length gnames ≡ g → Globals n gnames gcells → (t : ℕ) →
      unbound (take (length names * term_cells) cells) (take g gcells) t ≡ false
  unfolding unbound
  never_unbound gnames gcells e gs t = on (dec_lt t (length names))
    where
      on : Dec (t < length names) →
          (eqb (get_or (take (length names * 2) cells) (t * 2) 0) 1 && eqb (get_or (take g gcells) (get_or (take (length names * 2) cells) (t * 2 + 1) 0) 0) 0) ≡ false
      on (no h) =
          let l : length (take (length names * 2) cells) ≤ t * 2 = omega (arith, length-take (length names * 2) cells) in
          let k : get_or (take (length names * 2) cells) (t * 2) 0 ≡ 0 = get_or-eq_default (take (length names * 2) cells) 0 l in
          rw k
      on (yes h) =
          rw (get_or-take (length names * 2) cells (t * 2) 0 (omega arith), get_or-take (length names * 2) cells (t * 2 + 1) 0 (omega arith))
          (at (ℕ_discrete (term_kind cells t) 1))
        where
          at : Dec (term_kind cells t ≡ 1) → (eqb (term_kind cells t) 1 && eqb (get_or (take g gcells) (term_value cells t) 0) 0) ≡ false
          at (no k) = rw (ne_eqb (term_kind cells t) 1 k)
          at (yes k) =
              let v : term_value cells t < g = (o.each t h).global k in
              let c : 1 ≤ get_or gcells (term_value cells t) 0 = gs.some (term_value cells t) (omega arith) in
              rw (k, get_or-take g gcells (term_value cells t) 0 v, ne_eqb (get_or gcells (term_value cells t) 0) 0 (λ z. omega arith))

  pub variable_fits_lem : (w : Word) → Known w names → word_kind w ≡ 0 → variable_fits cells (length names) (find w names) ≡ true
  variable_fits_lem w h e =
      let t : ℕ = find w names in
      let k : term_kind cells t ≡ 0 = (o.each t h).spelt ∙ ap word_kind (found w names h) ∙ e in
      true_and (ltb t (length names)) (eqb (term_kind cells t) 0) (lt-ltb t (length names) h) (eq-eqb (term_kind cells t) 0 k)
