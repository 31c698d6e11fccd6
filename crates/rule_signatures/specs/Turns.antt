-- What the loops over arguments need: at their start, in a turn, at their end.
use Rattle.std.specs.Prelude.{ℕ, Some, None, ◌+◌, ◌*◌, ◌≤◌, ◌<◌, ◌≡◌, Bool, true, false, length}
use Rattle.std.proofs.Common.{arith, add-zero, add-suc, add-one, ap, ◌∙◌, drop_of_length-le}
use Rattle.std.proofs.Math.Path.{sym}
use mathlib.Core.List.{List, ◌∷◌, map, zip_with}
use Rattle.std.proofs.Math.ListN.{get_or, drop}
use Rattle.std.proofs.Math.Seq.{drop-cons}
use Rattle.definition.specs.Sizes.{record_cells}
use Rattle.rule_cells.specs.declared.Origin.{Origin}
use Rattle.rule_cells.specs.Put.{Record, assign, puts, cells, lay}
use Rattle.rule_signatures.specs.Tables.{known_sort}
use Rattle.rule_signatures.specs.Gives.{assign_if, fixed, any}

-- one record more
pub lay_turn : (o : Origin) (l l' : List ℕ) (n i : ℕ) (r : Record) (rs : List Record) → l' ≡ puts l ((n + i) * record_cells) (cells o r) → lay o l' (n + (i + 1)) rs ≡ lay o l (n + i) (r ∷ rs)
unfolding lay
lay_turn o l l' n i r rs e = rw (e, add-one, add-suc)

module _ (o : Origin) (l l' : List ℕ) (n i : ℕ) (args : List ℕ) where
  -- the same for each argument
  pub map_turn : (f : ℕ → Record) {cs : List ℕ} → i < length args → l' ≡ puts l ((n + i) * record_cells) cs → cs ≡ cells o (f (get_or args i 0))
      → lay o l' (n + (i + 1)) (map f (drop (i + 1) args)) ≡ lay o l (n + i) (map f (drop i args))
  map_turn f h e k =
      let d : drop i args ≡ get_or args i 0 ∷ drop (i + 1) args = rw (add-one, drop-cons args i 0 h) in
      rw d (lay_turn o l l' n i (f (get_or args i 0)) (map f (drop (i + 1) args)) (rw k at e))

  pub map_end : (f : ℕ → Record) → length args ≤ i → lay o l' (n + i) (map f (drop i args)) ≡ lay o l n (map f args) → l' ≡ lay o l n (map f args)
  unfolding lay
  map_end f h e = rw (drop_of_length-le args h) at e

  -- each argument with its sort
  pub zip_turn : (sorts : List ℕ) → i < length args → i < length sorts → l' ≡ puts l ((n + i) * record_cells) (cells o (assign (get_or args i 0) (get_or sorts i 0)))
      → lay o l' (n + (i + 1)) (zip_with assign (drop (i + 1) args) (drop (i + 1) sorts)) ≡ lay o l (n + i) (zip_with assign (drop i args) (drop i sorts))
  unfolding zip_with
  zip_turn sorts h k e =
      let d : drop i args ≡ get_or args i 0 ∷ drop (i + 1) args = rw (add-one, drop-cons args i 0 h) in
      let d' : drop i sorts ≡ get_or sorts i 0 ∷ drop (i + 1) sorts = rw (add-one, drop-cons sorts i 0 k) in
      rw (d, d') (lay_turn o l l' n i (assign (get_or args i 0) (get_or sorts i 0)) (zip_with assign (drop (i + 1) args) (drop (i + 1) sorts)) e)

  pub zip_end : (sorts : List ℕ) → length args ≤ i → lay o l' (n + i) (zip_with assign (drop i args) (drop i sorts)) ≡ lay o l n (zip_with assign args sorts) → l' ≡ lay o l n (zip_with assign args sorts)
  unfolding lay zip_with
  zip_end sorts h e = rw (drop_of_length-le args h) at e

  -- the literals and globals among them; k are laid out
  module _ (t g : List ℕ) (k : ℕ) where
    pub fixed_is : (s : ℕ) → i < length args → known_sort t g (get_or args i 0) ≡ Some s → fixed t g (drop i args) ≡ assign (get_or args i 0) s ∷ fixed t g (drop (i + 1) args)
    unfolding fixed assign_if
    fixed_is s h e = rw (add-one, drop-cons args i 0 h, e)

    pub fixed_not : i < length args → known_sort t g (get_or args i 0) ≡ None → fixed t g (drop i args) ≡ fixed t g (drop (i + 1) args)
    unfolding fixed assign_if
    fixed_not h e = rw (add-one, drop-cons args i 0 h, e)

    pub fixed_end : length args ≤ i → lay o l' (n + k) (fixed t g (drop i args)) ≡ lay o l n (fixed t g args) → l' ≡ lay o l n (fixed t g args)
    unfolding lay fixed
    fixed_end h e = rw (drop_of_length-le args h) at e

    pub fixed_count : length args ≤ i → k + length (fixed t g (drop i args)) ≡ length (fixed t g args) → k ≡ length (fixed t g args)
    unfolding fixed
    fixed_count h e = sym (add-zero k) ∙ (rw (drop_of_length-le args h) at e)

    pub fixed_turn : (s : ℕ) → i < length args → known_sort t g (get_or args i 0) ≡ Some s → k + 1 + length (fixed t g (drop (i + 1) args)) ≡ k + length (fixed t g (drop i args))
    fixed_turn s h e = rw (fixed_is s h e) (omega arith)

    pub laid_turn : (s : ℕ) → i < length args → known_sort t g (get_or args i 0) ≡ Some s → l' ≡ puts l ((n + k) * record_cells) (cells o (assign (get_or args i 0) s))
        → lay o l' (n + (k + 1)) (fixed t g (drop (i + 1) args)) ≡ lay o l (n + k) (fixed t g (drop i args))
    laid_turn s h e q = lay_turn o l l' n k (assign (get_or args i 0) s) (fixed t g (drop (i + 1) args)) q ∙ ap (λ (rs : List Record). lay o l (n + k) rs) (sym (fixed_is s h e))

-- a test that fails goes on, one that holds ends it
module _ (t : ℕ → Bool) (xs : List ℕ) (i : ℕ) where
  pub any_holds : i < length xs → t (get_or xs i 0) ≡ true → any t (drop i xs) ≡ true
  unfolding any
  any_holds h e = rw (drop-cons xs i 0 h, e)

  pub any_turn : i < length xs → t (get_or xs i 0) ≡ false → any t (drop (i + 1) xs) ≡ any t (drop i xs)
  unfolding any
  any_turn h e = rw (add-one, drop-cons xs i 0 h, e)

  pub any_end : length xs ≤ i → any t (drop i xs) ≡ false
  unfolding any
  any_end h = rw (drop_of_length-le xs h)
