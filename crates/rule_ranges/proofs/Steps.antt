-- The terms that are left, one step on and at the end.
use Prim.Native.Nat.{ℕ, zero, suc, ◌+◌, ◌-◌, ◌*◌, ◌≤◌, ◌<◌}
use mathlib.Core.Path.{◌≡◌, refl, sym, ◌∙◌, ap}
use mathlib.Core.Bool.{Bool, true, false}
use mathlib.Core.List.{List, [], ◌∷◌}
use native.Mathlib.Omega.{arith}
use lib.Dec.{eqb}
use lib.ListN.{length, get_or, set, drop, drop_of_length-le, length-set}
use borrow.Author.Tests.{eqb-true, eqb-false}
use Rattle.definition.specs.Lists.{from}
use Rattle.definition.proofs.Laws.Left.{drop_step, from_step, from_end}
use Rattle.rule_cells.specs.Put.{puts}
use Rattle.rule_ranges.specs.Enter.{new, new_if, marked, entries, terms_in}

-- a term with a mark, and one without
new_if_seen : (t k : ℕ) (rest : List ℕ) → (k ≡ 0 → ⊥) → new_if t k rest ≡ rest
unfolding new_if
new_if_seen t zero rest h = absurd (h refl)
new_if_seen t (suc k) rest h = refl

pub new_seen : (marks terms : List ℕ) (i : ℕ) → i < length terms → eqb (get_or marks (get_or terms i 0) 0) 0 ≡ false →
    new marks (drop i terms) ≡ new (set marks (get_or terms i 0) 1) (drop (i + 1) terms)
unfolding new
new_seen marks terms i h e = rw (drop_step terms i h) (new_if_seen _ _ _ (eqb-false (get_or marks (get_or terms i 0) 0) 0 e))

pub new_fresh : (marks terms : List ℕ) (i : ℕ) → i < length terms → eqb (get_or marks (get_or terms i 0) 0) 0 ≡ true →
    new marks (drop i terms) ≡ get_or terms i 0 ∷ new (set marks (get_or terms i 0) 1) (drop (i + 1) terms)
unfolding new new_if
new_fresh marks terms i h e = rw (drop_step terms i h, eqb-true (get_or marks (get_or terms i 0) 0) 0 e)

pub new_end : (marks terms : List ℕ) (i : ℕ) → length terms ≤ i → new marks (drop i terms) ≡ []
unfolding new
new_end marks terms i h = rw (drop_of_length-le terms h)

pub marked_step : (marks terms : List ℕ) (i : ℕ) → i < length terms →
    marked marks (drop i terms) ≡ marked (set marks (get_or terms i 0) 1) (drop (i + 1) terms)
unfolding marked
marked_step marks terms i h = rw (drop_step terms i h)

pub marked_end : (marks terms : List ℕ) (i : ℕ) → length terms ≤ i → marked marks (drop i terms) ≡ marks
unfolding marked
marked_end marks terms i h = rw (drop_of_length-le terms h)

-- the entries of a range that are left
pub range_step : (marks range : List ℕ) (i n : ℕ) → i < n →
    marked marks (terms_in range (from i (n - i))) ≡ marked (set marks (get_or range (i * 2) 0) 1) (terms_in range (from (i + 1) (n - (i + 1))))
unfolding marked terms_in
range_step marks range i n h = rw (from_step i n h)

pub range_end : (marks range : List ℕ) (i n : ℕ) → n ≤ i → marked marks (terms_in range (from i (n - i))) ≡ marks
unfolding marked terms_in
range_end marks range i n h = rw (from_end i n h)

-- an entry more
pub put_entry : (range : List ℕ) (n place t : ℕ) (ts : List ℕ) →
    puts range (n * 2) (entries place (t ∷ ts)) ≡ puts (set (set range (n * 2) t) (n * 2 + 1) place) ((n + 1) * 2) (entries place ts)
unfolding entries
put_entry range n place t ts =
    let a : n * 2 + 1 ≡ suc (n * 2) = omega arith in
    let b : (n + 1) * 2 ≡ suc (suc (n * 2)) = omega arith in
    rw (a, b)

pub put_none : (range : List ℕ) (n place : ℕ) (ts : List ℕ) → ts ≡ [] → puts range n (entries place ts) ≡ range
unfolding entries
put_none range n place ts e = rw e

-- Going through terms: of the first i, n - n₀ were new, and all are marked.
pub record Going (terms marks₀ marks : List ℕ) (n₀ n i : ℕ) : Type 0 where
  pub within : i ≤ length terms
  pub few : n ≤ n₀ + i
  pub counted : n + length (new marks (drop i terms)) ≡ n₀ + length (new marks₀ terms)
  pub left : marked marks (drop i terms) ≡ marked marks₀ terms
  pub long : length marks ≡ length marks₀

-- what marking a term says
abbrev pub Marks : List ℕ → ℕ → Bool → List ℕ → Type 0
Marks marks t fresh after = (fresh ≡ eqb (get_or marks t 0) 0) × (after ≡ set marks t 1)

module _ {terms marks₀ marks after : List ℕ} {n₀ n i : ℕ} {fresh : Bool} (g : Going terms marks₀ marks n₀ n i) (h : i < length terms) (m : Marks marks (get_or terms i 0) fresh after) where
  pub fresh_left : fresh ≡ true → new marks (drop i terms) ≡ get_or terms i 0 ∷ new after (drop (i + 1) terms)
  fresh_left e = rw m.1 (new_fresh marks terms i h (sym m.0 ∙ e))

  pub seen_left : fresh ≡ false → new marks (drop i terms) ≡ new after (drop (i + 1) terms)
  seen_left e = rw m.1 (new_seen marks terms i h (sym m.0 ∙ e))

  marked_left : marked after (drop (i + 1) terms) ≡ marked marks₀ terms
  marked_left = rw m.1 (sym (marked_step marks terms i h) ∙ g.left)

  long_left : length after ≡ length marks₀
  long_left = rw m.1 (length-set marks (get_or terms i 0) 1 ∙ g.long)

  pub going_fresh : fresh ≡ true → Going terms marks₀ after n₀ (n + 1) (i + 1)
  going_fresh e = record { within = omega arith; few = omega (arith, g); counted = omega (arith, ap length (fresh_left e), g); left = marked_left; long = long_left }

  pub going_seen : fresh ≡ false → Going terms marks₀ after n₀ n (i + 1)
  going_seen e = record { within = omega arith; few = omega (arith, g); counted = omega (arith, ap length (seen_left e), g); left = marked_left; long = long_left }

pub going_begin : (terms marks : List ℕ) (n : ℕ) → Going terms marks marks n n 0
going_begin terms marks n = record { within = omega arith; few = omega arith; counted = refl; left = refl; long = refl }

pub going_end : {terms marks₀ marks : List ℕ} {n₀ n i : ℕ} → Going terms marks₀ marks n₀ n i → length terms ≤ i →
    (n ≡ n₀ + length (new marks₀ terms)) × (marks ≡ marked marks₀ terms)
going_end {terms} {marks₀} {marks} {n₀} {n} {i} g h =
    (omega (arith, ap length (new_end marks terms i h), g), sym (marked_end marks terms i h) ∙ g.left)

-- the range with an entry more, and with what is left
pub entered : (range after : List ℕ) (n place t : ℕ) (ts us : List ℕ) → ts ≡ t ∷ us → after ≡ puts range (n * 2) (t ∷ place ∷ []) →
    puts after ((n + 1) * 2) (entries place us) ≡ puts range (n * 2) (entries place ts)
entered range after n place t ts us e h =
    let b : suc (n * 2) ≡ n * 2 + 1 = omega arith in
    rw (e, h, b) (sym (put_entry range n place t us))
