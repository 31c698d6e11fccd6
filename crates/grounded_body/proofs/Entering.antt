-- The range with the terms that enter it, atom by atom; and that these are the body's variables.
use Prim.Native.Nat.{ℕ, zero, suc, ◌+◌, ◌*◌, ◌-◌, ◌<◌, ◌≤◌}
use mathlib.Core.Path.{◌≡◌, refl, sym, ap, ◌∙◌}
use mathlib.Core.Bool.{Bool, true, false, cond, true≢false}
use mathlib.Core.List.Memᴰ
use mathlib.Core.List.{List, [], ◌∷◌, ◌++◌, append-nil}
use native.Mathlib.Omega.{arith}
use native.Mathlib.Decide.{ℕ_discrete}
use native.Mathlib.Numerals.{add-one}
use lib.Dec.{eqb}
use lib.ListN.{length, get_or, set, length-append, length-set}
use lib.Seq.{get_or-set_same, get_or-set_other}
use borrow.Author.Tests.{ne_eqb}
use Rattle.definition.specs.Lists.{from, joined}
use Rattle.definition.proofs.Laws.Lists.{from_snoc, from_add, from_member, joined_append, joined_member}
use Rattle.definition.proofs.Laws.Left.{joined_from_step}
use Rattle.rule_ranges.specs.Laws.{entries_length}
use Rattle.rule_cells.specs.Put.{puts, most_number}
use Rattle.rule_ranges.specs.Enter.{new, new_if, marked, entries}
use Rattle.grounded_body.specs.Body.{Body, arguments_at, is_variable, mentioned}
use Rattle.grounded_body.specs.Layout.{elem, variables, range}
use Rattle.grounded_body.specs.Parts.{Accepted, Small, Enters, Filled, KindMarks}
use Rattle.grounded_body.proofs.Laws.Variables.{elem_here}
use Rattle.grounded_body.proofs.Laws.Bodies.{sized, modest}
use Rattle.grounded_body.proofs.Laws.Whole.{range_most}
use Rattle.grounded_body.proofs.Laying.{puts_behind}

new_append : (M xs ys : List ℕ) → new M (xs ++ ys) ≡ new M xs ++ new (marked M xs) ys
unfolding new marked new_if
new_append M [] ys = refl
new_append M (x ∷ xs) ys = go (get_or M x 0) (new_append (set M x 1) xs ys)
  where
    go : (k : ℕ) → new (set M x 1) (xs ++ ys) ≡ new (set M x 1) xs ++ new (marked (set M x 1) xs) ys →
        new_if x k (new (set M x 1) (xs ++ ys)) ≡ new_if x k (new (set M x 1) xs) ++ new (marked (set M x 1) xs) ys
    go zero e = ap (λ (l : List ℕ). x ∷ l) e
    go (suc k) e = e

marked_append : (M xs ys : List ℕ) → marked M (xs ++ ys) ≡ marked (marked M xs) ys
unfolding marked
marked_append M [] ys = refl
marked_append M (x ∷ xs) ys = marked_append (set M x 1) xs ys

marked_length : (M xs : List ℕ) → length (marked M xs) ≡ length M
unfolding marked
marked_length M [] = refl
marked_length M (x ∷ xs) = marked_length (set M x 1) xs ∙ length-set M x 1

entries_append : (place : ℕ) (xs ys : List ℕ) → entries place (xs ++ ys) ≡ entries place xs ++ entries place ys
unfolding entries
entries_append place [] ys = refl
entries_append place (x ∷ xs) ys = ap (λ (l : List ℕ). x ∷ place ∷ l) (entries_append place xs ys)

pub enters_none : (place n : ℕ) (R M : List ℕ) → Enters place [] n R M n R M
unfolding new marked entries
enters_none place n R M = record { count = omega arith; cells = refl; marks = refl }

module _ (place : ℕ) (xs ys : List ℕ) (n n' n'' : ℕ) (R M R' M' R'' M'' : List ℕ) (x : Enters place xs n R M n' R' M') (y : Enters place ys n' R' M' n'' R'' M'') where
  abbrev first : List ℕ
  first = new M xs

  abbrev second : List ℕ
  second = new M' ys

  both : new M (xs ++ ys) ≡ first ++ second
  both = new_append M xs ys ∙ ap (λ (m : List ℕ). first ++ new m ys) (sym x.marks)

  pub enters_append : Enters place (xs ++ ys) n R M n'' R'' M''
  enters_append = record {
    count = omega (arith, x.count, y.count, ap length both, length-append first second);
    cells = puts_behind R R' R'' (entries place first) (entries place second) (n * 2) (n' * 2) x.cells y.cells (omega (arith, x.count, entries_length place first))
        ∙ ap (puts R (n * 2)) (sym (entries_append place first second) ∙ ap (entries place) (sym both));
    marks = y.marks ∙ ap (λ (m : List ℕ). marked m ys) x.marks ∙ sym (marked_append M xs ys);
  }

-- the arguments of one more atom, and of all with one of them in their midst
mentioned_snoc : (b : Body) (i : ℕ) → mentioned b (from 0 (i + 1)) ≡ mentioned b (from 0 i) ++ arguments_at b i
unfolding joined
mentioned_snoc b i =
    let e : 0 + i ≡ i = omega arith in
    ap (λ (n : ℕ). mentioned b (from 0 n)) (add-one i) ∙ ap (mentioned b) (from_snoc 0 i) ∙ joined_append (arguments_at b) (from 0 i) ((0 + i) ∷ [])
    ∙ rw e (ap (λ (l : List ℕ). mentioned b (from 0 i) ++ l) (append-nil (arguments_at b i)))

mentioned_midst : (b : Body) (i count : ℕ) → i < count →
    mentioned b (from 0 count) ≡ mentioned b (from 0 i) ++ (arguments_at b i ++ mentioned b (from (i + 1) (count - (i + 1))))
mentioned_midst b i count h =
    let e : count ≡ i + (count - i) = omega arith in
    let z : 0 + i ≡ i = omega arith in
    ap (λ (n : ℕ). mentioned b (from 0 n)) e ∙ ap (mentioned b) (from_add 0 i (count - i)) ∙ rw z (joined_append (arguments_at b) (from 0 i) (from i (count - i)))
    ∙ ap (λ (l : List ℕ). mentioned b (from 0 i) ++ l) (joined_from_step (arguments_at b) i count h)

-- a turn of the loop over the atoms
module _ (b : Body) (i : ℕ) (own : List ℕ) (h : i < b.atom_count) (o : own ≡ arguments_at b i) (n : ℕ) (X M X' M' : List ℕ)
    (x : Enters b.place (mentioned b (from 0 i)) 0 X M n X' M') where
  abbrev before : List ℕ
  before = mentioned b (from 0 i)

  abbrev behind : List ℕ
  behind = mentioned b (from (i + 1) (b.atom_count - (i + 1)))

  pub turn_room : length (new M (mentioned b (from 0 b.atom_count))) ≤ most_number → n ≤ most_number
  turn_room room =
      let whole : mentioned b (from 0 b.atom_count) ≡ before ++ (own ++ behind)
      = mentioned_midst b i b.atom_count h ∙ ap (λ (l : List ℕ). before ++ (l ++ behind)) (sym o) in
      let parts : new M (mentioned b (from 0 b.atom_count)) ≡ new M before ++ new (marked M before) (own ++ behind)
      = ap (new M) whole ∙ new_append M before (own ++ behind) in
      omega (arith, room, x.count, ap length parts, length-append (new M before) (new (marked M before) (own ++ behind)))

  pub turn_entered : (n'' : ℕ) (X'' M'' : List ℕ) → Enters b.place own n X' M' n'' X'' M'' → Enters b.place (mentioned b (from 0 (i + 1))) 0 X M n'' X'' M''
  turn_entered n'' X'' M'' y =
      rw (mentioned_snoc b i, ← o) (enters_append b.place before own 0 n n'' X M X' M' X'' M'' x y)

-- Marks that fit: a term has none just where it is a variable that is not seen
abbrev Fits : List ℕ → List ℕ → List ℕ → Type 0
Fits M T seen = (t : ℕ) → t < 256 → eqb (get_or M t 0) 0 ≡ cond (is_variable T t) (cond (elem t seen) false true) false

cond_same : (v : Bool) → cond v false false ≡ false
cond_same true = refl
cond_same false = refl

cond_id : (v : Bool) → v ≡ cond v true false
cond_id true = refl
cond_id false = refl

fits_kinds : (T M : List ℕ) → length M ≡ 256 → KindMarks T M → Fits M T []
unfolding elem
fits_kinds T M l k t h = rw (k t (omega arith)) (cond_id (eqb (get_or T (t * 2) 0) 0))

-- a term that has just been seen
seen_here : (v : Bool) (t u : ℕ) (seen : List ℕ) → u ≡ t → cond v (cond (elem u (t ∷ seen)) false true) false ≡ false
seen_here v t u seen e = rw (e, elem_here t seen) (cond_same v)

module _ (T M seen : List ℕ) (t : ℕ) (l : length M ≡ 256) (h : t < 256) (fit : Fits M T seen) where
  at_own : (u : ℕ) → u ≡ t → eqb (get_or (set M t 1) u 0) 0 ≡ false
  at_own u e = rw (e, get_or-set_same M t 1 0 (omega arith))

  at_other : (u : ℕ) → (u ≡ t → ⊥) → eqb (get_or (set M t 1) u 0) 0 ≡ eqb (get_or M u 0) 0
  at_other u e = ap (λ (k : ℕ). eqb k 0) (get_or-set_other M t u 1 0 e)

  fits_still : eqb (get_or M t 0) 0 ≡ false → Fits (set M t 1) T seen
  fits_still z u k = go (ℕ_discrete u t)
    where
      go : Dec (u ≡ t) → eqb (get_or (set M t 1) u 0) 0 ≡ cond (is_variable T u) (cond (elem u seen) false true) false
      go (yes e) = at_own u e ∙ sym z ∙ ap (λ (v : ℕ). eqb (get_or M v 0) 0) (sym e) ∙ fit u k
      go (no e) = at_other u e ∙ fit u k

  fits_more : Fits (set M t 1) T (t ∷ seen)
  unfolding elem
  fits_more u k = go (ℕ_discrete u t)
    where
      go : Dec (u ≡ t) → eqb (get_or (set M t 1) u 0) 0 ≡ cond (is_variable T u) (cond (elem u (t ∷ seen)) false true) false
      go (yes e) = at_own u e ∙ sym (seen_here (is_variable T u) t u seen e)
      go (no e) = at_other u e ∙ rw (ne_eqb u t e) (fit u k)

-- where the marks fit, the terms that enter are the variables
variables_new : (T M seen ts : List ℕ) → length M ≡ 256 → Fits M T seen → Small ts → variables T seen ts ≡ new M ts
unfolding variables new new_if
variables_new T M seen [] l fit small = refl
variables_new T M seen (t ∷ ts) l fit small =
    let h : t < 256 = small t (Memᴰ.head refl) in
    let l' : length (set M t 1) ≡ 256 = length-set M t 1 ∙ l in
    let rest : Small ts = λ u m. small u (Memᴰ.tail m) in
    go (is_variable T t) (elem t seen) (get_or M t 0) (fit t h) (λ z. variables_new T (set M t 1) seen ts l' (fits_still T M seen t l h fit z) rest)
    (variables_new T (set M t 1) (t ∷ seen) ts l' (fits_more T M seen t l h fit) rest)
  where
    go : (x y : Bool) (k : ℕ) → eqb k 0 ≡ cond x (cond y false true) false → (eqb k 0 ≡ false → variables T seen ts ≡ new (set M t 1) ts) →
        variables T (t ∷ seen) ts ≡ new (set M t 1) ts →
        cond x (cond y (variables T seen ts) (t ∷ variables T (t ∷ seen) ts)) (variables T seen ts) ≡ new_if t k (new (set M t 1) ts)
    go false y zero e p q = absurd (true≢false e)
    go false y (suc k) e p q = p e
    go true true zero e p q = absurd (true≢false e)
    go true true (suc k) e p q = p e
    go true false zero e p q = ap (λ (l : List ℕ). t ∷ l) q
    go true false (suc k) e p q = absurd (true≢false (sym e ∙ ne_eqb (suc k) 0 (λ z. omega arith)))

-- the range of a body that is not refused, by such marks
module _ (b : Body) (ok : Accepted b) (M : List ℕ) (l : length M ≡ 256) (k : KindMarks b.terms M) where
  pub range_new : range b ≡ new M (mentioned b (from 0 b.atom_count))
  unfolding range
  range_new = variables_new b.terms M [] (mentioned b (from 0 b.atom_count)) l (fits_kinds b.terms M l k) small
    where
      small : Small (mentioned b (from 0 b.atom_count))
      small t m =
          let (a, i, j) = joined_member (arguments_at b) t (from 0 b.atom_count) m in
          let (low, high) = from_member 0 b.atom_count a i in
          (modest b ok.sizes ok.fits).small a (omega arith) t j

  pub range_room_lem : length (new M (mentioned b (from 0 b.atom_count))) ≤ most_number
  range_room_lem = omega (arith, ap length range_new, range_most b ok, (sized b ok.sizes).terms_at_most)

  pub range_filled : (X X' M' : List ℕ) (n : ℕ) → Enters b.place (mentioned b (from 0 b.atom_count)) 0 X M n X' M' → Filled b X n X'
  range_filled X X' M' n x = record {
    count = omega (arith, ap length range_new, x.count);
    cells = x.cells ∙ ap (λ (ts : List ℕ). puts X 0 (entries b.place ts)) (sym range_new);
  }
