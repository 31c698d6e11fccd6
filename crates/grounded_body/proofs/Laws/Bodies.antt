-- What a body that is not refused gives: its constraints name its terms, and few enough of them. A term is grounded just
-- where every set that respects the constraints has it.
use Prim.Native.Nat.{ℕ, zero, suc, ◌+◌, ◌*◌, ◌-◌, ◌<◌, ◌≤◌}
use Rattle.std.specs.Prelude.{◌≡◌, refl, Bool, true, false, ◌&&◌, cond, ltb, get_or, take, drop}
use Rattle.std.proofs.Common.{sym, ap, ◌∙◌, subst, true≢false, arith, length-append, length-take, get_or-take, get_or-drop, length-take-le}
use mathlib.Core.List.Memᴰ
use mathlib.Core.List.{List, [], ◌∷◌, ◌++◌, append_assoc}
use Rattle.std.proofs.Math.Dec.{leb}
use Rattle.std.proofs.Math.ListN.{length}
use borrow.Author.Tests.{ltb-true, leb-true, eqb-true}
use Rattle.definition.specs.Sizes.{max_records, max_side, max_terms}
use Rattle.definition.specs.Lists.{Among, from, all, last_of, without_last}
use Rattle.definition.specs.Problem.{part}
use Rattle.definition.proofs.Laws.Lists.{member_at, at_member, member_take, and_true, all_member, all_from, from_member, member_from}
use Rattle.definition.proofs.Laws.Refused.{unless_none, both_at_most}
use Rattle.grounded_body.specs.Body.{Body, atom_cells, term_cells, kind_at, start_at, count_at, arguments_at, term_kind, is_variable, Constraint, same, follows, assigns, constants, given_by, given_at, given}
use Rattle.grounded_body.specs.Layout.{records_in, watched, side_in}
use Rattle.grounded_body.specs.Check.{max_arguments, sizes_fit, atom_fits, body_fits, shape_fits, atoms_refusal}
use Rattle.grounded_body.specs.Parts.{Modest}
use Rattle.grounded_body.specs.Demand.{Grounded, argument, constant, result, left, right}
use Rattle.grounded_body.proofs.Laws.Least.{Respects, RespectsAll}
use Rattle.grounded_body.proofs.Laws.Trees.{Below}

abbrev pub AllBelow : ℕ → List Constraint → Type 0
AllBelow k [] = Unit {0}
AllBelow k (g ∷ gs) = Below k g × AllBelow k gs

all_below_append : (k : ℕ) (gs hs : List Constraint) → AllBelow k gs → AllBelow k hs → AllBelow k (gs ++ hs)
all_below_append k [] hs p q = q
all_below_append k (g ∷ gs) hs p q = (p.0, all_below_append k gs hs p.1 q)

-- what constraints one after another take
pub records_append : (gs hs : List Constraint) → records_in (gs ++ hs) ≡ records_in gs + records_in hs
unfolding records_in
records_append [] hs = omega arith
records_append (g ∷ gs) hs = omega (arith, records_append gs hs)

pub side_append : (gs hs : List Constraint) → side_in (gs ++ hs) ≡ side_in gs ++ side_in hs
unfolding side_in
side_append [] hs = refl
side_append (g ∷ gs) hs = rw (side_append gs hs) (sym (append_assoc (watched g) (side_in gs) (side_in hs)))

-- the constants of a list are of it, and no variables
constants_from : (terms : List ℕ) (t : ℕ) (ts : List ℕ) → Among t (constants terms ts) → Among t ts × (is_variable terms t ≡ false)
unfolding constants
constants_from terms t [] m = absurd (Memᴰ.not-nil m)
constants_from terms t (x ∷ xs) m = go (is_variable terms x) refl m (constants_from terms t xs)
  where
    later : Among t xs × (is_variable terms t ≡ false) → Among t (x ∷ xs) × (is_variable terms t ≡ false)
    later w = (Memᴰ.tail w.0, w.1)

    go : (v : Bool) → is_variable terms x ≡ v → Among t (cond v (constants terms xs) (x ∷ constants terms xs)) →
        (Among t (constants terms xs) → Among t xs × (is_variable terms t ≡ false)) → Among t (x ∷ xs) × (is_variable terms t ≡ false)
    go true e m p = later (p m)
    go false e (Memᴰ.head i) p = (Memᴰ.head i, ap (is_variable terms) i ∙ e)
    go false e (Memᴰ.tail m) p = later (p m)

constants_to : (terms : List ℕ) (t : ℕ) (ts : List ℕ) → Among t ts → is_variable terms t ≡ false → Among t (constants terms ts)
unfolding constants
constants_to terms t [] m h = absurd (Memᴰ.not-nil m)
constants_to terms t (x ∷ xs) m h = go (is_variable terms x) refl m (λ w. constants_to terms t xs w h)
  where
    go : (v : Bool) → is_variable terms x ≡ v → Among t (x ∷ xs) → (Among t xs → Among t (constants terms xs)) →
        Among t (cond v (constants terms xs) (x ∷ constants terms xs))
    go true e (Memᴰ.head i) p = absurd (true≢false (sym e ∙ ap (is_variable terms) (sym i) ∙ h))
    go true e (Memᴰ.tail m) p = p m
    go false e (Memᴰ.head i) p = Memᴰ.head i
    go false e (Memᴰ.tail m) p = Memᴰ.tail (p m)

-- Assigns: below k, and respected, where each term is
below_assigns : (k : ℕ) (ts : List ℕ) → ((t : ℕ) → Among t ts → t < k) → AllBelow k (assigns ts)
unfolding assigns
below_assigns k [] h = tt
below_assigns k (t ∷ ts) h = (h t (Memᴰ.head refl), below_assigns k ts (λ x m. h x (Memᴰ.tail m)))

respects_assigns : (D : ℕ → Type 0) (ts : List ℕ) → ((t : ℕ) → Among t ts → D t) → RespectsAll D (assigns ts)
unfolding assigns
respects_assigns D [] h = tt
respects_assigns D (t ∷ ts) h = (h t (Memᴰ.head refl), respects_assigns D ts (λ x m. h x (Memᴰ.tail m)))

assigns_respected : (D : ℕ → Type 0) (ts : List ℕ) → RespectsAll D (assigns ts) → (t : ℕ) → Among t ts → D t
unfolding assigns
assigns_respected D [] r t m = absurd (Memᴰ.not-nil m)
assigns_respected D (x ∷ xs) r t (Memᴰ.head i) = rw i r.0
assigns_respected D (x ∷ xs) r t (Memᴰ.tail m) = assigns_respected D xs r.1 t m

respects_append : (D : ℕ → Type 0) (gs hs : List Constraint) → RespectsAll D gs → RespectsAll D hs → RespectsAll D (gs ++ hs)
respects_append D [] hs p q = q
respects_append D (g ∷ gs) hs p q = (p.0, respects_append D gs hs p.1 q)

respects_split : (D : ℕ → Type 0) (gs hs : List Constraint) → RespectsAll D (gs ++ hs) → RespectsAll D gs × RespectsAll D hs
respects_split D [] hs r = (tt, r)
respects_split D (g ∷ gs) hs r = let (p, q) = respects_split D gs hs r.1 in ((r.0, p), q)

-- an atom that is not refused with 7, whose arguments are below k
module _ (b : Body) (k : ℕ) where
  below_kind : (kind : ℕ) (args : List ℕ) → shape_fits kind (length args) ≡ true → ((t : ℕ) → Among t args → t < k) → AllBelow k (given_by b.terms kind args)
  unfolding given_by shape_fits
  below_kind zero args s h = below_assigns k args h
  below_kind (suc zero) args s h =
      let l : 1 ≤ length args = leb-true 1 (length args) s in (
        (λ w m. h w (member_take w (length args - 1) args m), h (last_of args) (member_at args (length args - 1) (omega arith))),
        below_assigns k (constants b.terms args) (λ t m. h t (constants_from b.terms t args m).0),
      )
  below_kind (suc (suc j)) args s h =
      let l : length args ≡ 2 = eqb-true (length args) 2 s in (
        (h (get_or args 0 0) (member_at args 0 (omega arith)), h (get_or args 1 0) (member_at args 1 (omega arith))),
        below_assigns k (constants b.terms args) (λ t m. h t (constants_from b.terms t args m).0),
      )

  pub below_given : (atoms : List ℕ) → ((a : ℕ) → Among a atoms → shape_fits (kind_at b a) (length (arguments_at b a)) ≡ true) →
      ((a : ℕ) → Among a atoms → (t : ℕ) → Among t (arguments_at b a) → t < k) → AllBelow k (given b atoms)
  unfolding given given_at
  below_given [] s h = tt
  below_given (a ∷ rest) s h =
      all_below_append k (given_at b a) (given b rest)
      (below_kind (kind_at b a) (arguments_at b a) (s a (Memᴰ.head refl)) (h a (Memᴰ.head refl)))
      (below_given rest (λ x m. s x (Memᴰ.tail m)) (λ x m. h x (Memᴰ.tail m)))

-- what is known where no atom is refused
pub record Taken (b : Body) (n s : ℕ) (atoms : List ℕ) : Type 0 where
  pub shapes : (a : ℕ) → Among a atoms → shape_fits (kind_at b a) (length (arguments_at b a)) ≡ true
  pub records : n + records_in (given b atoms) ≤ max_records
  pub side : s + length (side_in (given b atoms)) ≤ max_side

pub taken : (b : Body) (n s : ℕ) (atoms : List ℕ) → n ≤ max_records → s ≤ max_side → atoms_refusal b n s atoms ≡ 0 → Taken b n s atoms
unfolding atoms_refusal given records_in side_in
taken b n s [] h k e = record { shapes = λ a m. absurd (Memᴰ.not-nil m); records = omega arith; side = omega arith }
taken b n s (a ∷ rest) h k e =
    let gs : List Constraint = given_at b a in
    let (shape, e1) = unless_none (shape_fits (kind_at b a) (length (arguments_at b a))) 6 _ e in
    let (room, e2) = unless_none (leb (n + records_in gs) max_records && leb (s + length (side_in gs)) max_side) 9 _ e1 in
    let (r1, r2) = and_true (leb (n + records_in gs) max_records) (leb (s + length (side_in gs)) max_side) room in
    let t = taken b (n + records_in gs) (s + length (side_in gs)) rest (leb-true (n + records_in gs) max_records r1) (leb-true (s + length (side_in gs)) max_side r2) e2 in
    record {
      shapes = λ x m. first x m shape t.shapes;
      records = omega (arith, records_append gs (given b rest), t.records);
      side = omega (arith, ap length (side_append gs (given b rest)), length-append (side_in gs) (side_in (given b rest)), t.side);
    }
  where
    first : (x : ℕ) → Among x (a ∷ rest) → shape_fits (kind_at b a) (length (arguments_at b a)) ≡ true →
        ((y : ℕ) → Among y rest → shape_fits (kind_at b y) (length (arguments_at b y)) ≡ true) → shape_fits (kind_at b x) (length (arguments_at b x)) ≡ true
    first x (Memᴰ.head i) p q = rw i p
    first x (Memᴰ.tail m) p q = q x m

-- an atom's arguments are cells within the count
part_member : (l : List ℕ) (start count n t : ℕ) → start + count ≤ n → n ≤ length l → Among t (part l start count) → Among t (part l 0 n)
part_member l start count n t h k m =
    let (i, within, e) = at_member t (part l start count) m in
    let c : length (take count (drop start l)) ≤ count = omega (arith, length-take count (drop start l)) in
    let f : get_or (take n l) (start + i) 0 ≡ t
    = get_or-take n l (start + i) 0 (omega arith) ∙ sym (get_or-drop start l i 0) ∙ sym (get_or-take count (drop start l) i 0 (omega arith)) ∙ e in
    subst (λ (x : ℕ). Among x (take n l)) f (member_at (take n l) (start + i) (omega (arith, length-take-le n l k)))

-- what 1 tells
pub record Sized (b : Body) : Type 0 where
  pub terms_at_most : b.term_count ≤ max_terms
  pub terms_lent : b.term_count * term_cells ≤ length b.terms
  pub arguments_at_most : b.argument_count ≤ max_arguments
  pub arguments_lent : b.argument_count ≤ length b.arguments
  pub atoms_lent : b.atom_count * atom_cells ≤ length b.atoms

pub sized : (b : Body) → sizes_fit b ≡ true → Sized b
unfolding sizes_fit
sized b e =
    let terms : Bool = leb b.term_count max_terms && leb (b.term_count * term_cells) (length b.terms) in
    let args : Bool = leb b.argument_count max_arguments && leb b.argument_count (length b.arguments) in
    let (both, atoms) = and_true (terms && args) (leb (b.atom_count * atom_cells) (length b.atoms)) e in
    let (x, y) = and_true terms args both in
    let (t, u) = both_at_most b.term_count max_terms (b.term_count * term_cells) (length b.terms) x in
    let (a, l) = both_at_most b.argument_count max_arguments b.argument_count (length b.arguments) y in
    record {
      terms_at_most = t;
      terms_lent = u;
      arguments_at_most = a;
      arguments_lent = l;
      atoms_lent = leb-true (b.atom_count * atom_cells) (length b.atoms) atoms;
    }

-- what 2 tells of an atom
module _ (b : Body) (sizes : sizes_fit b ≡ true) (fits : body_fits b ≡ true) (a : ℕ) (h : a < b.atom_count) where
  abbrev every_atom : Bool
  every_atom = all (atom_fits b) (from 0 b.atom_count)

  abbrev every_argument : Bool
  every_argument = all (λ t. ltb t b.term_count) (part b.arguments 0 b.argument_count)

  parts : (every_atom ≡ true) × (every_argument ≡ true)
  unfolding body_fits
  parts =
      and_true every_atom every_argument (and_true (every_atom && every_argument) (all (λ t. leb (term_kind b.terms t) 2) (from 0 b.term_count)) fits).0

  within : start_at b a + count_at b a ≤ b.argument_count
  within =
      (both_at_most (kind_at b a) 2 (start_at b a + count_at b a) b.argument_count (all_from (atom_fits b) 0 b.atom_count a parts.0 (omega arith) (omega arith))).1

  pub arguments_few_lem : length (arguments_at b a) ≤ max_arguments
  arguments_few_lem = omega (arith, length-take (count_at b a) (drop (start_at b a) b.arguments), within, (sized b sizes).arguments_at_most)

  pub arguments_below : (t : ℕ) → Among t (arguments_at b a) → t < b.term_count
  arguments_below t m =
      ltb-true t b.term_count
      (all_member (λ t. ltb t b.term_count) t (part b.arguments 0 b.argument_count) parts.1
      (part_member b.arguments (start_at b a) (count_at b a) b.argument_count t within (sized b sizes).arguments_lent m))

pub modest : (b : Body) → sizes_fit b ≡ true → body_fits b ≡ true → Modest b
modest b s f = record {
  lent = (sized b s).atoms_lent;
  small = λ a h t m. let l : t < b.term_count = arguments_below b s f a h t m in omega (arith, (sized b s).terms_at_most);
  few = arguments_few_lem b s f;
}

-- a set that respects the atom a's constraints
module _ (D : ℕ → Type 0) (b : Body) where
  atom_respected : (atoms : List ℕ) → RespectsAll D (given b atoms) → (a : ℕ) → Among a atoms → RespectsAll D (given_at b a)
  unfolding given
  atom_respected [] r a m = absurd (Memᴰ.not-nil m)
  atom_respected (x ∷ xs) r a (Memᴰ.head i) = rw i (respects_split D (given_at b x) (given b xs) r).0
  atom_respected (x ∷ xs) r a (Memᴰ.tail m) = atom_respected xs (respects_split D (given_at b x) (given b xs) r).1 a m

  pub respects_given : ((a : ℕ) → a < b.atom_count → RespectsAll D (given_at b a)) → (atoms : List ℕ) → ((a : ℕ) → Among a atoms → a < b.atom_count) →
      RespectsAll D (given b atoms)
  unfolding given
  respects_given h [] w = tt
  respects_given h (a ∷ rest) w =
      respects_append D (given_at b a) (given b rest) (h a (w a (Memᴰ.head refl))) (respects_given h rest (λ x m. w x (Memᴰ.tail m)))

  -- the constraints of an atom of each kind
  function_respected : (kind : ℕ) (args : List ℕ) → kind ≡ 0 → RespectsAll D (given_by b.terms kind args) → (t : ℕ) → Among t args → D t
  unfolding given_by
  function_respected zero args e r = assigns_respected D args r
  function_respected (suc k) args e r = absurd (omega arith)

  constants_respected : (kind : ℕ) (args : List ℕ) → 1 ≤ kind → RespectsAll D (given_by b.terms kind args) → (t : ℕ) → Among t args → is_variable b.terms t ≡ false → D t
  unfolding given_by
  constants_respected zero args h r t m v' = absurd (omega arith)
  constants_respected (suc zero) args h r t m v' = assigns_respected D (constants b.terms args) r.1 t (constants_to b.terms t args m v')
  constants_respected (suc (suc k)) args h r t m v' = assigns_respected D (constants b.terms args) r.1 t (constants_to b.terms t args m v')

  primitive_respected : (kind : ℕ) (args : List ℕ) → kind ≡ 1 → RespectsAll D (given_by b.terms kind args) → Respects D (follows (without_last args) (last_of args))
  unfolding given_by
  primitive_respected zero args e r = absurd (omega arith)
  primitive_respected (suc zero) args e r = r.0
  primitive_respected (suc (suc k)) args e r = absurd (omega arith)

  equality_respected : (kind : ℕ) (args : List ℕ) → 2 ≤ kind → RespectsAll D (given_by b.terms kind args) → Respects D (same (get_or args 0 0) (get_or args 1 0))
  unfolding given_by
  equality_respected zero args h r = absurd (omega arith)
  equality_respected (suc zero) args h r = absurd (omega arith)
  equality_respected (suc (suc k)) args h r = r.0

  -- every such set has the grounded terms
  module _ (r : RespectsAll D (given b (from 0 b.atom_count))) where
    own : (a : ℕ) → a < b.atom_count → RespectsAll D (given_by b.terms (kind_at b a) (arguments_at b a))
    unfolding given_at
    own a h = atom_respected (from 0 b.atom_count) r a (member_from 0 b.atom_count a (omega arith) (omega arith))

    pub grounded_in : (t : ℕ) → Grounded b t → D t
    grounded_in t (argument {a} h e m) = function_respected (kind_at b a) (arguments_at b a) e (own a h) t m
    grounded_in t (constant {a} h e m c) = constants_respected (kind_at b a) (arguments_at b a) e (own a h) t m c
    grounded_in t (result {a} h e ws) = primitive_respected (kind_at b a) (arguments_at b a) e (own a h) (λ w m. grounded_in w (ws w m))
    grounded_in t (left {a} h e g) = (equality_respected (kind_at b a) (arguments_at b a) e (own a h)).1 (grounded_in _ g)
    grounded_in t (right {a} h e g) = (equality_respected (kind_at b a) (arguments_at b a) e (own a h)).0 (grounded_in _ g)

-- and the grounded terms are one
module _ (b : Body) where
  constants_grounded : (a : ℕ) → a < b.atom_count → 1 ≤ kind_at b a → RespectsAll (Grounded b) (assigns (constants b.terms (arguments_at b a)))
  constants_grounded a h l =
      respects_assigns (Grounded b) (constants b.terms (arguments_at b a)) (λ t m. let (i, c) = constants_from b.terms t (arguments_at b a) m in constant h l i c)

  grounded_kind : (a : ℕ) → a < b.atom_count → (kind : ℕ) → kind_at b a ≡ kind → RespectsAll (Grounded b) (given_by b.terms kind (arguments_at b a))
  unfolding given_by
  grounded_kind a h zero e = respects_assigns (Grounded b) (arguments_at b a) (λ t m. argument h e m)
  grounded_kind a h (suc zero) e = (result h e, constants_grounded a h (omega arith))
  grounded_kind a h (suc (suc k)) e = ((right h (omega arith), left h (omega arith)), constants_grounded a h (omega arith))

  pub grounded_respects : RespectsAll (Grounded b) (given b (from 0 b.atom_count))
  unfolding given_at
  grounded_respects =
      respects_given (Grounded b) b (λ a h. grounded_kind a h (kind_at b a) refl) (from 0 b.atom_count) (λ a m. let (i, j) = from_member 0 b.atom_count a m in omega arith)
