-- Laws of the tables and of what signatures give.
use Rattle.std.specs.Prelude.{ℕ, Option, Some, None, MatchOption, zero, suc, ◌-◌, ◌≤◌, ◌<◌, ◌≡◌, refl, Bool, true, false, not, leb, ◌&&◌, ◌||◌, eqb, List, [], ◌∷◌, get_or}
use Rattle.std.specs.List.{list_any}
use Rattle.std.specs.Option.{SomeIff}
use Rattle.std.proofs.Common.{arith, sym, ap, ◌∙◌}
use Rattle.rule_signatures.specs.declared.Signature.TheVariants.{Simple, AllEqual}
use Rattle.rule_signatures.specs.declared.AllEqualTypeConstraint.{AllEqualTypeConstraint}
use Rattle.rule_signatures.specs.declared.SimpleTypeConstraint.{SimpleTypeConstraint}
use borrow.Author.Tests.{ne_eqb, le-leb, lt-leb}
use Rattle.rule_signatures.specs.declared.SignatureKind.TheVariants.{Constructor, AllEqualPrimitive}
use Rattle.rule_signatures.specs.declared.TermKind.{TermKind}
use Rattle.rule_signatures.specs.declared.TermKind.TheVariants.{Variable, Global, Literal}
use Rattle.rule_signatures.specs.Shapes.{simple, bare, with_common, with_length, with_output}
use Rattle.rule_signatures.specs.Gives.{any}
use Rattle.rule_signatures.specs.Tables.{maybe, signature_kind, is_function_kind, kind_of_term, kind_at, head_at, start_at, count_at, common_at, length_at, output_at, signature_on, signature_at, term_kind, term_value, sort_on, known_sort, unbound}

-- absent or not
pub maybe_none : (v : ℕ) → v ≡ 0 → maybe v ≡ None
unfolding maybe
maybe_none v e = rw e

pub maybe_some : (v : ℕ) → (v ≡ 0 → ⊥) → maybe v ≡ Some (v - 1)
unfolding maybe
maybe_some zero n = absurd (n refl)
maybe_some (suc v) n = let e : suc v - 1 ≡ v = omega arith in rw e

-- as taking one away says it
pub maybe_less : (v : ℕ) (r : Option ℕ) → SomeIff r (1 ≤ v) (v - 1) → r ≡ maybe v
maybe_less v None h = sym (maybe_none v (omega (arith, h)))
maybe_less v (Some x) h = sym (maybe_some v (λ e. omega (arith, h)) ∙ ap Some (sym h.1))

-- a signature, by its kind
pub simple_kind : (k : ℕ) → (signature_kind k ≡ AllEqualPrimitive → ⊥) → k < 3
simple_kind zero h = omega arith
simple_kind (suc zero) h = omega arith
simple_kind (suc (suc zero)) h = omega arith
simple_kind (suc (suc (suc k))) h = absurd (h refl)

pub all_equal_kind : (k : ℕ) → signature_kind k ≡ AllEqualPrimitive → 3 ≤ k
all_equal_kind zero h = cc
all_equal_kind (suc zero) h = cc
all_equal_kind (suc (suc zero)) h = cc
all_equal_kind (suc (suc (suc k))) h = omega arith

on_simple : (s : List ℕ) (i k : ℕ) → k < 3 → signature_on s i k ≡ Simple (record { head = head_at s i; start = start_at s i; count = count_at s i })
unfolding signature_on
on_simple s i zero h = refl
on_simple s i (suc zero) h = refl
on_simple s i (suc (suc zero)) h = refl
on_simple s i (suc (suc (suc k))) h = absurd (omega arith)

reads_simple : (s : List ℕ) (i : ℕ) → kind_at s i < 3 → signature_at s i ≡ Simple (record { head = head_at s i; start = start_at s i; count = count_at s i })
unfolding signature_at
reads_simple s i h = on_simple s i (kind_at s i) h

on_equal : (s : List ℕ) (i k : ℕ) → 3 ≤ k → signature_on s i k ≡ AllEqual (record { head = head_at s i; common = maybe (common_at s i); length = maybe (length_at s i); output = maybe (output_at s i) })
unfolding signature_on
on_equal s i zero h = absurd (omega arith)
on_equal s i (suc zero) h = absurd (omega arith)
on_equal s i (suc (suc zero)) h = absurd (omega arith)
on_equal s i (suc (suc (suc k))) h = refl

reads_equal : (s : List ℕ) (i : ℕ) → 3 ≤ kind_at s i → signature_at s i ≡ AllEqual (record { head = head_at s i; common = maybe (common_at s i); length = maybe (length_at s i); output = maybe (output_at s i) })
unfolding signature_at
reads_equal s i h = on_equal s i (kind_at s i) h

pub reads_as : (s : List ℕ) (i kind head start count : ℕ) (x : SimpleTypeConstraint) → kind ≡ kind_at s i → kind < 3 → head ≡ head_at s i → start ≡ start_at s i → count ≡ count_at s i
    → x ≡ simple head start count → Simple x ≡ signature_at s i
reads_as s i kind head start count x ek h eh es ec ex = rw (ex, eh, es, ec) (sym (reads_simple s i (rw ek at h)))

-- the functions' kinds, and the primitives', by their numbers
pub function_kind : (k : ℕ) → is_function_kind (signature_kind k) ≡ leb k 1
function_kind zero = refl
function_kind (suc zero) = refl
function_kind (suc (suc zero)) = refl
function_kind (suc (suc (suc k))) = sym (lt-leb (suc (suc (suc k))) 1 (omega arith))

pub primitive_kind : (k : ℕ) → not (is_function_kind (signature_kind k)) ≡ leb 2 k
primitive_kind zero = refl
primitive_kind (suc zero) = refl
primitive_kind (suc (suc zero)) = refl
primitive_kind (suc (suc (suc k))) = sym (le-leb 2 (suc (suc (suc k))) (omega arith))

pub constructor_kind : (k : ℕ) → signature_kind k ≡ Constructor → eqb k 1 ≡ true
constructor_kind (suc zero) h = refl
constructor_kind zero h = cc
constructor_kind (suc (suc zero)) h = cc
constructor_kind (suc (suc (suc k))) h = cc

pub no_constructor_kind : (k : ℕ) → (signature_kind k ≡ Constructor → ⊥) → eqb k 1 ≡ false
no_constructor_kind zero h = refl
no_constructor_kind (suc zero) h = absurd (h refl)
no_constructor_kind (suc (suc k)) h = ne_eqb (suc (suc k)) 1 (λ e. omega arith)

-- a field is narrowed where there is a value, and left absent where there is none
narrowed_by : (field : Option ℕ → AllEqualTypeConstraint) (m : Option ℕ) (x y : AllEqualTypeConstraint) → x ≡ field None → MatchOption m (y ≡ x) (λ v. y ≡ field (Some v)) → y ≡ field m
narrowed_by field None x y e h = h ∙ e
narrowed_by field (Some v) x y e h = h

-- an all-equal signature narrowed field by field is the table's
pub narrowed : (s : List ℕ) (i head : ℕ) (common len out : Option ℕ) (x y z w : AllEqualTypeConstraint) → 3 ≤ kind_at s i
    → head ≡ head_at s i → common ≡ maybe (common_at s i) → len ≡ maybe (length_at s i) → out ≡ maybe (output_at s i) → x ≡ bare head
    → MatchOption common (y ≡ x) (λ v. y ≡ with_common x v)
    → MatchOption len (z ≡ y) (λ v. z ≡ with_length y v)
    → MatchOption out (w ≡ z) (λ v. w ≡ with_output z v)
    → AllEqual w ≡ signature_at s i
narrowed s i head common len out x y z w h eh ec el eo ex fy fz fw =
    let ey = narrowed_by (λ o. record { head = head; common = o; length = None; output = None }) common (bare head) y refl (rw ex at fy) in
    let ez = narrowed_by (λ o. record { head = head; common = common; length = o; output = None }) len _ z refl (rw ey at fz) in
    let ew = narrowed_by (λ o. record { head = head; common = common; length = len; output = o }) out _ w refl (rw ez at fw) in
    rw (ew, eh, ec, el, eo) (sym (reads_equal s i h))

-- the sort of a term, by its kind
abbrev sort_by : List ℕ → ℕ → TermKind → Option ℕ
sort_by g v Variable = None
sort_by g v Global = maybe (get_or g v 0)
sort_by g v Literal = Some v

known_by : (g : List ℕ) (v k : ℕ) → sort_by g v (kind_of_term k) ≡ sort_on g v k
unfolding sort_on
known_by g v zero = refl
known_by g v (suc zero) = refl
known_by g v (suc (suc k)) = refl

abbrev unbound_by : ℕ → TermKind → Bool
unbound_by c Variable = false
unbound_by c Global = eqb c 0
unbound_by c Literal = false

unbound_kind : (c k : ℕ) → unbound_by c (kind_of_term k) ≡ (eqb k 1 && eqb c 0)
unbound_kind c zero = refl
unbound_kind c (suc zero) = refl
unbound_kind c (suc (suc k)) = let e : eqb (suc (suc k)) 1 ≡ false = ne_eqb (suc (suc k)) 1 (λ h. omega arith) in rw e

not_global : (c : ℕ) (x : TermKind) → (x ≡ Global → ⊥) → false ≡ unbound_by c x
not_global c Variable n = refl
not_global c Global n = absurd (n refl)
not_global c Literal n = refl

module _ (t g : List ℕ) (i k v : ℕ) (x : TermKind) (ek : k ≡ term_kind t i) (ev : v ≡ term_value t i) (ex : x ≡ kind_of_term k) where
  pub known_as : sort_by g v x ≡ known_sort t g i
  unfolding known_sort
  known_as = rw (ex, ← ek, ← ev) (known_by g v k)

  pub unbound_as : (c : ℕ) → c ≡ get_or g v 0 → unbound_by c x ≡ unbound t g i
  unfolding unbound
  unbound_as c ec = rw (ex, ← ek, ← ev, ← ec) (unbound_kind c k)

  pub unbound_not : (x ≡ Global → ⊥) → false ≡ unbound t g i
  unbound_not n = not_global (get_or g v 0) x n ∙ unbound_as (get_or g v 0) refl

-- what std's `any` finds
pub any_made : (t : ℕ → Bool) (xs : List ℕ) → list_any t xs ≡ any t xs
unfolding any
any_made t [] = refl
any_made t (x ∷ xs) = ap (λ (b : Bool). t x || b) (any_made t xs)
