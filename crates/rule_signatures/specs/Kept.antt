-- Laws that the code's older form cited; they still hold.
use Rattle.std.specs.Prelude.{ℕ, Option, Some, None, MatchOption, zero, suc, ◌+◌, ◌-◌, ◌*◌, ◌≤◌, ◌≡◌, refl, length, get_or, take}
use Rattle.std.proofs.Common.{arith, sym, ap, ◌∙◌, take_all, length-drop}
use mathlib.Core.List.{List, map}
use Rattle.std.proofs.Math.ListN.{drop}
use Rattle.std.proofs.lemmas.List.{length-map}
use Rattle.definition.specs.Sizes.{record_cells}
use Rattle.rule_cells.specs.declared.Origin.{Origin}
use Rattle.rule_cells.specs.Put.{eq, assign, puts, cells, lay}
use Rattle.rule_signatures.specs.declared.Signature.TheVariants.{AllEqual}
use Rattle.rule_signatures.specs.declared.AllEqualTypeConstraint.{AllEqualTypeConstraint}
use Rattle.rule_signatures.specs.Shapes.{bare}
use Rattle.rule_signatures.specs.Tables.{maybe, kind_at, head_at, common_at, length_at, output_at, signature_at, term_kind, term_value, sort_on, known_sort}
use Rattle.rule_signatures.specs.Gives.{alike, output}
use Rattle.rule_signatures.specs.Laid.{Laid}
use Rattle.rule_signatures.specs.Laws.{narrowed as narrowed_with}
use Rattle.rule_signatures.specs.Cases.{output_some as output_with}

-- the later arguments
pub later_is : (args : List ℕ) → take (length args) (drop 1 args) ≡ drop 1 args
later_is args = take_all (length args) (drop 1 args) (rw length-drop (omega arith))

module _ (o : Origin) (l l' : List ℕ) (n : ℕ) (args : List ℕ) where
  -- by them, without a first one split off
  pub alike_none : (common : Option ℕ) (later : List ℕ) (first : ℕ) → common ≡ None → later ≡ take (length args) (drop 1 args) → first ≡ get_or args 0 0
      → l' ≡ lay o l n (map (λ a. eq a first) later) → Laid o l l' n (alike common args) (length later)
  unfolding alike
  alike_none common later first e el ef h =
      let d : later ≡ drop 1 args = el ∙ later_is args in
      rw (e, d) (record { records = rw (d, ef) at h; count = sym (length-map (drop 1 args) (λ a. eq a (get_or args 0 0))) })

  pub output_some : (common out : Option ℕ) (s left lst r : ℕ) (l₁ rest : List ℕ) → out ≡ Some s → left ≡ length args - 1 → lst ≡ get_or args left 0
      → l₁ ≡ puts l (n * record_cells) (cells o (assign lst s)) → rest ≡ take left (drop 0 args) → Laid o l₁ l' (n + 1) (alike common rest) r
      → Laid o l l' n (output common out args) (r + 1)
  output_some common out s left lst r l₁ rest e el ei e₁ er h = output_with o l l' n args common out s left lst r l₁ rest e el ei e₁ er h

-- an all-equal signature narrowed field by field, each from its number in the table, is the table's
filled : (field : Option ℕ → AllEqualTypeConstraint) (m : Option ℕ) → MatchOption m (field m ≡ field None) (λ v. field m ≡ field (Some v))
filled field None = refl
filled field (Some v) = refl

pub narrowed : (s : List ℕ) (i head common len out : ℕ) (x y z w : AllEqualTypeConstraint) → 3 ≤ kind_at s i
    → head ≡ head_at s i → common ≡ common_at s i → len ≡ length_at s i → out ≡ output_at s i → x ≡ bare head
    → (x.common ≡ None → y ≡ record { head = x.head; common = maybe common; length = x.length; output = x.output })
    → (y.length ≡ None → z ≡ record { head = y.head; common = y.common; length = maybe len; output = y.output })
    → (z.output ≡ None → w ≡ record { head = z.head; common = z.common; length = z.length; output = maybe out })
    → AllEqual w ≡ signature_at s i
narrowed s i head common len out x y z w h eh ec el eo ex fy fz fw =
    let ey = fy (ap (λ (a : AllEqualTypeConstraint). a.common) ex) in
    let ez = fz (ap (λ (a : AllEqualTypeConstraint). a.length) ey ∙ ap (λ (a : AllEqualTypeConstraint). a.length) ex) in
    let ew = fw (ap (λ (a : AllEqualTypeConstraint). a.output) ez ∙ ap (λ (a : AllEqualTypeConstraint). a.output) ey ∙ ap (λ (a : AllEqualTypeConstraint). a.output) ex) in
    rw (ew, ez, ey, ex)
    (narrowed_with s i head (maybe common) (maybe len) (maybe out) (bare head) _ _ _ h eh (ap maybe ec) (ap maybe el) (ap maybe eo) refl
    (filled (λ m. record { head = head; common = m; length = None; output = None }) (maybe common))
    (filled (λ m. record { head = head; common = maybe common; length = m; output = None }) (maybe len))
    (filled (λ m. record { head = head; common = maybe common; length = maybe len; output = m }) (maybe out)))

-- the sort of a term, by its kind
on_literal : (g : List ℕ) (v k : ℕ) → (k ≡ 0 → ⊥) → (k ≡ 1 → ⊥) → sort_on g v k ≡ Some v
unfolding sort_on
on_literal g v zero h h' = absurd (h refl)
on_literal g v (suc zero) h h' = absurd (h' refl)
on_literal g v (suc (suc k)) h h' = refl

module _ (t g : List ℕ) (i k v : ℕ) (ek : k ≡ term_kind t i) (ev : v ≡ term_value t i) where
  pub known_variable : k ≡ 0 → None ≡ known_sort t g i
  unfolding known_sort sort_on
  known_variable h = rw (← ek, h)

  pub known_global : (c : ℕ) (m : Option ℕ) → k ≡ 1 → c ≡ get_or g v 0 → m ≡ maybe c → m ≡ known_sort t g i
  unfolding known_sort sort_on
  known_global c m h ec em = rw (← ek, h, ← ev, ← ec) em

  pub known_literal : (k ≡ 0 → ⊥) → (k ≡ 1 → ⊥) → Some v ≡ known_sort t g i
  unfolding known_sort
  known_literal h h' = rw (← ek, ← ev) (sym (on_literal g v k h h'))
