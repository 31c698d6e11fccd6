-- Laying constraints one after another.
use Prim.Native.Nat.{ℕ, zero, suc, ◌+◌, ◌*◌, ◌-◌, ◌<◌, ◌≤◌}
use mathlib.Core.Path.{◌≡◌, refl, sym, ap, ◌∙◌}
use mathlib.Core.List.{List, [], ◌∷◌, ◌++◌, append_assoc, append-nil}
use native.Mathlib.Omega.{arith}
use native.Mathlib.Numerals.{add-one}
use mathlib.Core.Bool.{Bool, true, false, cond, true≢false}
use lib.Dec.{eqb}
use lib.Seq.{take-suc}
use borrow.Author.Tests.{eq-eqb, ne_eqb, leb-true, eqb-true, eqb-false, not-true, not-false}
use lib.ListN.{length, get_or, set, take, length-append, length-take}
use Rattle.definition.specs.Lists.{from, last_of, without_last}
use Rattle.definition.proofs.Laws.Lists.{from_add, from_snoc, member_from}
use Rattle.rule_cells.specs.Put.{puts}
use Rattle.rule_cells.specs.Laws.{puts_append}
use Rattle.grounded_body.specs.declared.lay.Laid.{Laid}
use Rattle.grounded_body.specs.Body.{Body, kind_at, arguments_at, is_variable, Constraint, assigned, same, follows, assigns, constants, given_by, given_at, given}
use Rattle.grounded_body.specs.declared.AtomKind.{AtomKind}
use Rattle.grounded_body.specs.Kinds.{atom_number, atom_kind}
use Rattle.grounded_body.specs.Layout.{as_cells, records_of, records_in, watched, side_in, cells_of, cells_in, tops_in}
use Rattle.grounded_body.specs.Check.{shape_fits}
use Rattle.grounded_body.specs.Parts.{Accepted, is_assigned, assigned_by, Lays, LaysFlat, PutsTop, Room, AtomFits, Modest, none_laid}
use Rattle.grounded_body.proofs.Fitting.{assigns_records, assigns_side, constants_few, shape_read, read_given}
use Rattle.grounded_body.proofs.Laws.Standing.{cells_count}
use Rattle.grounded_body.proofs.Laws.Bodies.{records_append, side_append, Taken, taken, modest}
use Rattle.grounded_body.proofs.Laws.Whole.{tops_few}

cells_append : (place n s : ℕ) (gs hs : List Constraint) →
    cells_in place n s (gs ++ hs) ≡ cells_in place n s gs ++ cells_in place (n + records_in gs) (s + length (side_in gs)) hs
unfolding cells_in records_in side_in
cells_append place n s [] hs =
    let a : n + 0 ≡ n = omega arith in
    let b : s + 0 ≡ s = omega arith in
    rw (a, b)
cells_append place n s (g ∷ gs) hs =
    let n' : ℕ = n + records_of g in
    let s' : ℕ = s + length (watched g) in
    let a : n + (records_of g + records_in gs) ≡ n' + records_in gs = omega arith in
    let b : s + length (watched g ++ side_in gs) ≡ s' + length (side_in gs) = omega (arith, length-append (watched g) (side_in gs)) in
    rw (a, b, cells_append place n' s' gs hs) (sym (append_assoc (cells_of place n s g) (cells_in place n' s' gs) (cells_in place (n' + records_in gs) (s' + length (side_in gs)) hs)))

tops_append : (n : ℕ) (gs hs : List Constraint) → tops_in n (gs ++ hs) ≡ tops_in n gs ++ tops_in (n + records_in gs) hs
unfolding tops_in records_in
tops_append n [] hs = let a : n + 0 ≡ n = omega arith in rw a
tops_append n (g ∷ gs) hs =
    let a : n + (records_of g + records_in gs) ≡ n + records_of g + records_in gs = omega arith in
    rw (a, tops_append (n + records_of g) gs hs)

pub tops_length : (n : ℕ) (gs : List Constraint) → length (tops_in n gs) ≡ length gs
unfolding tops_in
tops_length n [] = refl
tops_length n (g ∷ gs) = ap suc (tops_length (n + records_of g) gs)

-- behind one another
pub puts_behind : (l l' l'' a b : List ℕ) (i j : ℕ) → l' ≡ puts l i a → l'' ≡ puts l' j b → j ≡ i + length a → l'' ≡ puts l i (a ++ b)
puts_behind l l' l'' a b i j e f h = rw (puts_append l i a b, ← h, ← e) f

module _ (place : ℕ) (at r r'' : Laid) (gs hs : List Constraint) (R S T R' S' T' R'' S'' T'' : List ℕ)
    (x : Lays place at gs R S T r R' S' T') (y : Lays place r hs R' S' T' r'' R'' S'' T'') where
  pub lays_append : Lays place at (gs ++ hs) R S T r'' R'' S'' T''
  lays_append = record {
    record_count = omega (arith, x.record_count, y.record_count, records_append gs hs);
    side_count = omega (arith, x.side_count, y.side_count, ap length (side_append gs hs), length-append (side_in gs) (side_in hs));
    top_count = omega (arith, x.top_count, y.top_count, length-append gs hs);
    records = puts_behind R R' R'' (cells_in place at.records at.side gs) (cells_in place r.records r.side hs) (at.records * 8) (r.records * 8) x.records y.records
        (omega (arith, x.record_count, cells_count place at.records at.side gs))
        ∙ ap (puts R (at.records * 8))
        (ap (λ (k : ℕ). cells_in place at.records at.side gs ++ cells_in place k r.side hs) x.record_count
        ∙ ap (λ (k : ℕ). cells_in place at.records at.side gs ++ cells_in place (at.records + records_in gs) k hs) x.side_count
        ∙ sym (cells_append place at.records at.side gs hs));
    cells = puts_behind S S' S'' (side_in gs) (side_in hs) at.side r.side x.cells y.cells x.side_count
        ∙ ap (puts S at.side) (sym (side_append gs hs));
    entries = puts_behind T T' T'' (tops_in at.records gs) (tops_in r.records hs) at.tops r.tops x.entries y.entries
        (omega (arith, x.top_count, tops_length at.records gs))
        ∙ ap (puts T at.tops)
        (ap (λ (k : ℕ). tops_in at.records gs ++ tops_in k hs) x.record_count ∙ sym (tops_append at.records gs hs));
  }

pub lays_none : (place : ℕ) (at : Laid) (R S T : List ℕ) → Lays place at [] R S T at R S T
unfolding records_in side_in cells_in tops_in
lays_none place at R S T = record { record_count = omega arith; side_count = omega arith; top_count = omega arith; records = refl; cells = refl; entries = refl }

-- one record, at the top level
module _ (place a b : ℕ) (at r : Laid) (R T R' T' : List ℕ) where
  pub lays_assign : PutsTop place at 1 a 0 R T r R' T' → LaysFlat place at (assigned a ∷ []) R T r R' T'
  unfolding records_in side_in cells_in tops_in
  lays_assign x side =
      record { record_count = x.record_count; side_count = omega (arith, x.side_count); top_count = x.top_count; records = x.records; cells = refl; entries = x.entries }

  pub lays_eq : PutsTop place at 0 a b R T r R' T' → LaysFlat place at (same a b ∷ []) R T r R' T'
  unfolding records_in side_in cells_in tops_in
  lays_eq x side =
      record { record_count = x.record_count; side_count = omega (arith, x.side_count); top_count = x.top_count; records = x.records; cells = refl; entries = x.entries }

-- an Implies and its child
pub lays_follows : (place k : ℕ) (at : Laid) (args R R1 S T R' S' T' : List ℕ) → k ≡ length args - 1 →
    R1 ≡ puts R (at.records * 8) (as_cells place 1 (get_or args k 0) 0 0) → R' ≡ puts R1 ((at.records + 1) * 8) (as_cells place 5 at.side k at.records) →
    S' ≡ puts S at.side (take k args) → T' ≡ set T at.tops (at.records + 1) →
    Lays place at (follows (without_last args) (last_of args) ∷ []) R S T (record { records = at.records + 2; side = at.side + k; tops = at.tops + 1 }) R' S' T'
unfolding records_in side_in cells_in tops_in
lays_follows place k at args R R1 S T R' S' T' e e1 e2 e3 e4 =
    let l : length (take k args) ≡ k = length-take k args ∙ omega arith in
    let m : length (take k args ++ []) ≡ k = omega (arith, length-append (take k args) [], l) in
    let o : (at.records + 1) * 8 ≡ at.records * 8 + 8 = omega arith in
    rw (← e)
    (record {
      record_count = omega arith;
      side_count = omega (arith, m);
      top_count = omega arith;
      records = puts_behind R R1 R' (as_cells place 1 (get_or args k 0) 0 0) (as_cells place 5 at.side k at.records) (at.records * 8) ((at.records + 1) * 8) e1 e2 o
          ∙ ap (λ (j : ℕ). puts R (at.records * 8) (as_cells place 1 (get_or args k 0) 0 0 ++ as_cells place 5 at.side j at.records)) (sym l);
      cells = e3 ∙ ap (puts S at.side) (sym (append-nil (take k args)));
      entries = e4 ∙ ap (λ (j : ℕ). set T at.tops j) (add-one at.records);
    })

-- Assigns of a list that grows
assigns_append : (xs ys : List ℕ) → assigns (xs ++ ys) ≡ assigns xs ++ assigns ys
unfolding assigns
assigns_append [] ys = refl
assigns_append (x ∷ xs) ys = ap (λ (l : List Constraint). assigned x ∷ l) (assigns_append xs ys)

assigns_length : (ts : List ℕ) → length (assigns ts) ≡ length ts
unfolding assigns
assigns_length [] = refl
assigns_length (t ∷ ts) = ap suc (assigns_length ts)

-- room for one more, behind the Assigns of a list
pub room_behind : (place k : ℕ) (at r : Laid) (ts R S T R' S' T' : List ℕ) → Lays place at (assigns ts) R S T r R' S' T' → Room at k → length ts < k → Room r 1
room_behind place k at r ts R S T R' S' T' x room h = record {
  records = omega (arith, x.record_count, assigns_records ts, room.records);
  sides = omega (arith, x.side_count, ap length (assigns_side ts), room.sides);
  tops = omega (arith, x.top_count, assigns_length ts, room.tops);
}

module _ (place : ℕ) (at r r'' : Laid) (ts us : List ℕ) (t : ℕ) (R T R' T' R'' T'' : List ℕ) (more : us ≡ ts ++ (t ∷ []))
    (x : (S : List ℕ) → Lays place at (assigns ts) R S T r R' S T') (y : PutsTop place r 1 t 0 R' T' r'' R'' T'') where
  pub lays_one_more : (S : List ℕ) → Lays place at (assigns us) R S T r'' R'' S T''
  unfolding assigns
  lays_one_more S =
      rw (more, assigns_append ts (t ∷ [])) (lays_append place at r r'' (assigns ts) (assigned t ∷ []) R S T R' S T' R'' S T'' (x S) (lays_assign place t 0 r r'' R' T' R'' T'' y S))

-- a list one longer, and its constants
pub take_more : (xs : List ℕ) (i : ℕ) → i < length xs → take (i + 1) xs ≡ take i xs ++ (get_or xs i 0 ∷ [])
take_more xs i h = rw add-one (take-suc xs i 0 h)

constants_append : (T xs ys : List ℕ) → constants T (xs ++ ys) ≡ constants T xs ++ constants T ys
unfolding constants
constants_append T [] ys = refl
constants_append T (x ∷ xs) ys = go (is_variable T x) (constants_append T xs ys)
  where
    go : (v : Bool) → constants T (xs ++ ys) ≡ constants T xs ++ constants T ys →
        cond v (constants T (xs ++ ys)) (x ∷ constants T (xs ++ ys)) ≡ cond v (constants T xs) (x ∷ constants T xs) ++ constants T ys
    go true e = e
    go false e = ap (λ (l : List ℕ). x ∷ l) e

pub constants_more : (terms xs : List ℕ) (i : ℕ) → i < length xs → (get_or terms (get_or xs i 0 * 2) 0 ≡ 0 → ⊥) →
    constants terms (take (i + 1) xs) ≡ constants terms (take i xs) ++ (get_or xs i 0 ∷ [])
unfolding constants
constants_more terms xs i h z =
    ap (constants terms) (take_more xs i h) ∙ constants_append terms (take i xs) (get_or xs i 0 ∷ [])
    ∙ rw (ne_eqb (get_or terms (get_or xs i 0 * 2) 0) 0 z)

pub constants_less : (terms xs : List ℕ) (i : ℕ) → i < length xs → get_or terms (get_or xs i 0 * 2) 0 ≡ 0 →
    constants terms (take (i + 1) xs) ≡ constants terms (take i xs)
unfolding constants
constants_less terms xs i h z =
    ap (constants terms) (take_more xs i h) ∙ constants_append terms (take i xs) (get_or xs i 0 ∷ [])
    ∙ rw (eq-eqb (get_or terms (get_or xs i 0 * 2) 0) 0 z) (append-nil (constants terms (take i xs)))

-- none of no arguments
pub nothing_assigned : (kind : ℕ) (T : List ℕ) → assigned_by kind T [] ≡ []
unfolding constants
nothing_assigned zero T = refl
nothing_assigned (suc kind) T = refl

-- one more argument that is assigned, or is not
pub assigned_more : (kind : ℕ) (T xs : List ℕ) (i : ℕ) → i < length xs → is_assigned kind T (get_or xs i 0) ≡ true →
    assigned_by kind T (take (i + 1) xs) ≡ assigned_by kind T (take i xs) ++ (get_or xs i 0 ∷ [])
assigned_more zero T xs i h e = take_more xs i h
assigned_more (suc kind) T xs i h e =
    constants_more T xs i h (λ z. eqb-false (get_or T (get_or xs i 0 * 2) 0) 0 (not-true (eqb (get_or T (get_or xs i 0 * 2) 0) 0) e) z)

pub assigned_less : (kind : ℕ) (T xs : List ℕ) (i : ℕ) → i < length xs → is_assigned kind T (get_or xs i 0) ≡ false →
    assigned_by kind T (take (i + 1) xs) ≡ assigned_by kind T (take i xs)
assigned_less zero T xs i h e = absurd (true≢false e)
assigned_less (suc kind) T xs i h e = constants_less T xs i h (eqb-true (get_or T (get_or xs i 0 * 2) 0) 0 (not-false (eqb (get_or T (get_or xs i 0 * 2) 0) 0) e))

pub assigned_few : (kind : ℕ) (T xs : List ℕ) → length (assigned_by kind T xs) ≤ length xs
assigned_few zero T xs = omega arith
assigned_few (suc kind) T xs = constants_few T xs

-- what an atom gives, by its kind
pub given_function : (T args : List ℕ) → given_by T 0 args ≡ assigns (assigned_by 0 T args)
unfolding given_by
given_function T args = refl

pub given_primitive : (T args : List ℕ) → given_by T 1 args ≡ (follows (without_last args) (last_of args) ∷ []) ++ assigns (assigned_by 1 T args)
unfolding given_by
given_primitive T args = refl

pub given_equality : (T args : List ℕ) → given_by T 2 args ≡ (same (get_or args 0 0) (get_or args 1 0) ∷ []) ++ assigns (assigned_by 2 T args)
unfolding given_by
given_equality T args = refl

-- an atom's arguments by its kind
pub one_at_least : (n : ℕ) → shape_fits 1 n ≡ true → 1 ≤ n
unfolding shape_fits
one_at_least n s = leb-true 1 n s

pub two_exactly : (n : ℕ) → shape_fits 2 n ≡ true → n ≡ 2
unfolding shape_fits
two_exactly n s = eqb-true n 2 s

-- room that is left
pub room_less : (at : Laid) (j k : ℕ) → k ≤ j → Room at j → Room at k
room_less at j k h r = record { records = omega (arith, r.records); sides = omega (arith, r.sides); tops = omega (arith, r.tops) }

pub room_after : (place : ℕ) (at r : Laid) (gs : List Constraint) (R S T R' S' T' : List ℕ) (n : ℕ) → Lays place at gs R S T r R' S' T' →
    records_in gs ≤ 2 → length (side_in gs) ≤ n → length gs ≤ 1 → Room at (2 * n + 2) → Room r n
room_after place at r gs R S T R' S' T' n x a b c room = record {
  records = omega (arith, x.record_count, room.records);
  sides = omega (arith, x.side_count, room.sides);
  tops = omega (arith, x.top_count, room.tops);
}

pub room_follows : (place : ℕ) (at r : Laid) (args R S T R' S' T' : List ℕ) → Lays place at (follows (without_last args) (last_of args) ∷ []) R S T r R' S' T' →
    Room at (2 * length args + 2) → Room r (length args)
unfolding records_in side_in
room_follows place at r args R S T R' S' T' x =
    room_after place at r (follows (without_last args) (last_of args) ∷ []) R S T R' S' T' (length args) x (omega arith)
    (omega (arith, length-append (without_last args) [], length-take (length args - 1) args)) (omega arith)

pub room_same : (place : ℕ) (at r : Laid) (a b n : ℕ) (R S T R' S' T' : List ℕ) → Lays place at (same a b ∷ []) R S T r R' S' T' → Room at (2 * n + 2) → Room r n
unfolding records_in side_in
room_same place at r a b n R S T R' S' T' x = room_after place at r (same a b ∷ []) R S T R' S' T' n x (omega arith) (omega arith) (omega arith)

-- the constraints of one more atom
given_append : (b : Body) (xs ys : List ℕ) → given b (xs ++ ys) ≡ given b xs ++ given b ys
unfolding given
given_append b [] ys = refl
given_append b (x ∷ xs) ys = rw (given_append b xs ys) (sym (append_assoc (given_at b x) (given b xs) (given b ys)))

given_snoc : (b : Body) (i : ℕ) → given b (from 0 (i + 1)) ≡ given b (from 0 i) ++ given_at b i
unfolding given
given_snoc b i =
    let e : 0 + i ≡ i = omega arith in
    ap (λ (n : ℕ). given b (from 0 n)) (add-one i) ∙ ap (given b) (from_snoc 0 i) ∙ given_append b (from 0 i) ((0 + i) ∷ [])
    ∙ rw e (ap (λ (l : List Constraint). given b (from 0 i) ++ l) (append-nil (given_at b i)))

front_given : (b : Body) (i count : ℕ) → i ≤ count → given b (from 0 count) ≡ given b (from 0 i) ++ given b (from i (count - i))
front_given b i count h =
    let e : count ≡ i + (count - i) = omega arith in
    let z : 0 + i ≡ i = omega arith in
    ap (λ (n : ℕ). given b (from 0 n)) e ∙ ap (given b) (from_add 0 i (count - i)) ∙ rw z (given_append b (from 0 i) (from i (count - i)))

-- a turn of the loop over the atoms
module _ (b : Body) (i : ℕ) (kind : AtomKind) (own : List ℕ) (h : i < b.atom_count) (k : kind ≡ atom_kind (kind_at b i)) (o : own ≡ arguments_at b i)
    (r : Laid) (X S Y X' S' Y' : List ℕ) (x : Lays b.place none_laid (given b (from 0 i)) X S Y r X' S' Y') where
  abbrev before : List Constraint
  before = given b (from 0 i)

  abbrev behind : List Constraint
  behind = given b (from i (b.atom_count - i))

  pub turn_fits : Accepted b → AtomFits r (atom_number kind) own
  turn_fits ok =
      let m : Modest b = modest b ok.sizes ok.fits in
      let t : Taken b 0 0 (from 0 b.atom_count) = taken b 0 0 (from 0 b.atom_count) (omega arith) (omega arith) ok.atoms in
      let whole : given b (from 0 b.atom_count) ≡ before ++ behind = front_given b i b.atom_count (omega arith) in
      let records : records_in before ≤ 512 = omega (arith, t.records, ap records_in whole, records_append before behind) in
      let side : length (side_in before) ≤ 2048
      = omega (arith, t.side, ap (λ (l : List Constraint). length (side_in l)) whole, ap length (side_append before behind), length-append (side_in before) (side_in behind)) in
      let l : length own ≤ 2048 = omega (arith, ap length o, m.few i h) in
      record {
        room = record { records = omega (arith, x.record_count); sides = omega (arith, x.side_count); tops = omega (arith, x.top_count, tops_few 0 before, tops_length 0 before) };
        shape = rw (o, k, shape_read (kind_at b i) (length (arguments_at b i))) (t.shapes i (member_from 0 b.atom_count i (omega arith) (omega arith)));
      }

  pub turn_laid : (r'' : Laid) (X'' S'' Y'' : List ℕ) → Lays b.place r (given_by b.terms (atom_number kind) own) X' S' Y' r'' X'' S'' Y'' →
      Lays b.place none_laid (given b (from 0 (i + 1))) X S Y r'' X'' S'' Y''
  turn_laid r'' X'' S'' Y'' y =
      rw (given_snoc b i) (lays_append b.place none_laid r r'' before (given_at b i) X S Y X' S' Y' X'' S'' Y'' x (rw (read_given b i kind own h k o) at y))
