-- What is known of a problem that is not refused, and which refusal is given where a test fails.
use Prim.Native.Nat.{ℕ, zero, suc, ◌+◌, ◌*◌, ◌≤◌, ◌<◌}
use Rattle.std.specs.Prelude.{◌≡◌, Bool, true, false, ◌&&◌, length}
use Rattle.std.proofs.Math.Path.{refl, ap}
use Rattle.std.proofs.Common.{◌∙◌, subst, ⊎_elim, length-take}
use Rattle.std.proofs.lemmas.Bool.{false≢true}
use mathlib.Core.List.Memᴰ
use mathlib.Core.List.{List, [], ◌∷◌}
use native.Mathlib.Omega.{arith}
use Rattle.std.proofs.Math.Dec.{leb, ltb, eqb}
use borrow.Author.Tests.{le-leb, leb-true, ltb-true, eqb-true}
use Rattle.definition.specs.Sizes.{max_records, max_side, max_tops, max_range, max_terms, max_sorts, max_depth, max_expected, record_cells, range_cells, entry_cells, room_frames}
use Rattle.definition.specs.Lists.{from, all, count, largest, joined, Among}
use Rattle.definition.specs.Problem.{Problem, Node, eq, assign, and, xor, impossible, implies, node_of, node, children, terms_of, part, kind_of, value_of, top_level, range_term}
use Rattle.definition.specs.Refusal.{counts_fit, term_fits, sort_fits, part_fits, values_fit, record_fits, range_fits, cells_fit, children_below, named, named_once, trees_fit, depth_within, depth, depth_fits, unless, records_refusal, room_refusal, first_given, refusal}
use Rattle.definition.specs.Fits.{Fits, total, size}
use Rattle.definition.proofs.Laws.Entries.{total_append, total_same}
use Rattle.definition.proofs.Laws.Lists.{and_true, all_member, all_from, from_member, from_length, member_largest, largest_same}
use Rattle.definition.proofs.Laws.Sums.{total_joined, total_suc, total_once}

-- the four tests of the records
pub record Accepted (p : Problem) : Type 0 where
  pub counts : counts_fit p ≡ true
  pub cells : cells_fit p ≡ true
  pub trees : trees_fit p ≡ true
  pub depths : depth_fits p ≡ true

-- no refusal is given: every test passed
pub unless_none : (b : Bool) (n rest : ℕ) → unless b (suc n) rest ≡ 0 → (b ≡ true) × (rest ≡ 0)
unless_none true n rest h = (refl, h)
unless_none false n rest h = absurd (omega arith)

pub none_of_two : (a b : Bool) → unless a 1 (unless b 2 0) ≡ 0 → (a ≡ true) × (b ≡ true)
none_of_two a b h = let (first, rest) = unless_none a 0 (unless b 2 0) h in (first, (unless_none b 1 0 rest).0)

pub accepted : (p : Problem) → records_refusal p ≡ 0 → Accepted p
unfolding records_refusal
accepted p h =
    let a : (counts_fit p ≡ true) × _ = unless_none (counts_fit p) 0 _ h in
    let b : (cells_fit p ≡ true) × _ = unless_none (cells_fit p) 1 _ a.1 in
    let c : (trees_fit p ≡ true) × _ = unless_none (trees_fit p) 2 _ b.1 in
    record { counts = a.0; cells = b.0; trees = c.0; depths = (unless_none (depth_fits p) 3 0 c.1).0 }

-- and back: which refusal each test gives
pub refused_counts : (p : Problem) → counts_fit p ≡ false → records_refusal p ≡ 1
unfolding records_refusal
refused_counts p a = rw a

pub refused_trees : (p : Problem) → counts_fit p ≡ true → cells_fit p ≡ true → trees_fit p ≡ false → records_refusal p ≡ 3
unfolding records_refusal
refused_trees p a b c = rw (a, b, c)

pub refused_depth : (p : Problem) → counts_fit p ≡ true → cells_fit p ≡ true → trees_fit p ≡ true → depth_fits p ≡ false →
    records_refusal p ≡ 4
unfolding records_refusal
refused_depth p a b c d = rw (a, b, c, d)

pub not_refused : (p : Problem) → Accepted p → records_refusal p ≡ 0
unfolding records_refusal
not_refused p A = rw (A.counts, A.cells, A.trees, A.depths)

-- 1: the counts
pub record Counted (p : Problem) : Type 0 where
  pub records : p.counts.records ≤ max_records
  pub records_lent : p.counts.records * record_cells ≤ length p.records
  pub side : p.counts.side ≤ max_side
  pub side_lent : p.counts.side ≤ length p.side
  pub tops : p.counts.tops ≤ max_tops
  pub tops_lent : p.counts.tops ≤ length p.tops
  pub range : p.counts.range ≤ max_range
  pub range_lent : p.counts.range * range_cells ≤ length p.range
  pub terms : p.counts.terms ≤ max_terms
  pub sorts : p.counts.sorts ≤ max_sorts

-- comparisons that pass together
pub both_at_most : (a b c d : ℕ) → leb a b && leb c d ≡ true → (a ≤ b) × (c ≤ d)
both_at_most a b c d h = (leb-true a b (and_true (leb a b) (leb c d) h).0, leb-true c d (and_true (leb a b) (leb c d) h).1)

record Six (a b c d e f : Bool) : Type 0 where
  one : a ≡ true
  two : b ≡ true
  three : c ≡ true
  four : d ≡ true
  five : e ≡ true
  six : f ≡ true

six_true : (a b c d e f : Bool) → a && b && c && d && e && f ≡ true → Six a b c d e f
six_true a b c d e f h =
    let s : (a && b && c && d && e ≡ true) × (f ≡ true) = and_true (a && b && c && d && e) f h in
    let r : (a && b && c && d ≡ true) × (e ≡ true) = and_true (a && b && c && d) e s.0 in
    let q : (a && b && c ≡ true) × (d ≡ true) = and_true (a && b && c) d r.0 in
    let o : (a && b ≡ true) × (c ≡ true) = and_true (a && b) c q.0 in
    record { one = (and_true a b o.0).0; two = (and_true a b o.0).1; three = o.1; four = q.1; five = r.1; six = s.1 }

pub counted : (p : Problem) → counts_fit p ≡ true → Counted p
unfolding counts_fit
counted p h =
    let t = six_true (leb p.counts.records max_records && leb (p.counts.records * record_cells) (length p.records))
    (leb p.counts.side max_side && leb p.counts.side (length p.side))
    (leb p.counts.tops max_tops && leb p.counts.tops (length p.tops))
    (leb p.counts.range max_range && leb (p.counts.range * range_cells) (length p.range))
    (leb p.counts.terms max_terms) (leb p.counts.sorts max_sorts) h in
    let rs : (p.counts.records ≤ max_records) × (p.counts.records * record_cells ≤ length p.records) =
    both_at_most _ _ _ _ t.one in
    let ss : (p.counts.side ≤ max_side) × (p.counts.side ≤ length p.side) = both_at_most _ _ _ _ t.two in
    let ts : (p.counts.tops ≤ max_tops) × (p.counts.tops ≤ length p.tops) = both_at_most _ _ _ _ t.three in
    let ns : (p.counts.range ≤ max_range) × (p.counts.range * range_cells ≤ length p.range) = both_at_most _ _ _ _ t.four in
    record {
      records = rs.0;
      records_lent = rs.1;
      side = ss.0;
      side_lent = ss.1;
      tops = ts.0;
      tops_lent = ts.1;
      range = ns.0;
      range_lent = ns.1;
      terms = leb-true p.counts.terms max_terms t.five;
      sorts = leb-true p.counts.sorts max_sorts t.six;
    }

-- 2: a record's values, a range entry's term
cells_both : (p : Problem) → cells_fit p ≡ true →
    (all (record_fits p) (from 0 p.counts.records) ≡ true) × (all (range_fits p) (from 0 p.counts.range) ≡ true)
unfolding cells_fit
cells_both p h = and_true (all (record_fits p) (from 0 p.counts.records)) (all (range_fits p) (from 0 p.counts.range)) h

pub cells_record : (p : Problem) (r : ℕ) → cells_fit p ≡ true → r < p.counts.records → record_fits p r ≡ true
cells_record p r h l = all_from (record_fits p) 0 p.counts.records r (cells_both p h).0 (omega arith) (omega arith)

pub cells_range : (p : Problem) (i : ℕ) → cells_fit p ≡ true → i < p.counts.range → range_term p i < p.counts.terms
unfolding range_fits
cells_range p i h l =
    ltb-true (range_term p i) p.counts.terms
    (all_from (range_fits p) 0 p.counts.range i (cells_both p h).1 (omega arith) (omega arith))

-- the test of a record's values reads the counts and the side list alone
pub values_same : (p q : Problem) → p.counts ≡ q.counts → p.side ≡ q.side → (k a b : ℕ) → values_fit p k a b ≡ values_fit q k a b
unfolding values_fit
values_same p q c s zero a b = rw c
values_same p q c s (suc zero) a b = rw c
values_same p q c s (suc (suc zero)) a b = rw c
values_same p q c s (suc (suc (suc zero))) a b = rw c
values_same p q c s (suc (suc (suc (suc zero)))) a b = refl
values_same p q c s (suc (suc (suc (suc (suc zero))))) a b = rw (c, s)
values_same p q c s (suc (suc (suc (suc (suc (suc k)))))) a b = refl

-- what a record's values say of its node
abbrev pub InRange : Problem → Node → Type 0
InRange p (eq x y) = (x < p.counts.terms) × (y < p.counts.terms)
InRange p (assign x s) = (x < p.counts.terms) × (s < p.counts.sorts)
InRange p (and cs) = length cs ≤ p.counts.side
InRange p (xor cs) = length cs ≤ p.counts.side
InRange p (impossible h e) = (1 ≤ e) × (e ≤ max_expected)
InRange p (implies ws c) = (length ws ≤ p.counts.side) × ((w : ℕ) → Among w ws → w < p.counts.terms)

part_length : (p : Problem) (a b : ℕ) → part_fits p a b ≡ true → length (part p.side a b) ≤ p.counts.side
part_length p a b h = rw length-take (omega (arith, leb-true (a + b) p.counts.side h))

values_in_range : (p : Problem) (k a b c : ℕ) → values_fit p k a b ≡ true → InRange p (node_of p.side k a b c)
unfolding values_fit node_of
values_in_range p zero a b c h =
    let t : (term_fits p a ≡ true) × (term_fits p b ≡ true) = and_true (term_fits p a) (term_fits p b) h in
    (ltb-true a p.counts.terms t.0, ltb-true b p.counts.terms t.1)
values_in_range p (suc zero) a b c h =
    let t : (term_fits p a ≡ true) × (sort_fits p b ≡ true) = and_true (term_fits p a) (sort_fits p b) h in
    (ltb-true a p.counts.terms t.0, ltb-true b p.counts.sorts t.1)
values_in_range p (suc (suc zero)) a b c h = part_length p a b h
values_in_range p (suc (suc (suc zero))) a b c h = part_length p a b h
values_in_range p (suc (suc (suc (suc zero)))) a b c h = both_at_most 1 b b max_expected h
values_in_range p (suc (suc (suc (suc (suc zero))))) a b c h =
    let t : (part_fits p a b ≡ true) × (all (term_fits p) (part p.side a b) ≡ true) =
    and_true (part_fits p a b) (all (term_fits p) (part p.side a b)) h in
    (part_length p a b t.0, λ w m. ltb-true w p.counts.terms (all_member (term_fits p) w (part p.side a b) t.1 m))
values_in_range p (suc (suc (suc (suc (suc (suc k)))))) a b c h = absurd (false≢true h)

pub in_range_lem : (p : Problem) (r : ℕ) (n : Node) → record_fits p r ≡ true → node p r ≡ n → InRange p n
unfolding record_fits node
in_range_lem p r n h e = subst (InRange p) e (values_in_range p (kind_of p r) (value_of p r 1) (value_of p r 2) (value_of p r 3) h)

-- the terms that a record names are in range
terms_in_range : (p : Problem) (n : Node) (t : ℕ) → InRange p n → Among t (terms_of n) → t < p.counts.terms
terms_in_range p (eq x y) t h m =
    ⊎_elim (λ (e : t ≡ x). omega arith) (λ (k : Among t (y ∷ [])). omega (arith, Memᴰ.eq_of_singleton k))
    (Memᴰ.cases_cons m)
terms_in_range p (assign x s) t h m = omega (arith, Memᴰ.eq_of_singleton m)
terms_in_range p (and cs) t h m = elim m [ ]
terms_in_range p (xor cs) t h m = elim m [ ]
terms_in_range p (impossible k e) t h m = elim m [ ]
terms_in_range p (implies ws c) t h m = h.1 t m

pub record_terms : (p : Problem) (r t : ℕ) → record_fits p r ≡ true → Among t (terms_of (node p r)) → t < p.counts.terms
record_terms p r t h m = terms_in_range p (node p r) t (in_range_lem p r (node p r) h refl) m

-- 3: children stand below their parent, whatever is named is a record, and each record is named once
module _ (p : Problem) (trees : trees_fit p ≡ true) where
  below_and_once : (all (children_below p) (from 0 p.counts.records) ≡ true) × (named_once p ≡ true)
  unfolding trees_fit
  below_and_once = and_true (all (children_below p) (from 0 p.counts.records)) (named_once p) trees

  once : (all (λ r. ltb r p.counts.records) (named p) ≡ true) ×
      (all (λ r. eqb (count r (named p)) 1) (from 0 p.counts.records) ≡ true)
  unfolding named_once
  once =
      and_true (all (λ r. ltb r p.counts.records) (named p))
      (all (λ r. eqb (count r (named p)) 1) (from 0 p.counts.records)) below_and_once.1

  pub child_below : (r c : ℕ) → r < p.counts.records → Among c (children (node p r)) → c < r
  unfolding children_below
  child_below r c l m =
      ltb-true c r
      (all_member (λ c. ltb c r) c (children (node p r))
      (all_from (children_below p) 0 p.counts.records r below_and_once.0 (omega arith) (omega arith)) m)

  pub named_below : (r : ℕ) → Among r (named p) → r < p.counts.records
  named_below r m = ltb-true r p.counts.records (all_member (λ r. ltb r p.counts.records) r (named p) once.0 m)

  pub named_count : (r : ℕ) → r < p.counts.records → count r (named p) ≡ 1
  named_count r l =
      eqb-true (count r (named p)) 1
      (all_from (λ r. eqb (count r (named p)) 1) 0 p.counts.records r once.1 (omega arith) (omega arith))

  pub top_below : (r : ℕ) → Among r (top_level p) → r < p.counts.records
  unfolding named
  top_below r m = named_below r (Memᴰ.append_right (joined (λ r. children (node p r)) (from 0 p.counts.records)) m)

  -- the bound on a depth does not matter above the record's number, so a depth is one more than the children's largest
  depth_same : (n k r : ℕ) → r < n → r < k → r < p.counts.records → depth_within p n r ≡ depth_within p k r
  unfolding depth_within
  depth_same zero k r a b l = absurd (omega arith)
  depth_same (suc n) zero r a b l = absurd (omega arith)
  depth_same (suc n) (suc k) r a b l = ap suc (largest_same (depth_within p n) (depth_within p k) (children (node p r)) (λ c m.
      let h : c < r = child_below r c l m in
      depth_same n k c (omega arith) (omega arith) (omega arith)))

  pub depth_step : (r : ℕ) → r < p.counts.records → depth p r ≡ suc (largest (depth p) (children (node p r)))
  unfolding depth_within
  depth_step r l = ap suc (largest_same (depth_within p r) (depth p) (children (node p r)) (λ c m.
      let h : c < r = child_below r c l m in
      depth_same r (suc c) c (omega arith) (omega arith) (omega arith)))

-- 4: a record fits at its depth, and at any depth above its number
module _ (p : Problem) (cells : cells_fit p ≡ true) (trees : trees_fit p ≡ true) where
  fits_within : (n d r : ℕ) → r < n → r < p.counts.records → depth_within p n r ≤ d → Fits p d r
  unfolding depth_within
  fits_within zero d r a b h = absurd (omega arith)
  fits_within (suc n) zero r a b h = absurd (omega arith)
  fits_within (suc n) (suc d) r a b h = record {
    below = b;
    values = cells_record p r cells b;
    kids = λ c m.
        let l : c < r = child_below p trees r c b m in
        fits_within n d c (omega arith) (omega arith)
        (omega (arith, member_largest (depth_within p n) c (children (node p r)) m));
  }

  pub fits_above : (n r : ℕ) → r < n → r < p.counts.records → Fits p n r
  fits_above zero r a b = absurd (omega arith)
  fits_above (suc n) r a b = record {
    below = b;
    values = cells_record p r cells b;
    kids = λ c m. let l : c < r = child_below p trees r c b m in fits_above n c (omega arith) (omega arith);
  }

  pub depth_fits_lem : (r d : ℕ) → r < p.counts.records → depth p r ≤ d → Fits p d r
  depth_fits_lem r d = fits_within (suc r) d r (omega arith)

  pub top_fits : depth_fits p ≡ true → (r : ℕ) → Among r (top_level p) → Fits p max_depth r
  unfolding depth_fits
  top_fits h r m =
      depth_fits_lem r max_depth (top_below p trees r m)
      (leb-true (depth p r) max_depth (all_member (λ r. leb (depth p r) max_depth) r (top_level p) h m))

-- a size does not depend on the depth, once the record fits in it
pub size_same : (p : Problem) (d n r : ℕ) → Fits p d r → Fits p n r → size p d r ≡ size p n r
unfolding size
size_same p zero n r h k = absurd h
size_same p (suc d) zero r h k = absurd k
size_same p (suc d) (suc n) r h k =
    ap suc (total_same (size p d) (size p n) (children (node p r)) (λ c m. size_same p d n c (h.kids c m) (k.kids c m)))

-- The sizes of the top-level records sum to the number of records. Summed over all records, a size is 1 and the sizes of
-- the children; each record is a child or at the top level once, so the sum over the children and the top level is the same.
abbrev own : Problem → ℕ → ℕ
own p = size p p.counts.records

module _ (p : Problem) (cells : cells_fit p ≡ true) (trees : trees_fit p ≡ true) where
  own_children : (r : ℕ) → r < p.counts.records → own p r ≡ suc (total (own p) (children (node p r)))
  own_children r l =
      size_same p p.counts.records (suc p.counts.records) r (fits_above p cells trees p.counts.records r l l)
      (fits_above p cells trees (suc p.counts.records) r (omega arith) l) ∙ unfold size in refl

  own_top : total (own p) (top_level p) ≡ p.counts.records
  unfolding named
  own_top =
      let n : ℕ = p.counts.records in
      let g : ℕ → List ℕ = λ r. children (node p r) in
      omega (
        arith,
        from_length 0 n,
        total_suc (own p) (λ r. total (own p) (g r)) (from 0 n) (λ r m. own_children r (omega (arith, from_member 0 n r m))),
        total_joined (own p) g (from 0 n),
        total_append (own p) (joined g (from 0 n)) (top_level p),
        total_once (own p) n (named p) (named_below p trees) (named_count p trees),
      )

  pub top_size : depth_fits p ≡ true → total (size p max_depth) (top_level p) ≡ p.counts.records
  top_size h =
      total_same (size p max_depth) (own p) (top_level p)
      (λ r m.
      let l : r < p.counts.records = top_below p trees r m in
      size_same p max_depth p.counts.records r (top_fits p cells trees h r m) (fits_above p cells trees p.counts.records r l l))
      ∙ own_top

-- All of it for a problem whose records are not refused
pub record Sound (p : Problem) : Type 0 where
  pub counts : Counted p
  pub records : (r : ℕ) → r < p.counts.records → record_fits p r ≡ true
  pub range : (i : ℕ) → i < p.counts.range → range_term p i < p.counts.terms
  pub kids : (r c : ℕ) → r < p.counts.records → Among c (children (node p r)) → c < r
  pub tops : (r : ℕ) → Among r (top_level p) → r < p.counts.records
  pub fits : (r : ℕ) → Among r (top_level p) → Fits p max_depth r
  pub sizes : total (size p max_depth) (top_level p) ≡ p.counts.records

pub sound : (p : Problem) → records_refusal p ≡ 0 → Sound p
sound p h =
    let A : Accepted p = accepted p h in
    record {
      counts = counted p A.counts;
      records = λ r. cells_record p r A.cells;
      range = λ i. cells_range p i A.cells;
      kids = child_below p A.trees;
      tops = top_below p A.trees;
      fits = top_fits p A.cells A.trees A.depths;
      sizes = top_size p A.cells A.trees A.depths;
    }

-- 5 and 6: the cells of the work room, of the sort list and of the error list
pub record Roomy (terms records work sort_list errors : ℕ) : Type 0 where
  pub room : room_frames * (terms + records) ≤ work
  pub sort_cells : terms ≤ sort_list
  pub error_cells : records * entry_cells ≤ errors

pub roomy : (terms records work sort_list errors : ℕ) → room_refusal terms records work sort_list errors ≡ 0 → Roomy terms records work sort_list errors
unfolding room_refusal
roomy terms records work sort_list errors h =
    let (a, rest) = unless_none (leb (room_frames * (terms + records)) work) 4 _ h in
    let (b, c) = both_at_most _ _ _ _ (unless_none (leb terms sort_list && leb (records * entry_cells) errors) 5 0 rest).0 in
    record { room = leb-true (room_frames * (terms + records)) work a; sort_cells = b; error_cells = c }

pub room_taken : (terms records work sort_list errors : ℕ) → Roomy terms records work sort_list errors → room_refusal terms records work sort_list errors ≡ 0
unfolding room_refusal
room_taken terms records work sort_list errors r =
    rw (le-leb (room_frames * (terms + records)) work r.room, le-leb terms sort_list r.sort_cells, le-leb (records * entry_cells) errors r.error_cells)

-- nothing is refused: neither the records nor the room and the lists
pub first_none : (a b : ℕ) → first_given a b ≡ 0 → (a ≡ 0) × (b ≡ 0)
unfolding first_given
first_none zero b h = (refl, h)
first_none (suc a) b h = absurd (omega arith)

pub first_given_lem : (a b : ℕ) → (a ≡ 0 → ⊥) → first_given a b ≡ a
unfolding first_given
first_given_lem zero b h = absurd (h refl)
first_given_lem (suc a) b h = refl

pub refusal_none : (p : Problem) (work sort_list errors : List ℕ) → refusal p work sort_list errors ≡ 0 →
    (records_refusal p ≡ 0) × (room_refusal p.counts.terms p.counts.records (length work) (length sort_list) (length errors) ≡ 0)
unfolding refusal
refusal_none p work sort_list errors h = first_none (records_refusal p) _ h
