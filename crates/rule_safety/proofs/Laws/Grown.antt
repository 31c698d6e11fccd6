-- A problem with what one atom, action or typed local gives.
use Prim.Native.Nat.{ℕ, zero, suc, ◌+◌, ◌-◌, ◌*◌, ◌≤◌, ◌<◌}
use native.Mathlib.Omega.{arith}
use Rattle.std.proofs.Math.Nat.{zero-add}
use Rattle.std.proofs.Math.Decide.{dec_lt}
use Rattle.std.specs.Prelude.{◌≡◌, refl, Bool, true, ◌&&◌, List, [], ◌∷◌, ◌++◌, leb, set}
use Rattle.std.proofs.Math.Path.{sym}
use Rattle.std.proofs.Common.{◌∙◌, lt-ltb, le-leb}
use mathlib.Core.List.Memᴰ
use Rattle.std.proofs.Math.ListN.{length, get_or}
use Rattle.std.proofs.Math.Seq.{length-sets}
use Rattle.definition.specs.declared.Counts.{Counts}
use Rattle.definition.specs.Sizes.{max_records, max_side, max_tops, max_range, max_terms, max_sorts, max_depth, record_cells, range_cells}
use Rattle.definition.specs.Lists.{Among, from, all}
use Rattle.definition.specs.Problem.{Problem, top_level, range_term}
use Rattle.definition.specs.Refusal.{counts_fit, record_fits, range_fits, cells_fit, records_refusal}
use Rattle.definition.proofs.Laws.Lists.{and_true, true_and, from_all, member_at}
use Rattle.definition.proofs.Laws.Refused.{Accepted, accepted, not_refused, Counted, counted, cells_record, cells_range, named_count, both_at_most}
use Rattle.rule_ranges.specs.Laws.{entries_length, entry_term}
use Rattle.rule_cells.specs.declared.Origin.{Origin}
use Rattle.rule_cells.specs.Put.{puts}
use Rattle.rule_cells.specs.Laws.{part_puts}
use Rattle.rule_signatures.specs.Tables.{term_cells}
use Rattle.rule_heads.specs.Alternatives.{Given}
use Rattle.rule_heads.specs.Layout.{records_of, side_of, tops_of}
use Rattle.rule_ranges.specs.Enter.{new_if, new, entries}
use Rattle.rule_steps.specs.declared.Lengths.{Lengths}
use Rattle.rule_steps.specs.Given.{State, counts_after, after, room_for}
use Rattle.rule_safety.specs.Safe.{Within, Added, Safe}
use Rattle.rule_safety.proofs.Laws.Put.{before_puts, take_puts_before, at_puts, take_puts_all, before_lay, length_lay, laid}
use Rattle.rule_safety.proofs.Laws.Blocks.{Block, In, tops_in_lem, join, deeper, whole, whole_trees, whole_depths, tops_within}
use Rattle.rule_safety.proofs.Laws.Carried.{Over, node_kept, carried}
use Rattle.rule_safety.proofs.Laws.Laid.{GivenFits, given_block}

-- 10, test by test
pub record Room (l : Lengths) (c : Counts) : Type 0 where
  pub records : c.records ≤ max_records
  pub records_lent : c.records * record_cells ≤ l.records
  pub side : c.side ≤ max_side
  pub side_lent : c.side ≤ l.side
  pub tops : c.tops ≤ max_tops
  pub tops_lent : c.tops ≤ l.tops
  pub range : c.range ≤ max_range
  pub range_lent : c.range * range_cells ≤ l.range
  pub terms : c.terms ≤ max_terms
  pub terms_lent : c.terms * term_cells ≤ l.terms

pub room : (l : Lengths) (c : Counts) → room_for l c ≡ true → Room l c
unfolding room_for
room l c h =
    let rs : Bool = leb c.records max_records && leb (c.records * record_cells) l.records in
    let ss : Bool = leb c.side max_side && leb c.side l.side in
    let ts : Bool = leb c.tops max_tops && leb c.tops l.tops in
    let gs : Bool = leb c.range max_range && leb (c.range * range_cells) l.range in
    let es : Bool = leb c.terms max_terms && leb (c.terms * term_cells) l.terms in
    let (a, e) = and_true (rs && ss && ts && gs) es h in
    let (b, g) = and_true (rs && ss && ts) gs a in
    let (d, t) = and_true (rs && ss) ts b in
    let (r, s) = and_true rs ss d in
    let (r1, r2) = both_at_most c.records max_records (c.records * record_cells) l.records r in
    let (s1, s2) = both_at_most c.side max_side c.side l.side s in
    let (t1, t2) = both_at_most c.tops max_tops c.tops l.tops t in
    let (g1, g2) = both_at_most c.range max_range (c.range * range_cells) l.range g in
    let (e1, e2) = both_at_most c.terms max_terms (c.terms * term_cells) l.terms e in
    record { records = r1; records_lent = r2; side = s1; side_lent = s2; tops = t1; tops_lent = t2; range = g1; range_lent = g2; terms = e1; terms_lent = e2 }

-- 1, from its comparisons
pub counts_fit_lem : (p : Problem) → Counted p → counts_fit p ≡ true
unfolding counts_fit
counts_fit_lem p c = rw (
  le-leb p.counts.records 512 c.records,
  le-leb (p.counts.records * 8) (length p.records) c.records_lent,
  le-leb p.counts.side 2048 c.side,
  le-leb p.counts.side (length p.side) c.side_lent,
  le-leb p.counts.tops 512 c.tops,
  le-leb p.counts.tops (length p.tops) c.tops_lent,
  le-leb p.counts.range 256 c.range,
  le-leb (p.counts.range * 2) (length p.range) c.range_lent,
  le-leb p.counts.terms 256 c.terms,
  le-leb p.counts.sorts 256 c.sorts,
)

-- a problem whose records are one block is not refused
pub block_accepted : (p : Problem) → Counted p → Block p 0 p.counts.records (top_level p) max_depth →
    ((i : ℕ) → i < p.counts.range → range_term p i < p.counts.terms) → Accepted p
unfolding cells_fit range_fits
block_accepted p c b range = record {
  counts = counts_fit_lem p c;
  cells = true_and (all (record_fits p) (from 0 p.counts.records)) (all (range_fits p) (from 0 p.counts.range))
      (from_all (record_fits p) 0 p.counts.records (λ r l h. b.fits r (record { low = l; high = h })))
      (from_all (range_fits p) 0 p.counts.range (λ i l h. lt-ltb (range_term p i) p.counts.terms (range i (omega arith))));
  trees = whole_trees p max_depth b;
  depths = whole_depths p b;
}

pub accepted_block : (p : Problem) → Accepted p → (d : ℕ) → Within d p → Block p 0 p.counts.records (top_level p) d
accepted_block p A d w = whole p A.trees d (λ r h. cells_record p r A.cells h) w

-- the same records where there are more terms and sorts
abbrev pub resized : Problem → ℕ → ℕ → Problem
resized p terms sorts = record {
  counts = record {
    records = p.counts.records;
    side = p.counts.side;
    tops = p.counts.tops;
    range = p.counts.range;
    terms = terms;
    sorts = sorts;
  };
  records = p.records;
  side = p.side;
  tops = p.tops;
  range = p.range;
}

pub wider : (p : Problem) (terms sorts : ℕ) → records_refusal p ≡ 0 → p.counts.terms ≤ terms → terms ≤ max_terms → p.counts.sorts ≤ sorts →
    sorts ≤ max_sorts → records_refusal (resized p terms sorts) ≡ 0
wider p terms sorts h t t' s s' =
    let A : Accepted p = accepted p h in
    let c : Counted p = counted p A.counts in
    let q : Problem = resized p terms sorts in
    let w : Over p q = record { records = λ j l. refl; side = refl; sides = omega arith; terms = t; sorts = s } in
    let c' : Counted q =
    record {
      records = c.records;
      records_lent = c.records_lent;
      side = c.side;
      side_lent = c.side_lent;
      tops = c.tops;
      tops_lent = c.tops_lent;
      range = c.range;
      range_lent = c.range_lent;
      terms = t';
      sorts = s';
    } in
    not_refused q (block_accepted q c'
    (carried p q w p.counts.records max_depth (top_level p) (accepted_block p A max_depth (tops_within p A.depths)) (omega arith))
    (λ i l. omega (arith, cells_range p i A.cells l)))

-- what enters the range is bound
new_bound : (marks ts : List ℕ) (t : ℕ) → Among t (new marks ts) → Among t ts
unfolding new new_if
new_bound marks [] t m = m
new_bound marks (x ∷ ts) t m = go (get_or marks x 0) m (new_bound (set marks x 1) ts t)
  where
    go : (v : ℕ) → Among t (new_if x v (new (set marks x 1) ts)) → (Among t (new (set marks x 1) ts) → Among t ts) → Among t (x ∷ ts)
    go zero (Memᴰ.head e) h = Memᴰ.head e
    go zero (Memᴰ.tail k) h = Memᴰ.tail (h k)
    go (suc v) k h = Memᴰ.tail (h k)

-- the problem of a state
abbrev pub problem_in : State → Problem
problem_in s = record { counts = s.counts; records = s.records; side = s.side; tops = s.tops; range = s.range }

-- the lists have the lengths that the room test takes them to have
pub record Long (l : Lengths) (p : Problem) : Type 0 where
  pub records : l.records ≡ length p.records
  pub side : l.side ≡ length p.side
  pub tops : l.tops ≡ length p.tops
  pub range : l.range ≡ length p.range

module _ (l : Lengths) (s : State) (o : Origin) (g : Given) (bound : List ℕ) (fresh : ℕ) where
  abbrev p : Problem
  p = problem_in s

  abbrev q : Problem
  q = problem_in (after s o g bound fresh)

  pub long_after : Long l p → Long l q
  unfolding after
  long_after h = record {
    records = h.records ∙ sym (length_lay o s.records s.counts.records (records_of s.counts.records s.counts.side g));
    side = h.side ∙ sym (length-sets s.side s.counts.side (side_of s.counts.records g));
    tops = h.tops ∙ sym (length-sets s.tops s.counts.tops (tops_of s.counts.records s.counts.side g));
    range = h.range ∙ sym (length-sets s.range (s.counts.range * range_cells) (entries o.place (new s.marks bound)));
  }

  module _ (A : Accepted p) (long : Long l p) (roomy : room_for l (counts_after s.counts s.marks g bound fresh) ≡ true)
      (fits : GivenFits (s.counts.terms + fresh) s.counts.sorts g) (low : (t : ℕ) → Among t bound → t < s.counts.terms + fresh) where
    rm : Room l (counts_after s.counts s.marks g bound fresh)
    rm = room l (counts_after s.counts s.marks g bound fresh) roomy

    abbrev n : ℕ
    n = s.counts.records

    abbrev m : ℕ
    m = s.counts.side

    abbrev entered : List ℕ
    entered = new s.marks bound

    counted_after : Counted q
    unfolding after counts_after
    counted_after =
        let h = long_after long in
        record {
          records = rm.records;
          records_lent = omega (arith, rm.records_lent, h.records);
          side = rm.side;
          side_lent = omega (arith, rm.side_lent, h.side);
          tops = rm.tops;
          tops_lent = omega (arith, rm.tops_lent, h.tops);
          range = rm.range;
          range_lent = omega (arith, rm.range_lent, h.range);
          terms = rm.terms;
          sorts = (counted p A.counts).sorts;
        }

    over : Over p q
    unfolding after counts_after
    over = record {
      records = λ j h. before_lay o s.records n j (records_of n m g) h;
      side = take_puts_before s.side m m (side_of n g) (omega arith);
      sides = omega arith;
      terms = omega arith;
      sorts = omega arith;
    }

    added_block : Block q n (length (records_of n m g)) (tops_of n m g) 3
    unfolding after counts_after
    added_block =
        given_block q n m g (laid o s.records n (records_of n m g) (omega (arith, rm.records_lent, long.records))) fits
        (part_puts s.side m (side_of n g) (omega (arith, rm.side_lent, long.side)), omega arith)

    tops_after : top_level q ≡ top_level p ++ tops_of n m g
    unfolding after counts_after
    tops_after = take_puts_all s.tops s.counts.tops (tops_of n m g) (omega (arith, rm.tops_lent, long.tops))

    whole_after : (d : ℕ) → 3 ≤ d → Within d p → Block q 0 q.counts.records (top_level q) d
    whole_after d h w =
        rw tops_after (unfold after in unfold counts_after in join q 0 n (length (records_of n m g)) d (top_level p) (tops_of n m g)
        (carried p q over n d (top_level p) (accepted_block p A d w) (omega arith))
        (rw zero-add (deeper q n (length (records_of n m g)) 3 d (tops_of n m g) h added_block)))

    entered_low : (j : ℕ) → j < length entered → get_or entered j 0 < s.counts.terms + fresh
    entered_low j h = low (get_or entered j 0) (new_bound s.marks bound (get_or entered j 0) (member_at entered j h))

    range_after : (i : ℕ) → i < q.counts.range → range_term q i < q.counts.terms
    unfolding after counts_after
    range_after i h = on (dec_lt i s.counts.range)
      where
        on : Dec (i < s.counts.range) →
            get_or (puts s.range (s.counts.range * 2) (entries o.place entered)) (i * 2) 0 < s.counts.terms + fresh
        on (yes k) = rw (before_puts s.range (s.counts.range * 2) (i * 2) (entries o.place entered) (omega arith)) (omega (arith, cells_range p i A.cells k))
        on (no k) =
            let j : ℕ = i - s.counts.range in
            let e : i * 2 ≡ s.counts.range * 2 + j * 2 = omega arith in
            let l : length (entries o.place entered) ≡ length entered * 2 = entries_length o.place entered in
            rw (e, at_puts s.range (s.counts.range * 2) (j * 2) (entries o.place entered) (omega (arith, rm.range_lent, long.range)) (omega arith), entry_term o.place entered j)
            (entered_low j (omega arith))

    pub accepted_after : Accepted q
    accepted_after = block_accepted q counted_after (whole_after max_depth (omega arith) (tops_within p A.depths)) range_after

    pub safe_after : Safe p q
    safe_after = record {
      taken = not_refused q accepted_after;
      more = unfold after in unfold counts_after in omega arith;
      kept = λ r h. node_kept p q over r h (cells_record p r A.cells h);
      tops = λ r k. rw tops_after (Memᴰ.append_left (tops_of n m g) k);
      once = λ r a. named_count q accepted_after.trees r a.below;
      shallow = λ r a. added_block.shallow r (suc r) (inside r a);
      within = λ d h w r k. (whole_after d h w).shallow r (suc r) (tops_in_lem q 0 q.counts.records d r (top_level q) (whole_after d h w) k);
    }
      where
        inside : (r : ℕ) → Added p q r → In n (length (records_of n m g)) r
        inside r a = unfold after in unfold counts_after in record { low = a.past; high = a.below }
