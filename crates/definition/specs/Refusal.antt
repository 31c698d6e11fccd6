-- Refusals 1 to 6: a test for each that passes where it is not given, and their order.
use Rattle.std.specs.Prelude.{ℕ, zero, suc, ◌+◌, ◌*◌, Bool, false, ◌&&◌, cond, List, ◌++◌, leb, ltb, eqb, length}
use Rattle.definition.specs.Sizes.{max_records, max_side, max_tops, max_range, max_terms, max_sorts, max_depth, max_expected, record_cells, range_cells, entry_cells, room_frames}
use Rattle.definition.specs.Lists.{from, all, count, largest, joined}
use Rattle.definition.specs.Problem.{Problem, children, node, part, kind_of, value_of, top_level, range_term}

-- 1: no count exceeds its largest size or its list
unfoldable pub counts_fit : Problem → Bool
counts_fit p =
    leb p.counts.records max_records && leb (p.counts.records * record_cells) (length p.records)
    && (leb p.counts.side max_side && leb p.counts.side (length p.side))
    && (leb p.counts.tops max_tops && leb p.counts.tops (length p.tops))
    && (leb p.counts.range max_range && leb (p.counts.range * range_cells) (length p.range))
    && leb p.counts.terms max_terms
    && leb p.counts.sorts max_sorts

-- 2: a term, a sort, an expected count, a part of the side list are in range
abbrev pub term_fits : Problem → ℕ → Bool
term_fits p t = ltb t p.counts.terms

abbrev pub sort_fits : Problem → ℕ → Bool
sort_fits p s = ltb s p.counts.sorts

abbrev pub expected_fits : ℕ → Bool
expected_fits e = leb 1 e && leb e max_expected

abbrev pub part_fits : Problem → ℕ → ℕ → Bool
part_fits p start n = leb (start + n) p.counts.side

-- the kind of a record is below 6 and its values are in range
unfoldable pub values_fit : Problem → ℕ → ℕ → ℕ → Bool
values_fit p zero a b = term_fits p a && term_fits p b
values_fit p (suc zero) a b = term_fits p a && sort_fits p b
values_fit p (suc (suc zero)) a b = part_fits p a b
values_fit p (suc (suc (suc zero))) a b = part_fits p a b
values_fit p (suc (suc (suc (suc zero)))) a b = expected_fits b
values_fit p (suc (suc (suc (suc (suc zero))))) a b = part_fits p a b && all (term_fits p) (part p.side a b)
values_fit p (suc (suc (suc (suc (suc (suc k)))))) a b = false

unfoldable pub record_fits : Problem → ℕ → Bool
record_fits p r = values_fit p (kind_of p r) (value_of p r 1) (value_of p r 2)

unfoldable pub range_fits : Problem → ℕ → Bool
range_fits p i = term_fits p (range_term p i)

unfoldable pub cells_fit : Problem → Bool
cells_fit p = all (record_fits p) (from 0 p.counts.records) && all (range_fits p) (from 0 p.counts.range)

-- 3: every child's number is below its parent's
unfoldable pub children_below : Problem → ℕ → Bool
children_below p r = all (λ c. ltb c r) (children (node p r))

-- what the records and then the top-level entries name
unfoldable pub named : Problem → List ℕ
named p = joined (λ r. children (node p r)) (from 0 p.counts.records) ++ top_level p

-- and every record is named exactly once, and nothing else is named
unfoldable pub named_once : Problem → Bool
named_once p =
    all (λ r. ltb r p.counts.records) (named p)
    && all (λ r. eqb (count r (named p)) 1) (from 0 p.counts.records)

unfoldable pub trees_fit : Problem → Bool
trees_fit p = all (children_below p) (from 0 p.counts.records) && named_once p

-- 4: a record's depth is one more than that of its deepest child. Children come first, so the record's number bounds it
unfoldable pub depth_within : Problem → ℕ → ℕ → ℕ
depth_within p zero r = 0
depth_within p (suc n) r = suc (largest (depth_within p n) (children (node p r)))

abbrev pub depth : Problem → ℕ → ℕ
depth p r = depth_within p (suc r) r

unfoldable pub depth_fits : Problem → Bool
depth_fits p = all (λ r. leb (depth p r) max_depth) (top_level p)

-- the number where the test fails, the rest where it passes
abbrev pub unless : Bool → ℕ → ℕ → ℕ
unless fits number rest = cond fits rest number

-- the first of 1 to 4 that is given, 0 where none is
unfoldable pub records_refusal : Problem → ℕ
records_refusal p =
    unless (counts_fit p) 1 (unless (cells_fit p) 2 (unless (trees_fit p) 3 (unless (depth_fits p) 4 0)))

-- 5: the work room has its cells. 6: the sort list has a cell for each term, the error list an entry for each record. Of so
-- many terms and records, by how many cells each of the three has
unfoldable pub room_refusal : (terms records work sort_list errors : ℕ) → ℕ
room_refusal terms records work sort_list errors =
    unless (leb (room_frames * (terms + records)) work) 5
    (unless (leb terms sort_list && leb (records * entry_cells) errors) 6 0)

-- the first of two refusals that is given
unfoldable pub first_given : ℕ → ℕ → ℕ
first_given zero next = next
first_given (suc n) next = suc n

-- the first of 1 to 6 that is given, 0 where none is
unfoldable pub refusal : Problem → List ℕ → List ℕ → List ℕ → ℕ
refusal p work sort_list errors =
    first_given (records_refusal p) (room_refusal p.counts.terms p.counts.records (length work) (length sort_list) (length errors))
