-- The problem of a body that is not refused: laying and filling together leave the definition's.
use Prim.Native.Nat.{ℕ, ◌*◌, ◌≤◌}
use mathlib.Core.Path.{◌≡◌}
use mathlib.Core.List.{List}
use native.Mathlib.Omega.{arith}
use lib.ListN.{length, take}
use Rattle.rule_cells.specs.Laws.{front}
use Rattle.rule_ranges.specs.Laws.{entries_length}
use Rattle.rule_ranges.specs.Enter.{entries}
use Rattle.grounded_body.specs.declared.lay.Laid.{Laid}
use Rattle.grounded_body.specs.Body.{Body, Constraint}
use Rattle.grounded_body.specs.Layout.{records_in, side_in, cells_in, tops_in, constraints, range, grounded_problem}
use Rattle.grounded_body.specs.Parts.{Accepted, Lays, Filled, none_laid, Buffers, Built}
use Rattle.grounded_body.proofs.Laws.Standing.{cells_count}
use Rattle.grounded_body.proofs.Laws.Bodies.{sized}
use Rattle.grounded_body.proofs.Laws.Whole.{records_most, side_most, range_most, tops_few}
use Rattle.grounded_body.proofs.Laying.{tops_length}

module _ (b : Body) (ok : Accepted b) (R₀ S₀ T₀ X₀ R' S' T' X' : List ℕ) (lent : Buffers R₀ S₀ T₀ X₀) (laid : Laid) (e : ℕ)
    (x : Lays b.place none_laid (constraints b) R₀ S₀ T₀ laid R' S' T') (y : Filled b X₀ e X') where
  abbrev gs : List Constraint
  gs = constraints b

  abbrev vs : List ℕ
  vs = range b

  range_few : length vs ≤ 256
  range_few = omega (arith, range_most b ok, (sized b ok.sizes).terms_at_most)

  record_count_lem : laid.records ≡ records_in gs
  record_count_lem = omega (arith, x.record_count)

  side_count_lem : laid.side ≡ length (side_in gs)
  side_count_lem = omega (arith, x.side_count)

  top_count_lem : laid.tops ≡ length (tops_in 0 gs)
  top_count_lem = omega (arith, x.top_count, tops_length 0 gs)

  entry_count : e ≡ length vs
  entry_count = y.count

  records_are : take (laid.records * 8) R' ≡ cells_in b.place 0 0 gs
  records_are =
      front R₀ R' (cells_in b.place 0 0 gs) (laid.records * 8) x.records (omega (arith, record_count_lem, cells_count b.place 0 0 gs))
      (omega (arith, cells_count b.place 0 0 gs, records_most b ok, lent.record_room))

  side_is : take laid.side S' ≡ side_in gs
  side_is = front S₀ S' (side_in gs) laid.side x.cells side_count_lem (omega (arith, side_most b ok, lent.side_room))

  tops_are : take laid.tops T' ≡ tops_in 0 gs
  tops_are =
      front T₀ T' (tops_in 0 gs) laid.tops x.entries top_count_lem (omega (arith, tops_few 0 gs, records_most b ok, lent.top_room))

  entries_are : take (e * 2) X' ≡ entries b.place vs
  entries_are =
      front X₀ X' (entries b.place vs) (e * 2) y.cells
      (omega (arith, entry_count, entries_length b.place vs)) (omega (arith, entries_length b.place vs, range_few, lent.range_room))

  pub built : Built b (record { records = laid.records; side = laid.side; tops = laid.tops; range = e; terms = b.term_count; sorts = 1 }) R' S' T' X'
  unfolding grounded_problem
  built = record {
    problem = λ i. record {
      counts = record { records = record_count_lem i; side = side_count_lem i; tops = top_count_lem i; range = entry_count i; terms = b.term_count; sorts = 1 };
      records = records_are i;
      side = side_is i;
      tops = tops_are i;
      range = entries_are i;
    };
    records_used = omega (arith, record_count_lem, records_most b ok);
    side_used = omega (arith, side_count_lem, side_most b ok);
    tops_used = omega (arith, top_count_lem, tops_few 0 gs, records_most b ok);
    range_used = omega (arith, entry_count, range_few);
  }
