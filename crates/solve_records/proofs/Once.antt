-- No second outcome: any two results that meet a public function's contract for the same arguments are equal, whatever is
-- bound at exit. And the two refusals ask nothing of a caller.
use mathlib.Core.Path.{◌≡◌, refl}
use contract.Lifetimes.{Lfts}
use borrow.Fn.Kinds.{Dens}
use Rattle.definition.proofs.Laws.Once.{Once, one}
use Rattle.definition.proofs.Laws.Numbers.{one_refusal}
use Rattle.solve_records.proofs as f

pub records_refusal_once : Once 1 f.records_refusal.Kinds.ps f.records_refusal.Kinds.r f.records_refusal.Reads.Post
records_refusal_once κs a o o' p q i = (one_refusal p q i, _)

pub cells_refusal_once : Once 1 f.cells_refusal.Kinds.ps f.cells_refusal.Kinds.r f.cells_refusal.Reads.Post
cells_refusal_once κs a o o' p q i = (one_refusal p q i, _)

pub read_record_once : Once 1 f.read_record.Kinds.ps f.read_record.Kinds.r f.read_record.Reads.Post
read_record_once κs a o o' p q i = (
  record {
    kind = one p.kind q.kind i;
    first = one p.first q.first i;
    second = one p.second q.second i;
    third = one p.third q.third i;
    place = one p.place q.place i;
  },
  _,
)

pub kind_once : Once 0 f.Rec.kind.Kinds.ps f.Rec.kind.Kinds.r f.Rec.kind.Reads.Post
kind_once κs a o o' p q i = (one p q i, _)

-- and of the tests that other crates use
pub within_once : Once 0 f.cells.within.Kinds.ps f.cells.within.Kinds.r f.cells.within.Reads.Post
within_once κs a o o' p q i = (one p q i, _)

pub both_below_once : Once 0 f.cells.both_below.Kinds.ps f.cells.both_below.Kinds.r f.cells.both_below.Reads.Post
both_below_once κs a o o' p q i = (one p q i, _)

pub part_fits_once : Once 0 f.cells.part_fits.Kinds.ps f.cells.part_fits.Kinds.r f.cells.part_fits.Reads.Post
part_fits_once κs a o o' p q i = (one p q i, _)

pub all_below_once : Once 1 f.cells.all_below.Kinds.ps f.cells.all_below.Kinds.r f.cells.all_below.Reads.Post
all_below_once κs a o o' p q i = (one p q i, _)

pub counts_fit_once : Once 1 f.cells.counts_fit.Kinds.ps f.cells.counts_fit.Kinds.r f.cells.counts_fit.Reads.Post
counts_fit_once κs a o o' p q i = (one p q i, _)

pub records_fit_once : Once 2 f.cells.records_fit.Kinds.ps f.cells.records_fit.Kinds.r f.cells.records_fit.Reads.Post
records_fit_once κs a o o' p q i = (one p q i, _)

pub range_fits_once : Once 1 f.cells.range_fits.Kinds.ps f.cells.range_fits.Kinds.r f.cells.range_fits.Reads.Post
range_fits_once κs a o o' p q i = (one p q i, _)

pub room_refusal_once : Once 0 f.room.room_refusal.Kinds.ps f.room.room_refusal.Kinds.r f.room.room_refusal.Reads.Post
room_refusal_once κs a o o' p q i = (one_refusal p q i, _)

-- what is proved of the code is what callers learn
pub records_refusal_told : f.records_refusal.Reads.Learnt ≡ f.records_refusal.Reads.Post
records_refusal_told = refl

pub cells_refusal_told : f.cells_refusal.Reads.Learnt ≡ f.cells_refusal.Reads.Post
cells_refusal_told = refl

-- nothing is asked
pub records_refusal_asks_nothing : (κs : Lfts 1) (a : Dens κs f.records_refusal.Kinds.ps) → f.records_refusal.Reads.Asked κs a
records_refusal_asks_nothing κs a = tt

pub cells_refusal_asks_nothing : (κs : Lfts 1) (a : Dens κs f.cells_refusal.Kinds.ps) → f.cells_refusal.Reads.Asked κs a
cells_refusal_asks_nothing κs a = tt
