-- No second outcome: any two results that meet a public function's contract for the same arguments are equal, with all that
-- is bound at exit. A part of a list is told by its cells alone: where it lies is left open.
use mathlib.Core.Path.{◌≡◌, refl}
use Rattle.definition.proofs.Laws.Once.{Once, one}
use Rattle.rule_cells.proofs as f

pub put_once : Once 1 f.put.Kinds.ps f.put.Kinds.r f.put.Reads.Post
put_once κs a o o' p q i = (_, (one p q i, _))

pub clear_once : Once 1 f.clear.Kinds.ps f.clear.Kinds.r f.clear.Reads.Post
clear_once κs a o o' p q i = (_, (one p q i, _))

pub put_all_once : Once 2 f.put_all.Kinds.ps f.put_all.Kinds.r f.put_all.Reads.Post
put_all_once κs a o o' p q i = (_, (one p q i, _))

pub put_numbers_once : Once 1 f.put_numbers.Kinds.ps f.put_numbers.Kinds.r f.put_numbers.Reads.Post
put_numbers_once κs a o o' p q i = (_, (one p q i, _))

pub put_record_once : Once 1 f.put_record.Kinds.ps f.put_record.Kinds.r f.put_record.Reads.Post
put_record_once κs a o o' p q i = (_, (one p q i, _))

pub cell_once : Once 1 f.cell.Kinds.ps f.cell.Kinds.r f.cell.Reads.Post
cell_once κs a o o' p q i = (one p q i, _)

pub field_once : Once 1 f.field.Kinds.ps f.field.Kinds.r f.field.Reads.Post
field_once κs a o o' p q i = (one p q i, _)

-- what is proved of the code is what callers learn
pub put_told : f.put.Reads.Learnt ≡ f.put.Reads.Post
put_told = refl

pub clear_told : f.clear.Reads.Learnt ≡ f.clear.Reads.Post
clear_told = refl

pub put_all_told : f.put_all.Reads.Learnt ≡ f.put_all.Reads.Post
put_all_told = refl

pub put_numbers_told : f.put_numbers.Reads.Learnt ≡ f.put_numbers.Reads.Post
put_numbers_told = refl

pub put_record_told : f.put_record.Reads.Learnt ≡ f.put_record.Reads.Post
put_record_told = refl

pub cell_told : f.cell.Reads.Learnt ≡ f.cell.Reads.Post
cell_told = refl

pub field_told : f.field.Reads.Learnt ≡ f.field.Reads.Post
field_told = refl
