-- No second outcome: any two results that meet a public function's contract for the same arguments are equal, with all that
-- is bound at exit.
use mathlib.Core.Path.{◌≡◌, refl}
use Rattle.definition.proofs.Laws.Once.{Once, one}
use Rattle.rule_signatures.proofs as f

pub simple_once : Once 0 f.SimpleTypeConstraint.new.Kinds.ps f.SimpleTypeConstraint.new.Kinds.r f.SimpleTypeConstraint.new.Reads.Post
simple_once κs a o o' p q i = (one p q i, _)

pub bare_once : Once 0 f.AllEqualTypeConstraint.new.Kinds.ps f.AllEqualTypeConstraint.new.Kinds.r f.AllEqualTypeConstraint.new.Reads.Post
bare_once κs a o o' p q i = (one p q i, _)

pub with_common_once : Once 0 f.AllEqualTypeConstraint.with_all_arguments_sort.Kinds.ps f.AllEqualTypeConstraint.with_all_arguments_sort.Kinds.r f.AllEqualTypeConstraint.with_all_arguments_sort.Reads.Post
with_common_once κs a o o' p q i = (one p q i, _)

pub with_length_once : Once 0 f.AllEqualTypeConstraint.with_exact_length.Kinds.ps f.AllEqualTypeConstraint.with_exact_length.Kinds.r f.AllEqualTypeConstraint.with_exact_length.Reads.Post
with_length_once κs a o o' p q i = (one p q i, _)

pub with_output_once : Once 0 f.AllEqualTypeConstraint.with_output_sort.Kinds.ps f.AllEqualTypeConstraint.with_output_sort.Kinds.r f.AllEqualTypeConstraint.with_output_sort.Reads.Post
with_output_once κs a o o' p q i = (one p q i, _)

pub laid_once : Once 3 f.given.laid.Kinds.ps f.given.laid.Kinds.r f.given.laid.Reads.Post
laid_once κs a o o' p q i = (one p.0.count q.0.count i, (_, (_, (_, (_, (one p.0.records q.0.records i, _))))))

pub laid_fixed_once : Once 3 f.given.laid_fixed.Kinds.ps f.given.laid_fixed.Kinds.r f.given.laid_fixed.Reads.Post
laid_fixed_once κs a o o' p q i = (one p.0.count q.0.count i, (_, (_, (_, (one p.0.records q.0.records i, _)))))

pub some_unbound_once : Once 2 f.given.some_unbound.Kinds.ps f.given.some_unbound.Kinds.r f.given.some_unbound.Reads.Post
some_unbound_once κs a o o' p q i = (one p q i, _)

pub is_empty_once : Once 0 f.given.is_empty.Kinds.ps f.given.is_empty.Kinds.r f.given.is_empty.Reads.Post
is_empty_once κs a o o' p q i = (one p q i, _)

pub signature_cell_once : Once 1 f.table.signature_cell.Kinds.ps f.table.signature_cell.Kinds.r f.table.signature_cell.Reads.Post
signature_cell_once κs a o o' p q i = (one p q i, _)

pub kind_at_once : Once 1 f.table.kind_at.Kinds.ps f.table.kind_at.Kinds.r f.table.kind_at.Reads.Post
kind_at_once κs a o o' p q i = (one p q i, _)

pub head_at_once : Once 1 f.table.head_at.Kinds.ps f.table.head_at.Kinds.r f.table.head_at.Reads.Post
head_at_once κs a o o' p q i = (one p q i, _)

pub mask_at_once : Once 1 f.table.mask_at.Kinds.ps f.table.mask_at.Kinds.r f.table.mask_at.Reads.Post
mask_at_once κs a o o' p q i = (one p q i, _)

pub read_signature_once : Once 1 f.table.read_signature.Kinds.ps f.table.read_signature.Kinds.r f.table.read_signature.Reads.Post
read_signature_once κs a o o' p q i = (one p q i, _)

pub term_kind_once : Once 1 f.table.term_kind.Kinds.ps f.table.term_kind.Kinds.r f.table.term_kind.Reads.Post
term_kind_once κs a o o' p q i = (one p q i, _)

pub term_value_once : Once 1 f.table.term_value.Kinds.ps f.table.term_value.Kinds.r f.table.term_value.Reads.Post
term_value_once κs a o o' p q i = (one p q i, _)

pub known_sort_once : Once 1 f.table.known_sort.Kinds.ps f.table.known_sort.Kinds.r f.table.known_sort.Reads.Post
known_sort_once κs a o o' p q i = (one p q i, _)

pub is_unbound_once : Once 1 f.table.is_unbound.Kinds.ps f.table.is_unbound.Kinds.r f.table.is_unbound.Reads.Post
is_unbound_once κs a o o' p q i = (one p q i, _)

-- what is proved of the code is what callers learn
pub simple_told : f.SimpleTypeConstraint.new.Reads.Learnt ≡ f.SimpleTypeConstraint.new.Reads.Post
simple_told = refl

pub bare_told : f.AllEqualTypeConstraint.new.Reads.Learnt ≡ f.AllEqualTypeConstraint.new.Reads.Post
bare_told = refl

pub with_common_told : f.AllEqualTypeConstraint.with_all_arguments_sort.Reads.Learnt ≡ f.AllEqualTypeConstraint.with_all_arguments_sort.Reads.Post
with_common_told = refl

pub with_length_told : f.AllEqualTypeConstraint.with_exact_length.Reads.Learnt ≡ f.AllEqualTypeConstraint.with_exact_length.Reads.Post
with_length_told = refl

pub with_output_told : f.AllEqualTypeConstraint.with_output_sort.Reads.Learnt ≡ f.AllEqualTypeConstraint.with_output_sort.Reads.Post
with_output_told = refl

pub laid_told : f.given.laid.Reads.Learnt ≡ f.given.laid.Reads.Post
laid_told = refl

pub laid_fixed_told : f.given.laid_fixed.Reads.Learnt ≡ f.given.laid_fixed.Reads.Post
laid_fixed_told = refl

pub some_unbound_told : f.given.some_unbound.Reads.Learnt ≡ f.given.some_unbound.Reads.Post
some_unbound_told = refl

pub is_empty_told : f.given.is_empty.Reads.Learnt ≡ f.given.is_empty.Reads.Post
is_empty_told = refl

pub signature_cell_told : f.table.signature_cell.Reads.Learnt ≡ f.table.signature_cell.Reads.Post
signature_cell_told = refl

pub kind_at_told : f.table.kind_at.Reads.Learnt ≡ f.table.kind_at.Reads.Post
kind_at_told = refl

pub head_at_told : f.table.head_at.Reads.Learnt ≡ f.table.head_at.Reads.Post
head_at_told = refl

pub mask_at_told : f.table.mask_at.Reads.Learnt ≡ f.table.mask_at.Reads.Post
mask_at_told = refl

pub read_signature_told : f.table.read_signature.Reads.Learnt ≡ f.table.read_signature.Reads.Post
read_signature_told = refl

pub term_kind_told : f.table.term_kind.Reads.Learnt ≡ f.table.term_kind.Reads.Post
term_kind_told = refl

pub term_value_told : f.table.term_value.Reads.Learnt ≡ f.table.term_value.Reads.Post
term_value_told = refl

pub known_sort_told : f.table.known_sort.Reads.Learnt ≡ f.table.known_sort.Reads.Post
known_sort_told = refl

pub is_unbound_told : f.table.is_unbound.Reads.Learnt ≡ f.table.is_unbound.Reads.Post
is_unbound_told = refl
