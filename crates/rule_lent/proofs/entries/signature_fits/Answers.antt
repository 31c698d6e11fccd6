-- By the kind that was read: the first three kinds test their part of the sorts alike.
use Rattle.std.proofs.Common.{inl, inr}
use Rattle.rule_lent.proofs.ByKind.{signature_told}
use Rattle.rule_lent.proofs.entries.signature_fits.Goals as goal

pub returns-in_default : goal.returns-in_default
returns-in_default c = rw (signature_told _ _ _ _ _ c.signature_kind.ensures, c.in_default.is)

pub returns-in-Function : goal.returns-in-Function
returns-in-Function c =
    rw (signature_told _ _ _ _ _ c.signature_kind.ensures, c.in-Ok.is, c.part_fits.ensures, c.signature_cell.ensures, c.signature_cell-in-Function.ensures)
    (elim c.in-Function.is [ inl e ↦ rw e | inr d ↦ elim d [ inl e ↦ rw e | inr e ↦ rw e ] ])

pub returns-in-AllEqualPrimitive : goal.returns-in-AllEqualPrimitive
returns-in-AllEqualPrimitive c =
    rw (signature_told _ _ _ _ _ c.signature_kind.ensures, c.in-Ok.is, c.in-AllEqualPrimitive.is, c.shape_fits.ensures, c.signature_cell-in-AllEqualPrimitive.ensures, c.signature_cell-in-AllEqualPrimitive-2.ensures, c.signature_cell-in-AllEqualPrimitive-3.ensures)
