-- By the kind that was read.
use Rattle.std.proofs.Common.{inl, inr}
use Rattle.rule_lent.proofs.ByKind.{term_told}
use Rattle.rule_lent.proofs.entries.term_fits.Goals as goal

pub returns-in_default : goal.returns-in_default
returns-in_default c = rw (term_told _ _ _ _ c.term_kind.ensures, c.in_default.is)

pub returns-in-Variable : goal.returns-in-Variable
returns-in-Variable c = rw (term_told _ _ _ _ c.term_kind.ensures, c.in-Ok.is) (elim c.in-Variable.is [ inl e ↦ rw e | inr e ↦ rw e ])

pub returns-in-Literal : goal.returns-in-Literal
returns-in-Literal c = rw (term_told _ _ _ _ c.term_kind.ensures, c.in-Ok.is, c.in-Literal.is, c.term_value.ensures)
