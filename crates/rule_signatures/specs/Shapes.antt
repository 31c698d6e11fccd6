-- SimpleTypeConstraint, and AllEqualTypeConstraint from `new` on, narrowed by its three methods.
use Rattle.std.specs.Prelude.{ℕ, Some, None}
use Rattle.rule_signatures.specs.declared.SimpleTypeConstraint.{SimpleTypeConstraint}
use Rattle.rule_signatures.specs.declared.AllEqualTypeConstraint.{AllEqualTypeConstraint}

abbrev pub simple : ℕ → ℕ → ℕ → SimpleTypeConstraint
simple head start count = record { head = head; start = start; count = count }

abbrev pub bare : ℕ → AllEqualTypeConstraint
bare head = record { head = head; common = None; length = None; output = None }

abbrev pub with_common : AllEqualTypeConstraint → ℕ → AllEqualTypeConstraint
with_common a s = record { head = a.head; common = Some s; length = a.length; output = a.output }

abbrev pub with_length : AllEqualTypeConstraint → ℕ → AllEqualTypeConstraint
with_length a n = record { head = a.head; common = a.common; length = Some n; output = a.output }

abbrev pub with_output : AllEqualTypeConstraint → ℕ → AllEqualTypeConstraint
with_output a s = record { head = a.head; common = a.common; length = a.length; output = Some s }
