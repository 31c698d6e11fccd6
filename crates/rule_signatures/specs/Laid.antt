-- What a function that lays out constraints leaves: the record list with them, and how many they are.
use Rattle.std.specs.Prelude.{ℕ, ◌≡◌, List, length}
use Rattle.rule_cells.specs.declared.Origin.{Origin}
use Rattle.rule_cells.specs.Put.{Record, lay}

pub record Laid (o : Origin) (before after : List ℕ) (n : ℕ) (given : List Record) (r : ℕ) : Type 0 where
  pub records : after ≡ lay o before n given
  pub count : r ≡ length given
