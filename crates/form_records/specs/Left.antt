-- What the check over records answers, and the flat list that it leaves.
use Rattle.std.specs.Prelude.{ℕ, zero, suc, ◌*◌, ◌≡◌, ◌&&◌, List, leb, length, take}
use Rattle.definition.specs.declared.Counts.{Counts}
use Rattle.definition.specs.Sizes.{record_cells}
use Rattle.definition.specs.Problem.{Problem}
use Rattle.definition.specs.Refusal.{records_refusal, unless}
use Rattle.solve_records.specs.Lent.{lent}
use Rattle.rule_cells.specs.Put.{puts}
use Rattle.form_records.specs.declared.Record.{Record}
use Rattle.form_records.specs.Cells.{flat}

-- the problem that the records give: their cells, as far as the flat list has room for them
abbrev pub given : Counts → List Record → List ℕ → List ℕ → List ℕ → List ℕ → Problem
given counts records side tops range old = lent counts (take (length old) (flat records)) side tops range

-- a refusal leaves the flat list alone; else the counted records' cells stand at its front
unfoldable pub left_on : ℕ → ℕ → List ℕ → List ℕ → List ℕ
left_on zero count cells old = puts old 0 (take (count * record_cells) cells)
left_on (suc n) count cells old = old

pub record Checked (counts : Counts) (records : List Record) (side tops range old : List ℕ) (r : ℕ) (left : List ℕ) : Type 0 where
  pub number : r ≡ records_refusal (given counts records side tops range old)
  pub cells : left ≡ left_on r counts.records (flat records) old

-- the same over cells that were laid out before, of so many records lent
pub record Left (counts : Counts) (lent_records : ℕ) (laid side tops range old : List ℕ) (r : ℕ) (left : List ℕ) : Type 0 where
  pub number : r ≡ unless (leb counts.records lent_records && leb (counts.records * record_cells) (length old)) 1 (records_refusal (lent counts laid side tops range))
  pub cells : left ≡ left_on r counts.records laid old
