-- What the functions that lay out constraints leave, field by field.
use Rattle.std.specs.Prelude.{ℕ, suc, ◌+◌, ◌≤◌, ◌≡◌, List, length}
use Rattle.rule_cells.specs.declared.Origin.{Origin}
use Rattle.definition.specs.Lists.{from}
use Rattle.rule_cells.specs.Put.{Record, puts, lay}
use Rattle.rule_heads.specs.declared.Cursor.{Cursor}
use Rattle.rule_heads.specs.Alternatives.{Given}
use Rattle.rule_heads.specs.Layout.{and_records, and_side, and_numbers, xor_records, xor_side, records_of, side_of, tops_of}

-- Numbers small enough that none wraps. An atom or an action starts at most at 20000 (`most`), far above the largest counts; its literals and
-- globals are at most 2049, and its alternatives, at most 257 of at most 2051 records each, end below 550000.
pub record Room (most : ℕ) (c : Cursor) (found args : List ℕ) : Type 0 where
  pub records : c.records ≤ most
  pub side : c.side ≤ 20000
  pub tops : c.tops ≤ 20000
  pub alternatives : length found ≤ 257
  pub arguments : length args ≤ 2049

-- the Ands of alternatives
pub record Ands (o : Origin) (c : Cursor) (alts : List (List Record)) (r r' s s' a a' : List ℕ) (c' : Cursor) : Type 0 where
  pub records : r' ≡ lay o r c.records (and_records c.side alts)
  pub side : s' ≡ puts s c.side (and_side c.records alts)
  pub ands : a' ≡ puts a 0 (and_numbers c.records alts)
  pub at_record : c'.records ≡ c.records + length (and_records c.side alts)
  pub at_side : c'.side ≡ c.side + length (and_side c.records alts)
  pub few : c'.records ≤ 550000
  pub few_side : c'.side ≤ 550000

-- the same while alternatives are left: what these give from here is what all give from the start
pub record AndsLeft (o : Origin) (c : Cursor) (all rest : List (List Record)) (r₀ s₀ a₀ r s a : List ℕ) (n m i : ℕ) : Type 0 where
  pub records : lay o r n (and_records m rest) ≡ lay o r₀ c.records (and_records c.side all)
  pub side : puts s m (and_side n rest) ≡ puts s₀ c.side (and_side c.records all)
  pub ands : puts a i (and_numbers n rest) ≡ puts a₀ 0 (and_numbers c.records all)
  pub at_record : n + length (and_records m rest) ≡ c.records + length (and_records c.side all)
  pub at_side : m + length (and_side n rest) ≡ c.side + length (and_side c.records all)

-- and their Xor
pub record Xored (o : Origin) (c : Cursor) (alts : List (List Record)) (r r' s s' : List ℕ) (c' : Cursor) : Type 0 where
  pub records : r' ≡ lay o r c.records (xor_records c.records c.side alts)
  pub side : s' ≡ puts s c.side (xor_side c.records alts)
  pub at_record : c'.records ≡ suc (c.records + length (and_records c.side alts))
  pub at_side : c'.side ≡ c.side + length (xor_side c.records alts)
  pub few : c'.records ≤ 550001

-- so many constraints that stand by themselves: their numbers are top-level entries
pub record Plain (c : Cursor) (count : ℕ) (t t' : List ℕ) (c' : Cursor) : Type 0 where
  pub tops : t' ≡ puts t c.tops (from c.records count)
  pub at_record : c'.records ≡ c.records + count
  pub at_side : c'.side ≡ c.side
  pub at_top : c'.tops ≡ c.tops + count

-- all constraints of an atom or an action
pub record Written (o : Origin) (c : Cursor) (g : Given) (r r' s s' t t' : List ℕ) (c' : Cursor) : Type 0 where
  pub records : r' ≡ lay o r c.records (records_of c.records c.side g)
  pub side : s' ≡ puts s c.side (side_of c.records g)
  pub tops : t' ≡ puts t c.tops (tops_of c.records c.side g)
  pub at_record : c'.records ≡ c.records + length (records_of c.records c.side g)
  pub at_side : c'.side ≡ c.side + length (side_of c.records g)
  pub at_top : c'.tops ≡ c.tops + length (tops_of c.records c.side g)
