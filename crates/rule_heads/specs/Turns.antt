-- What the functions that lay out constraints need: a turn of the loop over alternatives, and each branch.
use Rattle.std.specs.Prelude.{ℕ, suc, ◌+◌, ◌-◌, ◌*◌, ◌≤◌, ◌<◌, ◌≡◌, get_or, set, take, drop}
use native.Mathlib.Omega.{arith}
use Rattle.std.proofs.Common.{add-zero, ap, ◌∙◌, drop_of_length-le, drop-cons}
use Rattle.std.proofs.Math.Numerals.{add-one}
use Rattle.std.proofs.Math.Path.{refl, sym}
use mathlib.Core.List.{List, [], ◌∷◌, ◌++◌, map}
use Rattle.std.proofs.Math.ListN.{length, length-append}
use Rattle.definition.specs.Sizes.{record_cells}
use Rattle.definition.specs.Lists.{from}
use Rattle.definition.proofs.Laws.Lists.{from_length}
use Rattle.rule_cells.specs.declared.Origin.{Origin}
use Rattle.rule_cells.specs.Put.{Record, eq, and, xor, puts, cells, lay}
use Rattle.rule_cells.specs.Laws.{puts_append, lay_append, take_puts}
use Rattle.rule_signatures.specs.Laid.{Laid}
use Rattle.rule_heads.specs.declared.Cursor.{Cursor}
use Rattle.rule_heads.specs.Alternatives.{plain, choice, given_by, head_gives}
use Rattle.rule_heads.specs.Layout.{and_records, and_side, and_numbers, records_of, side_of, tops_of}
use Rattle.rule_heads.specs.Written.{Ands, AndsLeft, Xored, Plain, Written}

pub numbers_length : (n : ℕ) (alts : List (List Record)) → length (and_numbers n alts) ≡ length alts
unfolding and_numbers
numbers_length n [] = refl
numbers_length n (rs ∷ alts) = ap suc (numbers_length (suc (n + length rs)) alts)

-- a turn of the loop over alternatives: rs are the constraints of this one, k many
module _ (o : Origin) (rs : List Record) (k n m : ℕ) (alts : List (List Record)) (e : k ≡ length rs) where
  pub ands_records : (r r₁ r₂ : List ℕ) → r₁ ≡ lay o r n rs → r₂ ≡ puts r₁ ((n + k) * record_cells) (cells o (and m k))
      → lay o r₂ (n + k + 1) (and_records (m + k) alts) ≡ lay o r n (and_records m (rs ∷ alts))
  unfolding and_records lay
  ands_records r r₁ r₂ e₁ e₂ = rw (lay_append o r n rs (and m (length rs) ∷ and_records (m + length rs) alts), e₂, e₁, e, add-one)

  pub ands_side : (s s₁ : List ℕ) → s₁ ≡ puts s m (from n k) → puts s₁ (m + k) (and_side (n + k + 1) alts) ≡ puts s m (and_side n (rs ∷ alts))
  unfolding and_side
  ands_side s s₁ e₁ = rw (puts_append s m (from n (length rs)) (and_side (suc (n + length rs)) alts), from_length n (length rs), e₁, e, add-one)

  pub ands_numbers : (a a₁ : List ℕ) (i : ℕ) → a₁ ≡ set a i (n + k) → puts a₁ (i + 1) (and_numbers (n + k + 1) alts) ≡ puts a i (and_numbers n (rs ∷ alts))
  unfolding and_numbers
  ands_numbers a a₁ i e₁ = rw (e₁, e, add-one, add-one)

  pub ands_count : length (and_records m (rs ∷ alts)) ≡ k + 1 + length (and_records (m + k) alts)
  unfolding and_records
  ands_count = rw (length-append rs (and m (length rs) ∷ and_records (m + length rs) alts), e) (omega arith)

  pub side_count_lem : length (and_side n (rs ∷ alts)) ≡ k + length (and_side (n + k + 1) alts)
  unfolding and_side
  side_count_lem = rw (length-append (from n (length rs)) (and_side (suc (n + length rs)) alts), from_length n (length rs), e, add-one)

pub ands_turn : (o : Origin) (c : Cursor) (all rest : List (List Record)) (r₀ s₀ a₀ r s a r₁ r₂ s₁ a₁ : List ℕ) (n m i k : ℕ) (rs : List Record)
    → AndsLeft o c all (rs ∷ rest) r₀ s₀ a₀ r s a n m i → Laid o r r₁ n rs k → r₂ ≡ puts r₁ ((n + k) * record_cells) (cells o (and m k)) → s₁ ≡ puts s m (from n k) → a₁ ≡ set a i (n + k)
    → AndsLeft o c all rest r₀ s₀ a₀ r₂ s₁ a₁ (n + k + 1) (m + k) (i + 1)
ands_turn o c all rest r₀ s₀ a₀ r s a r₁ r₂ s₁ a₁ n m i k rs h l e₂ es ea = record {
  records = ands_records o rs k n m rest l.count r r₁ r₂ l.records e₂ ∙ h.records;
  side = ands_side o rs k n m rest l.count s s₁ es ∙ h.side;
  ands = ands_numbers o rs k n m rest l.count a a₁ i ea ∙ h.ands;
  at_record = omega (arith, ands_count o rs k n m rest l.count, h.at_record);
  at_side = omega (arith, side_count_lem o rs k n m rest l.count, h.at_side);
}

pub ands_start : (o : Origin) (c : Cursor) (all : List (List Record)) (r s a : List ℕ) → AndsLeft o c all all r s a r s a c.records c.side 0
ands_start o c all r s a = record { records = refl; side = refl; ands = refl; at_record = refl; at_side = refl }

pub ands_end : (o : Origin) (c : Cursor) (all rest : List (List Record)) (r₀ s₀ a₀ r s a : List ℕ) (n m i t : ℕ) → rest ≡ [] → n ≤ 550000 → m ≤ 550000
    → AndsLeft o c all rest r₀ s₀ a₀ r s a n m i → Ands o c all r₀ r s₀ s a₀ a (record { records = n; side = m; tops = t })
unfolding lay and_records and_side and_numbers
ands_end o c all rest r₀ s₀ a₀ r s a n m i t e fn fm h = record {
  records = rw e at h.records;
  side = rw e at h.side;
  ands = rw e at h.ands;
  at_record = sym (add-zero n) ∙ (rw e at h.at_record);
  at_side = sym (add-zero m) ∙ (rw e at h.at_side);
  few = fn;
  few_side = fm;
}

-- what is left of a list of alternatives
pub map_left : (g : ℕ → List Record) (xs : List ℕ) (i : ℕ) → i < length xs → map g (drop i xs) ≡ g (get_or xs i 0) ∷ map g (drop (i + 1) xs)
map_left g xs i h = rw (add-one, drop-cons xs i 0 h)

pub map_done : (g : ℕ → List Record) (xs : List ℕ) (i : ℕ) → length xs ≤ i → map g (drop i xs) ≡ []
map_done g xs i h = rw (drop_of_length-le xs h)

-- the Xor after the Ands
module _ (o : Origin) (c : Cursor) (alts : List (List Record)) (n m count : ℕ) (r r₁ r₂ s s₁ s₂ a a₁ : List ℕ) where
  pub xored_records : r₁ ≡ lay o r c.records (and_records c.side alts) → n ≡ c.records + length (and_records c.side alts) → m ≡ c.side + length (and_side c.records alts)
      → count ≡ length alts → r₂ ≡ puts r₁ (n * record_cells) (cells o (xor m count))
      → r₂ ≡ lay o r c.records (and_records c.side alts ++ xor (c.side + length (and_side c.records alts)) (length alts) ∷ [])
  unfolding lay
  xored_records e₁ en em ec e₂ = rw (lay_append o r c.records (and_records c.side alts) (xor (c.side + length (and_side c.records alts)) (length alts) ∷ []), e₂, e₁, en, em, ec)

  pub xored_side : s₁ ≡ puts s c.side (and_side c.records alts) → m ≡ c.side + length (and_side c.records alts) → a₁ ≡ and_numbers c.records alts
      → s₂ ≡ puts s₁ m a₁ → s₂ ≡ puts s c.side (and_side c.records alts ++ and_numbers c.records alts)
  xored_side e₁ em ea e₂ = rw (puts_append s c.side (and_side c.records alts) (and_numbers c.records alts), e₂, e₁, em, ea)

-- the Ands' numbers read back from the list that they were put into
pub ands_back : (n : ℕ) (alts : List (List Record)) (a a' : List ℕ) (k : ℕ) → length a ≡ 257 → length alts ≤ 257 → a' ≡ puts a 0 (and_numbers n alts) → k ≡ length alts → take k a' ≡ and_numbers n alts
ands_back n alts a a' k la h e ek =
    let f : k ≡ length (and_numbers n alts) = ek ∙ sym (numbers_length n alts) in
    rw (f, e) (take_puts a (and_numbers n alts) (omega (arith, numbers_length n alts)))

-- constraints that stand by themselves
module _ (o : Origin) (c c' : Cursor) (r r' s t t' : List ℕ) (given : List Record) (k : ℕ) where
  pub written_plain : Laid o r r' c.records given k → Plain c k t t' c' → Written o c (plain given) r r' s s t t' c'
  unfolding records_of side_of tops_of
  written_plain h e = record {
    records = h.records;
    side = refl;
    tops = rw h.count at e.tops;
    at_record = rw h.count at e.at_record;
    at_side = e.at_side ∙ sym (add-zero c.side);
    at_top = rw (from_length c.records (length given)) (rw h.count at e.at_top);
  }

-- one more constraint after those, or a list of them
pub laid_more : (o : Origin) (n : ℕ) (r r₁ r₂ : List ℕ) (a b : List Record) (k j : ℕ) → Laid o r r₁ n a k → Laid o r₁ r₂ (n + k) b j → Laid o r r₂ n (a ++ b) (k + j)
laid_more o n r r₁ r₂ a b k j h g = record {
  records = rw (lay_append o r n a b, ← h.count, ← h.records) g.records;
  count = rw (length-append a b, ← h.count, ← g.count);
}

pub laid_one : (o : Origin) (n : ℕ) (r r₁ : List ℕ) (x y : ℕ) → r₁ ≡ puts r (n * record_cells) (cells o (eq x y)) → Laid o r r₁ n (eq x y ∷ []) 1
unfolding lay
laid_one o n r r₁ x y e = record { records = e; count = refl }

-- a head's constraints, by the number of its alternatives
module _ (sig signature_sorts args : List ℕ) (before : List Record) (found : List ℕ) where
  pub head_none : length found ≡ 0 → head_gives sig signature_sorts args before found ≡ plain before
  unfolding head_gives
  head_none = go found
    where
      go : (xs : List ℕ) → length xs ≡ 0 → head_gives sig signature_sorts args before xs ≡ plain before
      go [] e = refl
      go (x ∷ xs) e = absurd (omega arith)

  pub head_one : length found ≡ 1 → head_gives sig signature_sorts args before found ≡ plain (before ++ given_by sig signature_sorts args (get_or found 0 0))
  unfolding head_gives
  head_one = go found
    where
      go : (xs : List ℕ) → length xs ≡ 1 → head_gives sig signature_sorts args before xs ≡ plain (before ++ given_by sig signature_sorts args (get_or xs 0 0))
      go [] e = absurd (omega arith)
      go (x ∷ []) e = refl
      go (x ∷ y ∷ xs) e = absurd (omega arith)

  pub head_more : (length found ≡ 0 → ⊥) → (length found ≡ 1 → ⊥) → head_gives sig signature_sorts args before found ≡ choice before (map (given_by sig signature_sorts args) found)
  unfolding head_gives
  head_more = go found
    where
      go : (xs : List ℕ) → (length xs ≡ 0 → ⊥) → (length xs ≡ 1 → ⊥) → head_gives sig signature_sorts args before xs ≡ choice before (map (given_by sig signature_sorts args) xs)
      go [] h k = absurd (h refl)
      go (x ∷ []) h k = absurd (k refl)
      go (x ∷ y ∷ xs) h k = refl

-- an Xor of several
module _ (o : Origin) (c c₁ c₂ c' : Cursor) (before : List Record) (alts : List (List Record)) (k : ℕ) (r r₁ r₂ s s₂ t t₁ t₂ : List ℕ) where
  pub written_choice : Laid o r r₁ c.records before k → Xored o c₁ alts r₁ r₂ s s₂ c₂ → c₁.records ≡ c.records + k → c₁.side ≡ c.side
      → t₁ ≡ puts t c.tops (from c.records k) → t₂ ≡ set t₁ (c.tops + k) (c₂.records - 1)
      → c'.records ≡ c₂.records → c'.side ≡ c₂.side → c'.tops ≡ c.tops + (k + 1) → Written o c (choice before alts) r r₂ s s₂ t t₂ c'
  unfolding records_of side_of tops_of
  written_choice h x en em e₁ e₂ er es et =
      let n₁ : c₁.records ≡ c.records + length before = rw h.count at en in
      let top : c₂.records - 1 ≡ c.records + length before + length (and_records c.side alts) = rw (em, n₁) at (ap (λ (y : ℕ). y - 1) x.at_record) ∙ omega arith in
      record {
        records = rw (lay_append o r c.records before (and_records c.side alts ++ xor (c.side + length (and_side (c.records + length before) alts)) (length alts) ∷ [])) (rw (n₁, em, h.records) at x.records);
        side = rw (n₁, em) at x.side;
        tops = rw (puts_append t c.tops (from c.records (length before)) ((c.records + length before + length (and_records c.side alts)) ∷ []), from_length c.records (length before)) (rw (e₁, top, h.count) at e₂);
        at_record = rw (length-append before (and_records c.side alts ++ xor (c.side + length (and_side (c.records + length before) alts)) (length alts) ∷ []), length-append (and_records c.side alts) (xor (c.side + length (and_side (c.records + length before) alts)) (length alts) ∷ [])) (omega (arith, er, rw (em, n₁) at x.at_record));
        at_side = es ∙ (rw (n₁, em) at x.at_side);
        at_top = rw (length-append (from c.records (length before)) ((c.records + length before + length (and_records c.side alts)) ∷ []), from_length c.records (length before)) (rw h.count at et);
      }

pub xored_all : (o : Origin) (c ca : Cursor) (alts : List (List Record)) (count t : ℕ) (r r₁ r₂ s s₁ s₂ a a₁ p : List ℕ) → Ands o c alts r r₁ s s₁ a a₁ ca → count ≡ length alts → length a ≡ 257 → length alts ≤ 257
    → r₂ ≡ puts r₁ (ca.records * record_cells) (cells o (xor ca.side count)) → p ≡ take count (drop 0 a₁) → s₂ ≡ puts s₁ ca.side p
    → Xored o c alts r r₂ s s₂ (record { records = ca.records + 1; side = ca.side + count; tops = t })
xored_all o c ca alts count t r r₁ r₂ s s₁ s₂ a a₁ p h ec la few e₂ ep es = record {
  records = xored_records o c alts ca.records ca.side count r r₁ r₂ s s₁ s₂ a p h.records h.at_record h.at_side ec e₂;
  side = xored_side o c alts ca.records ca.side count r r₁ r₂ s s₁ s₂ a p h.side h.at_side (ep ∙ ands_back c.records alts a a₁ count la few h.ands ec) es;
  at_record = omega (arith, h.at_record);
  at_side = rw (length-append (and_side c.records alts) (and_numbers c.records alts), numbers_length c.records alts) (omega (arith, h.at_side));
  few = omega (arith, h.few);
}
