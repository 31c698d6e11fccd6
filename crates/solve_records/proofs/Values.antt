-- The test of a record's values, which reads the counts and the side list alone; and what a record that passes is like.
use Rattle.std.specs.Prelude.{ℕ, zero, suc, ◌+◌, ◌-◌, ◌≤◌, ◌<◌, ◌≡◌, refl, Bool, true, false, ◌&&◌, ◌||◌, eqb, List, [], length, take, drop, Result, Ok, Err}
use Rattle.std.proofs.Common.{sym, ap, arith, leb-true}
use Rattle.std.proofs.lemmas.Bool.{eqb-true}
use Rattle.definition.specs.declared.Kind.{Kind}
use Rattle.definition.specs.declared.Refusal.{Refusal}
use Rattle.definition.specs.Numbers.{kind_number, kind_of_number}
use Rattle.definition.specs.declared.Counts.{Counts}
use Rattle.definition.specs.Lists.{all, from}
use Rattle.definition.specs.Problem.{Problem, part, node_of, children, kind_of, value_of}
use Rattle.definition.specs.Refusal.{counts_fit, cells_fit, values_fit, record_fits, range_fits, children_below}
use Rattle.definition.proofs.Laws.Lists.{all_same}
use Rattle.definition.proofs.Laws.Refused.{Counted, counted, cells_record, values_same}
use Rattle.solve_records.specs.declared.Rec.{Rec}
use Rattle.solve_records.specs.Lent.{lent, lists, children_of, PartInside, Readable}
use Rattle.solve_records.specs.Read.{HasCells, children_read, read_node}
use Rattle.solve_records.specs.Marks.{Marking, MarkingBelow}

-- a part that goes from its start to its end
pub part_span : (side : List ℕ) (start n : ℕ) → take (start + n - start) (drop start side) ≡ part side start n
part_span side start n = let e : start + n - start ≡ n = omega arith in rw e

-- a kind is the one with that number; a number that is no kind's is above 5
numbered : Result Kind Refusal → ℕ
numbered (Ok kind) = kind_number kind
numbered (Err r) = 0

pub kind_is : (k : ℕ) (kind : Kind) → Ok kind ≡ kind_of_number k → k ≡ kind_number kind
unfolding numbered
kind_is zero kind e = sym (ap numbered e)
kind_is (suc zero) kind e = sym (ap numbered e)
kind_is (suc (suc zero)) kind e = sym (ap numbered e)
kind_is (suc (suc (suc zero))) kind e = sym (ap numbered e)
kind_is (suc (suc (suc (suc zero)))) kind e = sym (ap numbered e)
kind_is (suc (suc (suc (suc (suc zero))))) kind e = sym (ap numbered e)
kind_is (suc (suc (suc (suc (suc (suc k)))))) kind e = absurd (cc)

pub no_kind : (k : ℕ) (r : Refusal) → Err r ≡ kind_of_number k → 5 < k
no_kind zero r e = absurd (cc)
no_kind (suc zero) r e = absurd (cc)
no_kind (suc (suc zero)) r e = absurd (cc)
no_kind (suc (suc (suc zero))) r e = absurd (cc)
no_kind (suc (suc (suc (suc zero)))) r e = absurd (cc)
no_kind (suc (suc (suc (suc (suc zero))))) r e = absurd (cc)
no_kind (suc (suc (suc (suc (suc (suc k)))))) r e = omega arith

pub values_other : (p : Problem) (k a b : ℕ) → 5 < k → values_fit p k a b ≡ false
unfolding values_fit
values_other p zero a b h = absurd (omega arith)
values_other p (suc zero) a b h = absurd (omega arith)
values_other p (suc (suc zero)) a b h = absurd (omega arith)
values_other p (suc (suc (suc zero))) a b h = absurd (omega arith)
values_other p (suc (suc (suc (suc zero)))) a b h = absurd (omega arith)
values_other p (suc (suc (suc (suc (suc zero))))) a b h = absurd (omega arith)
values_other p (suc (suc (suc (suc (suc (suc k)))))) a b h = refl

-- the test of a record that was read
pub record_read : (c : Counts) (records side tops range : List ℕ) (i : ℕ) (rec : Rec) → HasCells records i rec →
    values_fit (lent c [] side [] []) rec.kind rec.first rec.second ≡ record_fits (lent c records side tops range) i
unfolding record_fits
record_read c records side tops range i rec h =
    rw (h.kind, h.first, h.second) (values_same (lent c [] side [] []) (lent c records side tops range) refl refl _ _ _)

-- 2 as two tests, each over what it reads
pub cells_apart : (c : Counts) (records side tops range : List ℕ) →
    cells_fit (lent c records side tops range) ≡
    (all (record_fits (lent c records side [] [])) (from 0 c.records) && all (range_fits (lent c [] [] [] range)) (from 0 c.range))
unfolding cells_fit record_fits range_fits
cells_apart c records side tops range =
    rw (all_same (record_fits (lent c records side tops range)) (record_fits (lent c records side [] [])) (from 0 c.records)
    (λ r m. values_same (lent c records side tops range) (lent c records side [] []) refl refl _ _ _))

pub cells_told : (c : Counts) (records side tops range : List ℕ) {a b t : Bool} → a ≡ all (record_fits (lent c records side [] [])) (from 0 c.records) → b ≡ all (range_fits (lent c [] [] [] range)) (from 0 c.range) →
    a && b ≡ t → cells_fit (lent c records side tops range) ≡ t
cells_told c records side tops range p q h = rw (cells_apart c records side tops range, ← p, ← q) h

-- a record past 1 and 2 can be read, with its children
inside : (p : Problem) (k a b : ℕ) → p.counts.side ≤ length p.side → values_fit p k a b ≡ true → PartInside p.side k a b
unfolding values_fit
inside p k a b l h = record {
  of_and = λ e. let w = leb-true (a + b) p.counts.side (rw e at h) in omega arith;
  of_xor = λ e. let w = leb-true (a + b) p.counts.side (rw e at h) in omega arith;
}

pub readable : (p : Problem) → counts_fit p ≡ true → cells_fit p ≡ true → (r : ℕ) → r < p.counts.records → Readable p.records p.side r
unfolding record_fits
readable p h k r l =
    let w : Counted p = counted p h in
    record { inside = omega arith; listed = inside p (kind_of p r) (value_of p r 1) (value_of p r 2) w.side_lent (cells_record p r k l) }

-- a part of the side list are the children of an And and of an Xor
pub children_listed : (side : List ℕ) (k a b c : ℕ) → eqb k 2 || eqb k 3 ≡ true → part side a b ≡ children (node_of side k a b c)
children_listed side k a b c h = go (eqb k 2) (eqb k 3) refl refl h
  where
    made : (n : ℕ) → k ≡ n → part side a b ≡ children (node_of side n a b c) → part side a b ≡ children (node_of side k a b c)
    made n e h = rw e h

    go : (x y : Bool) → eqb k 2 ≡ x → eqb k 3 ≡ y → x || y ≡ true → part side a b ≡ children (node_of side k a b c)
    go true y p q h = made 2 (eqb-true k 2 p) (unfold node_of in refl)
    go false true p q h = made 3 (eqb-true k 3 q) (unfold node_of in refl)
    go false false p q h = absurd (cc)

-- what has no children
pub children_none : (side : List ℕ) (k a b c : ℕ) → (k ≡ 2 → ⊥) → (k ≡ 3 → ⊥) → (k ≡ 5 → ⊥) → children (node_of side k a b c) ≡ []
unfolding node_of
children_none side zero a b c h2 h3 h5 = refl
children_none side (suc zero) a b c h2 h3 h5 = refl
children_none side (suc (suc zero)) a b c h2 h3 h5 = absurd (h2 refl)
children_none side (suc (suc (suc zero))) a b c h2 h3 h5 = absurd (h3 refl)
children_none side (suc (suc (suc (suc zero)))) a b c h2 h3 h5 = refl
children_none side (suc (suc (suc (suc (suc zero))))) a b c h2 h3 h5 = absurd (h5 refl)
children_none side (suc (suc (suc (suc (suc (suc k)))))) a b c h2 h3 h5 = refl

-- a record that was read: its part, and marking its children
pub part_read : {records side : List ℕ} {i : ℕ} {rec : Rec} → Readable records side i → HasCells records i rec →
    PartInside side rec.kind rec.first rec.second
part_read r h = rw (h.kind, h.first, h.second) r.listed

pub marking_read : (records side : List ℕ) (i : ℕ) (rec : Rec) → HasCells records i rec → (marks marks' : List ℕ) (r : Bool) →
    MarkingBelow i (children_read side rec) marks marks' r →
    Marking (children_below (lists records side) i) i (children_of records side i) marks marks' r
unfolding children_below
marking_read records side i rec h marks marks' r m = rw (read_node (lists records side) i rec h) m
