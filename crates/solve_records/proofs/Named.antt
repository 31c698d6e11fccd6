-- Marking the children of all records and then the top-level entries, from marks that are all 0, tests that the records are trees.
use Prim.Native.Nat.{ℕ, ◌+◌, ◌≤◌, ◌<◌}
use mathlib.Core.Path.{◌≡◌, refl, ◌∙◌, ap}
use mathlib.Core.Bool.{Bool, true, false, ◌&&◌}
use mathlib.Core.Logic.{⊎_elim}
use mathlib.Core.List.{List, []}
use native.Mathlib.Omega.{arith}
use lib.Dec.{ltb, eqb}
use lib.ListN.{get_or, replicate}
use borrow.Author.Tests.{ltb-true, lt-ltb, ne_eqb}
use Rattle.definition.specs.Sizes.{max_records}
use Rattle.definition.specs.Lists.{all, from, count, joined, Among}
use Rattle.definition.specs.Problem.{Problem, node, top_level}
use Rattle.definition.specs.Refusal.{children_below, named, named_once, trees_fit}
use Rattle.definition.proofs.Laws.Lists.{and_false, true_and, all_append, all_member, member_all, all_from_fails, all_same, count_append, from_member, joined_member}
use Rattle.definition.proofs.Laws.Kept.{cell_of_zeroes}
use Rattle.solve_records.specs.Lent.{lists, children_of}
use Rattle.solve_records.specs.Marks.{Twice, Marking, MarkingBelow}

abbrev pub no_marks : List ℕ
no_marks = replicate max_records 0

module _ (p : Problem) where
  -- what the records name, and their test
  abbrev below : Bool
  below = all (children_below (lists p.records p.side)) (from 0 p.counts.records)

  abbrev children : List ℕ
  children = joined (children_of p.records p.side) (from 0 p.counts.records)

  abbrev entries : List ℕ
  entries = top_level p

  -- the children of all records are marked, from no marks
  abbrev pub ChildrenMarked : List ℕ → Type 0
  ChildrenMarked marks = Marking below p.counts.records children no_marks marks true

  trees_are : trees_fit p ≡
      (below && (all (λ r. ltb r p.counts.records) (named p)
      && all (λ r. eqb (count r (named p)) 1) (from 0 p.counts.records)))
  unfolding trees_fit named_once children_below node
  trees_are = refl

  count_named : (k : ℕ) → count k (named p) ≡ count k children + count k entries
  unfolding named node
  count_named k = count_append k children entries

  -- a record that is named twice
  twice_fails : (x : ℕ) → x < p.counts.records → 2 ≤ count x children + count x entries → trees_fit p ≡ false
  twice_fails x l h =
      trees_are ∙ and_false below _ (and_false (all (λ r. ltb r p.counts.records) (named p)) _
      (all_from_fails (λ r. eqb (count r (named p)) 1) 0 p.counts.records x (omega arith) (omega arith)
      (ne_eqb (count x (named p)) 1 (λ e. omega (arith, count_named x)))))

  pub children_fail : Marking below p.counts.records children no_marks [] false →
      trees_fit p ≡ false
  children_fail m = ⊎_elim
      (λ (f : below ≡ false). trees_are ∙ rw f)
      (λ (d : Twice p.counts.records children no_marks). twice_fails d.number d.inside (omega (arith, d.again, cell_of_zeroes max_records d.number)))
      m

  module _ (marks : List ℕ) (m : ChildrenMarked marks) where
    names_fail : all (λ r. ltb r p.counts.records) entries ≡ false → all (λ r. ltb r p.counts.records) (named p) ≡ false
    unfolding named node
    names_fail f = all_append (λ r. ltb r p.counts.records) children entries ∙ and_false (all (λ r. ltb r p.counts.records) children) _ f

    pub entries_fail : MarkingBelow p.counts.records entries marks [] false → trees_fit p ≡ false
    entries_fail w = ⊎_elim
        (λ (f : all (λ r. ltb r p.counts.records) entries ≡ false).
        trees_are ∙ and_false below _ (rw (names_fail f)))
        (λ (d : Twice p.counts.records entries marks).
        twice_fails d.number d.inside (omega (arith, d.again, m.1.counted d.number, cell_of_zeroes max_records d.number)))
        w

    children_inside : all (λ r. ltb r p.counts.records) children ≡ true
    unfolding children_below
    children_inside = member_all (λ r. ltb r p.counts.records) children (λ x k.
        let g : ℕ → List ℕ = children_of p.records p.side in
        let ns : List ℕ = from 0 p.counts.records in
        let j : (r : ℕ) × Among r ns × Among x (g r) = joined_member g x ns k in
        let b : children_below (lists p.records p.side) j.0 ≡ true = all_member _ j.0 ns m.0 j.1 in
        let a : x < j.0 = ltb-true x j.0 (all_member (λ y. ltb y j.0) x (g j.0) b j.2) in
        lt-ltb x p.counts.records (omega (arith, from_member 0 p.counts.records j.0 j.1)))

    names_inside : (marks' : List ℕ) → MarkingBelow p.counts.records entries marks marks' true →
        all (λ r. ltb r p.counts.records) (named p) ≡ true
    unfolding named node
    names_inside marks' w =
        all_append (λ r. ltb r p.counts.records) children entries ∙ true_and (all (λ r. ltb r p.counts.records) children) _ children_inside w.0

    pub marks_tell : (marks' : List ℕ) → MarkingBelow p.counts.records entries marks marks' true →
        all (λ k. eqb (get_or marks' k 0) 1) (from 0 p.counts.records) ≡ trees_fit p
    marks_tell marks' w = rw (trees_are, m.0, names_inside marks' w)
        (all_same (λ k. eqb (get_or marks' k 0) 1) (λ r. eqb (count r (named p)) 1) (from 0 p.counts.records)
        (λ k l.
        let e : get_or marks' k 0 ≡ count k (named p) =
        omega (arith, w.1.counted k, m.1.counted k, cell_of_zeroes max_records k, count_named k) in
        ap (λ (x : ℕ). eqb x 1) e))
