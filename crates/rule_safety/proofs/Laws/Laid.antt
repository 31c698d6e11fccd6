-- What an atom or an action gives is a block, of depth at most 3.
use Prim.Native.Nat.{ℕ, suc, ◌+◌, ◌≤◌, ◌<◌}
use Rattle.std.proofs.Common.{arith, ◌∙◌, length-append, lt-ltb, le-leb}
use Rattle.std.proofs.Math.Numerals.{add-one}
use Rattle.std.specs.Prelude.{◌≡◌, true, leb, ltb}
use Rattle.std.proofs.Math.Path.{refl, ap}
use mathlib.Core.List.{List, [], ◌∷◌, ◌++◌}
use Rattle.std.proofs.Math.ListN.{length}
use Rattle.definition.specs.Sizes.{max_expected}
use Rattle.definition.specs.Lists.{from}
use Rattle.definition.specs.Problem.{Problem, node_of, node}
use Rattle.definition.specs.Refusal.{values_fit, record_fits}
use Rattle.definition.proofs.Laws.Lists.{true_and, from_length}
use Rattle.rule_cells.specs.Put.{Record, eq, assign, and, xor, impossible}
use Rattle.rule_heads.specs.Alternatives.{Given, plain, choice}
use Rattle.rule_heads.specs.Layout.{and_records, and_side, and_numbers, records_of, side_of, tops_of}
use Rattle.rule_heads.specs.Turns.{numbers_length}
use Rattle.rule_safety.proofs.Laws.Put.{At, at_append, Is, Standing, standing_append}
use Rattle.rule_safety.proofs.Laws.Blocks.{kids, Block, nothing, deeper, join, parent}

-- a constraint without children whose values are in range
abbrev pub LeafFits : ℕ → ℕ → Record → Type 0
LeafFits terms sorts (eq x y) = (x < terms) × (y < terms)
LeafFits terms sorts (assign x s) = (x < terms) × (s < sorts)
LeafFits terms sorts (and a n) = ⊥
LeafFits terms sorts (xor a n) = ⊥
LeafFits terms sorts (impossible h e) = (1 ≤ e) × (e ≤ max_expected)

abbrev pub LeavesFit : ℕ → ℕ → List Record → Type 0
LeavesFit terms sorts [] = Unit {0}
LeavesFit terms sorts (r ∷ rs) = LeafFits terms sorts r × LeavesFit terms sorts rs

abbrev pub AltsFit : ℕ → ℕ → List (List Record) → Type 0
AltsFit terms sorts [] = Unit {0}
AltsFit terms sorts (rs ∷ alts) = LeavesFit terms sorts rs × AltsFit terms sorts alts

abbrev pub GivenFits : ℕ → ℕ → Given → Type 0
GivenFits terms sorts (plain rs) = LeavesFit terms sorts rs
GivenFits terms sorts (choice rs alts) = LeavesFit terms sorts rs × AltsFit terms sorts alts

module _ (q : Problem) where
  -- `join` where the second block's start and the whole's size are known by equations
  joins : (n k m j t d : ℕ) (ts us : List ℕ) → m ≡ n + k → t ≡ k + j → Block q n k ts d → Block q m j us d → Block q n t (ts ++ us) d
  joins n k m j t d ts us e f b c = rw f (join q n k j d ts us b (rw e at c))

  leaf_fits : (n : ℕ) (r : Record) → Is q.records n r → LeafFits q.counts.terms q.counts.sorts r → record_fits q n ≡ true
  unfolding record_fits values_fit
  leaf_fits n (eq x y) i f =
      rw (i.kind, i.first, i.second)
      (true_and (ltb x q.counts.terms) (ltb y q.counts.terms) (lt-ltb x q.counts.terms f.0) (lt-ltb y q.counts.terms f.1))
  leaf_fits n (assign x s) i f =
      rw (i.kind, i.first, i.second)
      (true_and (ltb x q.counts.terms) (ltb s q.counts.sorts) (lt-ltb x q.counts.terms f.0) (lt-ltb s q.counts.sorts f.1))
  leaf_fits n (and a k) i f = absurd f
  leaf_fits n (xor a k) i f = absurd f
  leaf_fits n (impossible h e) i f = rw (i.kind, i.second) (true_and (leb 1 e) (leb e max_expected) (le-leb 1 e f.0) (le-leb e max_expected f.1))

  leaf_kids : (n : ℕ) (r : Record) → Is q.records n r → LeafFits q.counts.terms q.counts.sorts r → kids q n ≡ []
  unfolding node node_of
  leaf_kids n (eq x y) i f = rw i.kind
  leaf_kids n (assign x s) i f = rw i.kind
  leaf_kids n (and a k) i f = absurd f
  leaf_kids n (xor a k) i f = absurd f
  leaf_kids n (impossible h e) i f = rw i.kind

  leaf : (n : ℕ) (r : Record) → Is q.records n r → LeafFits q.counts.terms q.counts.sorts r → Block q n 1 (n ∷ []) 1
  leaf n r i f =
      let e : n + 0 ≡ n = omega arith in
      rw e at (parent q n 0 0 [] (nothing q n 0) (rw e (leaf_fits n r i f)) (rw e (leaf_kids n r i f)))

  leaves : (n : ℕ) (rs : List Record) → Standing q.records n rs → LeavesFit q.counts.terms q.counts.sorts rs →
      Block q n (length rs) (from n (length rs)) 1
  unfolding from
  leaves n [] i f = nothing q n 1
  leaves n (r ∷ rs) i f =
      joins n 1 (suc n) (length rs) (suc (length rs)) 1 (n ∷ []) (from (suc n) (length rs)) (omega arith) (omega arith)
      (leaf n r i.0 f.0) (leaves (suc n) rs i.1 f.1)

  -- an And or an Xor behind its children, which are a part of the side list
  abbrev pub Names : ℕ → List ℕ → Type 0
  Names m ts = At q.side m ts × (m + length ts ≤ q.counts.side)

  names_append : (m : ℕ) (ts us : List ℕ) → Names m (ts ++ us) → Names m ts × Names (m + length ts) us
  names_append m ts us h =
      let (a, b) = at_append q.side m ts us h.0 in
      let e = length-append ts us in
      ((a, omega (arith, h.1)), (b, omega (arith, h.1)))

  and_parent : (n k d m : ℕ) (ts : List ℕ) → Block q n k ts d → Is q.records (n + k) (and m (length ts)) → Names m ts →
      Block q n (suc k) ((n + k) ∷ []) (suc d)
  unfolding record_fits values_fit node node_of
  and_parent n k d m ts b i h =
      parent q n k d ts b (rw (i.kind, i.first, i.second) (le-leb (m + length ts) q.counts.side h.1)) (rw (i.kind, i.first, i.second) h.0)

  xor_parent : (n k d m : ℕ) (ts : List ℕ) → Block q n k ts d → Is q.records (n + k) (xor m (length ts)) → Names m ts →
      Block q n (suc k) ((n + k) ∷ []) (suc d)
  unfolding record_fits values_fit node node_of
  xor_parent n k d m ts b i h =
      parent q n k d ts b (rw (i.kind, i.first, i.second) (le-leb (m + length ts) q.counts.side h.1)) (rw (i.kind, i.first, i.second) h.0)

  ands : (n m : ℕ) (alts : List (List Record)) → Standing q.records n (and_records m alts) → AltsFit q.counts.terms q.counts.sorts alts →
      Names m (and_side n alts) → Block q n (length (and_records m alts)) (and_numbers n alts) 2
  unfolding and_records and_side and_numbers
  ands n m [] i f h = nothing q n 2
  ands n m (rs ∷ alts) i f h =
      let k : ℕ = length rs in
      let rest : List Record = and_records (m + k) alts in
      let (front, back) = standing_append q.records n rs (and m k ∷ rest) i in
      let (own, others) = names_append m (from n k) (and_side (suc (n + k)) alts) h in
      let e : length (from n k) ≡ k = from_length n k in
      let one : Block q n (suc k) ((n + k) ∷ []) 2 =
      and_parent n k 1 m (from n k) (leaves n rs front f.0) (rw e back.0) own in
      joins n (suc k) (suc (n + k)) (length rest) (length (rs ++ and m k ∷ rest)) 2 ((n + k) ∷ []) (and_numbers (suc (n + k)) alts) (omega arith)
      (length-append rs (and m k ∷ rest) ∙ omega arith) one (ands (suc (n + k)) (m + k) alts back.1 f.1 (rw e at others))

  choices : (n m : ℕ) (rs : List Record) (alts : List (List Record)) → Standing q.records n (records_of n m (choice rs alts)) →
      GivenFits q.counts.terms q.counts.sorts (choice rs alts) → Names m (side_of n (choice rs alts)) →
      Block q n (length (records_of n m (choice rs alts))) (tops_of n m (choice rs alts)) 3
  unfolding records_of side_of tops_of
  choices n m rs alts i f h =
      let n' : ℕ = n + length rs in
      let as' : List Record = and_records m alts in
      let top : Record = xor (m + length (and_side n' alts)) (length alts) in
      let (front, back) = standing_append q.records n rs (as' ++ top ∷ []) i in
      let (kids_stand, top_stands) = standing_append q.records n' as' (top ∷ []) back in
      let (own, others) = names_append m (and_side n' alts) (and_numbers n' alts) h in
      let e : length (and_numbers n' alts) ≡ length alts = numbers_length n' alts in
      let whole : Block q n' (suc (length as')) ((n' + length as') ∷ []) 3 =
      xor_parent n' (length as') 2 (m + length (and_side n' alts)) (and_numbers n' alts) (ands n' m alts kids_stand f.1 own) (rw e top_stands.0) others in
      joins n (length rs) n' (suc (length as')) (length (rs ++ (as' ++ top ∷ []))) 3 (from n (length rs)) ((n' + length as') ∷ []) refl
      (length-append rs (as' ++ top ∷ []) ∙ ap (λ (k : ℕ). length rs + k) (length-append as' (top ∷ []) ∙ add-one (length as')))
      (deeper q n (length rs) 1 3 (from n (length rs)) (omega arith) (leaves n rs front f.0)) whole

  pub given_block : (n m : ℕ) (g : Given) → Standing q.records n (records_of n m g) → GivenFits q.counts.terms q.counts.sorts g →
      Names m (side_of n g) → Block q n (length (records_of n m g)) (tops_of n m g) 3
  given_block n m (plain rs) i f h = unfold records_of in unfold tops_of in deeper q n (length rs) 1 3 (from n (length rs)) (omega arith) (leaves n rs i f)
  given_block n m (choice rs alts) i f h = choices n m rs alts i f h
