-- Blocks: records that stand one after another, of which some are named from outside the block.
use Prim.Native.Nat.{ℕ, zero, suc, ◌+◌, ◌≤◌, ◌<◌}
use native.Mathlib.Omega.{arith}
use Rattle.std.proofs.Math.Decide.{dec_lt}
use Rattle.std.specs.Prelude.{◌≡◌, refl, ◌⊎◌, true, List, [], ◌∷◌, ◌++◌}
use Rattle.std.proofs.Math.Path.{sym}
use Rattle.std.proofs.Common.{ap, ◌∙◌, subst, inl, inr, append-nil}
use mathlib.Core.List.Memᴰ
use Rattle.std.proofs.Math.Dec.{leb, ltb, eqb}
use borrow.Author.Tests.{lt-ltb, eq-eqb, le-leb, leb-true}
use Rattle.definition.specs.Sizes.{max_depth}
use Rattle.definition.specs.Lists.{Among, from, all, count, largest, joined}
use Rattle.definition.specs.Problem.{Problem, children, node, top_level}
use Rattle.definition.specs.Refusal.{record_fits, children_below, named, named_once, trees_fit, depth_within, depth, depth_fits}
use Rattle.definition.proofs.Laws.Lists.{from_add, from_snoc, from_member, from_all, all_member, member_all, true_and, count_append, joined_append, joined_member, member_count, count_member, count_none, member_largest, largest_bound, largest_same}
use Rattle.definition.proofs.Laws.Sums.{count_from}
use Rattle.definition.proofs.Laws.Refused.{child_below, named_below, named_count, depth_step}
use Rattle.rule_safety.specs.Safe.{Within}

abbrev pub kids : Problem → ℕ → List ℕ
kids q r = children (node q r)

-- r is one of the k records from n on
pub record In (n k r : ℕ) : Type 0 where
  pub low : n ≤ r
  pub high : r < n + k

-- The k records from n on, of which those in `tops` are named from outside: values in range, children below their parents,
-- each named once by a parent of the block or by `tops`, none more than d levels deep.
pub record Block (q : Problem) (n k : ℕ) (tops : List ℕ) (d : ℕ) : Type 0 where
  pub fits : (r : ℕ) → In n k r → record_fits q r ≡ true
  pub below : (r c : ℕ) → In n k r → Among c (kids q r) → c < r
  pub once : (x : ℕ) → count x (joined (kids q) (from n k)) + count x tops ≡ count x (from n k)
  pub shallow : (r m : ℕ) → In n k r → depth_within q m r ≤ d

module _ (q : Problem) where
  pub nothing : (n d : ℕ) → Block q n 0 [] d
  unfolding joined from count
  nothing n d = record { fits = λ r i. absurd (omega arith); below = λ r c i m. absurd (omega arith); once = λ x. refl; shallow = λ r m i. absurd (omega arith) }

  -- what is named from outside lies in the block
  pub tops_in_lem : (n k d x : ℕ) (tops : List ℕ) → Block q n k tops d → Among x tops → In n k x
  tops_in_lem n k d x tops b m =
      let h : 1 ≤ count x (from n k) = omega (arith, b.once x, member_count x tops m) in
      let (l, u) = from_member n k x (count_member x (from n k) h) in
      record { low = l; high = u }

  -- a looser bound
  pub deeper : (n k d e : ℕ) (tops : List ℕ) → d ≤ e → Block q n k tops d → Block q n k tops e
  deeper n k d e tops h b = record { fits = b.fits; below = b.below; once = b.once; shallow = λ r m i. omega (arith, b.shallow r m i) }

  -- two blocks, one behind the other
  pub join : (n k j d : ℕ) (ts us : List ℕ) → Block q n k ts d → Block q (n + k) j us d → Block q n (k + j) (ts ++ us) d
  join n k j d ts us b c = record {
    fits = λ r i. go (λ r. record_fits q r ≡ true) b.fits c.fits r i;
    below = λ r x i. go (λ r. Among x (kids q r) → x < r) (λ r i. b.below r x i) (λ r i. c.below r x i) r i;
    once = λ x. rw (from_add n k j) (omega (
      arith,
      ap (count x) (joined_append (kids q) (from n k) (from (n + k) j)),
      count_append x (joined (kids q) (from n k)) (joined (kids q) (from (n + k) j)),
      count_append x (from n k) (from (n + k) j),
      count_append x ts us,
      b.once x,
      c.once x,
    ));
    shallow = λ r m i. go (λ r. depth_within q m r ≤ d) (λ r i. b.shallow r m i) (λ r i. c.shallow r m i) r i;
  }
    where
      go : (P : ℕ → Type 0) → ((r : ℕ) → In n k r → P r) → ((r : ℕ) → In (n + k) j r → P r) → (r : ℕ) → In n (k + j) r → P r
      go P f g r i = on (dec_lt r (n + k))
        where
          on : Dec (r < n + k) → P r
          on (yes h) = f r (record { low = i.low; high = h })
          on (no h) = g r (record { low = omega arith; high = omega arith })

  -- a parent behind its children
  parent_depth : (d r m : ℕ) (ts : List ℕ) → kids q r ≡ ts → ((x i : ℕ) → Among x ts → depth_within q i x ≤ d) → depth_within q m r ≤ suc d
  unfolding depth_within
  parent_depth d r zero ts e h = omega arith
  parent_depth d r (suc m) ts e h = rw e (omega (arith, largest_bound (depth_within q m) d ts (λ x i. h x m i)))

  pub parent : (n k d : ℕ) (ts : List ℕ) → Block q n k ts d → record_fits q (n + k) ≡ true → kids q (n + k) ≡ ts →
      Block q n (suc k) ((n + k) ∷ []) (suc d)
  parent n k d ts b f e = record {
    fits = λ r i. go (λ r. record_fits q r ≡ true) b.fits f r i;
    below = λ r x i. go (λ r. Among x (kids q r) → x < r) (λ r i. b.below r x i) (low x) r i;
    once = λ x. rw (from_snoc n k) (omega (
      arith,
      ap (count x) (joined_append (kids q) (from n k) ((n + k) ∷ [])),
      count_append x (joined (kids q) (from n k)) (joined (kids q) ((n + k) ∷ [])),
      count_append x (from n k) ((n + k) ∷ []),
      ap (count x) only,
      b.once x,
    ));
    shallow = λ r m i. go (λ r. depth_within q m r ≤ suc d) (λ r i. omega (arith, b.shallow r m i)) (deep m) r i;
  }
    where
      only : joined (kids q) ((n + k) ∷ []) ≡ ts
      only = unfold joined in rw e (append-nil ts)

      low : (x : ℕ) → Among x (kids q (n + k)) → x < n + k
      low x m = (tops_in_lem n k d x ts b (subst (λ (l : List ℕ). Among x l) e m)).high

      deep : (m : ℕ) → depth_within q m (n + k) ≤ suc d
      deep m = parent_depth d (n + k) m ts e (λ x i j. b.shallow x i (tops_in_lem n k d x ts b j))

      go : (P : ℕ → Type 0) → ((r : ℕ) → In n k r → P r) → P (n + k) → (r : ℕ) → In n (suc k) r → P r
      go P f g r i = on (dec_lt r (n + k))
        where
          on : Dec (r < n + k) → P r
          on (yes h) = f r (record { low = i.low; high = h })
          on (no h) = let e : n + k ≡ r = omega arith in subst P e g

-- the depth of records whose children are the same in two problems
pub same_depth : (p q : Problem) (n : ℕ) → ((r : ℕ) → r < n → kids q r ≡ kids p r) → ((r c : ℕ) → r < n → Among c (kids p r) → c < r) → (m r : ℕ) →
    r < n → depth_within q m r ≡ depth_within p m r
unfolding depth_within
same_depth p q n e b zero r h = refl
same_depth p q n e b (suc m) r h =
    rw (e r h) (ap suc (largest_same (depth_within q m) (depth_within p m) (kids p r) (λ c i.
    let l : c < r = b r c h i in
    same_depth p q n e b m c (omega arith))))

-- A problem whose records are one block, named from outside by its top-level entries, is not refused by 3 and 4, and back.
module _ (p : Problem) where
  abbrev size : ℕ
  size = p.counts.records

  abbrev Whole : ℕ → Type 0
  Whole d = Block p 0 size (top_level p) d

  named_counted : (d : ℕ) → Whole d → (x : ℕ) → count x (named p) ≡ count x (from 0 size)
  unfolding named
  named_counted d b x = count_append x (joined (kids p) (from 0 size)) (top_level p) ∙ b.once x

  pub whole_trees : (d : ℕ) → Whole d → trees_fit p ≡ true
  unfolding trees_fit named_once children_below
  whole_trees d b =
      true_and (all (children_below p) (from 0 size)) (named_once p)
      (from_all (children_below p) 0 size (λ r l h. member_all (λ c. ltb c r) (kids p r) (λ c m. lt-ltb c r (b.below r c (record { low = l; high = h }) m))))
      (true_and (all (λ r. ltb r size) (named p)) (all (λ r. eqb (count r (named p)) 1) (from 0 size))
      (member_all (λ r. ltb r size) (named p) (λ r m. lt-ltb r size (low r m)))
      (from_all (λ r. eqb (count r (named p)) 1) 0 size (λ r l h. eq-eqb (count r (named p)) 1 (named_counted d b r ∙ count_from 0 size r l h))))
    where
      low : (r : ℕ) → Among r (named p) → r < size
      low r m =
          let k : 1 ≤ count r (from 0 size) = omega (arith, named_counted d b r, member_count r (named p) m) in
          let (l, u) = from_member 0 size r (count_member r (from 0 size) k) in
          omega arith

  pub whole_depths : Whole max_depth → depth_fits p ≡ true
  unfolding depth_fits
  whole_depths b = member_all (λ r. leb (depth p r) max_depth) (top_level p) (λ r m.
      le-leb (depth p r) max_depth (b.shallow r (suc r) (tops_in_lem p 0 size max_depth r (top_level p) b m)))

  pub tops_within : depth_fits p ≡ true → Within max_depth p
  unfolding depth_fits
  tops_within h r m = leb-true (depth p r) max_depth (all_member (λ r. leb (depth p r) max_depth) r (top_level p) h m)

  -- less fuel measures less; more than enough measures no more
  less_fuel : (m k r : ℕ) → m ≤ k → depth_within p m r ≤ depth_within p k r
  unfolding depth_within
  less_fuel zero k r h = omega arith
  less_fuel (suc m) zero r h = absurd (omega arith)
  less_fuel (suc m) (suc k) r h =
      let e = largest_bound (depth_within p m) (largest (depth_within p k) (kids p r)) (kids p r)
      (λ c i. omega (arith, less_fuel m k c (omega arith), member_largest (depth_within p k) c (kids p r) i)) in
      omega arith

  module _ (trees : trees_fit p ≡ true) where
    enough_fuel : (m r : ℕ) → r < size → depth_within p m r ≤ depth p r
    unfolding depth_within
    enough_fuel zero r h = omega arith
    enough_fuel (suc m) r h =
        let e = largest_bound (depth_within p m) (largest (depth_within p r) (kids p r)) (kids p r)
        (λ c i.
        let l : c < r = child_below p trees r c h i in
        omega (arith, enough_fuel m c (omega arith), less_fuel (suc c) r c l, member_largest (depth_within p r) c (kids p r) i)) in
        omega arith

    -- every record lies below a top-level one, so none is deeper than those are
    all_within : (d : ℕ) → Within d p → (j r : ℕ) → r < size → size ≤ r + j → depth p r ≤ d
    unfolding named
    all_within d w zero r h l = absurd (omega arith)
    all_within d w (suc j) r h l =
        go (Memᴰ.append_cases (joined (kids p) (from 0 size)) (count_member r (named p) (omega (arith, named_count p trees r h)))) (all_within d w j)
      where
        go : Among r (joined (kids p) (from 0 size)) ⊎ Among r (top_level p) → ((x : ℕ) → x < size → size ≤ x + j → depth p x ≤ d) → depth p r ≤ d
        go (inr m) above = w r m
        go (inl m) above =
            let (x, i, c) = joined_member (kids p) r (from 0 size) m in
            let (a, b) = from_member 0 size x i in
            let s : x < size = omega arith in
            let b : r < x = child_below p trees x r s c in
            omega (arith, above x s (omega arith), depth_step p trees x s, member_largest (depth p) r (kids p x) c)

    pub whole : (d : ℕ) → ((r : ℕ) → r < size → record_fits p r ≡ true) → Within d p → Whole d
    whole d f w = record {
      fits = λ r i. f r (omega arith);
      below = λ r c i m. child_below p trees r c (omega arith) m;
      once = λ x. sym (count_append x (joined (kids p) (from 0 size)) (top_level p)) ∙ counted x (dec_lt x size);
      shallow = λ r m i. omega (arith, enough_fuel m r (omega arith), all_within d w size r (omega arith) (omega arith));
    }
      where
        counted : (x : ℕ) → Dec (x < size) → count x (joined (kids p) (from 0 size) ++ top_level p) ≡ count x (from 0 size)
        counted x (yes h) = unfold named in named_count p trees x h ∙ sym (count_from 0 size x (omega arith) (omega arith))
        counted x (no h) = unfold named in count_none x (named p) (λ m. h (named_below p trees x m)) ∙ sym (count_none x (from 0 size) (λ m. omega (arith, from_member 0 size x m)))
