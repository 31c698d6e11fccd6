-- More sorts, more errors: where an update without marks fails, it fails with more sorts too, in every problem in which the
-- record stands; where it goes through, it gives more with more, or fails.
use Prim.Native.Nat.{ℕ, zero, suc, ◌<◌}
use Rattle.std.proofs.Math.Path.{◌≡◌, refl}
use Rattle.std.proofs.Common.{sym, ◌∙◌, arith, eqb-true}
use Rattle.std.specs.Prelude.{Bool, true, false, cond, eqb, get_or, set}
use mathlib.Core.List.Memᴰ
use mathlib.Core.List.{List, [], ◌∷◌, map}
use Rattle.std.proofs.Math.ListN.{length}
use Rattle.definition.specs.Lists.{Among, all}
use Rattle.definition.specs.Problem.{Problem, Node, eq, assign, and, xor, impossible, implies, node, children, terms_of}
use Rattle.definition.specs.Update.{is_sorted}
use Rattle.definition.specs.Fits.{Fits}
use Rattle.definition.proofs.Laws.Lists.{and_true}
use Rattle.definition.proofs.Laws.Refused.{record_terms}
use Rattle.meaning.specs.Words.{Has, renumbered, StandsIn}
use Rattle.meaning.proofs.Renumbered.{child_there, term_there}
use Rattle.meaning.proofs.Plain.{After, stuck, to, next, in_turn, Tried, none, one, more, tried, try_all, pick, plain_eq, plain_assign, sorted_in, plain_step, plain, Under, under_left, under_both, Grows, plain_grows}

-- what S gives is under what T gives
abbrev pub Larger : (ℕ → ℕ) → After → After → Type 0
Larger σ stuck stuck = Unit
Larger σ stuck (to T) = ⊥
Larger σ (to S) stuck = Unit
Larger σ (to S) (to T) = Under σ S T

module _ (σ : ℕ → ℕ) where
  -- from S under T, what T gives is over S
  over : (S T : List ℕ) → Under σ S T → (O : After) → Grows T O → Larger σ (to S) O
  over S T k stuck h = tt
  over S T k (to U) h = λ t s e. h.0 (σ t) s (k t s e)

  larger_cond : (S T : List ℕ) → Under σ S T → (b : Bool) → Larger σ (cond b (to S) stuck) (cond b (to T) stuck)
  larger_cond S T k true = k
  larger_cond S T k false = tt

  -- a term that takes its sort below, and has one above
  larger_sorted : (S T : List ℕ) (y s t : ℕ) → Has T (σ y) t → Under σ S T → (b : Bool) → (b ≡ true → t ≡ s) →
      Larger σ (to (set S y (suc s))) (cond b (to T) stuck)
  larger_sorted S T y s t h k true e = let i : t ≡ s = e refl in under_left σ S T y s (rw i at h) k
  larger_sorted S T y s t h k false e = tt

  larger_eq : (x y : ℕ) (S T : List ℕ) → σ x < length T → σ y < length T → Under σ S T → (v w v' w' : ℕ) → get_or S x 0 ≡ v →
      get_or S y 0 ≡ w → get_or T (σ x) 0 ≡ v' → get_or T (σ y) 0 ≡ w'
      → Grows T (plain_eq (σ x) (σ y) T v' w') → Larger σ (plain_eq x y S v w) (plain_eq (σ x) (σ y) T v' w')
  larger_eq x y S T lx ly k (suc s) zero zero w' ex ey ex' ey' g = absurd (omega (arith, k x s ex))
  larger_eq x y S T lx ly k (suc s) zero (suc s') zero ex ey ex' ey' g =
      let i : s' ≡ s = omega (arith, k x s ex) in
      rw i (under_both σ S T y s ey' ly k)
  larger_eq x y S T lx ly k (suc s) zero (suc s') (suc t') ex ey ex' ey' g =
      larger_sorted S T y s t' ey' k (eqb s' t') (λ e. omega (arith, eqb-true s' t' e, k x s ex))
  larger_eq x y S T lx ly k zero (suc s) v' zero ex ey ex' ey' g = absurd (omega (arith, k y s ey))
  larger_eq x y S T lx ly k zero (suc s) zero (suc s') ex ey ex' ey' g =
      let i : s' ≡ s = omega (arith, k y s ey) in
      rw i (under_both σ S T x s ex' lx k)
  larger_eq x y S T lx ly k zero (suc s) (suc t') (suc s') ex ey ex' ey' g =
      larger_sorted S T x s t' ex' k (eqb t' s') (λ e. omega (arith, eqb-true t' s' e, k y s ey))
  larger_eq x y S T lx ly k (suc s) (suc t) v' w' ex ey ex' ey' g =
      let i : v' ≡ suc s = sym ex' ∙ k x s ex in
      let j : w' ≡ suc t = sym ey' ∙ k y t ey in
      rw (i, j) (larger_cond S T k (eqb s t))
  larger_eq x y S T lx ly k zero zero v' w' ex ey ex' ey' g = over S T k (plain_eq (σ x) (σ y) T v' w') g

  larger_assign : (x s : ℕ) (S T : List ℕ) → σ x < length T → Under σ S T → (v v' : ℕ) → get_or S x 0 ≡ v →
      get_or T (σ x) 0 ≡ v' → Larger σ (plain_assign x s S v) (plain_assign (σ x) s T v')
  larger_assign x s S T l k zero zero e e' = under_both σ S T x s e' l k
  larger_assign x s S T l k zero (suc t) e e' = larger_sorted S T x s t e' k (eqb t s) (eqb-true t s)
  larger_assign x s S T l k (suc t) v' e e' =
      let i : v' ≡ suc t = sym e' ∙ k x t e in
      rw i (larger_cond S T k (eqb t s))

  -- children, one in p and one in q; m is the number of q's terms
  abbrev LargerKid : ℕ → (ℕ → List ℕ → After) → (ℕ → List ℕ → After) → ℕ → ℕ → Type 0
  LargerKid m u v c d = (S T : List ℕ) → length T ≡ m → Under σ S T → Larger σ (u c S) (v d T)

  abbrev GrowsKid : (ℕ → List ℕ → After) → Type 0
  GrowsKid v = (d : ℕ) (T : List ℕ) → Grows T (v d T)

  larger_turn : (m : ℕ) (u v : ℕ → List ℕ → After) (ρ : ℕ → ℕ) → GrowsKid v → (cs : List ℕ) → ((c : ℕ) → Among c cs →
      LargerKid m u v c (ρ c)) → (S T : List ℕ) → length T ≡ m → Under σ S T
      → Larger σ (in_turn u cs S) (in_turn v (map ρ cs) T)
  unfolding in_turn
  larger_turn m u v ρ grows [] kids S T l k = k
  larger_turn m u v ρ grows (c ∷ cs) kids S T l k =
      on (u c S) (v (ρ c) T) (kids c (Memᴰ.head refl) S T l k) (grows (ρ c) T) (larger_turn m u v ρ grows cs (λ d i. kids d (Memᴰ.tail i)))
    where
      -- an And in q that goes on after p's is stuck can't be
      on : (o O : After) → Larger σ o O → Grows T O → ((A B : List ℕ) → length B ≡ m → Under σ A B →
          Larger σ (in_turn u cs A) (in_turn v (map ρ cs) B))
          → Larger σ (next o (in_turn u cs)) (next O (in_turn v (map ρ cs)))
      on stuck stuck h g rest = tt
      on stuck (to B) h g rest = absurd h
      on (to A) stuck h g rest = last (in_turn u cs A)
        where
          last : (o : After) → Larger σ o stuck
          last stuck = tt
          last (to A) = tt
      on (to A) (to B) h g rest = rest A B (g.1 ∙ l) h

  -- the successes so far, below and above; S is under every success above
  abbrev LargerTried : List ℕ → Tried → Tried → Type 0
  LargerTried S none none = Unit
  LargerTried S none (one T) = ⊥
  LargerTried S none more = ⊥
  LargerTried S (one A) none = Unit
  LargerTried S (one A) (one B) = Under σ A B × Under σ S B
  LargerTried S (one A) more = ⊥
  LargerTried S more none = Unit
  LargerTried S more (one B) = Under σ S B
  LargerTried S more more = Unit

  larger_tried : (S : List ℕ) (k K : Tried) (o O : After) → LargerTried S k K → Larger σ o O → Larger σ (to S) O →
      LargerTried S (tried k o) (tried K O)
  larger_tried S none none stuck stuck h i j = tt
  larger_tried S none none stuck (to B) h i j = i
  larger_tried S none none (to A) stuck h i j = tt
  larger_tried S none none (to A) (to B) h i j = (i, j)
  larger_tried S none (one B) o O h i j = absurd h
  larger_tried S none more o O h i j = absurd h
  larger_tried S (one A) none stuck stuck h i j = tt
  larger_tried S (one A) none stuck (to B) h i j = absurd i
  larger_tried S (one A) none (to C) stuck h i j = tt
  larger_tried S (one A) none (to C) (to B) h i j = j
  larger_tried S (one A) (one B) stuck stuck h i j = h
  larger_tried S (one A) (one B) stuck (to D) h i j = absurd i
  larger_tried S (one A) (one B) (to C) stuck h i j = h.1
  larger_tried S (one A) (one B) (to C) (to D) h i j = tt
  larger_tried S (one A) more o O h i j = absurd h
  larger_tried S more none stuck stuck h i j = tt
  larger_tried S more none stuck (to B) h i j = absurd i
  larger_tried S more none (to C) stuck h i j = tt
  larger_tried S more none (to C) (to B) h i j = j
  larger_tried S more (one B) stuck stuck h i j = h
  larger_tried S more (one B) stuck (to D) h i j = absurd i
  larger_tried S more (one B) (to C) stuck h i j = h
  larger_tried S more (one B) (to C) (to D) h i j = tt
  larger_tried S more more stuck stuck h i j = tt
  larger_tried S more more stuck (to D) h i j = absurd i
  larger_tried S more more (to C) stuck h i j = tt
  larger_tried S more more (to C) (to D) h i j = tt

  larger_tries : (m : ℕ) (u v : ℕ → List ℕ → After) (ρ : ℕ → ℕ) → GrowsKid v → (S T : List ℕ) → length T ≡ m →
      Under σ S T → (cs : List ℕ) → ((c : ℕ) → Among c cs → LargerKid m u v c (ρ c))
      → (k K : Tried) → LargerTried S k K → LargerTried S (try_all u S k cs) (try_all v T K (map ρ cs))
  unfolding try_all
  larger_tries m u v ρ grows S T l k [] kids a b h = h
  larger_tries m u v ρ grows S T l k (c ∷ cs) kids a b h =
      larger_tries m u v ρ grows S T l k cs (λ d i. kids d (Memᴰ.tail i)) (tried a (u c S)) (tried b (v (ρ c) T))
      (larger_tried S a b (u c S) (v (ρ c) T) h (kids c (Memᴰ.head refl) S T l k) (over S T k (v (ρ c) T) (grows (ρ c) T)))

  larger_pick : (S T : List ℕ) → Under σ S T → (k K : Tried) → LargerTried S k K → Larger σ (pick S k) (pick T K)
  larger_pick S T u none none h = tt
  larger_pick S T u none (one B) h = absurd h
  larger_pick S T u none more h = absurd h
  larger_pick S T u (one A) none h = tt
  larger_pick S T u (one A) (one B) h = h.0
  larger_pick S T u (one A) more h = absurd h
  larger_pick S T u more none h = tt
  larger_pick S T u more (one B) h = h
  larger_pick S T u more more h = u

  sorted_up : (S T : List ℕ) → Under σ S T → (w : ℕ) → is_sorted (get_or S w 0) ≡ true → is_sorted (get_or T (σ w) 0) ≡ true
  sorted_up S T k w e = on (get_or S w 0) refl e
    where
      on : (v : ℕ) → get_or S w 0 ≡ v → is_sorted v ≡ true → is_sorted (get_or T (σ w) 0) ≡ true
      on zero h i = unfold is_sorted in (let z : ◌≡◌ {A = ℕ} 0 1 = cc in absurd (omega arith))
      on (suc s) h i = unfold is_sorted in rw (k w s h) refl

  pub all_up : (S T : List ℕ) → Under σ S T → (ws : List ℕ) → sorted_in S ws ≡ true → sorted_in T (map σ ws) ≡ true
  unfolding all
  all_up S T k [] e = refl
  all_up S T k (w ∷ ws) e =
      let (h, i) = and_true (is_sorted (get_or S w 0)) (sorted_in S ws) e in
      rw (sorted_up S T k w h) (all_up S T k ws i)

  larger_implies : (m : ℕ) (u v : ℕ → List ℕ → After) (ρ : ℕ → ℕ) → GrowsKid v → (S T : List ℕ) → length T ≡ m →
      Under σ S T → (ws : List ℕ) (c : ℕ) → LargerKid m u v c (ρ c)
      → Larger σ (cond (sorted_in S ws) (u c S) (to S)) (cond (sorted_in T (map σ ws)) (v (ρ c) T) (to T))
  larger_implies m u v ρ grows S T l k ws c kid = on (sorted_in S ws) (sorted_in T (map σ ws)) (all_up S T k ws)
    where
      on : (b b' : Bool) → (b ≡ true → b' ≡ true) → Larger σ (cond b (u c S) (to S)) (cond b' (v (ρ c) T) (to T))
      on true true e = kid S T l k
      on true false e = let z : false ≡ true = e refl in let i : ◌≡◌ {A = ℕ} 0 1 = cc in absurd (omega arith)
      on false true e = over S T k (v (ρ c) T) (grows (ρ c) T)
      on false false e = k

  larger_step : (m : ℕ) (u v : ℕ → List ℕ → After) (ρ : ℕ → ℕ) → GrowsKid v → (n : Node) → ((t : ℕ) → Among t (terms_of n) →
      σ t < m) → ((c : ℕ) → Among c (children n) → LargerKid m u v c (ρ c))
      → (S T : List ℕ) → length T ≡ m → Under σ S T → Grows T (plain_step v (renumbered ρ σ n) T) →
      Larger σ (plain_step u n S) (plain_step v (renumbered ρ σ n) T)
  larger_step m u v ρ grows (eq x y) terms kids S T l k g =
      larger_eq x y S T (rw l (terms x (Memᴰ.head refl))) (rw l (terms y (Memᴰ.tail (Memᴰ.head refl)))) k
      (get_or S x 0) (get_or S y 0) (get_or T (σ x) 0) (get_or T (σ y) 0) refl refl refl refl g
  larger_step m u v ρ grows (assign x s) terms kids S T l k g =
      larger_assign x s S T (rw l (terms x (Memᴰ.head refl))) k (get_or S x 0) (get_or T (σ x) 0) refl refl
  larger_step m u v ρ grows (and cs) terms kids S T l k g = larger_turn m u v ρ grows cs kids S T l k
  larger_step m u v ρ grows (xor cs) terms kids S T l k g =
      larger_pick S T k (try_all u S none cs) (try_all v T none (map ρ cs)) (larger_tries m u v ρ grows S T l k cs kids none none tt)
  larger_step m u v ρ grows (impossible h e) terms kids S T l k g = tt
  larger_step m u v ρ grows (implies ws c) terms kids S T l k g =
      larger_implies m u v ρ grows S T l k ws c (kids c (Memᴰ.head refl))

module _ (p q : Problem) (ρ σ : ℕ → ℕ) (stands : StandsIn p q ρ σ) where
  pub plain_larger : (d e r : ℕ) → Fits p d r → Fits q e (ρ r) → (S T : List ℕ) → length T ≡ q.counts.terms →
      Under σ S T → Larger σ (plain p d r S) (plain q e (ρ r) T)
  unfolding plain
  plain_larger zero e r fit fit' S T l k = absurd fit
  plain_larger (suc d) zero r fit fit' S T l k = absurd fit'
  plain_larger (suc d) (suc e) r fit fit' S T l k =
      let n : node q (ρ r) ≡ renumbered ρ σ (node p r) = stands.trees r fit.below in
      rw n (larger_step σ q.counts.terms (plain p d) (plain q e) ρ (plain_grows q e) (node p r)
      (λ t m. record_terms q (ρ r) (σ t) fit'.values (rw n (term_there ρ σ (node p r) t m)))
      (λ c m. plain_larger d e c (fit.kids c m) (fit'.kids (ρ c) (rw n (child_there ρ σ (node p r) c m))))
      S T l k (rw n at (plain_grows q (suc e) (ρ r) T)))
