-- Updates without marks: what an update does to the sorts alone, each Xor tried whole, each Implies fired anew.
use Rattle.std.specs.Prelude.{ℕ, zero, suc, ◌<◌, ◌≡◌, refl, ◌⊎◌, Bool, true, false, cond, List, [], ◌∷◌, eqb, length, get_or, set}
use Rattle.std.proofs.Common.{sym, ◌∙◌, inl, inr, arith, length-set, get_or-set_same}
use mathlib.Core.List.Memᴰ
use Rattle.definition.specs.Lists.{Among, all}
use Rattle.definition.specs.Problem.{Problem, Node, eq, assign, and, xor, impossible, implies, node, children}
use Rattle.definition.specs.Update.{is_sorted}
use Rattle.definition.proofs.Laws.Kept.{cell_after_set}
use Rattle.meaning.specs.Words.{Has}
use Rattle.meaning.proofs.Renumbered.{same}

-- an error, or the sorts after
pub data After : Type 0 where
  stuck : After
  to : List ℕ → After

abbrev pub next : After → (List ℕ → After) → After
next stuck k = stuck
next (to S) k = k S

unfoldable pub in_turn : (ℕ → List ℕ → After) → List ℕ → List ℕ → After
in_turn u [] S = to S
in_turn u (c ∷ cs) S = next (u c S) (in_turn u cs)

-- no child has succeeded, one has, or more
pub data Tried : Type 0 where
  none : Tried
  one : List ℕ → Tried
  more : Tried

abbrev pub tried : Tried → After → Tried
tried none (to S) = one S
tried none stuck = none
tried (one S) (to T) = more
tried (one S) stuck = one S
tried more (to T) = more
tried more stuck = more

unfoldable pub try_all : (ℕ → List ℕ → After) → List ℕ → Tried → List ℕ → Tried
try_all u S k [] = k
try_all u S k (c ∷ cs) = try_all u S (tried k (u c S)) cs

abbrev pub pick : List ℕ → Tried → After
pick S none = stuck
pick S (one T) = to T
pick S more = to S

abbrev pub plain_eq : ℕ → ℕ → List ℕ → ℕ → ℕ → After
plain_eq x y S (suc s) zero = to (set S y (suc s))
plain_eq x y S zero (suc s) = to (set S x (suc s))
plain_eq x y S (suc s) (suc t) = cond (eqb s t) (to S) stuck
plain_eq x y S zero zero = to S

abbrev pub plain_assign : ℕ → ℕ → List ℕ → ℕ → After
plain_assign x s S zero = to (set S x (suc s))
plain_assign x s S (suc t) = cond (eqb t s) (to S) stuck

abbrev pub sorted_in : List ℕ → List ℕ → Bool
sorted_in S ws = all (λ w. is_sorted (get_or S w 0)) ws

abbrev pub plain_step : (ℕ → List ℕ → After) → Node → List ℕ → After
plain_step u (eq x y) S = plain_eq x y S (get_or S x 0) (get_or S y 0)
plain_step u (assign x s) S = plain_assign x s S (get_or S x 0)
plain_step u (and cs) S = in_turn u cs S
plain_step u (xor cs) S = pick S (try_all u S none cs)
plain_step u (impossible h e) S = stuck
plain_step u (implies ws c) S = cond (sorted_in S ws) (u c S) (to S)

unfoldable pub plain : Problem → ℕ → ℕ → List ℕ → After
plain p zero r S = stuck
plain p (suc d) r S = plain_step (plain p d) (node p r) S

-- every sort of S is that of T, with terms renumbered
abbrev pub Under : (ℕ → ℕ) → List ℕ → List ℕ → Type 0
Under σ S T = (t s : ℕ) → Has S t s → Has T (σ t) s

-- a store where 0 stands, below and above
pub keeps_set : (S : List ℕ) (y v : ℕ) → get_or S y 0 ≡ 0 → Under same S (set S y v)
keeps_set S y v z t s h = on (cell_after_set S y v t)
  where
    on : ((t ≡ y) × (y < length S) × (get_or (set S y v) t 0 ≡ v)) ⊎ (get_or (set S y v) t 0 ≡ get_or S t 0) → Has (set S y v) t s
    on (inl k) = let e : get_or S y 0 ≡ suc s = rw k.0 at h in absurd (omega arith)
    on (inr k) = k ∙ h

pub under_left : (σ : ℕ → ℕ) (S T : List ℕ) (y s : ℕ) → Has T (σ y) s → Under σ S T → Under σ (set S y (suc s)) T
under_left σ S T y s h k t v e = on (cell_after_set S y (suc s) t)
  where
    on : ((t ≡ y) × (y < length S) × (get_or (set S y (suc s)) t 0 ≡ suc s)) ⊎ (get_or (set S y (suc s)) t 0 ≡ get_or S t 0) →
        Has T (σ t) v
    on (inl i) = let j : v ≡ s = omega (arith, i.2) in rw (i.0, j) h
    on (inr i) = k t v (sym i ∙ e)

pub under_both : (σ : ℕ → ℕ) (S T : List ℕ) (y s : ℕ) → get_or T (σ y) 0 ≡ 0 → σ y < length T → Under σ S T →
    Under σ (set S y (suc s)) (set T (σ y) (suc s))
under_both σ S T y s z l k =
    under_left σ S (set T (σ y) (suc s)) y s (get_or-set_same T (σ y) (suc s) 0 l) (λ t v h. keeps_set T (σ y) (suc s) z (σ t) v (k t v h))

-- sorts only grow
abbrev pub Grows : List ℕ → After → Type 0
Grows S stuck = Unit
Grows S (to T) = Under same S T × (length T ≡ length S)

pub grows_same : (S : List ℕ) → Grows S (to S)
grows_same S = (λ t s h. h, refl)

pub grows_after : (S T : List ℕ) → Grows S (to T) → (o : After) → Grows T o → Grows S o
grows_after S T h stuck k = tt
grows_after S T h (to U) k = (λ t s e. k.0 t s (h.0 t s e), k.1 ∙ h.1)

grows_cond : (S : List ℕ) (b : Bool) → Grows S (cond b (to S) stuck)
grows_cond S true = grows_same S
grows_cond S false = tt

grows_set : (S : List ℕ) (y v : ℕ) → get_or S y 0 ≡ 0 → Grows S (to (set S y v))
grows_set S y v z = (keeps_set S y v z, length-set S y v)

abbrev pub GrowsAll : (ℕ → List ℕ → After) → List ℕ → Type 0
GrowsAll u cs = (c : ℕ) → Among c cs → (S : List ℕ) → Grows S (u c S)

pub grows_turn : (u : ℕ → List ℕ → After) (cs : List ℕ) → GrowsAll u cs → (S : List ℕ) → Grows S (in_turn u cs S)
unfolding in_turn
grows_turn u [] kids S = grows_same S
grows_turn u (c ∷ cs) kids S =
    on (u c S) (kids c (Memᴰ.head refl) S) (grows_turn u cs (λ d m. kids d (Memᴰ.tail m)))
  where
    on : (o : After) → Grows S o → ((T : List ℕ) → Grows T (in_turn u cs T)) → Grows S (next o (in_turn u cs))
    on stuck h k = tt
    on (to T) h k = grows_after S T h (in_turn u cs T) (k T)

abbrev pub GrowsTried : List ℕ → Tried → Type 0
GrowsTried S none = Unit
GrowsTried S (one T) = Grows S (to T)
GrowsTried S more = Unit

grows_tried : (S : List ℕ) (k : Tried) (o : After) → GrowsTried S k → Grows S o → GrowsTried S (tried k o)
grows_tried S none stuck h i = tt
grows_tried S none (to T) h i = i
grows_tried S (one U) stuck h i = h
grows_tried S (one U) (to T) h i = tt
grows_tried S more stuck h i = tt
grows_tried S more (to T) h i = tt

grows_tries : (u : ℕ → List ℕ → After) (S : List ℕ) (cs : List ℕ) → GrowsAll u cs → (k : Tried) → GrowsTried S k →
    GrowsTried S (try_all u S k cs)
unfolding try_all
grows_tries u S [] kids k h = h
grows_tries u S (c ∷ cs) kids k h =
    grows_tries u S cs (λ d m. kids d (Memᴰ.tail m)) (tried k (u c S)) (grows_tried S k (u c S) h (kids c (Memᴰ.head refl) S))

grows_pick : (S : List ℕ) (k : Tried) → GrowsTried S k → Grows S (pick S k)
grows_pick S none h = tt
grows_pick S (one T) h = h
grows_pick S more h = grows_same S

grows_eq : (x y : ℕ) (S : List ℕ) (v w : ℕ) → get_or S x 0 ≡ v → get_or S y 0 ≡ w → Grows S (plain_eq x y S v w)
grows_eq x y S (suc s) zero ex ey = grows_set S y (suc s) ey
grows_eq x y S zero (suc s) ex ey = grows_set S x (suc s) ex
grows_eq x y S (suc s) (suc t) ex ey = grows_cond S (eqb s t)
grows_eq x y S zero zero ex ey = grows_same S

grows_assign : (x s : ℕ) (S : List ℕ) (v : ℕ) → get_or S x 0 ≡ v → Grows S (plain_assign x s S v)
grows_assign x s S zero e = grows_set S x (suc s) e
grows_assign x s S (suc t) e = grows_cond S (eqb t s)

pub grows_step : (u : ℕ → List ℕ → After) (n : Node) → GrowsAll u (children n) → (S : List ℕ) → Grows S (plain_step u n S)
grows_step u (eq x y) kids S = grows_eq x y S (get_or S x 0) (get_or S y 0) refl refl
grows_step u (assign x s) kids S = grows_assign x s S (get_or S x 0) refl
grows_step u (and cs) kids S = grows_turn u cs kids S
grows_step u (xor cs) kids S = grows_pick S (try_all u S none cs) (grows_tries u S cs kids none tt)
grows_step u (impossible h e) kids S = tt
grows_step u (implies ws c) kids S = on (sorted_in S ws)
  where
    on : (b : Bool) → Grows S (cond b (u c S) (to S))
    on true = kids c (Memᴰ.head refl) S
    on false = grows_same S

pub plain_grows : (p : Problem) (d r : ℕ) (S : List ℕ) → Grows S (plain p d r S)
unfolding plain
plain_grows p zero r S = tt
plain_grows p (suc d) r S = grows_step (plain p d) (node p r) (λ c m T. plain_grows p d c T) S
