-- What document 01 says of one update, sentence by sentence, as equations about the definition.
use Rattle.std.specs.Prelude.{ℕ, suc, ◌≡◌, true, false, List, [], ◌∷◌, length}
use Rattle.std.proofs.Math.Path.{refl}
use borrow.Author.Tests.{eq-eqb, ne_eqb}
use Rattle.definition.specs.Problem.{Problem, eq, assign, and, xor, impossible, implies}
use Rattle.definition.specs.Frame.{Frame, sort_of, state_of, put_sort, put_state}
use Rattle.definition.specs.Update.{Out, ok, err, mismatch, arity, or_changed, eq_on, assign_on, each, seen, trials, settle, nothing, several, remaining, xor_on, all_sorted, implies_on, step}

-- Xor: the second success ends the trying
pub several_stays : (u : ℕ → Frame → Out) (f : Frame) (cs : List ℕ) → trials u f several cs ≡ several
unfolding trials seen
several_stays u f [] = refl
several_stays u f (c ∷ cs) = several_stays u f cs

module _ (u : ℕ → Frame → Out) (p : Problem) (r : ℕ) (f : Frame) where
  -- Eq: one sorted, the other takes its sort, changed
  pub eq_right : (x y s : ℕ) → sort_of f x ≡ suc s → sort_of f y ≡ 0 → step u p r (eq x y) f ≡ ok true (put_sort f y (suc s))
  unfolding step eq_on
  eq_right x y s h k = rw (h, k)

  pub eq_left : (x y s : ℕ) → sort_of f x ≡ 0 → sort_of f y ≡ suc s → step u p r (eq x y) f ≡ ok true (put_sort f x (suc s))
  unfolding step eq_on
  eq_left x y s h k = rw (h, k)

  -- both alike, or neither sorted: unchanged
  pub eq_alike : (x y s : ℕ) → sort_of f x ≡ suc s → sort_of f y ≡ suc s → step u p r (eq x y) f ≡ ok false f
  unfolding step eq_on
  eq_alike x y s h k = rw (h, k, eq-eqb s s refl)

  pub eq_neither : (x y : ℕ) → sort_of f x ≡ 0 → sort_of f y ≡ 0 → step u p r (eq x y) f ≡ ok false f
  unfolding step eq_on
  eq_neither x y h k = rw (h, k)

  -- else mismatch at x, expected x's sort, actual y's
  pub eq_clash : (x y s t : ℕ) → sort_of f x ≡ suc s → sort_of f y ≡ suc t → (s ≡ t → ⊥) → step u p r (eq x y) f ≡ err (mismatch p r x s t) []
  unfolding step eq_on
  eq_clash x y s t h k n = rw (h, k, ne_eqb s t n)

  -- Assign: x unsorted takes s, changed
  pub assign_new : (x s : ℕ) → sort_of f x ≡ 0 → step u p r (assign x s) f ≡ ok true (put_sort f x (suc s))
  unfolding step assign_on
  assign_new x s h = rw h

  -- same sort: unchanged
  pub assign_same : (x s : ℕ) → sort_of f x ≡ suc s → step u p r (assign x s) f ≡ ok false f
  unfolding step assign_on
  assign_same x s h = rw (h, eq-eqb s s refl)

  -- else mismatch at x, expected s, actual the sort held
  pub assign_clash : (x s t : ℕ) → sort_of f x ≡ suc t → (t ≡ s → ⊥) → step u p r (assign x s) f ≡ err (mismatch p r x s t) []
  unfolding step assign_on
  assign_clash x s t h n = rw (h, ne_eqb t s n)

  -- And: one pass over its children
  pub and_once : (cs : List ℕ) → step u p r (and cs) f ≡ each u cs f
  unfolding step
  and_once cs = refl

  -- Xor: its children are tried, each from the frame at entry
  pub xor_tried : (cs : List ℕ) → state_of f r ≡ 0 → step u p r (xor cs) f ≡ settle p r (length cs) f (trials u f (nothing []) cs)
  unfolding step xor_on remaining
  xor_tried cs h = rw h

  -- the rest have dropped out for good: an Xor that was narrowed has one child
  pub xor_narrowed : (c : ℕ) (cs : List ℕ) → state_of f r ≡ suc c → step u p r (xor cs) f ≡ settle p r 1 f (seen (nothing []) c (u c f))
  unfolding step xor_on remaining trials
  xor_narrowed c cs h = rw h

  -- Impossible: an arity mismatch
  pub impossible_fails : (h e : ℕ) → step u p r (impossible h e) f ≡ err (arity p r h e) []
  unfolding step
  impossible_fails h e = refl

  -- Implies: while a watched term is unsorted, unchanged
  pub implies_waits : (ws : List ℕ) (c : ℕ) → state_of f r ≡ 0 → all_sorted f ws ≡ false → step u p r (implies ws c) f ≡ ok false f
  unfolding step implies_on
  implies_waits ws c h w = rw (h, w)

  -- once all are sorted it fires: a change, and its child is updated at once
  pub implies_fires : (ws : List ℕ) (c : ℕ) → state_of f r ≡ 0 → all_sorted f ws ≡ true → step u p r (implies ws c) f ≡ or_changed true (u c (put_state f r 1))
  unfolding step implies_on
  implies_fires ws c h w = rw (h, w)

  -- for good
  pub implies_fired : (ws : List ℕ) (c k : ℕ) → state_of f r ≡ suc k → step u p r (implies ws c) f ≡ u c f
  unfolding step implies_on
  implies_fired ws c k h = rw h
