-- Passes end: a potential that a changed update lowers, so that `run` never runs out.
use Prim.Native.Nat.{ℕ, zero, suc, ◌+◌, ◌≤◌, ◌<◌}
use Rattle.std.specs.Prelude.{◌≡◌, ◌⊎◌, Bool, ◌||◌, cond, List, [], ◌∷◌, map, eqb, length, get_or, set, replicate}
use Rattle.std.proofs.Math.Path.{refl, sym}
use Rattle.std.proofs.Common.{ap, inl, inr, arith, not-suc-le-zero, ne_eqb, get_or-set_same}
use Rattle.std.proofs.Math.Bool.{true, false}
use mathlib.Core.List.Memᴰ
use Rattle.definition.specs.Sizes.{max_depth}
use Rattle.definition.specs.Lists.{Among, from, count}
use Rattle.definition.specs.Problem.{Problem, Node, eq, assign, and, xor, impossible, implies, node, node_of, kind_of, value_of, terms_of, top_level}
use Rattle.definition.specs.Frame.{Frame, sort_of, state_of, put_sort, put_state, empty_frame}
use Rattle.definition.specs.Update.{Entry, Out, ok, err}
use Rattle.definition.specs.Solve.{pass, Run, settled, failed, after_pass, run, is_implies, implies_among, most_passes, running}
use Rattle.definition.specs.Fits.{Fits, Framed, total}
use Rattle.definition.proofs.Laws.Kept.{cell_after_set, cell_of_zeroes, framed_empty, sorts_named, Respects, Fitting, fitting_down, each_keeps}
use Rattle.definition.proofs.Laws.Lists.{member_from}
use Rattle.definition.proofs.Laws.Refused.{record_terms}

-- how many cells are 0
unfoldable pub zeros : List ℕ → ℕ
zeros [] = 0
zeros (zero ∷ xs) = suc (zeros xs)
zeros (suc x ∷ xs) = zeros xs

-- 1 for an Implies that has not fired
abbrev pub waits : Node → ℕ → ℕ
waits (eq x y) k = 0
waits (assign x s) k = 0
waits (and cs) k = 0
waits (xor cs) k = 0
waits (impossible h e) k = 0
waits (implies ws c) zero = 1
waits (implies ws c) (suc k) = 0

abbrev pub waits_in : Problem → Frame → ℕ → ℕ
waits_in p f r = waits (node p r) (state_of f r)

-- terms without a sort and Implies records that have not fired
abbrev pub potential : Problem → Frame → ℕ
potential p f = zeros f.sorts + total (waits_in p f) (from 0 p.counts.records)

zeros_set : (l : List ℕ) (i s : ℕ) → i < length l → get_or l i 0 ≡ 0 → suc (zeros (set l i (suc s))) ≡ zeros l
unfolding zeros
zeros_set [] i s h e = absurd (not-suc-le-zero h)
zeros_set (zero ∷ xs) zero s h e = refl
zeros_set (suc x ∷ xs) zero s h e = absurd (omega arith)
zeros_set (zero ∷ xs) (suc i) s h e = ap suc (zeros_set xs i s (omega arith) e)
zeros_set (suc x ∷ xs) (suc i) s h e = zeros_set xs i s (omega arith) e

pub total_le : (m n : ℕ → ℕ) (l : List ℕ) → ((x : ℕ) → m x ≤ n x) → total m l ≤ total n l
unfolding total
total_le m n [] h = omega arith
total_le m n (x ∷ xs) h = omega (arith, h x, total_le m n xs h)

pub total_lt : (m n : ℕ → ℕ) (l : List ℕ) (r : ℕ) → ((x : ℕ) → m x ≤ n x) → Among r l → m r < n r → total m l < total n l
unfolding total
total_lt m n [] r h x3 k = elim x3 [ ]
total_lt m n (x ∷ xs) r h (Memᴰ.head e) k =
    let k' : m x < n x = rw e at k in
    omega (arith, total_le m n xs h)
total_lt m n (x ∷ xs) r h (Memᴰ.tail i) k = omega (arith, h x, total_lt m n xs r h i k)

-- what a record that fits names is in range
fits_terms : (p : Problem) (d r t : ℕ) → Fits p d r → Among t (terms_of (node p r)) → t < p.counts.terms
fits_terms p zero r t h m = absurd h
fits_terms p (suc d) r t h m = record_terms p r t h.values m

pub fits_below : (p : Problem) (d r : ℕ) → Fits p d r → r < p.counts.records
fits_below p zero r h = absurd h
fits_below p (suc d) r h = h.below

pub fitting_terms : (p : Problem) (r t : ℕ) → Fitting p r → Among t (terms_of (node p r)) → t < p.counts.terms
fitting_terms p r t φ m = fits_terms p φ.0 r t φ.1 m

pub fitting_below : (p : Problem) (r : ℕ) → Fitting p r → r < p.counts.records
fitting_below p r φ = fits_below p φ.0 r φ.1

-- a change lowers the potential, anything else does not raise it
abbrev tick : Bool → ℕ
tick true = 1
tick false = 0

abbrev pub Lowers : Problem → Bool → Frame → Frame → Type 0
Lowers p b f g = tick b + potential p g ≤ potential p f

lowers_next : (b c : Bool) (x y z : ℕ) → tick b + y ≤ x → tick c + z ≤ y → tick (b || c) + z ≤ x
lowers_next true true x y z h k = omega arith
lowers_next true false x y z h k = omega arith
lowers_next false true x y z h k = omega arith
lowers_next false false x y z h k = omega arith

lowers_sort : (p : Problem) (f : Frame) (x s : ℕ) → Framed p f → x < p.counts.terms → sort_of f x ≡ 0 →
    Lowers p true f (put_sort f x (suc s))
lowers_sort p f x s w h e =
    let l : x < length f.sorts = omega (arith, w.sorts) in
    omega (arith, zeros_set f.sorts x s l e)

-- a record that is no Implies waits for nothing
waits_xor : (n : Node) (cs : List ℕ) (k : ℕ) → n ≡ xor cs → waits n k ≡ 0
waits_xor n cs k e = rw e refl

waits_put : (p : Problem) (f : Frame) (r v q : ℕ) → waits (node p r) v ≤ waits (node p r) (state_of f r) →
    waits_in p (put_state f r v) q ≤ waits_in p f q
waits_put p f r v q h = either (cell_after_set f.states r v q)
  where
    either : ((q ≡ r) × (r < length f.states) × (state_of (put_state f r v) q ≡ v)) ⊎ (state_of (put_state f r v) q ≡ state_of f q) → waits_in p (put_state f r v) q ≤ waits_in p f q
    either (inl e) = rw (e.2, e.0) h
    either (inr e) = rw e (omega arith)

lowers_narrow : (p : Problem) (f : Frame) (r c : ℕ) (cs : List ℕ) → node p r ≡ xor cs →
    Lowers p false f (put_state f r (suc c))
lowers_narrow p f r c cs n =
    omega (
      arith,
      total_le (waits_in p (put_state f r (suc c))) (waits_in p f) (from 0 p.counts.records)
          (λ q. waits_put p f r (suc c) q (omega (arith, waits_xor (node p r) cs (suc c) n))),
    )

fired : (n : Node) (ws : List ℕ) (c k : ℕ) → n ≡ implies ws c → k ≡ 0 → waits n 1 < waits n k
fired n ws c k e h = rw (e, h) (omega arith)

lowers_fire : (p : Problem) (f : Frame) (r : ℕ) (ws : List ℕ) (c : ℕ) → Framed p f → r < p.counts.records →
    node p r ≡ implies ws c → state_of f r ≡ 0
    → Lowers p true f (put_state f r 1)
lowers_fire p f r ws c w below n e =
    let l : r < length f.states = omega (arith, w.states) in
    let less : waits (node p r) 1 < waits (node p r) (state_of f r) = fired (node p r) ws c (state_of f r) n e in
    let here : waits_in p (put_state f r 1) r < waits_in p f r = rw (get_or-set_same f.states r 1 0 l) less in
    omega (
      arith,
      total_lt (waits_in p (put_state f r 1)) (waits_in p f) (from 0 p.counts.records) r
          (λ q. waits_put p f r 1 q (omega arith)) (member_from 0 p.counts.records r (omega arith) (omega arith)) here,
    )

lowers : (p : Problem) → Respects p (Fitting p) (Lowers p)
lowers p = record {
  same = λ f. omega arith;
  next = λ b c f g h. lowers_next b c (potential p f) (potential p g) (potential p h);
  down = fitting_down p;
  sorting = λ r t s f φ w m. lowers_sort p f t s w (fitting_terms p r t φ (sorts_named p f r t s m));
  narrowing = λ r c cs f φ w n m. lowers_narrow p f r c cs n;
  firing = λ r c ws f φ w n e a. lowers_fire p f r ws c w (fitting_below p r φ) n e;
}

-- every top-level record and all below it are in range
abbrev pub Tops : Problem → Type 0
Tops p = (r : ℕ) → Among r (top_level p) → Fits p max_depth r

pub pass_keeps : (p : Problem) (R : Bool → Frame → Frame → Type 0) → Respects p (Fitting p) R → Tops p
    → (f g : Frame) (b : Bool) → Framed p f → pass p f ≡ ok b g → Framed p g × R b f g
pass_keeps p R law tops f g b w e =
    each_keeps p (Fitting p) R law max_depth (top_level p) f g b (λ r m. (max_depth, tops r m)) w e

pub pass_lowers : (p : Problem) → Tops p → (f g : Frame) (b : Bool) → Framed p f → pass p f ≡ ok b g →
    Framed p g × Lowers p b f g
pass_lowers p tops f g b w e = pass_keeps p (Lowers p) (lowers p) tops f g b w e

-- the start: nothing is sorted and nothing has fired
zeros_all : (n : ℕ) → zeros (replicate n 0) ≡ n
unfolding zeros
zeros_all zero = refl
zeros_all (suc n) = ap suc (zeros_all n)

waits_at_start : (n : Node) → is_implies n ≡ waits n 0
waits_at_start (eq x y) = refl
waits_at_start (assign x s) = refl
waits_at_start (and cs) = refl
waits_at_start (xor cs) = refl
waits_at_start (impossible h e) = refl
waits_at_start (implies ws c) = refl

start_waits : (p : Problem) (l : List ℕ) → total (waits_in p (empty_frame p)) l ≡ implies_among p l
unfolding total implies_among
start_waits p [] = refl
start_waits p (r ∷ rs) = rw (cell_of_zeroes p.counts.records r) (omega (arith, waits_at_start (node p r), start_waits p rs))

-- an Implies is a record of kind 5
kind_implies : (side : List ℕ) (k a b c : ℕ) → is_implies (node_of side k a b c) ≡ cond (eqb 5 k) 1 0
unfolding node_of
kind_implies side zero a b c = refl
kind_implies side (suc zero) a b c = refl
kind_implies side (suc (suc zero)) a b c = refl
kind_implies side (suc (suc (suc zero))) a b c = refl
kind_implies side (suc (suc (suc (suc zero)))) a b c = refl
kind_implies side (suc (suc (suc (suc (suc zero))))) a b c = refl
kind_implies side (suc (suc (suc (suc (suc (suc k)))))) a b c =
    rw (ne_eqb 5 (suc (suc (suc (suc (suc (suc k)))))) (λ e. omega arith)) refl

cond_count : (b : Bool) (n : ℕ) → cond b 1 0 + n ≡ cond b (suc n) n
cond_count true n = omega arith
cond_count false n = omega arith

pub implies_kinds : (p : Problem) (l : List ℕ) → implies_among p l ≡ count 5 (map (kind_of p) l)
unfolding implies_among count node
implies_kinds p [] = refl
implies_kinds p (r ∷ rs) =
    rw (kind_implies p.side (kind_of p r) (value_of p r 1) (value_of p r 2) (value_of p r 3), implies_kinds p rs)
    (cond_count (eqb 5 (kind_of p r)) (count 5 (map (kind_of p) rs)))

pub start_below : (p : Problem) → potential p (empty_frame p) < most_passes p
start_below p = omega (arith, zeros_all p.counts.terms, start_waits p (from 0 p.counts.records))

-- How the passes ended, not by their number: after n changed passes, at a frame with I n, one more began that changed
-- nothing, or failed
pub record Last (p : Problem) (I : ℕ → Frame → Type 0) (passes : ℕ) (o : Out) : Type 0 where
  pub changed : ℕ
  pub frame : Frame
  pub count : passes ≡ suc changed
  pub framed : Framed p frame
  pub kept : I changed frame
  pub last : pass p frame ≡ o

abbrev pub Ended : (p : Problem) → (ℕ → Frame → Type 0) → Run → Type 0
Ended p I (settled n g) = Last p I n (ok false g)
Ended p I (failed n e es) = Last p I n (err e es)

-- n passes are begun and f is the frame: what is left to run gives what `running` gives, and is more than the potential
pub record Ahead (p : Problem) (n : ℕ) (f : Frame) : Type 0 where
  pub left : ℕ
  pub most : n + left ≡ most_passes p
  pub framed : Framed p f
  pub enough : potential p f < left
  pub rest : run p left n f ≡ running p

module _ (p : Problem) (tops : Tops p) where
  -- with more passes left than the potential, how many does not matter
  pub run_enough : (k j n : ℕ) (f : Frame) → Framed p f → potential p f < k → potential p f < j → run p k n f ≡ run p j n f
  unfolding run after_pass
  run_enough zero j n f w h i = absurd (not-suc-le-zero h)
  run_enough (suc k) zero n f w h i = absurd (not-suc-le-zero i)
  run_enough (suc k) (suc j) n f w h i = on (pass p f) refl (λ g. run_enough k j (suc n) g)
    where
      on : (o : Out) → pass p f ≡ o → ((g : Frame) → Framed p g → potential p g < k → potential p g < j →
          run p k (suc n) g ≡ run p j (suc n) g)
          → after_pass (suc n) o (run p k (suc n)) ≡ after_pass (suc n) o (run p j (suc n))
      on (ok true g) e rest = let (v, l) = pass_lowers p tops f g true w e in rest g v (omega arith) (omega arith)
      on (ok false g) e rest = refl
      on (err x es) e rest = refl

  -- One induction over the passes. What each changed pass keeps holds of the frame from which the last pass began
  pub run_ended : (I : ℕ → Frame → Type 0) →
      ((n : ℕ) (f g : Frame) → Framed p f → I n f → pass p f ≡ ok true g → I (suc n) g) → (k n : ℕ) (f : Frame) →
      Framed p f → potential p f < k → I n f → Ended p I (run p k n f)
  unfolding run after_pass
  run_ended I keeps zero n f w h i = absurd (not-suc-le-zero h)
  run_ended I keeps (suc k) n f w h i = on (pass p f) refl (λ g. run_ended I keeps k (suc n) g)
    where
      on : (o : Out) → pass p f ≡ o →
          ((g : Frame) → Framed p g → potential p g < k → I (suc n) g → Ended p I (run p k (suc n) g)) →
          Ended p I (after_pass (suc n) o (run p k (suc n)))
      on (ok true g) e rest = let (v, l) = pass_lowers p tops f g true w e in rest g v (omega arith) (keeps n f g w i e)
      on (ok false g) e rest = record { changed = n; frame = f; count = refl; framed = w; kept = i; last = e }
      on (err x es) e rest = record { changed = n; frame = f; count = refl; framed = w; kept = i; last = e }

  -- the passes of `running`
  pub running_ended : (I : ℕ → Frame → Type 0) →
      ((n : ℕ) (f g : Frame) → Framed p f → I n f → pass p f ≡ ok true g → I (suc n) g) → I 0 (empty_frame p) →
      Ended p I (running p)
  running_ended I keeps i = run_ended I keeps (most_passes p) 0 (empty_frame p) (framed_empty p) (start_below p) i

  -- For a loop over the passes: n are begun, f is the frame, k may still follow. It starts so, each changed pass keeps it,
  -- and another pass gives what `running` gives
  pub ahead_start : Ahead p 0 (empty_frame p)
  ahead_start =
      record { left = most_passes p; most = omega arith; framed = framed_empty p; enough = start_below p; rest = refl }

  pub ahead_again : (n : ℕ) (f g : Frame) → Ahead p n f → pass p f ≡ ok true g → Ahead p (suc n) g
  unfolding run after_pass
  ahead_again n f g a e = go a.left a.most a.enough a.rest
    where
      go : (k : ℕ) → n + k ≡ most_passes p → potential p f < k → run p k n f ≡ running p → Ahead p (suc n) g
      go zero m h r = absurd (not-suc-le-zero h)
      go (suc k) m h r =
          let (v, l) = pass_lowers p tops f g true a.framed e in
          record { left = k; most = omega arith; framed = v; enough = omega arith; rest = rw e at r }

  pub ahead_settled : (n : ℕ) (f g : Frame) → Ahead p n f → pass p f ≡ ok false g → running p ≡ settled (suc n) g
  unfolding run after_pass
  ahead_settled n f g a e = go a.left a.enough a.rest
    where
      go : (k : ℕ) → potential p f < k → run p k n f ≡ running p → running p ≡ settled (suc n) g
      go zero h r = absurd (not-suc-le-zero h)
      go (suc k) h r = sym (rw e at r)

  pub ahead_failed : (n : ℕ) (f : Frame) (x : Entry) (es : List Entry) → Ahead p n f → pass p f ≡ err x es →
      running p ≡ failed (suc n) x es
  unfolding run after_pass
  ahead_failed n f x es a e = go a.left a.enough a.rest
    where
      go : (k : ℕ) → potential p f < k → run p k n f ≡ running p → running p ≡ failed (suc n) x es
      go zero h r = absurd (not-suc-le-zero h)
      go (suc k) h r = sym (rw e at r)

  -- a pass that is begun is one of the most
  pub ahead_most : (n : ℕ) (f : Frame) → Ahead p n f → n < most_passes p
  ahead_most n f a = omega (arith, a.enough, a.most)

-- passes begun
abbrev pub passes_of : Run → ℕ
passes_of (settled n f) = n
passes_of (failed n e es) = n

pub run_passes : (p : Problem) (k n : ℕ) (f : Frame) → passes_of (run p k n f) ≤ n + k
unfolding run after_pass
run_passes p zero n f = omega arith
run_passes p (suc k) n f = on (pass p f) (λ g. run_passes p k (suc n) g)
  where
    on : (o : Out) → ((g : Frame) → passes_of (run p k (suc n) g) ≤ suc n + k) →
        passes_of (after_pass (suc n) o (run p k (suc n))) ≤ n + suc k
    on (ok true g) rest = omega (arith, rest g)
    on (ok false g) rest = omega arith
    on (err x es) rest = omega arith

pub running_passes : (p : Problem) → passes_of (running p) ≤ most_passes p
running_passes p = omega (arith, run_passes p (most_passes p) 0 (empty_frame p))
