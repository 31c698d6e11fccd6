-- What an update keeps: one induction over the six updates, for any relation between the frame before and the frame
-- after that sorting a term, narrowing an Xor and firing an Implies respect. A frame that fits its problem is kept.
use Prim.Native.Nat.{ℕ, zero, suc, ◌<◌}
use Rattle.std.specs.Prelude.{◌≡◌, ◌⊎◌, Bool, ◌||◌, cond, eqb, length, get_or, set, replicate}
use Rattle.std.proofs.Math.Path.{refl, subst}
use Rattle.std.proofs.Common.{sym, ◌∙◌, ap, inl, inr, ⊎_elim, arith, length-set, get_or-set_same, get_or-set_other}
use Rattle.std.proofs.Math.Bool.{true, false}
use mathlib.Core.List.Memᴰ
use mathlib.Core.List.{List, [], ◌∷◌}
use Rattle.std.proofs.Math.Decide.{ℕ_discrete, dec_lt}
use Rattle.std.proofs.lemmas.List.{length-replicate}
use Rattle.std.proofs.Math.Seq.{set_out}
use Rattle.definition.specs.Lists.{Among}
use Rattle.definition.specs.Problem.{Problem, Node, eq, assign, and, xor, impossible, implies, node, children, terms_of}
use Rattle.definition.specs.Frame.{Frame, sort_of, state_of, put_sort, put_state, empty_frame}
use Rattle.definition.specs.Update.{Entry, mismatch, Out, ok, err, or_changed, and_then, eq_on, assign_on, each, Found, nothing, single, several, seen, trials, settle, remaining, xor_on, all_sorted, implies_on, step, upd}
use Rattle.definition.specs.Fits.{Framed, Fits}
use Rattle.definition.proofs.Laws.Lists.{or_false}

-- a cell of a list after a store: the value stored, or the old one
pub cell_after_set : (l : List ℕ) (i v j : ℕ) →
    ((j ≡ i) × (i < length l) × (get_or (set l i v) j 0 ≡ v)) ⊎ (get_or (set l i v) j 0 ≡ get_or l j 0)
cell_after_set l i v j = go (ℕ_discrete j i) (dec_lt i (length l))
  where
    go : Dec (j ≡ i) → Dec (i < length l) →
        ((j ≡ i) × (i < length l) × (get_or (set l i v) j 0 ≡ v)) ⊎ (get_or (set l i v) j 0 ≡ get_or l j 0)
    go (yes e) (yes h) = inl (e, h, rw e (get_or-set_same l i v 0 h))
    go (yes e) (no h) = inr (ap (λ (k : List ℕ). get_or k j 0) (set_out l i v (omega arith)))
    go (no e) d = inr (get_or-set_other l i j v 0 e)

-- every cell of zeroes is 0
pub cell_of_zeroes : (n i : ℕ) → ◌≡◌ {A = ℕ} (get_or (replicate n 0) i 0) 0
cell_of_zeroes zero i = refl
cell_of_zeroes (suc n) zero = refl
cell_of_zeroes (suc n) (suc i) = cell_of_zeroes n i

-- framed frames: the empty one, and after each of the two stores
pub framed_empty : (p : Problem) → Framed p (empty_frame p)
framed_empty p = record {
  sorts = length-replicate p.counts.terms 0;
  states = length-replicate p.counts.records 0;
  narrowed = λ r c cs e h. absurd (omega (arith, cell_of_zeroes p.counts.records r, h));
}

pub framed_sort : (p : Problem) (f : Frame) (t v : ℕ) → Framed p f → Framed p (put_sort f t v)
framed_sort p f t v F = record { sorts = length-set f.sorts t v ∙ F.sorts; states = F.states; narrowed = F.narrowed }

-- a state may be stored if it names a child of the Xor whose state it is
pub framed_state : (p : Problem) (f : Frame) (r v : ℕ) →
    ((c : ℕ) (cs : List ℕ) → node p r ≡ xor cs → v ≡ suc c → Among c cs) → Framed p f → Framed p (put_state f r v)
framed_state p f r v own F = record {
  sorts = F.sorts;
  states = length-set f.states r v ∙ F.states;
  narrowed = λ q c cs e h. ⊎_elim
      (λ (w : (q ≡ r) × (r < length f.states) × (get_or (set f.states r v) q 0 ≡ v)). own c cs (ap (node p) (sym w.0) ∙ e) (sym w.2 ∙ h))
      (λ (w : get_or (set f.states r v) q 0 ≡ get_or f.states q 0). F.narrowed q c cs e (sym w ∙ h))
      (cell_after_set f.states r v q);
}

pub framed_narrow : (p : Problem) (f : Frame) (r c : ℕ) (cs : List ℕ) → node p r ≡ xor cs → Among c cs → Framed p f →
    Framed p (put_state f r (suc c))
framed_narrow p f r c cs e m = framed_state p f r (suc c) λ d ds k h.
    let l : cs ≡ ds = cc in
    let x : d ≡ c = cc in
    subst (Among d) l (Memᴰ.cast x m)

pub framed_fire : (p : Problem) (f : Frame) (r c : ℕ) (ws : List ℕ) → node p r ≡ implies ws c → Framed p f →
    Framed p (put_state f r 1)
framed_fire p f r c ws e = framed_state p f r 1 λ d ds k h. let z : ◌≡◌ {A = ℕ} 0 1 = cc in absurd (omega arith)

-- A record r sorts a term t by s: what it is, and where s comes from.
pub data Sorts (p : Problem) (f : Frame) (r t s : ℕ) : Type 0 where
  as_assign : node p r ≡ assign t s → Sorts p f r t s
  from_right : (y : ℕ) → node p r ≡ eq t y → sort_of f y ≡ suc s → Sorts p f r t s
  from_left : (x : ℕ) → node p r ≡ eq x t → sort_of f x ≡ suc s → Sorts p f r t s

pub sorts_named : (p : Problem) (f : Frame) (r t s : ℕ) → Sorts p f r t s → Among t (terms_of (node p r))
sorts_named p f r t s (as_assign e) = rw e (Memᴰ.head refl)
sorts_named p f r t s (from_right y e h) = rw e (Memᴰ.head refl)
sorts_named p f r t s (from_left x e h) = rw e (Memᴰ.tail (Memᴰ.head refl))

-- What a relation must meet. R b f g: from f to g, with the answer `changed` b. G is known of the record updated, and
-- goes down to its children. Every frame on the way is framed.
pub record Respects (p : Problem) (G : ℕ → Type 0) (R : Bool → Frame → Frame → Type 0) : Type 0 where
  pub same : (f : Frame) → R false f f
  pub next : (a b : Bool) (f g h : Frame) → R a f g → R b g h → R (a || b) f h
  pub down : (r c : ℕ) → G r → Among c (children (node p r)) → G c
  pub sorting : (r t s : ℕ) (f : Frame) → G r → Framed p f → Sorts p f r t s → sort_of f t ≡ 0 → R true f (put_sort f t (suc s))
  pub narrowing : (r c : ℕ) (cs : List ℕ) (f : Frame) → G r → Framed p f → node p r ≡ xor cs → Among c cs →
      R false f (put_state f r (suc c))
  pub firing : (r c : ℕ) (ws : List ℕ) (f : Frame) → G r → Framed p f → node p r ≡ implies ws c → state_of f r ≡ 0 →
      all_sorted f ws ≡ true → R true f (put_state f r 1)

-- a record that fits at some depth: what can be known of every record on the way (for G)
abbrev pub Fitting : Problem → ℕ → Type 0
Fitting p r = (d : ℕ) × Fits p d r

pub fitting_down : (p : Problem) (r c : ℕ) → Fitting p r → Among c (children (node p r)) → Fitting p c
fitting_down p r c φ m = go φ.0 φ.1
  where
    go : (d : ℕ) → Fits p d r → Fitting p c
    go zero h = absurd h
    go (suc d) h = (d, h.kids c m)

-- an answer that keeps the relation; of an error nothing is said
abbrev pub Keeps : Problem → (Bool → Frame → Frame → Type 0) → Frame → Out → Type 0
Keeps p R f (ok b g) = Framed p g × R b f g
Keeps p R f (err e es) = Unit {0}

-- what the trials have found: a single success is that of a child tried
abbrev pub Came : (ℕ → Frame → Out) → Frame → List ℕ → Found → Type 0
Came u f cs (nothing es) = Unit {0}
Came u f cs (single c b g) = Among c cs × (u c f ≡ ok b g)
Came u f cs several = Unit {0}

came_seen : (u : ℕ → Frame → Out) (f : Frame) (cs : List ℕ) (found : Found) (c : ℕ) (o : Out) → Among c cs → u c f ≡ o →
    Came u f cs found → Came u f cs (seen found c o)
unfolding seen
came_seen u f cs (nothing es) c (ok b g) m e k = (m, e)
came_seen u f cs (nothing es) c (err x xs) m e k = tt
came_seen u f cs (single d b g) c (ok b' g') m e k = tt
came_seen u f cs (single d b g) c (err x xs) m e k = k
came_seen u f cs several c o m e k = tt

came_trials : (u : ℕ → Frame → Out) (f : Frame) (cs : List ℕ) (found : Found) (ds : List ℕ) →
    ((d : ℕ) → Among d ds → Among d cs) → Came u f cs found → Came u f cs (trials u f found ds)
unfolding trials
came_trials u f cs found [] sub k = k
came_trials u f cs found (d ∷ ds) sub k =
    came_trials u f cs (seen found d (u d f)) ds (λ c m. sub c (Memᴰ.tail m))
    (came_seen u f cs found d (u d f) (sub d (Memᴰ.head refl)) refl k)

pub trials_came : (u : ℕ → Frame → Out) (f : Frame) (es : List Entry) (cs : List ℕ) → Came u f cs (trials u f (nothing es) cs)
trials_came u f es cs = came_trials u f cs (nothing es) cs (λ c m. m) tt

-- a single success of the trials: which child, and its answer
pub trials_single : (u : ℕ → Frame → Out) (f g : Frame) (es : List Entry) (cs : List ℕ) (c : ℕ) (b : Bool) →
    trials u f (nothing es) cs ≡ single c b g → Among c cs × (u c f ≡ ok b g)
trials_single u f g es cs c b e = subst (Came u f cs) e (trials_came u f es cs)

-- the children that a framed Xor still has are its own
pub remaining_own : (p : Problem) (r c : ℕ) (cs : List ℕ) (f : Frame) → Framed p f → node p r ≡ xor cs →
    Among c (remaining (state_of f r) cs) → Among c cs
remaining_own p r c cs f F e m = go (state_of f r) refl m
  where
    go : (k : ℕ) → state_of f r ≡ k → Among c (remaining k cs) → Among c cs
    go zero h m = unfold remaining in m
    go (suc d) h m = unfold remaining in Memᴰ.cast (Memᴰ.eq_of_singleton m) (F.narrowed r d cs e h)

-- The induction. A sum of answers, the children of an And or of a pass, an Xor, a record of each kind, any record
module _ (p : Problem) (G : ℕ → Type 0) (R : Bool → Frame → Frame → Type 0) (H : Respects p G R) where
  keeps_or : (b : Bool) (f g : Frame) (o : Out) → R b f g → Keeps p R g o → Keeps p R f (or_changed b o)
  unfolding or_changed
  keeps_or b f g (ok c h) k l = (l.0, H.next b c f g h k l.1)
  keeps_or b f g (err e es) k l = tt

  keeps_then : (f : Frame) (o : Out) (k : Frame → Out) → Keeps p R f o → ((g : Frame) → Framed p g → Keeps p R g (k g)) →
      Keeps p R f (and_then o k)
  unfolding and_then
  keeps_then f (ok b g) k l m = keeps_or b f g (k g) l.1 (m g l.0)
  keeps_then f (err e es) k l m = tt

  -- the two ends of a comparison of sorts
  keeps_cond : (b : Bool) (f : Frame) (e : Entry) → Framed p f → Keeps p R f (cond b (ok false f) (err e []))
  keeps_cond true f e F = (F, H.same f)
  keeps_cond false f e F = tt

  pub keeps_each : (u : ℕ → Frame → Out) (cs : List ℕ) →
      ((c : ℕ) → Among c cs → (f : Frame) → Framed p f → Keeps p R f (u c f)) → (f : Frame) → Framed p f →
      Keeps p R f (each u cs f)
  unfolding each
  keeps_each u [] k f F = (F, H.same f)
  keeps_each u (c ∷ cs) k f F =
      keeps_then f (u c f) (each u cs) (k c (Memᴰ.head refl) f F) (keeps_each u cs (λ d m. k d (Memᴰ.tail m)))

  keeps_settle : (u : ℕ → Frame → Out) (r n : ℕ) (f : Frame) (ds cs : List ℕ) (found : Found) → G r → node p r ≡ xor cs →
      ((c : ℕ) → Among c ds → Among c cs × Keeps p R f (u c f)) → Framed p f → Came u f ds found →
      Keeps p R f (settle p r n f found)
  unfolding settle
  keeps_settle u r n f ds cs (nothing es) γ e k F m = tt
  keeps_settle u r n f ds cs (single c b g) γ e k F m =
      let kept : Framed p g × R b f g = subst (Keeps p R f) m.1 (k c m.0).1 in
      let own : Among c cs = (k c m.0).0 in
      let last : R false g (put_state g r (suc c)) = H.narrowing r c cs g γ kept.0 e own in
      let all : R (b || false) f (put_state g r (suc c)) = H.next b false f g (put_state g r (suc c)) kept.1 last in
      (framed_narrow p g r c cs e own kept.0, rw or_false at all)
  keeps_settle u r n f ds cs several γ e k F m = (F, H.same f)

  keeps_eq : (r x y : ℕ) (f : Frame) (s t : ℕ) → G r → Framed p f → node p r ≡ eq x y → sort_of f x ≡ s → sort_of f y ≡ t →
      Keeps p R f (eq_on p r x y f s t)
  unfolding eq_on
  keeps_eq r x y f (suc s) zero γ F e h k = (framed_sort p f y (suc s) F, H.sorting r y s f γ F (from_left x e h) k)
  keeps_eq r x y f zero (suc t) γ F e h k = (framed_sort p f x (suc t) F, H.sorting r x t f γ F (from_right y e k) h)
  keeps_eq r x y f (suc s) (suc t) γ F e h k = keeps_cond (eqb s t) f (mismatch p r x s t) F
  keeps_eq r x y f zero zero γ F e h k = (F, H.same f)

  keeps_assign : (r x s : ℕ) (f : Frame) (t : ℕ) → G r → Framed p f → node p r ≡ assign x s → sort_of f x ≡ t →
      Keeps p R f (assign_on p r x s f t)
  unfolding assign_on
  keeps_assign r x s f zero γ F e h = (framed_sort p f x (suc s) F, H.sorting r x s f γ F (as_assign e) h)
  keeps_assign r x s f (suc t) γ F e h = keeps_cond (eqb t s) f (mismatch p r x s t) F

  keeps_implies : (u : ℕ → Frame → Out) (r c : ℕ) (ws : List ℕ) (f : Frame) (k : ℕ) → G r → Framed p f →
      node p r ≡ implies ws c → state_of f r ≡ k → ((g : Frame) → Framed p g → Keeps p R g (u c g)) →
      Keeps p R f (implies_on u r ws c f k)
  unfolding implies_on
  keeps_implies u r c ws f zero γ F e h k = go (all_sorted f ws) refl
    where
      go : (b : Bool) → all_sorted f ws ≡ b → Keeps p R f (cond b (or_changed true (u c (put_state f r 1))) (ok false f))
      go true a =
          keeps_or true f (put_state f r 1) (u c (put_state f r 1)) (H.firing r c ws f γ F e h a)
          (k (put_state f r 1) (framed_fire p f r c ws e F))
      go false a = (F, H.same f)
  keeps_implies u r c ws f (suc n) γ F e h k = k f F

  keeps_step : (u : ℕ → Frame → Out) (r : ℕ) (n : Node) (f : Frame) → G r → Framed p f → node p r ≡ n →
      ((c : ℕ) → Among c (children n) → (g : Frame) → Framed p g → Keeps p R g (u c g)) → Keeps p R f (step u p r n f)
  unfolding step xor_on
  keeps_step u r (eq x y) f γ F e k = keeps_eq r x y f (sort_of f x) (sort_of f y) γ F e refl refl
  keeps_step u r (assign x s) f γ F e k = keeps_assign r x s f (sort_of f x) γ F e refl
  keeps_step u r (and cs) f γ F e k = keeps_each u cs k f F
  keeps_step u r (xor cs) f γ F e k =
      let ds : List ℕ = remaining (state_of f r) cs in
      keeps_settle u r (length ds) f ds cs (trials u f (nothing []) ds) γ e
      (λ c m. (remaining_own p r c cs f F e m, k c (remaining_own p r c cs f F e m) f F)) F (trials_came u f [] ds)
  keeps_step u r (impossible h s) f γ F e k = tt
  keeps_step u r (implies ws c) f γ F e k = keeps_implies u r c ws f (state_of f r) γ F e refl (k c (Memᴰ.head refl))

  pub keeps_upd : (d r : ℕ) (f : Frame) → G r → Framed p f → Keeps p R f (upd p d r f)
  unfolding upd
  keeps_upd zero r f γ F = tt
  keeps_upd (suc d) r f γ F = keeps_step (upd p d) r (node p r) f γ F refl (λ c m g. keeps_upd d c g (H.down r c γ m))

  -- the same, of an answer
  pub upd_keeps : (d r : ℕ) (f g : Frame) (b : Bool) → G r → Framed p f → upd p d r f ≡ ok b g → Framed p g × R b f g
  upd_keeps d r f g b γ F e = subst (Keeps p R f) e (keeps_upd d r f γ F)

  pub each_keeps : (d : ℕ) (cs : List ℕ) (f g : Frame) (b : Bool) → ((c : ℕ) → Among c cs → G c) → Framed p f →
      each (upd p d) cs f ≡ ok b g → Framed p g × R b f g
  each_keeps d cs f g b γ F e = subst (Keeps p R f) e (keeps_each (upd p d) cs (λ c m h. keeps_upd d c h (γ c m)) f F)

-- Framed frames are kept: the relation that says nothing
any : (p : Problem) → Respects p (λ r. Unit {0}) (λ b f g. Unit {0})
any p = record {
  same = λ f. tt;
  next = λ a b f g h k l. tt;
  down = λ r c γ m. tt;
  sorting = λ r t s f γ F k h. tt;
  narrowing = λ r c cs f γ F e m. tt;
  firing = λ r c ws f γ F e h a. tt;
}

pub framed_upd : (p : Problem) (d r : ℕ) (f g : Frame) (b : Bool) → upd p d r f ≡ ok b g → Framed p f → Framed p g
framed_upd p d r f g b e F = (upd_keeps p (λ r. Unit {0}) (λ b f g. Unit {0}) (any p) d r f g b tt F e).0

pub framed_each : (p : Problem) (d : ℕ) (cs : List ℕ) (f g : Frame) (b : Bool) → each (upd p d) cs f ≡ ok b g →
    Framed p f → Framed p g
framed_each p d cs f g b e F = (each_keeps p (λ r. Unit {0}) (λ b f g. Unit {0}) (any p) d cs f g b (λ c m. tt) F e).0
