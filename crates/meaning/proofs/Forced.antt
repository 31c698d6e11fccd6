-- An assignment τ that satisfies the problem is never contradicted: updates of records that hold in τ keep a frame in
-- agreement with τ, and do not fail.
use Prim.Native.Nat.{ℕ, zero, suc, ◌<◌}
use Rattle.std.specs.Prelude.{◌≡◌, ◌⊎◌, Bool, cond, length}
use Rattle.std.proofs.Math.Path.{refl}
use Rattle.std.proofs.Common.{sym, ◌∙◌, inl, inr, arith, eq-eqb}
use Rattle.std.proofs.Math.Bool.{true, false}
use mathlib.Core.List.Memᴰ
use mathlib.Core.List.{List, [], ◌∷◌}
use Rattle.definition.specs.Sizes.{max_depth}
use Rattle.definition.specs.Lists.{Among}
use Rattle.definition.specs.Problem.{Problem, Node, eq, assign, and, xor, impossible, implies, node, children, top_level}
use Rattle.definition.specs.Frame.{Frame, sort_of, state_of, put_sort, put_state, empty_frame}
use Rattle.definition.specs.Update.{Out, ok, err, or_changed, and_then, eq_on, assign_on, each, Found, nothing, single, several, seen, trials, settle, remaining, xor_on, all_sorted, implies_on, step, upd, update}
use Rattle.definition.specs.Solve.{pass, Run, settled, failed, running}
use Rattle.definition.specs.Meaning.{Holds, Satisfies}
use Rattle.definition.specs.Fits.{Fits, Framed}
use Rattle.definition.proofs.Laws.Kept.{cell_after_set, cell_of_zeroes, framed_empty, framed_sort, framed_narrow, framed_fire}
use Rattle.definition.proofs.Laws.Passes.{Tops, Ended, running_ended}
use Rattle.meaning.specs.Words.{HoldsAs}
use Rattle.meaning.proofs.Nodes.{holds_node}

-- the frame says nothing against τ: its sorts are those of τ, a narrowed Xor is left with a child that holds
pub record Agrees (p : Problem) (τ : ℕ → ℕ) (f : Frame) : Type 0 where
  pub framed : Framed p f
  pub sorts : (t s : ℕ) → sort_of f t ≡ suc s → τ t ≡ s
  pub narrowed : (r c : ℕ) (cs : List ℕ) → node p r ≡ xor cs → state_of f r ≡ suc c → Holds p τ c

-- and an update goes well
abbrev Well : (p : Problem) → (ℕ → ℕ) → Out → Type 0
Well p τ (ok b g) = Agrees p τ g
Well p τ (err e es) = ⊥

module _ (p : Problem) (τ : ℕ → ℕ) where
  agrees_empty : Agrees p τ (empty_frame p)
  agrees_empty = record {
    framed = framed_empty p;
    sorts = λ t s e. absurd (omega (arith, cell_of_zeroes p.counts.terms t));
    narrowed = λ r c cs n e. absurd (omega (arith, cell_of_zeroes p.counts.records r));
  }

  agrees_sort : (f : Frame) (t s : ℕ) → τ t ≡ s → Agrees p τ f → Agrees p τ (put_sort f t (suc s))
  agrees_sort f t s h a = record {
    framed = framed_sort p f t (suc s) a.framed;
    sorts = λ x v e. on x v e (cell_after_set f.sorts t (suc s) x);
    narrowed = a.narrowed;
  }
    where
      on : (x v : ℕ) → sort_of (put_sort f t (suc s)) x ≡ suc v
          → ((x ≡ t) × (t < length f.sorts) × (sort_of (put_sort f t (suc s)) x ≡ suc s)) ⊎ (sort_of (put_sort f t (suc s)) x ≡ sort_of f x) → τ x ≡ v
      on x v e (inl k) = rw k.0 (h ∙ omega (arith, k.2))
      on x v e (inr k) = a.sorts x v (sym k ∙ e)

  agrees_state : (f : Frame) (r v : ℕ) → ((c : ℕ) (cs : List ℕ) → node p r ≡ xor cs → v ≡ suc c → Holds p τ c) →
      Framed p (put_state f r v) → Agrees p τ f
      → Agrees p τ (put_state f r v)
  agrees_state f r v own w a =
      record { framed = w; sorts = a.sorts; narrowed = λ q c cs n e. on q c cs n e (cell_after_set f.states r v q) }
    where
      on : (q c : ℕ) (cs : List ℕ) → node p q ≡ xor cs → state_of (put_state f r v) q ≡ suc c
          → ((q ≡ r) × (r < length f.states) × (state_of (put_state f r v) q ≡ v)) ⊎ (state_of (put_state f r v) q ≡ state_of f q) → Holds p τ c
      on q c cs n e (inl k) = own c cs (rw k.0 at n) (sym k.2 ∙ e)
      on q c cs n e (inr k) = a.narrowed q c cs n (sym k ∙ e)

  agrees_narrow : (f : Frame) (r c : ℕ) (cs : List ℕ) → node p r ≡ xor cs → Among c cs → Holds p τ c → Agrees p τ f →
      Agrees p τ (put_state f r (suc c))
  agrees_narrow f r c cs n m h a =
      agrees_state f r (suc c) (λ d ds n' e. let i : c ≡ d = cc in rw i at h) (framed_narrow p f r c cs n m a.framed) a

  agrees_fire : (f : Frame) (r : ℕ) (ws : List ℕ) (c : ℕ) → node p r ≡ implies ws c → Agrees p τ f →
      Agrees p τ (put_state f r 1)
  agrees_fire f r ws c n a =
      agrees_state f r 1 (λ d ds n' e. let z : ◌≡◌ {A =
      ℕ} 0 1 = cc in absurd (omega arith)) (framed_fire p f r c ws n a.framed) a

  -- from every frame that agrees, this record's update goes well
  abbrev Goes : (ℕ → Frame → Out) → ℕ → Type 0
  Goes u c = (f : Frame) → Agrees p τ f → Well p τ (u c f)

  well_or : (b : Bool) (o : Out) → Well p τ o → Well p τ (or_changed b o)
  unfolding or_changed
  well_or b (ok c g) a = a
  well_or b (err e es) a = a

  well_each : (u : ℕ → Frame → Out) (cs : List ℕ) → ((c : ℕ) → Among c cs → Goes u c) → (f : Frame) → Agrees p τ f →
      Well p τ (each u cs f)
  unfolding each and_then
  well_each u [] kids f a = a
  well_each u (c ∷ cs) kids f a =
      first (u c f) (kids c (Memᴰ.head refl) f a) (well_each u cs (λ d m. kids d (Memᴰ.tail m)))
    where
      first : (o : Out) → Well p τ o → ((g : Frame) → Agrees p τ g → Well p τ (each u cs g)) →
          Well p τ (and_then o (each u cs))
      first (ok b g) k rest = well_or b (each u cs g) (rest g k)
      first (err e es) k rest = absurd k

  -- a child that holds has been tried: a single success is one that holds, and there is no failing any more
  abbrev Sound : List ℕ → Found → Type 0
  Sound cs (nothing es) = ⊥
  Sound cs (single c b g) = Among c cs × Holds p τ c × Agrees p τ g
  Sound cs several = Unit

  sound_first : (cs : List ℕ) (found : Found) (c : ℕ) → Among c cs → Holds p τ c → (o : Out) → Well p τ o →
      Sound cs (seen found c o)
  unfolding seen
  sound_first cs (nothing es) c m h (ok b g) a = (m, h, a)
  sound_first cs (single d b g) c m h (ok b' g') a = tt
  sound_first cs several c m h (ok b g) a = tt
  sound_first cs found c m h (err e es) a = absurd a

  sound_more : (cs : List ℕ) (found : Found) (c : ℕ) (o : Out) → Sound cs found → Sound cs (seen found c o)
  unfolding seen
  sound_more cs (nothing es) c o k = absurd k
  sound_more cs (single d b g) c (ok b' g') k = tt
  sound_more cs (single d b g) c (err e es) k = k
  sound_more cs several c o k = tt

  sound_rest : (u : ℕ → Frame → Out) (f : Frame) (cs ds : List ℕ) (found : Found) → Sound cs found →
      Sound cs (trials u f found ds)
  unfolding trials
  sound_rest u f cs [] found k = k
  sound_rest u f cs (d ∷ ds) found k = sound_rest u f cs ds (seen found d (u d f)) (sound_more cs found d (u d f) k)

  sound_trials : (u : ℕ → Frame → Out) (f : Frame) → Agrees p τ f → (cs ds : List ℕ) (found : Found) (c : ℕ) → Among c ds →
      Among c cs → Holds p τ c → Goes u c
      → Sound cs (trials u f found ds)
  unfolding trials
  sound_trials u f a cs [] found c x4 m h k = elim x4 [ ]
  sound_trials u f a cs (d ∷ ds) found c (Memᴰ.head e) m h k =
      sound_rest u f cs ds (seen found d (u d f)) (rw e at (sound_first cs found c m h (u c f) (k f a)))
  sound_trials u f a cs (d ∷ ds) found c (Memᴰ.tail i) m h k =
      sound_trials u f a cs ds (seen found d (u d f)) c i m h k

  well_settle : (r n : ℕ) (cs : List ℕ) → node p r ≡ xor cs → (f : Frame) → Agrees p τ f → (found : Found) →
      Sound cs found → Well p τ (settle p r n f found)
  unfolding settle
  well_settle r n cs e f a (nothing es) k = k
  well_settle r n cs e f a (single c b g) k = agrees_narrow g r c cs e k.0 k.1 k.2
  well_settle r n cs e f a several k = a

  -- the child that an Xor is left with, or else the one that holds, holds and is tried
  well_xor : (u : ℕ → Frame → Out) (r : ℕ) (cs : List ℕ) → node p r ≡ xor cs → (c : ℕ) → Among c cs → Holds p τ c
      → ((d : ℕ) → Among d cs → Holds p τ d → Goes u d) → (f : Frame) → Agrees p τ f → (k : ℕ) → state_of f r ≡ k →
      Well p τ (xor_on u p r (remaining k cs) f)
  unfolding xor_on remaining
  well_xor u r cs n c m h kids f a zero e =
      well_settle r (length cs) cs n f a (trials u f (nothing []) cs) (sound_trials u f a cs cs (nothing []) c m m h (kids c m h))
  well_xor u r cs n c m h kids f a (suc d) e =
      let i : Among d cs = a.framed.narrowed r d cs n e in
      let j : Holds p τ d = a.narrowed r d cs n e in
      well_settle r 1 cs n f a (trials u f (nothing []) (d ∷ [])) (sound_trials u f a cs (d ∷ []) (nothing []) d (Memᴰ.head refl) i j (kids d i j))

  well_eq : (r x y : ℕ) → τ x ≡ τ y → (f : Frame) → Agrees p τ f → (v w : ℕ) → sort_of f x ≡ v → sort_of f y ≡ w →
      Well p τ (eq_on p r x y f v w)
  unfolding eq_on
  well_eq r x y h f a (suc s) zero ex ey = agrees_sort f y s (sym h ∙ a.sorts x s ex) a
  well_eq r x y h f a zero (suc s) ex ey = agrees_sort f x s (h ∙ a.sorts y s ey) a
  well_eq r x y h f a (suc s) (suc t) ex ey = rw (eq-eqb s t (sym (a.sorts x s ex) ∙ h ∙ a.sorts y t ey)) a
  well_eq r x y h f a zero zero ex ey = a

  well_assign : (r x s : ℕ) → τ x ≡ s → (f : Frame) → Agrees p τ f → (v : ℕ) → sort_of f x ≡ v →
      Well p τ (assign_on p r x s f v)
  unfolding assign_on
  well_assign r x s h f a zero e = agrees_sort f x s h a
  well_assign r x s h f a (suc t) e = rw (eq-eqb t s (sym (a.sorts x t e) ∙ h)) a

  well_implies : (u : ℕ → Frame → Out) (r : ℕ) (ws : List ℕ) (c : ℕ) → node p r ≡ implies ws c → Goes u c → (f : Frame) →
      Agrees p τ f → (k : ℕ)
      → Well p τ (implies_on u r ws c f k)
  unfolding implies_on
  well_implies u r ws c n kid f a zero = either (all_sorted f ws)
    where
      either : (b : Bool) → Well p τ (cond b (or_changed true (u c (put_state f r 1))) (ok false f))
      either true = well_or true (u c (put_state f r 1)) (kid (put_state f r 1) (agrees_fire f r ws c n a))
      either false = a
  well_implies u r ws c n kid f a (suc k) = kid f a

  well_step : (u : ℕ → Frame → Out) (r : ℕ) (n : Node) → node p r ≡ n → HoldsAs τ (Holds p τ) n → ((c : ℕ) →
      Among c (children n) → Holds p τ c → Goes u c)
      → (f : Frame) → Agrees p τ f → Well p τ (step u p r n f)
  unfolding step
  well_step u r (eq x y) n h kids f a = well_eq r x y h f a (sort_of f x) (sort_of f y) refl refl
  well_step u r (assign x s) n h kids f a = well_assign r x s h f a (sort_of f x) refl
  well_step u r (and cs) n h kids f a = well_each u cs (λ c m. kids c m (h c m)) f a
  well_step u r (xor cs) n h kids f a = well_xor u r cs n h.0 h.1 h.2 kids f a (state_of f r) refl
  well_step u r (impossible k s) n h kids f a = absurd h
  well_step u r (implies ws c) n h kids f a = well_implies u r ws c n (kids c (Memᴰ.head refl) h) f a (state_of f r)

  well_upd : (d r : ℕ) → Fits p d r → Holds p τ r → Goes (upd p d) r
  unfolding upd
  well_upd zero r fit h f a = absurd fit
  well_upd (suc d) r fit h f a =
      well_step (upd p d) r (node p r) refl (holds_node p τ r h) (λ c m. well_upd d c (fit.kids c m)) f a

  well_pass : Tops p → Satisfies p τ → (f : Frame) → Agrees p τ f → Well p τ (pass p f)
  well_pass tops h f a = well_each (update p) (top_level p) (λ r m. well_upd max_depth r (tops r m) (h r m)) f a

  -- where the passes end, they agree with τ, and they do not end with an error
  abbrev pub Agreed : Run → Type 0
  Agreed (settled n g) = Agrees p τ g
  Agreed (failed n e es) = ⊥

  pub agreed : Tops p → Satisfies p τ → Agreed (running p)
  agreed tops h = on (running p) (running_ended p tops (λ n f. Agrees p τ f) (λ n f g w a e. rw e at
      (well_pass tops h f a)) agrees_empty)
    where
      on : (o : Run) → Ended p (λ n f. Agrees p τ f) o → Agreed o
      on (settled n g) e = rw e.last at (well_pass tops h e.frame e.kept)
      on (failed n x xs) e = rw e.last at (well_pass tops h e.frame e.kept)
