-- Marks only save work: on a frame whose marks are right, an update does to the sorts what it does without marks.
use Prim.Native.Nat.{ℕ, zero, suc, ◌<◌}
use Rattle.std.specs.Prelude.{◌≡◌, ◌⊎◌, Bool, cond, eqb, length}
use Rattle.std.proofs.Math.Path.{refl, subst}
use Rattle.std.proofs.Common.{sym, ◌∙◌, inl, inr, arith}
use Rattle.std.proofs.Math.Bool.{true, false}
use mathlib.Core.List.Memᴰ
use mathlib.Core.List.{List, [], ◌∷◌, ◌++◌}
use Rattle.std.proofs.Math.ListN.{get_or}
use Rattle.definition.specs.Sizes.{max_depth}
use Rattle.definition.specs.Lists.{Among}
use Rattle.definition.specs.Problem.{Problem, Node, eq, assign, and, xor, impossible, implies, node, children, top_level}
use Rattle.definition.specs.Frame.{Frame, sort_of, state_of, put_sort, put_state, empty_frame}
use Rattle.definition.specs.Update.{Entry, Out, ok, err, mismatch, or_changed, and_then, eq_on, assign_on, each, Found, nothing, single, several, seen, trials, settle, remaining, xor_on, implies_on, step, upd, update}
use Rattle.definition.specs.Solve.{pass}
use Rattle.definition.specs.Fits.{Fits, Framed}
use Rattle.definition.proofs.Laws.Kept.{cell_after_set, cell_of_zeroes, framed_empty, framed_sort, framed_narrow, framed_fire}
use Rattle.definition.proofs.Laws.Passes.{Tops}
use Rattle.definition.proofs.Laws.Sentences.{several_stays}
use Rattle.meaning.proofs.Renumbered.{same, map_same, stands_same}
use Rattle.meaning.proofs.Plain.{After, stuck, to, next, in_turn, Tried, none, one, more, tried, try_all, pick, plain_eq, plain_assign, sorted_in, plain_step, plain, Under, keeps_set, Grows, plain_grows}
use Rattle.meaning.proofs.Larger.{Larger, all_up, plain_larger}

-- an Xor narrowed to c is tried as if c were its one child, from these sorts on
abbrev Alone : Problem → List ℕ → ℕ → List ℕ → ℕ → Type 0
Alone p S r cs c = (T : List ℕ) → Under same S T → length T ≡ p.counts.terms → (d : ℕ) → Fits p (suc d) r → try_all
    (plain p d) T none cs ≡ try_all (plain p d) T none (c ∷ [])

abbrev Watched : List ℕ → List ℕ → Type 0
Watched S ws = (T : List ℕ) → Under same S T → sorted_in T ws ≡ true

-- marks that are right
pub record Marked (p : Problem) (f : Frame) : Type 0 where
  pub framed : Framed p f
  pub narrowed : (r c : ℕ) (cs : List ℕ) → node p r ≡ xor cs → state_of f r ≡ suc c → Alone p f.sorts r cs c
  pub fired : (r k : ℕ) (ws : List ℕ) (c : ℕ) → node p r ≡ implies ws c → state_of f r ≡ suc k → Watched f.sorts ws

pub marked_empty : (p : Problem) → Marked p (empty_frame p)
marked_empty p = record {
  framed = framed_empty p;
  narrowed = λ r c cs n e. absurd (omega (arith, cell_of_zeroes p.counts.records r));
  fired = λ r k ws c n e. absurd (omega (arith, cell_of_zeroes p.counts.records r));
}

marked_sort : (p : Problem) (f : Frame) (t v : ℕ) → sort_of f t ≡ 0 → Marked p f → Marked p (put_sort f t v)
marked_sort p f t v z w = record {
  framed = framed_sort p f t v w.framed;
  narrowed = λ r c cs n e T k. w.narrowed r c cs n e T (λ x s h. k x s (keeps_set f.sorts t v z x s h));
  fired = λ r i ws c n e T k. w.fired r i ws c n e T (λ x s h. k x s (keeps_set f.sorts t v z x s h));
}

marked_state : (p : Problem) (f : Frame) (r v : ℕ) → Framed p (put_state f r v) → ((c : ℕ) (cs : List ℕ) →
    node p r ≡ xor cs → v ≡ suc c → Alone p f.sorts r cs c)
    → ((ws : List ℕ) (c : ℕ) → node p r ≡ implies ws c → Watched f.sorts ws) → Marked p f → Marked p (put_state f r v)
marked_state p f r v framed own watched w = record {
  framed = framed;
  narrowed = λ q c cs n e. xors q c cs n e (cell_after_set f.states r v q);
  fired = λ q k ws c n e. fires q k ws c n e (cell_after_set f.states r v q);
}
  where
    xors : (q c : ℕ) (cs : List ℕ) → node p q ≡ xor cs → state_of (put_state f r v) q ≡ suc c
        → ((q ≡ r) × (r < length f.states) × (state_of (put_state f r v) q ≡ v)) ⊎ (state_of (put_state f r v) q ≡ state_of f q) → Alone p f.sorts q cs c
    xors q c cs n e (inl k) = rw k.0 (own c cs (rw k.0 at n) (sym k.2 ∙ e))
    xors q c cs n e (inr k) = w.narrowed q c cs n (sym k ∙ e)

    fires : (q k : ℕ) (ws : List ℕ) (c : ℕ) → node p q ≡ implies ws c → state_of (put_state f r v) q ≡ suc k
        → ((q ≡ r) × (r < length f.states) × (state_of (put_state f r v) q ≡ v)) ⊎ (state_of (put_state f r v) q ≡ state_of f q) → Watched f.sorts ws
    fires q k ws c n e (inl i) = watched ws c (rw i.0 at n)
    fires q k ws c n e (inr i) = w.fired q k ws c n (sym i ∙ e)

marked_narrow : (p : Problem) (f : Frame) (r c : ℕ) (cs : List ℕ) → node p r ≡ xor cs → Among c cs →
    Alone p f.sorts r cs c → Marked p f → Marked p (put_state f r (suc c))
marked_narrow p f r c cs n m a w =
    marked_state p f r (suc c) (framed_narrow p f r c cs n m w.framed)
    (λ d ds n' e. let i : c ≡ d = cc in let j : cs ≡ ds = cc in rw (← i, ← j) a)
    (λ ws d n'. let z : ◌≡◌ {A = ℕ} 0 1 = cc in absurd (omega arith)) w

marked_fire : (p : Problem) (f : Frame) (r : ℕ) (ws : List ℕ) (c : ℕ) → node p r ≡ implies ws c → Watched f.sorts ws →
    Marked p f → Marked p (put_state f r 1)
marked_fire p f r ws c n a w =
    marked_state p f r 1 (framed_fire p f r c ws n w.framed) (λ d ds n' e. let z : ◌≡◌ {A =
    ℕ} 0 1 = cc in absurd (omega arith))
    (λ vs d n'. let i : ws ≡ vs = cc in rw (← i) a) w

-- a child that fails, and one that is alone among children that fail
abbrev Dead : (ℕ → List ℕ → After) → List ℕ → List ℕ → Type 0
Dead v S [] = Unit
Dead v S (d ∷ ds) = (v d S ≡ stuck) × Dead v S ds

data Lone (v : ℕ → List ℕ → After) (S : List ℕ) (c : ℕ) : List ℕ → Type 0 where
  here : {d : ℕ} {ds : List ℕ} → c ≡ d → Dead v S ds → Lone v S c (d ∷ ds)
  there : {d : ℕ} {ds : List ℕ} → v d S ≡ stuck → Lone v S c ds → Lone v S c (d ∷ ds)

dead_tries : (w : ℕ → List ℕ → After) (T : List ℕ) (k : Tried) (ds : List ℕ) → Dead w T ds → try_all w T k ds ≡ k
unfolding try_all
dead_tries w T k [] h = refl
dead_tries w T none (d ∷ ds) h = rw h.0 (dead_tries w T none ds h.1)
dead_tries w T (one A) (d ∷ ds) h = rw h.0 (dead_tries w T (one A) ds h.1)
dead_tries w T more (d ∷ ds) h = rw h.0 (dead_tries w T more ds h.1)

lone_tries : (w : ℕ → List ℕ → After) (T : List ℕ) (c : ℕ) (cs : List ℕ) → Lone w T c cs →
    try_all w T none cs ≡ try_all w T none (c ∷ [])
unfolding try_all
lone_tries w T c [] x' = elim x' [ ]
lone_tries w T c (d ∷ ds) (here e h) = rw e (dead_tries w T (tried none (w d T)) ds h)
lone_tries w T c (d ∷ ds) (there e h) = rw e (lone_tries w T c ds h)

-- from v at S to w at T, if w fails wherever v does
dead_up : (v w : ℕ → List ℕ → After) (S T : List ℕ) (ds : List ℕ) → ((d : ℕ) → Among d ds → v d S ≡ stuck →
    w d T ≡ stuck) → Dead v S ds → Dead w T ds
dead_up v w S T [] k h = tt
dead_up v w S T (d ∷ ds) k h = (k d (Memᴰ.head refl) h.0, dead_up v w S T ds (λ c m. k c (Memᴰ.tail m)) h.1)

lone_up : (v w : ℕ → List ℕ → After) (S T : List ℕ) (c : ℕ) (cs : List ℕ) → ((d : ℕ) → Among d cs → v d S ≡ stuck →
    w d T ≡ stuck) → Lone v S c cs → Lone w T c cs
lone_up v w S T c [] k x'' = elim x'' [ ]
lone_up v w S T c (d ∷ ds) k (here e h) = here e (dead_up v w S T ds (λ c m. k c (Memᴰ.tail m)) h)
lone_up v w S T c (d ∷ ds) k (there e h) =
    there (k d (Memᴰ.head refl) e) (lone_up v w S T c ds (λ c m. k c (Memᴰ.tail m)) h)

lone_among : (v : ℕ → List ℕ → After) (S : List ℕ) (c : ℕ) (cs : List ℕ) → Lone v S c cs → Among c cs
lone_among v S c [] x' = elim x' [ ]
lone_among v S c (d ∷ ds) (here e h) = Memᴰ.head e
lone_among v S c (d ∷ ds) (there e h) = Memᴰ.tail (lone_among v S c ds h)

stuck_up : (o O : After) → Larger same o O → o ≡ stuck → O ≡ stuck
stuck_up stuck stuck h e = refl
stuck_up stuck (to T) h e = absurd h
stuck_up (to S) O h e = let z : ◌≡◌ {A = ℕ} 0 1 = cc in absurd (omega arith)

module _ (p : Problem) where
  -- a child alone at S is alone from S on
  alone : (d r : ℕ) (cs : List ℕ) → Fits p (suc d) r → node p r ≡ xor cs → (S : List ℕ) (c : ℕ) → Lone (plain p d) S c cs →
      Alone p S r cs c
  alone d r cs fit n S c h T k l e fit' =
      lone_tries (plain p e) T c cs
      (lone_up (plain p d) (plain p e) S T c cs
      (λ x m i.
      let m' : Among x (children (node p r)) = rw n m in
      stuck_up (plain p d x S) (plain p e x T) (plain_larger p p same same (stands_same p p (λ r l. refl) (λ r m. m)) d e x (fit.kids x m') (fit'.kids x m') S T l k) i)
      h)

  -- the update and the plain one
  abbrev pub Agree : Out → After → Type 0
  Agree (ok b g) (to S) = Marked p g × (g.sorts ≡ S)
  Agree (ok b g) stuck = ⊥
  Agree (err e es) (to S) = ⊥
  Agree (err e es) stuck = Unit

  abbrev AgreeKid : (ℕ → Frame → Out) → (ℕ → List ℕ → After) → ℕ → Type 0
  AgreeKid u v c = (f : Frame) → Marked p f → Agree (u c f) (v c f.sorts)

  agree_or : (b : Bool) (o : Out) (O : After) → Agree o O → Agree (or_changed b o) O
  unfolding or_changed
  agree_or b (ok c g) (to S) h = h
  agree_or b (ok c g) stuck h = h
  agree_or b (err e es) (to S) h = h
  agree_or b (err e es) stuck h = h

  agree_each : (u : ℕ → Frame → Out) (v : ℕ → List ℕ → After) (cs : List ℕ) → ((c : ℕ) → Among c cs → AgreeKid u v c) →
      (f : Frame) → Marked p f
      → Agree (each u cs f) (in_turn v cs f.sorts)
  unfolding each in_turn and_then
  agree_each u v [] kids f w = (w, refl)
  agree_each u v (c ∷ cs) kids f w =
      on (u c f) (v c f.sorts) (kids c (Memᴰ.head refl) f w) (agree_each u v cs (λ d m. kids d (Memᴰ.tail m)))
    where
      on : (o : Out) (O : After) → Agree o O → ((g : Frame) → Marked p g → Agree (each u cs g) (in_turn v cs g.sorts))
          → Agree (and_then o (each u cs)) (next O (in_turn v cs))
      on (ok b g) (to S) h rest = agree_or b (each u cs g) (in_turn v cs S) (subst (λ (l : List ℕ). Agree (each u cs g)
          (in_turn v cs l)) h.1 (rest g h.0))
      on (ok b g) stuck h rest = absurd h
      on (err e es) (to S) h rest = absurd h
      on (err e es) stuck h rest = tt

  -- the trials and the plain ones, from the sorts S
  abbrev AgreeFound : List ℕ → Found → Tried → Type 0
  AgreeFound S (nothing es) none = Unit
  AgreeFound S (nothing es) (one T) = ⊥
  AgreeFound S (nothing es) more = ⊥
  AgreeFound S (single c b g) none = ⊥
  AgreeFound S (single c b g) (one T) = Marked p g × (g.sorts ≡ T) × Under same S T
  AgreeFound S (single c b g) more = ⊥
  AgreeFound S several none = ⊥
  AgreeFound S several (one T) = ⊥
  AgreeFound S several more = Unit

  agree_seen : (S : List ℕ) (found : Found) (k : Tried) (c : ℕ) (o : Out) (O : After) → AgreeFound S found k → Agree o O →
      Grows S O
      → AgreeFound S (seen found c o) (tried k O)
  unfolding seen
  agree_seen S (nothing es) none c (ok b g) (to T) h i j = (i.0, i.1, j.0)
  agree_seen S (nothing es) none c (ok b g) stuck h i j = absurd i
  agree_seen S (nothing es) none c (err e xs) (to T) h i j = absurd i
  agree_seen S (nothing es) none c (err e xs) stuck h i j = tt
  agree_seen S (nothing es) (one T) c o O h i j = absurd h
  agree_seen S (nothing es) more c o O h i j = absurd h
  agree_seen S (single d b g) none c o O h i j = absurd h
  agree_seen S (single d b g) (one A) c (ok b' g') (to T) h i j = tt
  agree_seen S (single d b g) (one A) c (ok b' g') stuck h i j = absurd i
  agree_seen S (single d b g) (one A) c (err e xs) (to T) h i j = absurd i
  agree_seen S (single d b g) (one A) c (err e xs) stuck h i j = h
  agree_seen S (single d b g) more c o O h i j = absurd h
  agree_seen S several none c o O h i j = absurd h
  agree_seen S several (one T) c o O h i j = absurd h
  agree_seen S several more c (ok b g) (to T) h i j = tt
  agree_seen S several more c (ok b g) stuck h i j = tt
  agree_seen S several more c (err e xs) (to T) h i j = tt
  agree_seen S several more c (err e xs) stuck h i j = tt

  agree_trials : (u : ℕ → Frame → Out) (v : ℕ → List ℕ → After) → ((c : ℕ) (S : List ℕ) → Grows S (v c S)) → (f : Frame) →
      Marked p f → (cs : List ℕ)
      → ((c : ℕ) → Among c cs → AgreeKid u v c) → (found : Found) (k : Tried) → AgreeFound f.sorts found k
      → AgreeFound f.sorts (trials u f found cs) (try_all v f.sorts k cs)
  unfolding trials try_all
  agree_trials u v grows f w [] kids found k h = h
  agree_trials u v grows f w (c ∷ cs) kids found k h =
      agree_trials u v grows f w cs (λ d m. kids d (Memᴰ.tail m)) (seen found c (u c f)) (tried k (v c f.sorts))
      (agree_seen f.sorts found k c (u c f) (v c f.sorts) h (kids c (Memᴰ.head refl) f w) (grows c f.sorts))

  -- which child a single success is of: the others failed
  abbrev FromOne : (ℕ → List ℕ → After) → List ℕ → List ℕ → ℕ → Found → Type 0
  FromOne v S ds c (nothing es) = ⊥
  FromOne v S ds c (single d b g) = (d ≡ c) × Dead v S ds
  FromOne v S ds c several = Unit

  abbrev FromNone : (ℕ → List ℕ → After) → List ℕ → List ℕ → Found → Type 0
  FromNone v S ds (nothing es) = Unit
  FromNone v S ds (single d b g) = Lone v S d ds
  FromNone v S ds several = Unit

  from_one : (u : ℕ → Frame → Out) (v : ℕ → List ℕ → After) (f : Frame) → Marked p f → (ds : List ℕ) → ((d : ℕ) →
      Among d ds → AgreeKid u v d)
      → (c : ℕ) (b : Bool) (g : Frame) → FromOne v f.sorts ds c (trials u f (single c b g) ds)
  unfolding trials seen
  from_one u v f w [] kids c b g = (refl, tt)
  from_one u v f w (d ∷ ds) kids c b g =
      on (u d f) (v d f.sorts) refl (kids d (Memᴰ.head refl) f w) (from_one u v f w ds (λ x m. kids x (Memᴰ.tail m)) c b g)
    where
      add : v d f.sorts ≡ stuck → (found : Found) → FromOne v f.sorts ds c found →
          FromOne v f.sorts (d ∷ ds) c found
      add e (nothing es) h = h
      add e (single x y z) h = (h.0, (e, h.1))
      add e several h = tt

      on : (o : Out) (O : After) → v d f.sorts ≡ O → Agree o O → FromOne v f.sorts ds c (trials u f (single c b g) ds)
          → FromOne v f.sorts (d ∷ ds) c (trials u f (seen (single c b g) d o) ds)
      on (ok b' g') O e h rest = rw (several_stays u f ds) tt
      on (err x xs) (to T) e h rest = absurd h
      on (err x xs) stuck e h rest = add e (trials u f (single c b g) ds) rest

  from_none : (u : ℕ → Frame → Out) (v : ℕ → List ℕ → After) (f : Frame) → Marked p f → (ds : List ℕ) → ((d : ℕ) →
      Among d ds → AgreeKid u v d)
      → (es : List Entry) → FromNone v f.sorts ds (trials u f (nothing es) ds)
  unfolding trials seen
  from_none u v f w [] kids es = tt
  from_none u v f w (d ∷ ds) kids es =
      on (u d f) (v d f.sorts) refl (kids d (Memᴰ.head refl) f w) (from_none u v f w ds (λ x m. kids x (Memᴰ.tail m)))
    where
      add : v d f.sorts ≡ stuck → (found : Found) → FromNone v f.sorts ds found → FromNone v f.sorts (d ∷ ds) found
      add e (nothing es) h = tt
      add e (single x y z) h = there e h
      add e several h = tt

      first : (found : Found) → FromOne v f.sorts ds d found → FromNone v f.sorts (d ∷ ds) found
      first (nothing es) h = tt
      first (single x y z) h = here h.0 h.1
      first several h = tt

      on : (o : Out) (O : After) → v d f.sorts ≡ O → Agree o O → ((xs : List Entry) →
          FromNone v f.sorts ds (trials u f (nothing xs) ds))
          → FromNone v f.sorts (d ∷ ds) (trials u f (seen (nothing es) d o) ds)
      on (ok b g) O e h rest =
          first (trials u f (single d b g) ds) (from_one u v f w ds (λ x m. kids x (Memᴰ.tail m)) d b g)
      on (err x xs) (to T) e h rest = absurd h
      on (err x xs) stuck e h rest = add e (trials u f (nothing (es ++ (x ∷ xs))) ds) (rest (es ++ (x ∷ xs)))

  -- the one that stands is a child, and alone from here on
  abbrev Stands : List ℕ → ℕ → List ℕ → Found → Type 0
  Stands S r cs (nothing es) = Unit
  Stands S r cs (single c b g) = Among c cs × Alone p S r cs c
  Stands S r cs several = Unit

  agree_settle : (r n : ℕ) (cs : List ℕ) → node p r ≡ xor cs → (f : Frame) → Marked p f → (found : Found) (k : Tried) →
      AgreeFound f.sorts found k
      → Stands f.sorts r cs found → Agree (settle p r n f found) (pick f.sorts k)
  unfolding settle
  agree_settle r n cs e f w (nothing es) none h i = tt
  agree_settle r n cs e f w (nothing es) (one T) h i = absurd h
  agree_settle r n cs e f w (nothing es) more h i = absurd h
  agree_settle r n cs e f w (single c b g) none h i = absurd h
  agree_settle r n cs e f w (single c b g) (one T) h i =
      (marked_narrow p g r c cs e i.0 (λ U k. i.1 U (λ t s l. k t s (subst (λ (L : List ℕ). get_or L t 0 ≡ suc s) (sym h.1) (h.2 t s l)))) h.0, h.1)
  agree_settle r n cs e f w (single c b g) more h i = absurd h
  agree_settle r n cs e f w several none h i = absurd h
  agree_settle r n cs e f w several (one T) h i = absurd h
  agree_settle r n cs e f w several more h i = (w, refl)

  agree_xor : (d r : ℕ) (cs : List ℕ) → Fits p (suc d) r → node p r ≡ xor cs → ((c : ℕ) → Among c cs →
      AgreeKid (upd p d) (plain p d) c) → (f : Frame) → Marked p f
      → (k : ℕ) → state_of f r ≡ k →
      Agree (xor_on (upd p d) p r (remaining k cs) f) (pick f.sorts (try_all (plain p d) f.sorts none cs))
  unfolding xor_on remaining
  agree_xor d r cs fit n kids f w zero e =
      agree_settle r (length cs) cs n f w (trials (upd p d) f (nothing []) cs) (try_all (plain p d) f.sorts none cs)
      (agree_trials (upd p d) (plain p d) (plain_grows p d) f w cs kids (nothing []) none tt)
      (on (trials (upd p d) f (nothing []) cs) (from_none (upd p d) (plain p d) f w cs kids []))
    where
      on : (found : Found) → FromNone (plain p d) f.sorts cs found → Stands f.sorts r cs found
      on (nothing es) h = tt
      on (single c b g) h = (lone_among (plain p d) f.sorts c cs h, alone d r cs fit n f.sorts c h)
      on several h = tt
  agree_xor d r cs fit n kids f w (suc c) e =
      rw (w.narrowed r c cs n e f.sorts (λ t s h. h) w.framed.sorts d fit)
      (agree_settle r 1 cs n f w (trials (upd p d) f (nothing []) (c ∷ [])) (try_all (plain p d) f.sorts none (c ∷ []))
      (agree_trials (upd p d) (plain p d) (plain_grows p d) f w (c ∷ []) kid (nothing []) none tt)
      (on (trials (upd p d) f (nothing []) (c ∷ [])) (from_none (upd p d) (plain p d) f w (c ∷ []) kid [])))
    where
      own : Among c cs
      own = w.framed.narrowed r c cs n e

      kid : (x : ℕ) → Among x (c ∷ []) → AgreeKid (upd p d) (plain p d) x
      kid x m = kids x (Memᴰ.cast (Memᴰ.eq_of_singleton m) own)

      on : (found : Found) → FromNone (plain p d) f.sorts (c ∷ []) found → Stands f.sorts r cs found
      on (nothing es) h = tt
      on (single x b g) h =
          let i : x ≡ c = Memᴰ.eq_of_singleton (lone_among (plain p d) f.sorts x (c ∷ []) h) in
          rw i (own, w.narrowed r c cs n e)
      on several h = tt

  agree_cond : (f : Frame) → Marked p f → (b : Bool) (e : Entry) →
      Agree (cond b (ok false f) (err e [])) (cond b (to f.sorts) stuck)
  agree_cond f w true e = (w, refl)
  agree_cond f w false e = tt

  agree_eq : (r x y : ℕ) (f : Frame) → Marked p f → (a b : ℕ) → sort_of f x ≡ a → sort_of f y ≡ b →
      Agree (eq_on p r x y f a b) (plain_eq x y f.sorts a b)
  unfolding eq_on
  agree_eq r x y f w (suc s) zero ex ey = (marked_sort p f y (suc s) ey w, refl)
  agree_eq r x y f w zero (suc s) ex ey = (marked_sort p f x (suc s) ex w, refl)
  agree_eq r x y f w (suc s) (suc t) ex ey = agree_cond f w (eqb s t) (mismatch p r x s t)
  agree_eq r x y f w zero zero ex ey = (w, refl)

  agree_assign : (r x s : ℕ) (f : Frame) → Marked p f → (a : ℕ) → sort_of f x ≡ a →
      Agree (assign_on p r x s f a) (plain_assign x s f.sorts a)
  unfolding assign_on
  agree_assign r x s f w zero e = (marked_sort p f x (suc s) e w, refl)
  agree_assign r x s f w (suc t) e = agree_cond f w (eqb t s) (mismatch p r x s t)

  agree_implies : (u : ℕ → Frame → Out) (v : ℕ → List ℕ → After) (r : ℕ) (ws : List ℕ) (c : ℕ) → node p r ≡ implies ws c →
      AgreeKid u v c → (f : Frame) → Marked p f
      → (k : ℕ) → state_of f r ≡ k →
      Agree (implies_on u r ws c f k) (cond (sorted_in f.sorts ws) (v c f.sorts) (to f.sorts))
  unfolding implies_on
  agree_implies u v r ws c n kid f w zero e = on (sorted_in f.sorts ws) refl
    where
      on : (b : Bool) → sorted_in f.sorts ws ≡ b
          → Agree (cond b (or_changed true (u c (put_state f r 1))) (ok false f)) (cond b (v c f.sorts) (to f.sorts))
      on true h =
          agree_or true (u c (put_state f r 1)) (v c f.sorts)
          (kid (put_state f r 1) (marked_fire p f r ws c n (λ T k. subst (λ (l : List ℕ). sorted_in T l ≡ true) (sym (map_same ws)) (all_up same f.sorts T k ws h)) w))
      on false h = (w, refl)
  agree_implies u v r ws c n kid f w (suc k) e = rw (w.fired r k ws c n e f.sorts (λ t s h. h)) (kid f w)

  agree_step : (d r : ℕ) → Fits p (suc d) r → (n : Node) → node p r ≡ n → ((c : ℕ) → Among c (children n) →
      AgreeKid (upd p d) (plain p d) c) → (f : Frame) → Marked p f
      → Agree (step (upd p d) p r n f) (plain_step (plain p d) n f.sorts)
  unfolding step
  agree_step d r fit (eq x y) n kids f w = agree_eq r x y f w (sort_of f x) (sort_of f y) refl refl
  agree_step d r fit (assign x s) n kids f w = agree_assign r x s f w (sort_of f x) refl
  agree_step d r fit (and cs) n kids f w = agree_each (upd p d) (plain p d) cs kids f w
  agree_step d r fit (xor cs) n kids f w = agree_xor d r cs fit n kids f w (state_of f r) refl
  agree_step d r fit (impossible h e) n kids f w = tt
  agree_step d r fit (implies ws c) n kids f w =
      agree_implies (upd p d) (plain p d) r ws c n (kids c (Memᴰ.head refl)) f w (state_of f r) refl

  agree_upd : (d r : ℕ) → Fits p d r → AgreeKid (upd p d) (plain p d) r
  unfolding upd plain
  agree_upd zero r fit f w = absurd fit
  agree_upd (suc d) r fit f w = agree_step d r fit (node p r) refl (λ c m. agree_upd d c (fit.kids c m)) f w

  -- a pass
  pub agree_pass : Tops p → (f : Frame) → Marked p f → Agree (pass p f) (in_turn (plain p max_depth) (top_level p) f.sorts)
  agree_pass tops f w = agree_each (update p) (plain p max_depth) (top_level p) (λ r m. agree_upd max_depth r (tops r m)) f w
