-- Solving a problem of such constraints sorts just the least set of terms that they give, and never fails.
use Prim.Native.Nat.{ℕ, zero, suc, ◌+◌, ◌<◌}
use Rattle.std.specs.Prelude.{◌≡◌, ◌⊎◌, Bool, cond, length, get_or, set}
use Rattle.std.proofs.Math.Path.{refl, sym, subst}
use Rattle.std.proofs.Common.{◌∙◌, inl, inr, true≢false, arith, eq-eqb}
use Rattle.std.proofs.Math.Bool.{true, false}
use mathlib.Core.List.{List, [], ◌∷◌}
use Rattle.definition.specs.Lists.{Among}
use Rattle.definition.specs.Problem.{Problem, assign, implies, node, top_level}
use Rattle.definition.specs.Frame.{Frame, sort_of, state_of, put_sort, put_state, empty_frame}
use Rattle.definition.specs.Update.{Out, ok, err, or_changed, and_then, eq_on, assign_on, each, is_sorted, all_sorted, implies_on, step, upd}
use Rattle.definition.specs.Solve.{pass, Run, settled, failed, running}
use Rattle.definition.proofs.Laws.Lists.{all_member, member_all, neither}
use Rattle.definition.proofs.Laws.Kept.{cell_after_set, cell_of_zeroes}
use Rattle.definition.proofs.Laws.Passes.{Tops, Ended, running_ended}
use Rattle.meaning.proofs.Answers.{each_sort}
use Rattle.grounded_body.specs.Body.{Constraint, assigned, same, follows}
use Rattle.grounded_body.specs.Layout.{records_of, top_of, tops_in}
use Rattle.grounded_body.proofs.Laws.Standing.{Is, Standing}

-- a set of terms that a constraint adds nothing to
abbrev pub Respects : (ℕ → Type 0) → Constraint → Type 0
Respects D (assigned t) = D t
Respects D (same x y) = (D x → D y) × (D y → D x)
Respects D (follows ws t) = ((w : ℕ) → Among w ws → D w) → D t

abbrev pub RespectsAll : (ℕ → Type 0) → List Constraint → Type 0
RespectsAll D [] = Unit {0}
RespectsAll D (g ∷ gs) = Respects D g × RespectsAll D gs

-- the term has a sort
abbrev pub Sorted : List ℕ → ℕ → Type 0
Sorted sorts t = (v : ℕ) × (get_or sorts t 0 ≡ suc v)

sorted_test : (v : ℕ) → is_sorted v ≡ true → (k : ℕ) × (v ≡ suc k)
unfolding is_sorted
sorted_test zero e = absurd (true≢false (sym e))
sorted_test (suc v) e = (v, refl)

test_sorted : (l : List ℕ) (t : ℕ) → Sorted l t → is_sorted (get_or l t 0) ≡ true
unfolding is_sorted
test_sorted l t s = rw s.1

module _ (p : Problem) (D : ℕ → Type 0) where
  -- only terms of D are sorted, all by sort 0, and what a fired Implies gives is in D
  pub record Within (f : Frame) : Type 0 where
    pub sorts : (t v : ℕ) → sort_of f t ≡ suc v → (v ≡ 0) × D t
    pub fired : (r n t k : ℕ) (ws : List ℕ) → node p r ≡ implies ws n → node p n ≡ assign t 0 → state_of f r ≡ suc k → D t

  within_empty : Within (empty_frame p)
  within_empty = record {
    sorts = λ t v e. absurd (omega (arith, cell_of_zeroes p.counts.terms t, e));
    fired = λ r n t k ws e h l. absurd (omega (arith, cell_of_zeroes p.counts.records r, l));
  }

  within_sort : (f : Frame) (t s : ℕ) → Within f → s ≡ 0 → D t → Within (put_sort f t (suc s))
  within_sort f t s W e d = record {
    sorts = each_sort (λ x v. (v ≡ 0) × D x) f t s (e, d) W.sorts;
    fired = W.fired;
  }

  within_fire : (f : Frame) (r n t : ℕ) (ws : List ℕ) → Within f → node p r ≡ implies ws n → node p n ≡ assign t 0 → D t →
      Within (put_state f r 1)
  within_fire f r n t ws W e h d = record { sorts = W.sorts; fired = fires }
    where
      fires : (q m x k : ℕ) (vs : List ℕ) → node p q ≡ implies vs m → node p m ≡ assign x 0 → state_of (put_state f r 1) q ≡ suc k → D x
      fires q m x k vs e' h' l = on (cell_after_set f.states r 1 q)
        where
          on : ((q ≡ r) × (r < length f.states) × (get_or (set f.states r 1) q 0 ≡ 1)) ⊎
              (get_or (set f.states r 1) q 0 ≡ get_or f.states q 0) → D x
          on (inl w) =
              let i : q ≡ r = w.0 in
              let j : m ≡ n = cc in
              let y : x ≡ t = cc in
              rw y d
          on (inr w) = W.fired q m x k vs e' h' (sym w ∙ l)

  -- an answer from a frame within D: the frame after is within D, and where nothing changed the sorts respect g
  abbrev Stepped : Constraint → Frame → Out → Type 0
  Stepped g f (ok b h) = Within h × (b ≡ false → Respects (Sorted f.sorts) g × (h.sorts ≡ f.sorts))
  Stepped g f (err e es) = ⊥

  step_assign : (r t v : ℕ) (f : Frame) → Within f → D t → sort_of f t ≡ v → Stepped (assigned t) f (assign_on p r t 0 f v)
  unfolding assign_on
  step_assign r t zero f W d e = (within_sort f t 0 W refl d, λ z. absurd (true≢false z))
  step_assign r t (suc v) f W d e = rw (eq-eqb v 0 (W.sorts t v e).0) (W, λ z. ((v, e), refl))

  step_eq : (r x y v w : ℕ) (f : Frame) → Within f → Respects D (same x y) → sort_of f x ≡ v → sort_of f y ≡ w →
      Stepped (same x y) f (eq_on p r x y f v w)
  unfolding eq_on
  step_eq r x y (suc v) zero f W d e h =
      let (z, k) = W.sorts x v e in
      (within_sort f y v W z (d.0 k), λ z. absurd (true≢false z))
  step_eq r x y zero (suc w) f W d e h =
      let (z, k) = W.sorts y w h in
      (within_sort f x w W z (d.1 k), λ z. absurd (true≢false z))
  step_eq r x y (suc v) (suc w) f W d e h =
      let i : v ≡ w = (W.sorts x v e).0 ∙ sym (W.sorts y w h).0 in
      rw (eq-eqb v w i) (W, λ z. ((λ k. (w, h), λ k. (v, e)), refl))
  step_eq r x y zero zero f W d e h =
      (W, λ z. ((λ k. absurd (omega (arith, k.1, e)), λ k. absurd (omega (arith, k.1, h))), refl))

  -- the child of an Implies
  step_child : (d n t : ℕ) (f : Frame) → Within f → D t → node p n ≡ assign t 0 → Stepped (assigned t) f (upd p (suc d) n f)
  unfolding upd step
  step_child d n t f W k e = rw e (step_assign n t (sort_of f t) f W k refl)

  -- firing is a change
  after_firing_lem : (g : Constraint) (t : ℕ) (f h : Frame) (o : Out) → Stepped (assigned t) h o → Stepped g f (or_changed true o)
  unfolding or_changed
  after_firing_lem g t f h (ok b k) s = (s.0, λ z. absurd (true≢false z))
  after_firing_lem g t f h (err e es) s = s

  -- once fired, the child decides
  once_fired : (ws : List ℕ) (t : ℕ) (f : Frame) (o : Out) → Stepped (assigned t) f o → Stepped (follows ws t) f o
  once_fired ws t f (ok b h) s = (s.0, λ z. (λ k. (s.1 z).0, (s.1 z).1))
  once_fired ws t f (err e es) s = s

  step_implies : (d r n t k : ℕ) (ws : List ℕ) (f : Frame) → Within f → Respects D (follows ws t) → node p n ≡ assign t 0 →
      node p r ≡ implies ws n → state_of f r ≡ k → Stepped (follows ws t) f (implies_on (upd p (suc d)) r ws n f k)
  unfolding implies_on
  step_implies d r n t zero ws f W c e h l = on (all_sorted f ws) refl
    where
      on : (b : Bool) → all_sorted f ws ≡ b →
          Stepped (follows ws t) f (cond b (or_changed true (upd p (suc d) n (put_state f r 1))) (ok false f))
      on true a =
          let k : D t = c (λ w m. (W.sorts w _ (sorted_test (sort_of f w) (all_member (λ w. is_sorted (sort_of f w)) w ws a m)).1).1) in
          after_firing_lem (follows ws t) t f (put_state f r 1) (upd p (suc d) n (put_state f r 1))
          (step_child d n t (put_state f r 1) (within_fire f r n t ws W h e k) k e)
      on false a = (
        W,
        λ z. (
          λ s. absurd (true≢false (sym (member_all (λ w. is_sorted (sort_of f w)) ws (λ w m. test_sorted f.sorts w (s w m))) ∙ a)),
          refl,
        ),
      )
  step_implies d r n t (suc k) ws f W c e h l =
      once_fired ws t f (upd p (suc d) n f) (step_child d n t f W (W.fired r n t k ws h e l) e)

  stepped : (d n : ℕ) (g : Constraint) (f : Frame) → Is p n g → Respects D g → Within f → Stepped g f (upd p (suc (suc d)) (top_of n g) f)
  unfolding upd step
  stepped d n (assigned t) f i c W = rw i (step_assign n t (sort_of f t) f W c refl)
  stepped d n (same x y) f i c W = rw i (step_eq n x y (sort_of f x) (sort_of f y) f W c refl refl)
  stepped d n (follows ws t) f i c W =
      rw i.1 (step_implies d (suc n) n t (state_of f (suc n)) ws f W c i.0 i.1 refl)

  -- the same of a pass
  abbrev Passed : List Constraint → Frame → Out → Type 0
  Passed gs f (ok b h) = Within h × (b ≡ false → RespectsAll (Sorted f.sorts) gs × (h.sorts ≡ f.sorts))
  Passed gs f (err e es) = ⊥

  passed_on : (g : Constraint) (gs : List Constraint) (b : Bool) (f h : Frame) (o : Out) →
      (b ≡ false → Respects (Sorted f.sorts) g × (h.sorts ≡ f.sorts)) → Passed gs h o → Passed (g ∷ gs) f (or_changed b o)
  unfolding or_changed
  passed_on g gs b f h (ok c k) s q = (
    q.0,
    λ z.
        let (x, y) = neither b c z in
        let e : h.sorts ≡ f.sorts = (s x).1 in
        (((s x).0, subst (λ (l : List ℕ). RespectsAll (Sorted l) gs) e (q.1 y).0), (q.1 y).1 ∙ e),
  )
  passed_on g gs b f h (err e es) s q = q

  passed : (d n : ℕ) (gs : List Constraint) (f : Frame) → Standing p n gs → RespectsAll D gs → Within f →
      Passed gs f (each (upd p (suc (suc d))) (tops_in n gs) f)
  unfolding each and_then tops_in
  passed d n [] f i c W = (W, λ z. (tt, refl))
  passed d n (g ∷ gs) f i c W =
      on (upd p (suc (suc d)) (top_of n g) f) (stepped d n g f i.0 c.0 W) (λ h V'. passed d (n + records_of g) gs h i.1 c.1 V')
    where
      on : (o : Out) → Stepped g f o →
          ((h : Frame) → Within h → Passed gs h (each (upd p (suc (suc d))) (tops_in (n + records_of g) gs) h)) →
          Passed (g ∷ gs) f (and_then o (each (upd p (suc (suc d))) (tops_in (n + records_of g) gs)))
      on (ok b h) s rest = passed_on g gs b f h (each (upd p (suc (suc d))) (tops_in (n + records_of g) gs) h) s.1 (rest h s.0)
      on (err e es) s rest = s

  -- and of the whole run
  abbrev pub Solves : List Constraint → Run → Type 0
  Solves gs (settled n f) = ((t : ℕ) → Sorted f.sorts t → D t) × RespectsAll (Sorted f.sorts) gs
  Solves gs (failed n e es) = ⊥

  pub solves : (gs : List Constraint) → Tops p → top_level p ≡ tops_in 0 gs → Standing p 0 gs → RespectsAll D gs → Solves gs (running p)
  solves gs tops whole i c = on (running p) (running_ended p tops (λ n. Within) (λ n f g w W e. (subst (Passed gs f) e (over f W)).0) within_empty)
    where
      over : (f : Frame) → Within f → Passed gs f (pass p f)
      over f W = rw whole (passed 6 0 gs f i c W)

      on : (o : Run) → Ended p (λ n. Within) o → Solves gs o
      on (settled n g) l =
          let q : Passed gs l.frame (ok false g) = subst (Passed gs l.frame) l.last (over l.frame l.kept) in
          let r = q.1 refl in (
            λ t s. (q.0.sorts t s.0 s.1).1,
            subst (λ (k : List ℕ). RespectsAll (Sorted k) gs) (sym r.1) r.0,
          )
      on (failed n e es) l = subst (Passed gs l.frame) l.last (over l.frame l.kept)
