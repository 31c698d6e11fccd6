-- Where a problem settles, each problem whose constraints all stand in it settles as well, with no other sorts.
use Rattle.std.specs.Prelude.{ℕ, ◌≡◌, refl, Bool, true, false, length}
use Rattle.std.proofs.Common.{sym, ap, ◌∙◌, subst, arith}
use mathlib.Core.List.Memᴰ
use mathlib.Core.List.{List, [], ◌∷◌}
use Rattle.definition.specs.Sizes.{max_depth}
use Rattle.definition.specs.Lists.{Among}
use Rattle.definition.specs.Problem.{Problem, top_level}
use Rattle.definition.specs.Frame.{Frame, empty_frame}
use Rattle.definition.specs.Update.{Entry, Out, ok, err}
use Rattle.definition.specs.Solve.{pass, Run, settled, failed, running}
use Rattle.definition.specs.Fits.{Framed}
use Rattle.definition.proofs.Laws.Kept.{cell_of_zeroes}
use Rattle.definition.proofs.Laws.Stays.{each_unchanged}
use Rattle.definition.proofs.Laws.Passes.{Tops, Ended, running_ended}
use Rattle.meaning.specs.Words.{StandsIn}
use Rattle.meaning.proofs.Renumbered.{same}
use Rattle.meaning.proofs.Plain.{After, stuck, to, next, in_turn, plain, Under, Grows, grows_turn, plain_grows}
use Rattle.meaning.proofs.Larger.{Larger, plain_larger}
use Rattle.meaning.proofs.Marks.{Marked, marked_empty, Agree, agree_pass}

-- in a pass that goes through, each child is updated from more sorts, and leaves less than the end
record Passed (v : ℕ → List ℕ → After) (c : ℕ) (S U : List ℕ) : Type 0 where
  before : List ℕ
  after : List ℕ
  from : Under same S before
  size : length before ≡ length S
  does : v c before ≡ to after
  upto : Under same after U

passed : (v : ℕ → List ℕ → After) → ((c : ℕ) (S : List ℕ) → Grows S (v c S)) → (cs : List ℕ) (c : ℕ) → Among c cs →
    (S U : List ℕ) → in_turn v cs S ≡ to U → Passed v c S U
unfolding in_turn
passed v grows [] c x'' S U e = elim x'' [ ]
passed v grows (d ∷ ds) c (Memᴰ.head i) S U e = on (v d S) refl e
  where
    on : (o : After) → v d S ≡ o → next o (in_turn v ds) ≡ to U → Passed v c S U
    on stuck h k = let z : ◌≡◌ {A = ℕ} 0 1 = cc in absurd (omega arith)
    on (to T) h k = record {
      before = S;
      after = T;
      from = λ t s j. j;
      size = refl;
      does = rw i h;
      upto = (subst (Grows T) k (grows_turn v ds (λ x m R. grows x R) T)).0;
    }
passed v grows (d ∷ ds) c (Memᴰ.tail m) S U e = on (v d S) (grows d S) e (λ T. passed v grows ds c m T U)
  where
    on : (o : After) → Grows S o → next o (in_turn v ds) ≡ to U → ((T : List ℕ) → in_turn v ds T ≡ to U → Passed v c T U) →
        Passed v c S U
    on stuck g k rest = let z : ◌≡◌ {A = ℕ} 0 1 = cc in absurd (omega arith)
    on (to T) g k rest = more (rest T k)
      where
        more : Passed v c T U → Passed v c S U
        more h = record {
          before = h.before;
          after = h.after;
          from = λ t s j. h.from t s (g.0 t s j);
          size = h.size ∙ g.1;
          does = h.does;
          upto = h.upto;
        }

-- marks stay right, and the sorts are those of the plain updates
agree_ok : (p : Problem) (o : Out) (O : After) (b : Bool) (g : Frame) → Agree p o O → o ≡ ok b g →
    Marked p g × (O ≡ to g.sorts)
agree_ok p o stuck b g h e = absurd (rw e at h)
agree_ok p o (to S) b g h e = let (w, i) = rw e at h in (w, ap to (sym i))

module _ (p : Problem) (tops : Tops p) where
  pass_marked : (f g : Frame) (b : Bool) → Marked p f → pass p f ≡ ok b g →
      Marked p g × (in_turn (plain p max_depth) (top_level p) f.sorts ≡ to g.sorts)
  pass_marked f g b w e =
      agree_ok p (pass p f) (in_turn (plain p max_depth) (top_level p) f.sorts) b g (agree_pass p tops f w) e

  -- where the passes settle, the plain updates change nothing
  settled_plain : (n : ℕ) (g : Frame) → running p ≡ settled n g →
      Framed p g × (in_turn (plain p max_depth) (top_level p) g.sorts ≡ to g.sorts)
  settled_plain n g r =
      on (subst (Ended p (λ n. Marked p)) r (running_ended p tops (λ n. Marked p) (λ n f h w m e. (pass_marked f h true m e).0) (marked_empty p)))
    where
      on : Ended p (λ n. Marked p) (settled n g) →
          Framed p g × (in_turn (plain p max_depth) (top_level p) g.sorts ≡ to g.sorts)
      on e =
          let (m, k) = pass_marked e.frame g false e.kept e.last in
          let i : g.sorts ≡ e.frame.sorts = each_unchanged p max_depth (top_level p) e.frame g e.framed e.last in
          (m.framed, subst (λ (l : List ℕ). in_turn (plain p max_depth) (top_level p) l ≡ to g.sorts) (sym i) k)

module _ (p q : Problem) (ρ σ : ℕ →
    ℕ) (stands : StandsIn p q ρ σ) (tops : Tops p) (tops' : Tops q) (F : List ℕ) (size : length F ≡ q.counts.terms)
    (fixed : in_turn (plain q max_depth) (top_level q) F ≡ to F) where
  abbrev Below : After → Type 0
  Below stuck = ⊥
  Below (to S) = Under σ S F

  below_top : (r : ℕ) → Among r (top_level p) → (S : List ℕ) → Under σ S F → Below (plain p max_depth r S)
  below_top r m S k =
      on (passed (plain q max_depth) (plain_grows q max_depth) (top_level q) (ρ r) (stands.tops r m) F F fixed)
    where
      under : (U : List ℕ) → Under same U F → (o : After) → Larger σ o (to U) → Below o
      under U h stuck l = l
      under U h (to T) l = λ t s e. h (σ t) s (l t s e)

      on : Passed (plain q max_depth) (ρ r) F F → Below (plain p max_depth r S)
      on h =
          under h.after h.upto (plain p max_depth r S)
          (rw h.does at (plain_larger p q ρ σ stands max_depth max_depth r (tops r m) (tops' (ρ r) (stands.tops r m)) S h.before (h.size ∙ size)
          (λ t s e. h.from (σ t) s (k t s e))))

  below_turn : (cs : List ℕ) → ((c : ℕ) → Among c cs → (S : List ℕ) → Under σ S F → Below (plain p max_depth c S)) →
      (S : List ℕ) → Under σ S F
      → Below (in_turn (plain p max_depth) cs S)
  unfolding in_turn
  below_turn [] kids S k = k
  below_turn (c ∷ cs) kids S k =
      on (plain p max_depth c S) (kids c (Memᴰ.head refl) S k) (below_turn cs (λ d m. kids d (Memᴰ.tail m)))
    where
      on : (o : After) → Below o → ((T : List ℕ) → Under σ T F → Below (in_turn (plain p max_depth) cs T)) →
          Below (next o (in_turn (plain p max_depth) cs))
      on stuck h rest = h
      on (to T) h rest = rest T h

  -- a frame on the way
  abbrev Way : Frame → Type 0
  Way f = Marked p f × Under σ f.sorts F

  abbrev WayOn : Out → Type 0
  WayOn (ok b g) = Way g
  WayOn (err e es) = ⊥

  way_pass : (f : Frame) → Way f → WayOn (pass p f)
  way_pass f (w, k) = on (pass p f) (in_turn (plain p max_depth) (top_level p) f.sorts) (agree_pass p tops f w)
      (below_turn (top_level p) below_top f.sorts k)
    where
      on : (o : Out) (O : After) → Agree p o O → Below O → WayOn o
      on (ok b g) (to S) h l = (h.0, subst (λ (T : List ℕ). Under σ T F) (sym h.1) l)
      on (ok b g) stuck h l = absurd l
      on (err e es) (to S) h l = h
      on (err e es) stuck h l = l

  abbrev pub SettlesUnder : Run → Type 0
  SettlesUnder (settled n g) = Under σ g.sorts F
  SettlesUnder (failed n e es) = ⊥

  settles : SettlesUnder (running p)
  settles = on (running p) (running_ended p tops (λ n. Way) (λ n f g w i e. rw e at (way_pass f i)) (marked_empty p, start))
    where
      start : Under σ (empty_frame p).sorts F
      start t s e = absurd (omega (arith, cell_of_zeroes p.counts.terms t))

      on : (o : Run) → Ended p (λ n. Way) o → SettlesUnder o
      on (settled n g) e = (rw e.last at (way_pass e.frame e.kept)).1
      on (failed n x xs) e = rw e.last at (way_pass e.frame e.kept)

-- p stands in q, and q settles with the sorts of g: so does p, with sorts that g has
pub settles_in : (p q : Problem) (ρ σ : ℕ → ℕ) → StandsIn p q ρ σ → Tops p → Tops q → (m : ℕ) (g : Frame) →
    running q ≡ settled m g
    → ((n : ℕ) (f : Frame) → running p ≡ settled n f →
    Under σ f.sorts g.sorts) × ((n : ℕ) (e : Entry) (es : List Entry) → running p ≡ failed n e es → ⊥)
settles_in p q ρ σ stands tops tops' m g r = (λ n f e. rw e at it, λ n x xs e. rw e at it)
  where
    it : SettlesUnder p q ρ σ stands tops tops' g.sorts (settled_plain q tops' m g r).0.sorts (settled_plain q tops' m g r).1 (running p)
    it = settles p q ρ σ stands tops tops' g.sorts (settled_plain q tops' m g r).0.sorts
        (settled_plain q tops' m g r).1
