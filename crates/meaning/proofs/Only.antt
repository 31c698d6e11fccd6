-- A frame that sorts every term named is a solution, if updates of every top-level record go through from it.
use Prim.Native.Nat.{ℕ, zero, suc}
use Rattle.std.specs.Prelude.{◌≡◌, Bool, cond, length}
use Rattle.std.proofs.Math.Path.{refl, sym}
use Rattle.std.proofs.Common.{ap, ◌∙◌, arith}
use Rattle.std.proofs.Math.Bool.{true, false}
use mathlib.Core.List.Memᴰ
use mathlib.Core.List.{List, [], ◌∷◌}
use borrow.Author.Tests.{eqb-true}
use Rattle.std.proofs.Math.Dec.{eqb}
use Rattle.std.proofs.Math.ListN.{get_or}
use Rattle.definition.specs.Sizes.{max_depth}
use Rattle.definition.specs.Lists.{Among}
use Rattle.definition.specs.Problem.{Problem, Node, eq, assign, and, xor, impossible, implies, node, children, terms_of, top_level}
use Rattle.definition.specs.Frame.{Frame, sort_of, state_of, put_state}
use Rattle.definition.specs.Update.{Out, ok, err, mismatch, or_changed, and_then, eq_on, assign_on, each, Found, nothing, single, several, seen, trials, settle, remaining, xor_on, is_sorted, all_sorted, implies_on, step, upd, update}
use Rattle.definition.specs.Solve.{pass}
use Rattle.definition.specs.Meaning.{in_record, Holds, Satisfies}
use Rattle.definition.specs.Fits.{Fits, Framed}
use Rattle.definition.proofs.Laws.Kept.{framed_narrow, framed_fire, remaining_own}
use Rattle.definition.proofs.Laws.Lists.{member_all}
use Rattle.definition.proofs.Laws.Passes.{Tops}
use Rattle.meaning.specs.Words.{HoldsAs, Has, given, SortsAll}
use Rattle.meaning.proofs.Nodes.{node_holds}

pub given_suc : (S : List ℕ) (t s : ℕ) → Has S t s → given S t ≡ s
given_suc S t s e = rw e refl

module _ (p : Problem) (S : List ℕ) (full : SortsAll p S) where
  -- the sorts are S, and the frame is framed
  abbrev Full : Frame → Type 0
  Full f = Framed p f × (f.sorts ≡ S)

  -- what has gone through, holds; and nothing more is sorted
  abbrev Means : Type 0 → Out → Type 0
  Means H (ok b g) = Full g × H
  Means H (err e es) = Unit

  abbrev H : ℕ → Type 0
  H = Holds p (given S)

  means_or : (A : Type 0) (b : Bool) (o : Out) → Means A o → Means A (or_changed b o)
  unfolding or_changed
  means_or A b (ok c g) k = k
  means_or A b (err e es) k = tt

  means_as : (A B : Type 0) → (A → B) → (o : Out) → Means A o → Means B o
  means_as A B k (ok b g) m = (m.0, k m.1)
  means_as A B k (err e es) m = tt

  means_each : (u : ℕ → Frame → Out) (cs : List ℕ) → ((c : ℕ) → Among c cs → (f : Frame) → Full f → Means (H c) (u c f)) →
      (f : Frame) → Full f
      → Means ((c : ℕ) → Among c cs → H c) (each u cs f)
  unfolding each and_then
  means_each u [] kids f w = (w, λ c m. absurd (Memᴰ.not-nil m))
  means_each u (c ∷ cs) kids f w =
      first (u c f) (kids c (Memᴰ.head refl) f w) (means_each u cs (λ d m. kids d (Memᴰ.tail m)))
    where
      both : H c → ((d : ℕ) → Among d cs → H d) → (d : ℕ) → Among d (c ∷ cs) → H d
      both h k d (Memᴰ.head e) = rw e h
      both h k d (Memᴰ.tail m) = k d m

      first : (o : Out) → Means (H c) o → ((g : Frame) → Full g → Means ((d : ℕ) → Among d cs → H d) (each u cs g))
          → Means ((d : ℕ) → Among d (c ∷ cs) → H d) (and_then o (each u cs))
      first (ok b g) k rest =
          means_or ((d : ℕ) → Among d (c ∷ cs) → H d) b (each u cs g)
          (means_as ((d : ℕ) → Among d cs → H d) ((d : ℕ) → Among d (c ∷ cs) →
          H d) (both k.1) (each u cs g) (rest g k.0))
      first (err e es) k rest = tt

  -- a child that has gone through holds
  abbrev Found-means : List ℕ → Found → Type 0
  Found-means cs (nothing es) = Unit
  Found-means cs (single c b g) = Full g × Among c cs × H c
  Found-means cs several = (c : ℕ) × Among c cs × H c

  means_seen : (cs : List ℕ) (found : Found) (c : ℕ) → Among c cs → Found-means cs found → (o : Out) → Means (H c) o →
      Found-means cs (seen found c o)
  unfolding seen
  means_seen cs (nothing es) c m k (ok b g) h = (h.0, m, h.1)
  means_seen cs (nothing es) c m k (err e es') h = tt
  means_seen cs (single d b g) c m k (ok b' g') h = (d, k.1, k.2)
  means_seen cs (single d b g) c m k (err e es) h = k
  means_seen cs several c m k o h = k

  means_trials : (u : ℕ → Frame → Out) (f : Frame) → Full f → (cs ds : List ℕ) → ((c : ℕ) → Among c ds → Among c cs)
      → ((c : ℕ) → Among c cs → (g : Frame) → Full g → Means (H c) (u c g)) → (found : Found) → Found-means cs found →
      Found-means cs (trials u f found ds)
  unfolding trials
  means_trials u f w cs [] own kids found k = k
  means_trials u f w cs (d ∷ ds) own kids found k =
      let m : Among d cs = own d (Memᴰ.head refl) in
      means_trials u f w cs ds (λ c i. own c (Memᴰ.tail i)) kids (seen found d (u d f)) (means_seen cs found d m k (u d f) (kids d m f w))

  means_settle : (r n : ℕ) (cs : List ℕ) → node p r ≡ xor cs → (f : Frame) → Full f → (found : Found) → Found-means cs found
      → Means ((c : ℕ) × Among c cs × H c) (settle p r n f found)
  unfolding settle
  means_settle r n cs e f w (nothing es) k = tt
  means_settle r n cs e f w (single c b g) k = ((framed_narrow p g r c cs e k.1 k.0.0, k.0.1), (c, k.1, k.2))
  means_settle r n cs e f w several k = (w, k)

  means_eq : (r x y : ℕ) (f : Frame) → Full f → (v w : ℕ) → get_or S x 0 ≡ v → get_or S y 0 ≡ w → (s : ℕ) × Has S x s →
      (s : ℕ) × Has S y s
      → Means (given S x ≡ given S y) (eq_on p r x y f v w)
  unfolding eq_on
  means_eq r x y f k (suc s) zero ex ey hx hy = absurd (omega arith)
  means_eq r x y f k zero w ex ey hx hy = absurd (omega arith)
  means_eq r x y f k (suc s) (suc t) ex ey hx hy = either (eqb s t) refl
    where
      either : (b : Bool) → eqb s t ≡ b → Means (given S x ≡ given S y) (cond b (ok false f) (err (mismatch p r x s t) []))
      either true e = (k, given_suc S x s ex ∙ eqb-true s t e ∙ sym (given_suc S y t ey))
      either false e = tt

  means_assign : (r x s : ℕ) (f : Frame) → Full f → (v : ℕ) → get_or S x 0 ≡ v → (t : ℕ) × Has S x t →
      Means (given S x ≡ s) (assign_on p r x s f v)
  unfolding assign_on
  means_assign r x s f k zero e h = absurd (omega arith)
  means_assign r x s f k (suc t) e h = either (eqb t s) refl
    where
      either : (b : Bool) → eqb t s ≡ b → Means (given S x ≡ s) (cond b (ok false f) (err (mismatch p r x s t) []))
      either true i = (k, given_suc S x t e ∙ eqb-true t s i)
      either false i = tt

  -- what every watched term has
  watched : (f : Frame) → f.sorts ≡ S → (ws : List ℕ) → ((w : ℕ) → Among w ws → (s : ℕ) × Has S w s) →
      all_sorted f ws ≡ true
  unfolding is_sorted
  watched f e ws k = member_all (λ w. is_sorted (sort_of f w)) ws (λ w m. rw (e, (k w m).1))

  means_implies : (u : ℕ → Frame → Out) (r : ℕ) (ws : List ℕ) (c : ℕ) → node p r ≡ implies ws c → (f : Frame) → Full f →
      all_sorted f ws ≡ true
      → ((g : Frame) → Full g → Means (H c) (u c g)) → (k : ℕ) → Means (H c) (implies_on u r ws c f k)
  unfolding implies_on
  means_implies u r ws c n f w a kid zero =
      rw a (means_or (H c) true (u c (put_state f r 1)) (kid (put_state f r 1) (framed_fire p f r c ws n w.0, w.1)))
  means_implies u r ws c n f w a kid (suc k) = kid f w

  means_step : (u : ℕ → Frame → Out) (r : ℕ) (n : Node) → node p r ≡ n → ((t : ℕ) → Among t (terms_of n) →
      (s : ℕ) × Has S t s)
      → ((c : ℕ) → Among c (children n) → (f : Frame) → Full f → Means (H c) (u c f)) → (f : Frame) → Full f →
      Means (HoldsAs (given S) H n) (step u p r n f)
  unfolding step xor_on
  means_step u r (eq x y) n terms kids f w =
      means_eq r x y f w (sort_of f x) (sort_of f y) (ap (λ (l : List ℕ). get_or l x 0) (sym w.1)) (ap (λ (l : List ℕ). get_or l y 0) (sym w.1))
      (terms x (Memᴰ.head refl)) (terms y (Memᴰ.tail (Memᴰ.head refl)))
  means_step u r (assign x s) n terms kids f w =
      means_assign r x s f w (sort_of f x) (ap (λ (l : List ℕ). get_or l x 0) (sym w.1)) (terms x (Memᴰ.head refl))
  means_step u r (and cs) n terms kids f w = means_each u cs kids f w
  means_step u r (xor cs) n terms kids f w =
      let ds : List ℕ = remaining (state_of f r) cs in
      means_settle r (length ds) cs n f w (trials u f (nothing []) ds)
      (means_trials u f w cs ds (λ c m. remaining_own p r c cs f w.0 n m) kids (nothing []) tt)
  means_step u r (impossible h s) n terms kids f w = tt
  means_step u r (implies ws c) n terms kids f w =
      means_implies u r ws c n f w (watched f w.1 ws terms) (kids c (Memᴰ.head refl)) (state_of f r)

  means_upd : (d r : ℕ) → Fits p d r → (f : Frame) → Full f → Means (H r) (upd p d r f)
  unfolding upd
  means_upd zero r fit f w = absurd fit
  means_upd (suc d) r fit f w =
      means_as (HoldsAs (given S) H (node p r)) (H r) (node_holds p (given S) r (node p r) refl) (upd p (suc d) r f)
      (means_step (upd p d) r (node p r) refl (λ t m. full t (in_record r fit.below m)) (λ c m. means_upd d c (fit.kids c m)) f w)

  pub means_pass : Tops p → (f g : Frame) (b : Bool) → Framed p f → f.sorts ≡ S → pass p f ≡ ok b g → Satisfies p (given S)
  means_pass tops f g b w e k =
      (rw k at (means_each (update p) (top_level p) (λ r m. means_upd max_depth r (tops r m)) f (w, e))).1
