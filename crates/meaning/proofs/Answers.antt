-- What the answers of solving come from, and what holds of the frame in an answer.
use Rattle.std.specs.Prelude.{ℕ, zero, suc, ◌+◌, ◌≤◌, ◌<◌, ◌≡◌, refl, ◌⊎◌, Bool, true, false, List, ◌∷◌, length}
use Rattle.std.proofs.Common.{sym, ◌∙◌, subst, inl, inr, arith}
use mathlib.Core.List.Memᴰ
use Rattle.std.proofs.Math.Decide.{dec_lt}
use Rattle.definition.specs.Sizes.{max_depth}
use Rattle.definition.specs.Lists.{Among, from}
use Rattle.definition.specs.Problem.{Problem, assign, node, top_level, range_term, range_place}
use Rattle.definition.specs.Frame.{Frame, sort_of, put_sort, empty_frame}
use Rattle.definition.specs.Update.{Entry, ok}
use Rattle.definition.specs.Solve.{pass, Run, settled, failed, running, Open, all_found, open_at, open_if, first_open, opening, Answer, answered, unconstrained, conflict, with_open, at_end, solve}
use Rattle.definition.specs.Fits.{Fits, Framed}
use Rattle.definition.proofs.Laws.Kept.{cell_after_set, cell_of_zeroes, Sorts, as_assign, from_right, from_left, Respects, Fitting, fitting_down, each_keeps}
use Rattle.definition.proofs.Laws.Lists.{member_from}
use Rattle.definition.proofs.Laws.Refused.{in_range_lem}
use Rattle.definition.proofs.Laws.Stays.{each_unchanged}
use Rattle.definition.proofs.Laws.Passes.{Tops, Ended, running_ended}

-- what an answer says of the passes
abbrev From : Problem → Answer → Type 0
From p (answered n f) = (running p ≡ settled n f) × (opening p f ≡ all_found)
From p (unconstrained n t place) = (f : Frame) × (running p ≡ settled n f) × (opening p f ≡ open_at t place)
From p (conflict n e es) = running p ≡ failed n e es

from_run : (p : Problem) → From p (solve p)
unfolding solve at_end with_open
from_run p = on (running p) refl
  where
    with : (n : ℕ) (f : Frame) → running p ≡ settled n f → (o : Open) → opening p f ≡ o → From p (with_open n f o)
    with n f e all_found h = (e, h)
    with n f e (open_at t place) h = (f, e, h)

    on : (o : Run) → running p ≡ o → From p (at_end p o)
    on (settled n f) e = with n f e (opening p f) refl
    on (failed n x xs) e = e

pub answered_from : (p : Problem) (n : ℕ) (f : Frame) → solve p ≡ answered n f →
    (running p ≡ settled n f) × (opening p f ≡ all_found)
answered_from p n f e = subst (From p) e (from_run p)

pub open_from : (p : Problem) (n t place : ℕ) → solve p ≡ unconstrained n t place →
    (f : Frame) × (running p ≡ settled n f) × (opening p f ≡ open_at t place)
open_from p n t place e = subst (From p) e (from_run p)

pub conflict_from : (p : Problem) (n : ℕ) (x : Entry) (xs : List Entry) → solve p ≡ conflict n x xs →
    running p ≡ failed n x xs
conflict_from p n x xs e = subst (From p) e (from_run p)

-- the last pass changed nothing: it went through from a frame with the same sorts
pub last_pass : (p : Problem) → Tops p → (n : ℕ) (g : Frame) → running p ≡ settled n g →
    (f : Frame) × Framed p f × (f.sorts ≡ g.sorts) × (pass p f ≡ ok false g)
last_pass p tops n g e = on (subst (Ended p (λ n f. Unit)) e (running_ended p tops (λ n f. Unit) (λ n f h w i k. tt) tt))
  where
    on : Ended p (λ n f. Unit) (settled n g) → (f : Frame) × Framed p f × (f.sorts ≡ g.sorts) × (pass p f ≡ ok false g)
    on e = (e.frame, e.framed, sym (each_unchanged p max_depth (top_level p) e.frame g e.framed e.last), e.last)

-- what every step keeps holds where the passes settle
pub settled_keeps : (p : Problem) → Tops p → (G : ℕ → Type 0) (I : Frame → Type 0) → Respects p G (λ b f g. I f → I g) →
    ((r : ℕ) → Among r (top_level p) → G r)
    → I (empty_frame p) → (n : ℕ) (g : Frame) → running p ≡ settled n g → I g
settled_keeps p tops G I law known start n g e =
    on (subst (Ended p (λ n. I)) e (running_ended p tops (λ n. I) (λ n f h w i k. next f h true w k i) start))
  where
    next : (f h : Frame) (b : Bool) → Framed p f → pass p f ≡ ok b h → I f → I h
    next f h b w k = (each_keeps p G (λ b f g. I f → I g) law max_depth (top_level p) f h b known w k).1

    on : Ended p (λ n. I) (settled n g) → I g
    on e = next e.frame g false e.framed e.last e.kept

-- every sort is of the table
abbrev InTable : Problem → Frame → Type 0
InTable p f = (t s : ℕ) → sort_of f t ≡ suc s → s < p.counts.sorts

assigned_in : (p : Problem) (d r t s : ℕ) → Fits p d r → node p r ≡ assign t s → s < p.counts.sorts
assigned_in p zero r t s h e = absurd h
assigned_in p (suc d) r t s h e = (in_range_lem p r (assign t s) h.values e).1

sorted_in_lem : (p : Problem) (r t s : ℕ) (f : Frame) → Fitting p r → Sorts p f r t s → InTable p f → s < p.counts.sorts
sorted_in_lem p r t s f φ (as_assign e) i = assigned_in p φ.0 r t s φ.1 e
sorted_in_lem p r t s f φ (from_right y e h) i = i y s h
sorted_in_lem p r t s f φ (from_left x e h) i = i x s h

-- storing a sort keeps what holds of every term and its sort, if it holds of the one stored
pub each_sort : (A : ℕ → ℕ → Type 0) (f : Frame) (t s : ℕ) → A t s → ((x v : ℕ) → sort_of f x ≡ suc v → A x v) → (x v : ℕ) →
    sort_of (put_sort f t (suc s)) x ≡ suc v → A x v
each_sort A f t s a old x v e = on (cell_after_set f.sorts t (suc s) x)
  where
    on : ((x ≡ t) × (t < length f.sorts) × (sort_of (put_sort f t (suc s)) x ≡ suc s)) ⊎ (sort_of (put_sort f t (suc s)) x ≡ sort_of f x) → A x v
    on (inl k) = let i : v ≡ s = omega (arith, k.2) in rw (k.0, i) a
    on (inr k) = old x v (sym k ∙ e)

in_table : (p : Problem) → Respects p (Fitting p) (λ b f g. InTable p f → InTable p g)
in_table p = record {
  same = λ f i. i;
  next = λ a b f g h k l i. l (k i);
  down = fitting_down p;
  sorting = λ r t s f φ w m z i. each_sort (λ x v. v < p.counts.sorts) f t s (sorted_in_lem p r t s f φ m i) i;
  narrowing = λ r c cs f φ w n m i. i;
  firing = λ r c ws f φ w n e a i. i;
}

pub settled_in_table : (p : Problem) → Tops p → (n : ℕ) (g : Frame) → running p ≡ settled n g → InTable p g
settled_in_table p tops =
    settled_keeps p tops (Fitting p) (InTable p) (in_table p) (λ r m. (max_depth, tops r m))
    (λ t s e. absurd (omega (arith, cell_of_zeroes p.counts.terms t)))

-- the first range entry without a sort
found_all : (p : Problem) (f : Frame) (is : List ℕ) → first_open p f is ≡ all_found → (i : ℕ) → Among i is →
    (s : ℕ) × (sort_of f (range_term p i) ≡ suc s)
unfolding first_open open_if
found_all p f mathlib.Core.List.[] e i m = elim m [ ]
found_all p f (j ∷ js) e i m = on (sort_of f (range_term p j)) refl e (λ h. found_all p f js h i) m
  where
    on : (v : ℕ) → sort_of f (range_term p j) ≡ v → open_if (range_term p j) (range_place p j) v (first_open p f js) ≡ all_found
        → (first_open p f js ≡ all_found → Among i js → (s : ℕ) × (sort_of f (range_term p i) ≡ suc s)) → Among i (j ∷ js) →
        (s : ℕ) × (sort_of f (range_term p i) ≡ suc s)
    on zero h k rest m = let z : ◌≡◌ {A = ℕ} 0 1 = cc in absurd (omega arith)
    on (suc s) h k rest (Memᴰ.head i) = (s, rw i h)
    on (suc s) h k rest (Memᴰ.tail i) = rest k i

pub range_sorted : (p : Problem) (f : Frame) → opening p f ≡ all_found → (i : ℕ) → i < p.counts.range →
    (s : ℕ) × (sort_of f (range_term p i) ≡ suc s)
range_sorted p f e i h =
    found_all p f (from 0 p.counts.range) e i (member_from 0 p.counts.range i (omega arith) (omega arith))

-- which one it is: it has no sort, and those before it have one
pub record OpenAt (p : Problem) (f : Frame) (k t place : ℕ) : Type 0 where
  pub entry : ℕ
  pub at_least : k ≤ entry
  pub below : entry < p.counts.range
  pub term : range_term p entry ≡ t
  pub at : range_place p entry ≡ place
  pub unsorted : sort_of f t ≡ 0
  pub before : (j : ℕ) → k ≤ j → j < entry → (s : ℕ) × (sort_of f (range_term p j) ≡ suc s)

first_open_lem : (p : Problem) (f : Frame) (n k t place : ℕ) → k + n ≡ p.counts.range →
    first_open p f (from k n) ≡ open_at t place → OpenAt p f k t place
unfolding from first_open open_if
first_open_lem p f zero k t place l e = let z : ◌≡◌ {A = ℕ} 0 1 = cc in absurd (omega arith)
first_open_lem p f (suc n) k t place l e = on (sort_of f (range_term p k)) refl e (first_open_lem p f n (suc k) t place (omega arith))
  where
    on : (v : ℕ) → sort_of f (range_term p k) ≡ v →
        open_if (range_term p k) (range_place p k) v (first_open p f (from (suc k) n)) ≡ open_at t place
        → (first_open p f (from (suc k) n) ≡ open_at t place → OpenAt p f (suc k) t place) → OpenAt p f k t place
    on zero h i rest =
        let term : range_term p k ≡ t = cc in
        let at : range_place p k ≡ place = cc in
        record { entry = k; at_least = omega arith; below = omega arith; term = term; at = at; unsorted = rw term at h; before = λ j a b. absurd (omega arith) }
    on (suc s) h i rest = more (rest i)
      where
        here : (o : OpenAt p f (suc k) t place) (j : ℕ) → k ≤ j → j < o.entry → Dec (k < j) →
            (v : ℕ) × (sort_of f (range_term p j) ≡ suc v)
        here o j a b (yes c) = o.before j c b
        here o j a b (no c) = let i : j ≡ k = omega arith in (s, rw i h)

        more : OpenAt p f (suc k) t place → OpenAt p f k t place
        more o = record {
          entry = o.entry;
          at_least = omega (arith, o.at_least);
          below = o.below;
          term = o.term;
          at = o.at;
          unsorted = o.unsorted;
          before = λ j a b. here o j a b (dec_lt k j);
        }

pub opening_at : (p : Problem) (f : Frame) (t place : ℕ) → opening p f ≡ open_at t place → OpenAt p f 0 t place
opening_at p f t place e = first_open_lem p f p.counts.range 0 t place (omega arith) e
