-- An update reads the counts, the records and the side list alone: problems that differ in their top-level lists or
-- their ranges have the same updates, and what fits one fits the other.
use Prim.Native.Nat.{ℕ, zero, suc}
use mathlib.Core.List.{List, []}
use mathlib.Core.Path.{◌≡◌, refl, ap, ◌∙◌}
use lib.ListN.{length}
use Rattle.definition.specs.Frame.{Frame, sort_of, state_of}
use Rattle.definition.specs.Fits.{Fits, total, size, Framed}
use Rattle.definition.specs.Problem.{Problem, Node, eq, assign, and, xor, impossible, implies, node, children}
use Rattle.definition.specs.Refusal.{record_fits}
use Rattle.definition.specs.Update.{Out, Found, nothing, single, several, eq_on, assign_on, settle, xor_on, trials, remaining, step, upd, each}
use Rattle.definition.specs.declared.Counts.{Counts}
use Rattle.definition.proofs.Laws.Refused.{values_same}
use Rattle.solver.specs.Run.{problem}

module _ (n : Counts) (R S T G T' G' : List ℕ) where
  abbrev p : Problem
  p = problem n R S T G

  abbrev q : Problem
  q = problem n R S T' G'

  eq_alike : (r x y : ℕ) (f : Frame) (a b : ℕ) → eq_on p r x y f a b ≡ eq_on q r x y f a b
  unfolding eq_on
  eq_alike r x y f (suc s) zero = refl
  eq_alike r x y f zero (suc s) = refl
  eq_alike r x y f (suc s) (suc t) = refl
  eq_alike r x y f zero zero = refl

  assign_alike : (r x s : ℕ) (f : Frame) (a : ℕ) → assign_on p r x s f a ≡ assign_on q r x s f a
  unfolding assign_on
  assign_alike r x s f zero = refl
  assign_alike r x s f (suc t) = refl

  settle_alike : (r k : ℕ) (f : Frame) (found : Found) → settle p r k f found ≡ settle q r k f found
  unfolding settle
  settle_alike r k f (nothing es) = refl
  settle_alike r k f (single c b g) = refl
  settle_alike r k f several = refl

  step_alike : (u : ℕ → Frame → Out) (r : ℕ) (f : Frame) (m : Node) → step u p r m f ≡ step u q r m f
  unfolding step xor_on
  step_alike u r f (eq x y) = eq_alike r x y f (sort_of f x) (sort_of f y)
  step_alike u r f (assign x s) = assign_alike r x s f (sort_of f x)
  step_alike u r f (and cs) = refl
  step_alike u r f (xor cs) = settle_alike r (length (remaining (state_of f r) cs)) f (trials u f (nothing []) (remaining (state_of f r) cs))
  step_alike u r f (impossible h e) = refl
  step_alike u r f (implies ws c) = refl

  pub upd_alike : (d : ℕ) → upd p d ≡ upd q d
  unfolding upd node
  upd_alike zero = refl
  upd_alike (suc d) =
      λ i r f. (step_alike (upd p d) r f (node p r) ∙ ap (λ (u : ℕ → Frame → Out). step u q r (node q r) f) (upd_alike d)) i

  pub each_alike : (d : ℕ) (cs : List ℕ) (f : Frame) → each (upd p d) cs f ≡ each (upd q d) cs f
  each_alike d cs f = ap (λ (u : ℕ → Frame → Out). each u cs f) (upd_alike d)

  record_alike : (r : ℕ) → record_fits p r ≡ record_fits q r
  unfolding record_fits
  record_alike r = values_same p q refl refl _ _ _

  node_alike : (r : ℕ) → node p r ≡ node q r
  unfolding node
  node_alike r = refl

  pub fits_alike : (d r : ℕ) → Fits p d r → Fits q d r
  fits_alike zero r h = h
  fits_alike (suc d) r h =
      record {
        below = h.below;
        values = rw (← record_alike r) h.values;
        kids = λ c m. fits_alike d c (h.kids c (rw (node_alike r) m));
      }

  pub size_alike : (d : ℕ) → size p d ≡ size q d
  unfolding size node
  size_alike zero = refl
  size_alike (suc d) = λ i r. suc (total (size_alike d i) (children (node p r)))

  pub framed_alike : (f : Frame) → Framed p f → Framed q f
  unfolding node
  framed_alike f h = record { sorts = h.sorts; states = h.states; narrowed = h.narrowed }
