-- How many entries an error has, and the number of its first: one for each record at most that stands below the one
-- that fails, itself counted; 30, 32 or 33.
use Prim.Native.Nat.{ℕ, zero, suc, ◌+◌, ◌≤◌}
use Rattle.std.specs.Prelude.{◌≡◌, Bool, cond, eqb, length}
use Rattle.std.proofs.Math.Path.{refl}
use Rattle.std.proofs.Common.{ap, subst, length-append}
use Rattle.std.proofs.Math.Bool.{true, false}
use mathlib.Core.List.Memᴰ
use mathlib.Core.List.{List, [], ◌∷◌, ◌++◌}
use native.Mathlib.Omega.{arith}
use Rattle.definition.specs.Lists.{Among}
use Rattle.definition.specs.Problem.{Problem, Node, eq, assign, and, xor, impossible, implies, node, children}
use Rattle.definition.specs.Frame.{Frame, sort_of, state_of, put_state}
use Rattle.definition.specs.Update.{Entry, mismatch, Out, ok, err, or_changed, and_then, eq_on, assign_on, each, Found, nothing, single, several, seen, trials, settle, remaining, xor_on, all_sorted, implies_on, step, upd, inconsistent_constraint, no_constraint_satisfied, impossible_case_identified}
use Rattle.definition.specs.Fits.{Framed, total, size}
use Rattle.definition.proofs.Laws.Kept.{framed_fire, framed_upd, remaining_own}

-- sums over a list
pub total_append : (m : ℕ → ℕ) (xs ys : List ℕ) → total m (xs ++ ys) ≡ total m xs + total m ys
unfolding total
total_append m [] ys = omega arith
total_append m (x ∷ xs) ys = omega (arith, total_append m xs ys)

pub member_total : (m : ℕ → ℕ) (c : ℕ) (cs : List ℕ) → Among c cs → m c ≤ total m cs
unfolding total
member_total m c [] x' = elim x' [ ]
member_total m c (x ∷ cs) (Memᴰ.head e) = omega (arith, ap m e)
member_total m c (x ∷ cs) (Memᴰ.tail k) = omega (arith, member_total m c cs k)

-- a sum goes by the values on the list
pub total_same : (m n : ℕ → ℕ) (cs : List ℕ) → ((c : ℕ) → Among c cs → m c ≡ n c) → total m cs ≡ total n cs
unfolding total
total_same m n [] h = refl
total_same m n (c ∷ cs) h = omega (arith, h c (Memᴰ.head refl), total_same m n cs (λ d k. h d (Memᴰ.tail k)))

-- what a framed Xor still has sums to no more than all its children
pub remaining_total : (m : ℕ → ℕ) (p : Problem) (r : ℕ) (cs : List ℕ) (f : Frame) → Framed p f → node p r ≡ xor cs →
    total m (remaining (state_of f r) cs) ≤ total m cs
remaining_total m p r cs f F e = go (state_of f r) refl
  where
    go : (k : ℕ) → state_of f r ≡ k → total m (remaining k cs) ≤ total m cs
    go zero h = unfold remaining in omega arith
    go (suc c) h = unfold remaining in (unfold total in omega (arith, member_total m c cs (F.narrowed r c cs e h)))

-- the number of an error
pub data ErrorNumber (k : ℕ) : Type 0 where
  is30 : k ≡ inconsistent_constraint → ErrorNumber k
  is32 : k ≡ no_constraint_satisfied → ErrorNumber k
  is33 : k ≡ impossible_case_identified → ErrorNumber k

-- an error of at most n entries
pub record Few (n : ℕ) (e : Entry) (es : List Entry) : Type 0 where
  pub few : length (e ∷ es) ≤ n
  pub number : ErrorNumber e.number

abbrev pub FewIn : ℕ → Out → Type 0
FewIn n (ok b g) = Unit {0}
FewIn n (err e es) = Few n e es

abbrev pub FewFound : ℕ → Found → Type 0
FewFound n (nothing es) = length es ≤ n
FewFound n (single c b g) = Unit {0}
FewFound n several = Unit {0}

few_more : (n k : ℕ) (o : Out) → n ≤ k → FewIn n o → FewIn k o
few_more n k (ok b g) l h = tt
few_more n k (err e es) l h = record { few = omega arith; number = h.number }

few_or : (n : ℕ) (b : Bool) (o : Out) → FewIn n o → FewIn n (or_changed b o)
unfolding or_changed
few_or n b (ok c g) h = tt
few_or n b (err e es) h = h

-- the error of one after another is that of one of them
abbrev pub FailedOf : Problem → (ℕ → Frame → Out) → List ℕ → Out → Type 0
FailedOf p u cs (ok b g) = Unit {0}
FailedOf p u cs (err e es) = (c : ℕ) × (g : Frame) × Among c cs × Framed p g × (u c g ≡ err e es)

-- u keeps framed frames
abbrev Kept : Problem → (ℕ → Frame → Out) → Type 0
Kept p u = (c : ℕ) (f g : Frame) (b : Bool) → u c f ≡ ok b g → Framed p f → Framed p g

failed_each : (p : Problem) (u : ℕ → Frame → Out) → Kept p u → (cs : List ℕ) (f : Frame) → Framed p f →
    FailedOf p u cs (each u cs f)
unfolding each
failed_each p u k [] f F = tt
failed_each p u k (c ∷ cs) f F = go (u c f) refl (failed_each p u k cs)
  where
    later : (b : Bool) (o : Out) → FailedOf p u cs o → FailedOf p u (c ∷ cs) (or_changed b o)
    later b (ok d g) h = unfold or_changed in tt
    later b (err e es) h = unfold or_changed in (h.0, h.1, Memᴰ.tail h.2, h.3, h.4)

    go : (o : Out) → u c f ≡ o → ((g : Frame) → Framed p g → FailedOf p u cs (each u cs g)) →
        FailedOf p u (c ∷ cs) (and_then o (each u cs))
    go (ok b g) e rest = unfold and_then in later b (each u cs g) (rest g (k c f g b e F))
    go (err x xs) e rest = unfold and_then in (c, f, Memᴰ.head refl, F, e)

-- the entries kept by the trials
few_seen : (n k : ℕ) (found : Found) (c : ℕ) (o : Out) → FewFound n found → FewIn k o → FewFound (n + k) (seen found c o)
unfolding seen
few_seen n k (nothing es) c (ok b g) h i = tt
few_seen n k (nothing es) c (err x xs) h i = simp length-append (omega (arith, h, i.few))
few_seen n k (single d b g) c (ok b' g') h i = tt
few_seen n k (single d b g) c (err x xs) h i = tt
few_seen n k several c o h i = tt

pub few_trials : (u : ℕ → Frame → Out) (m : ℕ → ℕ) (f : Frame) (n : ℕ) (found : Found) (cs : List ℕ) → FewFound n found →
    ((c : ℕ) → Among c cs → FewIn (m c) (u c f)) → FewFound (n + total m cs) (trials u f found cs)
unfolding trials total
few_trials u m f n found [] h k = subst (λ (i : ℕ). FewFound i found) (omega arith) h
few_trials u m f n found (c ∷ cs) h k =
    subst (λ (i : ℕ). FewFound i (trials u f (seen found c (u c f)) cs)) (omega arith)
    (few_trials u m f (n + m c) (seen found c (u c f)) cs
    (few_seen n (m c) found c (u c f) h (k c (Memᴰ.head refl)))
    (λ d i. k d (Memᴰ.tail i)))

-- an update of each kind, over a bound m on its children's errors
few_cond : (b : Bool) (f : Frame) (e : Entry) → ErrorNumber e.number → FewIn 1 (cond b (ok false f) (err e []))
few_cond true f e h = tt
few_cond false f e h = record { few = omega arith; number = h }

few_eq : (p : Problem) (r x y : ℕ) (f : Frame) (s t : ℕ) → FewIn 1 (eq_on p r x y f s t)
unfolding eq_on
few_eq p r x y f (suc s) zero = tt
few_eq p r x y f zero (suc t) = tt
few_eq p r x y f (suc s) (suc t) = few_cond (eqb s t) f (mismatch p r x s t) (is30 refl)
few_eq p r x y f zero zero = tt

few_assign : (p : Problem) (r x s : ℕ) (f : Frame) (t : ℕ) → FewIn 1 (assign_on p r x s f t)
unfolding assign_on
few_assign p r x s f zero = tt
few_assign p r x s f (suc t) = few_cond (eqb t s) f (mismatch p r x s t) (is30 refl)

few_settle : (p : Problem) (r k : ℕ) (f : Frame) (n : ℕ) (found : Found) → FewFound n found →
    FewIn (suc n) (settle p r k f found)
unfolding settle
few_settle p r k f n (nothing es) h = record { few = omega (arith, h); number = is32 refl }
few_settle p r k f n (single c b g) h = tt
few_settle p r k f n several h = tt

module _ (p : Problem) (u : ℕ → Frame → Out) (m : ℕ → ℕ) (kept : Kept p u) where
  -- the bound on the children of a record
  abbrev Children : List ℕ → Type 0
  Children cs = (c : ℕ) → Among c cs → (f : Frame) → Framed p f → FewIn (m c) (u c f)

  pub few_each : (cs : List ℕ) (f : Frame) → Framed p f → Children cs → FewIn (total m cs) (each u cs f)
  few_each cs f F h = go (each u cs f) (failed_each p u kept cs f F)
    where
      go : (o : Out) → FailedOf p u cs o → FewIn (total m cs) o
      go (ok b g) k = tt
      go (err e es) k =
          few_more (m k.0) (total m cs) (err e es) (member_total m k.0 cs k.2)
          (subst (FewIn (m k.0)) k.4 (h k.0 k.2 k.1 k.3))

  few_xor : (r : ℕ) (cs : List ℕ) (f : Frame) → Framed p f → node p r ≡ xor cs → Children cs →
      FewIn (suc (total m cs)) (xor_on u p r (remaining (state_of f r) cs) f)
  unfolding xor_on
  few_xor r cs f F e h =
      let ds : List ℕ = remaining (state_of f r) cs in
      few_more (suc (0 + total m ds)) (suc (total m cs)) (settle p r (length ds) f (trials u f (nothing []) ds))
      (omega (arith, remaining_total m p r cs f F e))
      (few_settle p r (length ds) f (0 + total m ds) (trials u f (nothing []) ds)
      (few_trials u m f 0 (nothing []) ds (omega arith) (λ c k. h c (remaining_own p r c cs f F e k) f F)))

  few_implies : (r c : ℕ) (ws : List ℕ) (f : Frame) (k : ℕ) → Framed p f → node p r ≡ implies ws c → Children (c ∷ []) →
      FewIn (m c) (implies_on u r ws c f k)
  unfolding implies_on
  few_implies r c ws f zero F e h = go (all_sorted f ws)
    where
      go : (b : Bool) → FewIn (m c) (cond b (or_changed true (u c (put_state f r 1))) (ok false f))
      go true =
          few_or (m c) true (u c (put_state f r 1)) (h c (Memᴰ.head refl) (put_state f r 1) (framed_fire p f r c ws e F))
      go false = tt
  few_implies r c ws f (suc k) F e h = h c (Memᴰ.head refl) f F

  few_step : (r : ℕ) (n : Node) (f : Frame) → Framed p f → node p r ≡ n → Children (children n) →
      FewIn (suc (total m (children n))) (step u p r n f)
  unfolding step total
  few_step r (eq x y) f F e h = few_eq p r x y f (sort_of f x) (sort_of f y)
  few_step r (assign x s) f F e h = few_assign p r x s f (sort_of f x)
  few_step r (and cs) f F e h = few_more (total m cs) (suc (total m cs)) (each u cs f) (omega arith) (few_each cs f F h)
  few_step r (xor cs) f F e h = few_xor r cs f F e h
  few_step r (impossible k s) f F e h = record { few = omega arith; number = is33 refl }
  few_step r (implies ws c) f F e h =
      few_more (m c) (suc (m c + 0)) (implies_on u r ws c f (state_of f r)) (omega arith)
      (few_implies r c ws f (state_of f r) F e h)

pub few_upd : (p : Problem) (d r : ℕ) (f : Frame) → Framed p f → FewIn (size p d r) (upd p d r f)
unfolding upd size
few_upd p zero r f F = record { few = omega arith; number = is33 refl }
few_upd p (suc d) r f F =
    few_step p (upd p d) (size p d) (λ c g h b. framed_upd p d c g h b) r (node p r) f F refl (λ c k g. few_upd p d c g)

-- The same, of an error: of a record's update, of the children of an And or of a pass, of the trials of an Xor
pub upd_few : (p : Problem) (d r : ℕ) (f : Frame) (e : Entry) (es : List Entry) → Framed p f → upd p d r f ≡ err e es →
    Few (size p d r) e es
upd_few p d r f e es F h = subst (FewIn (size p d r)) h (few_upd p d r f F)

pub each_few : (p : Problem) (d : ℕ) (cs : List ℕ) (f : Frame) (e : Entry) (es : List Entry) → Framed p f →
    each (upd p d) cs f ≡ err e es → Few (total (size p d) cs) e es
each_few p d cs f e es F h =
    subst (FewIn (total (size p d) cs)) h
    (few_each p (upd p d) (size p d) (framed_upd p d) cs f F (λ c k g. few_upd p d c g))
