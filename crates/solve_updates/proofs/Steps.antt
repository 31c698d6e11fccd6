-- What And, Implies and Xor say, from what their children's updates say.
use Prim.Native.Nat.{ℕ, suc, ◌+◌, ◌<◌, ◌≤◌}
use mathlib.Core.Path.{◌≡◌, refl, sym, ap, subst, ◌∙◌}
use mathlib.Core.Bool.{Bool, true, false, ◌||◌}
use mathlib.Core.List.Memᴰ
use mathlib.Core.List.{List, [], ◌∷◌}
use native.Mathlib.Omega.{arith}
use native.Mathlib.Numerals.{add-one}
use lib.ListN.{length, drop, get_or, length-drop, drop_of_length-le}
use lib.Seq.{drop-cons}
use Rattle.definition.specs.declared.Counts.{Counts}
use Rattle.definition.specs.Sizes.{entry_cells}
use Rattle.definition.specs.Lists.{Among, all}
use Rattle.definition.specs.Problem.{Problem, Node, node}
use Rattle.definition.specs.Frame.{Frame, sort_of}
use Rattle.definition.specs.Update.{Out, ok, err, or_changed, and_then, each, Found, nothing, single, seen, trials, is_sorted, all_sorted, step, upd}
use Rattle.definition.specs.Fits.{Framed}
use Rattle.definition.proofs.Laws.Kept.{trials_single, framed_upd}
use Rattle.definition.proofs.Laws.Lists.{or_false, member_at, all_same}
use Rattle.std.specs.Prelude.{Ok, Err}
use Rattle.solve_leaves.specs.declared.answer.ConstraintError.{ConstraintError}
use Rattle.solve_leaves.specs.declared.answer.Tried.{Tried}
use Rattle.solve_leaves.specs.declared.answer.Tried.TheVariants.{Nothing, Single, Several}
use Rattle.solve_leaves.specs.Room.{frame_of}
use Rattle.solve_leaves.specs.Says.{Answer, Says, Shows, Failure, Ready}
use Rattle.solve_leaves.specs.Trial.{OneMore}
use Rattle.solve_leaves.specs.Laws.Frames.{sort_at}
use Rattle.solve_updates.proofs.Ready.{ready_child}

-- And: what is left from the frame now, with what has changed so far, gives what all give from the frame at entry
or_or : (a b : Bool) (o : Out) → or_changed a (or_changed b o) ≡ or_changed (a || b) o
unfolding or_changed
or_or true b (ok c g) = refl
or_or false b (ok c g) = refl
or_or a b (err e es) = refl

pub or_none : (o : Out) → or_changed false o ≡ o
unfolding or_changed
or_none (ok c g) = refl
or_none (err e es) = refl

module _ (u : ℕ → Frame → Out) (cs : List ℕ) (i : ℕ) (changed : Bool) (f : Frame) (whole : Out) (so : or_changed changed (each u (drop i cs) f) ≡ whole) where
  -- the next child has answered
  next : (o : Out) → i < length cs → u (get_or cs i 0) f ≡ o → or_changed changed (and_then o (each u (drop (i + 1) cs))) ≡ whole
  unfolding each
  next o h e =
      rw (← e, add-one) (ap (λ (l : List ℕ). or_changed changed (each u l f)) (sym (drop-cons cs i 0 h)) ∙ so)

  pub and_turn : (b : Bool) (g : Frame) → i < length cs → u (get_or cs i 0) f ≡ ok b g → or_changed (changed || b) (each u (drop (i + 1) cs) g) ≡ whole
  unfolding and_then
  and_turn b g h e = sym (or_or changed b (each u (drop (i + 1) cs) g)) ∙ next (ok b g) h e

  pub and_fails : (k : ℕ) (errors : List ℕ) → i < length cs → Failure (u (get_or cs i 0) f) k errors → Failure whole k errors
  unfolding and_then or_changed
  and_fails k errors h s = record { entry = s.entry; below = s.below; out = sym (next (err s.entry s.below) h s.out); holds = s.holds }

  pub and_ends : length cs ≤ i → whole ≡ ok changed f
  unfolding each or_changed
  and_ends h = sym so ∙ ap (λ (l : List ℕ). or_changed changed (each u l f)) (drop_of_length-le cs {i = i} h) ∙ ap (λ (b : Bool). ok b f) (or_false changed)

-- a list of one record
each_one : (u : ℕ → Frame → Out) (c : ℕ) (f : Frame) → each u (c ∷ []) f ≡ u c f
unfolding each and_then or_changed
each_one u c f = alone (u c f)
  where
    alone : (o : Out) → and_then o (each u []) ≡ o
    alone (ok true g) = refl
    alone (ok false g) = refl
    alone (err e es) = refl

pub says_one : (a : Answer) (p : Problem) (d c : ℕ) (f : Frame) (n : Counts) (work errors : List ℕ) → Says a (each (upd p d) (c ∷ []) f) n work errors → Says a (upd p d c f) n work errors
says_one a p d c f n work errors = subst (λ (o : Out). Says a o n work errors) (each_one (upd p d) c f)

-- And after i children, from the lists at entry: the lists now, and whether something has changed
pub record Passing (p : Problem) (d : ℕ) (cs work₀ errors₀ work errors : List ℕ) (changed : Bool) (i : ℕ) : Type 0 where
  pub within : i ≤ length cs
  pub works : length work ≡ length work₀
  pub lists : length errors ≡ length errors₀
  pub framed : Framed p (frame_of p.counts work)
  pub rest : or_changed changed (each (upd p d) (drop i cs) (frame_of p.counts work)) ≡ each (upd p d) cs (frame_of p.counts work₀)

pub passing_start : {p : Problem} {d : ℕ} {cs work errors : List ℕ} → Ready p d cs work errors → Passing p d cs work errors work errors false 0
passing_start {p} {d} {cs} {work} h =
    record { within = omega arith; works = refl; lists = refl; framed = h.framed; rest = or_none (each (upd p d) cs (frame_of p.counts work)) }

module _ {p : Problem} {d : ℕ} {cs work₀ errors₀ work errors : List ℕ} {changed : Bool} {i : ℕ} (h : Passing p d cs work₀ errors₀ work errors changed i) where
  pub passing_child : Ready p d cs work₀ errors₀ → i < length cs → Ready p d (get_or cs i 0 ∷ []) work errors
  passing_child r l = ready_child p d cs (get_or cs i 0) work₀ errors₀ work errors r (member_at cs i l) h.framed h.works h.lists

  pub passing_turn : {a : Answer} (b : Bool) (work' errors' : List ℕ) → i < length cs → a ≡ Ok b → length work' ≡ length work → length errors' ≡ length errors
      → Says a (upd p d (get_or cs i 0) (frame_of p.counts work)) p.counts work' errors' → Passing p d cs work₀ errors₀ work' errors' (changed || b) (i + 1)
  passing_turn {a} b work' errors' l e lw le s =
      let o : upd p d (get_or cs i 0) (frame_of p.counts work) ≡ ok b (frame_of p.counts work') = subst (λ (x : Answer). Says x (upd p d (get_or cs i 0) (frame_of p.counts work)) p.counts work' errors') e s in
      record {
        within = omega arith;
        works = lw ∙ h.works;
        lists = le ∙ h.lists;
        framed = framed_upd p d (get_or cs i 0) (frame_of p.counts work) (frame_of p.counts work') b o h.framed;
        rest = and_turn (upd p d) cs i changed (frame_of p.counts work) (each (upd p d) cs (frame_of p.counts work₀)) h.rest b (frame_of p.counts work') l o;
      }

  pub passing_fails : {a : Answer} (k : ConstraintError) (work' errors' : List ℕ) → i < length cs → a ≡ Err k → Says a (upd p d (get_or cs i 0) (frame_of p.counts work)) p.counts work' errors'
      → Failure (each (upd p d) cs (frame_of p.counts work₀)) k.entries errors'
  passing_fails {a} k work' errors' l e s =
      and_fails (upd p d) cs i changed (frame_of p.counts work) (each (upd p d) cs (frame_of p.counts work₀)) h.rest k.entries errors' l
      (subst (λ (x : Answer). Says x (upd p d (get_or cs i 0) (frame_of p.counts work)) p.counts work' errors') e s)

  pub passing_ends : length cs ≤ i → each (upd p d) cs (frame_of p.counts work₀) ≡ ok changed (frame_of p.counts work)
  passing_ends = and_ends (upd p d) cs i changed (frame_of p.counts work) (each (upd p d) cs (frame_of p.counts work₀)) h.rest

-- whether every watched term has a sort, by the cells
pub watched_sorted : (n : Counts) (ws work : List ℕ) → ((t : ℕ) → Among t ws → t < n.terms) → all_sorted (frame_of n work) ws ≡ all (λ t. is_sorted (get_or work t 0)) ws
watched_sorted n ws work within = all_same (λ x. is_sorted (sort_of (frame_of n work) x)) (λ x. is_sorted (get_or work x 0)) ws (λ x m. ap is_sorted (sort_at n work x (within x m)))

-- one more than what the trials name fits the lists
one_more : (tried : Tried) (t : Found) (f : Frame) (n : Counts) (work errors : List ℕ) → entry_cells ≤ length errors → ((c : ℕ) (b : Bool) (g : Frame) → t ≡ single c b g → c < length work)
    → Shows tried t f n work (drop entry_cells errors) → OneMore tried work errors
one_more (Nothing k) t f n work errors h own s = omega (arith, s.holds.within, length-drop entry_cells errors)
one_more (Single c b) t f n work errors h own s = own c b (frame_of n work) s
one_more Several t f n work errors h own s = tt

pub more_tried : (tried : Tried) (u : ℕ → Frame → Out) (f : Frame) (cs : List ℕ) (n : Counts) (work errors : List ℕ) → entry_cells ≤ length errors → ((c : ℕ) → Among c cs → c < length work)
    → Shows tried (trials u f (nothing []) cs) f n work (drop entry_cells errors) → OneMore tried work errors
more_tried tried u f cs n work errors h own s =
    one_more tried (trials u f (nothing []) cs) f n work errors h (λ c b g e. own c (trials_single u f g [] cs c b e).0) s

pub more_only : (tried : Tried) (u : ℕ → Frame → Out) (f : Frame) (c : ℕ) (n : Counts) (work errors : List ℕ) → entry_cells ≤ length errors → c < length work
    → Shows tried (seen (nothing []) c (u c f)) f n work (drop entry_cells errors) → OneMore tried work errors
unfolding trials
more_only tried u f c n work errors h own s =
    one_more tried (seen (nothing []) c (u c f)) f n work errors h (λ d b g e. subst (λ (x : ℕ). x < length work) (sym (Memᴰ.eq_of_singleton (trials_single u f g [] (c ∷ []) d b e).0)) own) s

-- an update is a step on the record's node
pub upd_step : (p : Problem) (d e r : ℕ) (o : Node) (f : Frame) → d ≡ suc e → node p r ≡ o → step (upd p e) p r o f ≡ upd p d r f
unfolding upd
upd_step p d e r o f h k = sym (ap (λ (j : ℕ). upd p j r f) h ∙ ap (λ (x : Node). step (upd p e) p r x f) k)

pub says_upd : (a : Answer) (p : Problem) (d e r : ℕ) (o : Node) (f : Frame) (n : Counts) (work errors : List ℕ) → d ≡ suc e → node p r ≡ o → Says a (step (upd p e) p r o f) n work errors → Says a (upd p d r f) n work errors
says_upd a p d e r o f n work errors h k = subst (λ (x : Out). Says a x n work errors) (upd_step p d e r o f h k)
