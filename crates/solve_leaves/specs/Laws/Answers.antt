-- What each answer of a function without children below it says.
use Prim.Native.Nat.{ℕ, zero, suc, ◌+◌, ◌-◌, ◌*◌, ◌<◌, ◌≤◌}
use Rattle.std.specs.Prelude.{◌≡◌, refl, Bool, true, false, Ok, List, [], ◌∷◌, ◌++◌, take, drop, get_or, set}
use Rattle.std.proofs.Common.{sym, ◌∙◌, arith, add-one, length-drop}
use Rattle.std.proofs.Math.Path.{ap, subst}
use mathlib.Core.List.Memᴰ
use Rattle.std.proofs.Math.ListN.{length}
use Rattle.std.proofs.Math.Seq.{take-append-add}
use Rattle.definition.specs.declared.Counts.{Counts}
use Rattle.definition.specs.Sizes.{entry_cells}
use Rattle.definition.specs.Problem.{eq, assign, impossible}
use Rattle.definition.specs.Frame.{sort_of}
use Rattle.definition.specs.Update.{Entry, entry, mismatch, none_fits, arity, Out, ok, err, settle, step, inconsistent_constraint, no_constraint_satisfied, impossible_case_identified}
use Rattle.definition.specs.Lists.{Among}
use Rattle.definition.proofs.Laws.Sentences.{eq_right, eq_left, eq_alike, eq_neither as neither-sorted, eq_clash, assign_new as assign-unsorted, assign_same as assign_alike, assign_clash}
use Rattle.definition.specs.Buffers.{cells_of, entries_cells}
use Rattle.solve_leaves.specs.declared.answer.Tried.{Tried}
use Rattle.solve_leaves.specs.declared.answer.Tried.TheVariants.{Nothing, Single, Several}
use Rattle.solve_leaves.specs.Room.{frame_of}
use Rattle.solve_leaves.specs.Says.{failed, Shows, Holds, Failure, NoneFitted, SeveralFitted}
use Rattle.solve_leaves.specs.Leaf.{LeafSays}
use Rattle.solve_leaves.specs.Trial.{OneMore, Settled}
use Rattle.solve_leaves.specs.Laws.Frames.{sort_at, sort_put, state_put}

-- one entry in front of those that stand behind it
pub holds_front : (e : Entry) (es : List Entry) (k : ℕ) (errors : List ℕ) → suc k * entry_cells ≤ length errors → Holds es k (drop entry_cells errors) → Holds (e ∷ es) (k + 1) (cells_of e ++ drop entry_cells errors)
unfolding entries_cells
holds_front e es k errors room h = record {
  count = omega (arith, h.count);
  within = simp length-drop (omega arith);
  cells =
      ap (λ (j : ℕ). take j (cells_of e ++ drop entry_cells errors)) (turned k)
      ∙ take-append-add (cells_of e) (drop entry_cells errors) (k * entry_cells)
      ∙ ap (λ (l : List ℕ). cells_of e ++ l) h.cells;
}
  where
    turned : (k : ℕ) → (k + 1) * 8 ≡ 8 + k * 8
    turned k = omega arith

holds_none : (errors : List ℕ) → Holds [] 0 errors
unfolding entries_cells
holds_none errors = record { count = refl; within = omega arith; cells = refl }

-- an error of one entry, which has just been written
failed_one : (e : Entry) (errors errors' : List ℕ) (o : Out) → o ≡ err e [] → entry_cells ≤ length errors → errors' ≡ cells_of e ++ drop entry_cells errors → Failure o 1 errors'
failed_one e errors errors' o out room put =
    record { entry = e; below = []; out = out; holds = subst (Holds (e ∷ []) 1) (sym put) (holds_front e [] 0 errors (omega arith) (holds_none (drop entry_cells errors))) }

-- the end of an Xor
module _ (tried : Tried) (terms number place children : ℕ) (work errors work' errors' : List ℕ) where
  pub none_settles : (k : ℕ) → tried ≡ Nothing k → OneMore tried work errors → errors' ≡ cells_of (entry no_constraint_satisfied number place children 0 0) ++ drop entry_cells errors
      → Settled (failed (k + 1)) tried terms number place children work errors work' errors'
  unfolding settle
  none_settles k e more put n p f t at below here h =
      let s : NoneFitted t k (drop entry_cells errors) = subst (λ (x : Tried). Shows x t f n work (drop entry_cells errors)) e h in
      let room : suc k * entry_cells ≤ length errors = subst (λ (x : Tried). OneMore x work errors) e more in
      record {
        entry = none_fits p number children;
        below = s.entries;
        out = ap (settle p number children f) s.found;
        holds = subst (Holds (none_fits p number children ∷ s.entries) (k + 1)) (sym (put ∙ rw here)) (holds_front (none_fits p number children) s.entries k errors room s.holds);
      }

  pub one_settles : (c : ℕ) (b : Bool) → tried ≡ Single c b → work' ≡ set work (terms + number) (c + 1) → Settled (Ok b) tried terms number place children work errors work' errors'
  unfolding settle
  one_settles c b e put n p f t at below here h =
      ap (settle p number children f) (subst (λ (x : Tried). Shows x t f n work (drop entry_cells errors)) e h)
      ∙ ap (ok b) (state_put n work number (suc c) below ∙ ap (frame_of n) (sym (put ∙ rw (← at, add-one))))

  pub several_settle : tried ≡ Several → work' ≡ work → Settled (Ok false) tried terms number place children work errors work' errors'
  unfolding settle
  several_settle e put n p f t at below here h =
      let s : SeveralFitted t f n work = subst (λ (x : Tried). Shows x t f n work (drop entry_cells errors)) e h in
      ap (settle p number children f) s.found ∙ ap (ok false) (sym s.restored ∙ ap (frame_of n) (sym put))

-- a number that is not 0
pub pos : (k : ℕ) → (k ≡ 0 → ⊥) → k ≡ suc (k - 1)
pos zero h = absurd (h refl)
pos (suc k) h = omega arith

-- Eq, on the cells of its terms
module _ (x y number place : ℕ) (work errors' : List ℕ) where
  left : (n : Counts) → ((t : ℕ) → Among t (x ∷ y ∷ []) → t < n.terms) → sort_of (frame_of n work) x ≡ get_or work x 0
  left n within = sort_at n work x (within x (Memᴰ.head refl))

  right : (n : Counts) → ((t : ℕ) → Among t (x ∷ y ∷ []) → t < n.terms) → sort_of (frame_of n work) y ≡ get_or work y 0
  right n within = sort_at n work y (within y (Memᴰ.tail (Memᴰ.head refl)))

  pub eq_neither : get_or work x 0 ≡ 0 → get_or work y 0 ≡ 0 → LeafSays (Ok false) (eq x y) number place work work errors'
  eq_neither ex ey n p u within here = neither-sorted u p number (frame_of n work) x y (left n within ∙ ex) (right n within ∙ ey)

  pub eq_to_left : get_or work x 0 ≡ 0 → (get_or work y 0 ≡ 0 → ⊥) → LeafSays (Ok true) (eq x y) number place work (set work x (get_or work y 0)) errors'
  eq_to_left ex ny n p u within here =
      let e : get_or work y 0 ≡ suc (get_or work y 0 - 1) = pos (get_or work y 0) ny in
      eq_left u p number (frame_of n work) x y (get_or work y 0 - 1) (left n within ∙ ex) (right n within ∙ e)
      ∙ ap (ok true) (sort_put n work x (suc (get_or work y 0 - 1)) (within x (Memᴰ.head refl)) ∙ ap (λ (v : ℕ). frame_of n (set work x v)) (sym e))

  pub eq_to_right : (get_or work x 0 ≡ 0 → ⊥) → get_or work y 0 ≡ 0 → LeafSays (Ok true) (eq x y) number place work (set work y (get_or work x 0)) errors'
  eq_to_right nx ey n p u within here =
      let e : get_or work x 0 ≡ suc (get_or work x 0 - 1) = pos (get_or work x 0) nx in
      eq_right u p number (frame_of n work) x y (get_or work x 0 - 1) (left n within ∙ e) (right n within ∙ ey)
      ∙ ap (ok true) (sort_put n work y (suc (get_or work x 0 - 1)) (within y (Memᴰ.tail (Memᴰ.head refl))) ∙ ap (λ (v : ℕ). frame_of n (set work y v)) (sym e))

  pub eq_same : (get_or work x 0 ≡ 0 → ⊥) → (get_or work y 0 ≡ 0 → ⊥) → get_or work x 0 ≡ get_or work y 0 → LeafSays (Ok false) (eq x y) number place work work errors'
  eq_same nx ny e n p u within here =
      eq_alike u p number (frame_of n work) x y (get_or work x 0 - 1) (left n within ∙ pos (get_or work x 0) nx) (right n within ∙ sym e ∙ pos (get_or work x 0) nx)

  pub eq_differ : (errors : List ℕ) → (get_or work x 0 ≡ 0 → ⊥) → (get_or work y 0 ≡ 0 → ⊥) → (get_or work x 0 ≡ get_or work y 0 → ⊥) → entry_cells ≤ length errors
      → errors' ≡ cells_of (entry inconsistent_constraint number place x (get_or work x 0 - 1) (get_or work y 0 - 1)) ++ drop entry_cells errors
      → LeafSays (failed 1) (eq x y) number place work work errors'
  eq_differ errors nx ny d room put n p u within here =
      failed_one (mismatch p number x (get_or work x 0 - 1) (get_or work y 0 - 1)) errors errors' (step u p number (eq x y) (frame_of n work))
      (eq_clash u p number (frame_of n work) x y (get_or work x 0 - 1) (get_or work y 0 - 1) (left n within ∙ pos (get_or work x 0) nx) (right n within ∙ pos (get_or work y 0) ny)
      (λ e. d (pos (get_or work x 0) nx ∙ ap suc e ∙ sym (pos (get_or work y 0) ny))))
      room (put ∙ rw here)

-- Assign, on the cell of its term
module _ (x sort number place : ℕ) (work errors' : List ℕ) where
  held : (n : Counts) → ((t : ℕ) → Among t (x ∷ []) → t < n.terms) → sort_of (frame_of n work) x ≡ get_or work x 0
  held n within = sort_at n work x (within x (Memᴰ.head refl))

  pub assign_new : get_or work x 0 ≡ 0 → LeafSays (Ok true) (assign x sort) number place work (set work x (sort + 1)) errors'
  assign_new ex n p u within here =
      assign-unsorted u p number (frame_of n work) x sort (held n within ∙ ex)
      ∙ ap (ok true) (sort_put n work x (suc sort) (within x (Memᴰ.head refl)) ∙ ap (λ (v : ℕ). frame_of n (set work x v)) (sym (add-one sort)))

  pub assign_same : (get_or work x 0 ≡ 0 → ⊥) → get_or work x 0 - 1 ≡ sort → LeafSays (Ok false) (assign x sort) number place work work errors'
  assign_same nx e n p u within here = assign_alike u p number (frame_of n work) x sort (held n within ∙ pos (get_or work x 0) nx ∙ ap suc e)

  pub assign_differ : (errors : List ℕ) → (get_or work x 0 ≡ 0 → ⊥) → (get_or work x 0 - 1 ≡ sort → ⊥) → entry_cells ≤ length errors
      → errors' ≡ cells_of (entry inconsistent_constraint number place x sort (get_or work x 0 - 1)) ++ drop entry_cells errors
      → LeafSays (failed 1) (assign x sort) number place work work errors'
  assign_differ errors nx d room put n p u within here =
      failed_one (mismatch p number x sort (get_or work x 0 - 1)) errors errors' (step u p number (assign x sort) (frame_of n work))
      (assign_clash u p number (frame_of n work) x sort (get_or work x 0 - 1) (held n within ∙ pos (get_or work x 0) nx) d)
      room (put ∙ rw here)

pub impossible_says : (head expected number place : ℕ) (errors errors' : List ℕ) → entry_cells ≤ length errors
    → errors' ≡ cells_of (entry impossible_case_identified number place head expected 0) ++ drop entry_cells errors
    → (work : List ℕ) → LeafSays (failed 1) (impossible head expected) number place work work errors'
unfolding step
impossible_says head expected number place errors errors' room put work n p u within here =
    failed_one (arity p number head expected) errors errors' (err (arity p number head expected) []) refl room (put ∙ rw here)
