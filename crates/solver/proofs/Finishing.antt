-- What each end of the passes leaves is what the definition leaves of its answer.
use Prim.Native.Nat.{ℕ, ◌+◌, ◌-◌, ◌*◌, ◌≤◌, ◌<◌}
use mathlib.Core.List.{List, ◌∷◌, ◌++◌, append-nil}
use mathlib.Core.Path.{◌≡◌, refl, sym, ap, ◌∙◌}
use native.Mathlib.Omega.{arith}
use lib.ListN.{length, get_or, take, drop, replicate, length-drop, drop_of_length-le, length-replicate, replicate-append-replicate}
use lib.Seq.{take_all, take_at, take-append-add, length-take-le, get_or-take}
use Rattle.definition.specs.Buffers.{entries_cells, entries_of, sorts_after}
use Rattle.definition.specs.Lists.{from}
use Rattle.definition.specs.Problem.{Problem}
use Rattle.definition.specs.Sizes.{entry_cells}
use Rattle.definition.specs.Solve.{Run, settled, at_end, with_open, first_open, outcome_of}
use Rattle.definition.specs.Update.{Entry}
use Rattle.definition.specs.declared.Counts.{Counts}
use Rattle.definition.specs.declared.Outcome.{Outcome}
use Rattle.solver.specs.Finish.{Found, RunFailed, EndFits, OpenIs, open_of, Left, FailureLeft}
use Rattle.solve_leaves.specs.Room.{frame_of}
use Rattle.solve_leaves.specs.Says.{Holds}
use Rattle.rule_cells.specs.Put.{puts}
use Rattle.rule_cells.specs.Laws.{puts_front}
use borrow.Rule.Slice.PartMut.{put_mid}
use Rattle.std.specs.Prelude.{None, Some, Err}
use Rattle.solver.specs.declared.finish.Failed.{Failed}

-- the part from k on is zeroed
pub zeroed_behind : (k : ℕ) (d e : List ℕ) → k ≤ length d → e ≡ replicate (length (take (length d - k) (drop k d))) 0
    → put_mid k (length d - k) d e ≡ take k d ++ replicate (length d - k) 0
zeroed_behind k d e le q =
    let lr : length (drop k d) ≡ length d - k = length-drop k d in
    rw (q, take_all (length d - k) (drop k d) (omega arith), lr, drop_of_length-le (drop k d) {i = length d - k} (omega arith), append-nil)

-- a list of zeroes is what is left where there is no entry
no_entries : (k : ℕ) → take k (replicate k 0) ≡ replicate {A = ℕ} k 0
no_entries k = take_all k (replicate k 0) (simp length-replicate (omega arith))

module _ (p : Problem) (o : Run) (counts : Counts) (range work sort_list errors : List ℕ) (n : ℕ)
    (ec : p.counts ≡ counts) (er : p.range ≡ range) (eo : o ≡ settled n (frame_of counts work)) where
  answer_is : (w : Found) → OpenIs counts.range range (take counts.terms work) w
      → at_end p o ≡ with_open n (frame_of counts work) (open_of w)
  unfolding at_end
  answer_is w is =
      ap (at_end p) eo
      ∙ ap (with_open n (frame_of counts work))
      (ap (λ (k : Counts). first_open p (frame_of counts work) (from 0 k.range)) ec ∙ sym (is p (frame_of counts work) er refl))

  module _ (work' errors' : List ℕ) (ew : work' ≡ replicate (length work) 0) (ee : errors' ≡ replicate (length errors) 0) where
    pub left_answered : OpenIs counts.range range (take counts.terms work) None
        → (sort_list' : List ℕ) → sort_list' ≡ puts sort_list 0 (take counts.terms work)
        → counts.terms ≤ length work → counts.terms ≤ length sort_list
        → Left p (at_end p o) work sort_list errors (record { number = 0; passes = n; term = 0; place = 0 }) work' sort_list' errors'
    unfolding with_open outcome_of sorts_after entries_of entries_cells
    left_answered is sort_list' es le ls =
        let lt : length (take counts.terms work) ≡ counts.terms = length-take-le counts.terms work le in
        rw (answer_is None is)
        (record {
          outcome = refl;
          zeroed = ew;
          filled = rw (es, puts_front sort_list (take counts.terms work) (omega arith), lt, ec);
          listed = rw (ee, no_entries (length errors));
        })

    pub left_open : (t place : ℕ) → OpenIs counts.range range (take counts.terms work) (Some (record { 0 = t; 1 = place }))
        → Left p (at_end p o) work sort_list errors (record { number = 31; passes = n; term = t; place = place }) work' sort_list errors'
    unfolding with_open outcome_of sorts_after entries_of entries_cells
    left_open t place is =
        rw (answer_is (Some (record { 0 = t; 1 = place })) is)
        (record { outcome = refl; zeroed = ew; filled = refl; listed = rw (ee, no_entries (length errors)) })

take_zeroes : (m k : ℕ) → m ≤ k → take m (replicate k 0) ≡ replicate {A = ℕ} m 0
take_zeroes m k le =
    let e : k ≡ m + (k - m) = omega arith in
    ap (λ (x : ℕ). take m (replicate {A = ℕ} x 0)) e
    ∙ ap (take m) (sym (replicate-append-replicate m (k - m) 0))
    ∙ take_at (replicate m 0) (replicate (k - m) 0) m (length-replicate m 0)

-- entries, and zeroes behind them
entries_and_zeroes : (k : ℕ) (cells errors : List ℕ) → k ≤ length errors → take k errors ≡ cells
    → take k errors ++ replicate (length errors - k) 0 ≡ take (length errors) (cells ++ replicate (length errors) 0)
entries_and_zeroes k cells errors le e =
    let lc : length cells ≡ k = rw (← e) (length-take-le k errors le) in
    let el : length errors ≡ length cells + (length errors - k) = omega arith in
    rw e
    (sym (ap (λ (x : ℕ). take x (cells ++ replicate (length errors) 0)) el
    ∙ take-append-add cells (replicate (length errors) 0) (length errors - k)
    ∙ ap (λ (x : List ℕ). cells ++ x) (take_zeroes (length errors - k) (length errors) (omega arith))))

-- the first entry's number is the first cell
first_number : (e : Entry) (es : List Entry) (k : ℕ) (errors : List ℕ) → Holds (e ∷ es) k errors → 0 < k → get_or errors 0 0 ≡ e.number
unfolding entries_cells
first_number e es k errors h l = sym (get_or-take (k * entry_cells) errors 0 0 (omega arith)) ∙ rw h.cells

pub left_failed : (p : Problem) (o : Run) (e : Failed) (work sort_list errors : List ℕ) (r : Outcome) (work' errors' : List ℕ)
    → EndFits (Err e) errors → RunFailed o e.passes e.entries errors → FailureLeft e.passes e.entries work errors r work' errors'
    → Left p (at_end p o) work sort_list errors r work' sort_list errors'
unfolding at_end outcome_of sorts_after entries_of
left_failed p o e work sort_list errors r work' errors' l f left =
    rw f.run
    (record {
      outcome = rw (left.outcome, first_number f.entry f.below e.entries errors f.holds l.0);
      zeroed = left.zeroed;
      filled = refl;
      listed = left.listed ∙ entries_and_zeroes (e.entries * entry_cells) (entries_cells (f.entry ∷ f.below)) errors f.holds.within f.holds.cells;
    })
