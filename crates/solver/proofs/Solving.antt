-- What solve is made of gives what the definition says: refused by 1 to 6, or run and finished.
use Prim.Native.Nat.{ℕ, zero, suc, ◌*◌, ◌≤◌}
use mathlib.Core.List.{List, [], ◌++◌}
use mathlib.Core.Path.{◌≡◌, refl, sym, ap, ◌∙◌}
use native.Mathlib.Omega.{arith}
use lib.ListN.{length, take, drop, replicate}
use lib.Seq.{length-take-le}
use Rattle.definition.specs.Buffers.{Exit, exit, exit_on, entries_cells, entries_of}
use Rattle.definition.specs.Frame.{Frame}
use Rattle.definition.proofs.Laws.Passes.{passes_of, running_passes}
use Rattle.definition.proofs.Laws.Refused.{Counted, Sound, sound, Roomy, roomy, first_given_lem}
use Rattle.definition.specs.Problem.{Problem}
use Rattle.definition.specs.Solve.{Open as Opening}
use Rattle.definition.specs.Refusal.{records_refusal, room_refusal, first_given, refusal}
use Rattle.definition.specs.Sizes.{max_depth, max_terms, max_records, entry_cells}
use Rattle.definition.specs.Solve.{Run, settled, failed, all_found, open_at, opening, with_open, at_end, running, outcome_of, solve}
use Rattle.definition.specs.declared.Counts.{Counts}
use Rattle.definition.specs.declared.Outcome.{Outcome}
use Rattle.definition.specs.declared.Refusal.{Refusal}
use Rattle.definition.specs.Numbers.{number_of}
use Rattle.solver.specs.Entry.{Solved, refused_by}
use Rattle.solver.specs.Finish.{Ended, Ends, EndFits, CanFinish, Left}
use Rattle.solve_leaves.specs.Room.{room}
use Rattle.solver.specs.Run.{CanRun}
use Rattle.definition.proofs.Laws.Numbers.{positive}
use Rattle.std.specs.Prelude.{Ok, Err}
use Rattle.solver.proofs.Alike.{fits_alike, size_alike}

-- an answer's passes are its run's
open_passes : (n : ℕ) (f : Frame) (w : Opening) → (outcome_of (with_open n f w)).passes ≡ n
unfolding outcome_of with_open
open_passes n f all_found = refl
open_passes n f (open_at t place) = refl

end_passes : (p : Problem) (o : Run) → (outcome_of (at_end p o)).passes ≡ passes_of o
unfolding at_end
end_passes p (settled n f) = open_passes n f (opening p f)
end_passes p (failed n e es) = unfold outcome_of in refl

-- an error's entries are at least one, and lie in the list
end_fits : (ended : Ended) (o : Run) (n : Counts) (work errors : List ℕ) → Ends ended o n work errors → EndFits ended errors
end_fits (Ok k) o n work errors e = tt
end_fits (Err k) o n work errors e = (omega (arith, e.holds.count), e.holds.within)

then_given : (a b : ℕ) → a ≡ 0 → first_given a b ≡ b
unfolding first_given
then_given a b h = rw h

module _ (p : Problem) (work sort_list errors : List ℕ) where
  exit_on_lem : (m : ℕ) → refusal p work sort_list errors ≡ m → exit_on p (solve p) work sort_list errors m ≡ exit p work sort_list errors
  unfolding exit
  exit_on_lem m e = sym (ap (exit_on p (solve p) work sort_list errors) e)

  -- a refusal changes nothing
  refused : (m : ℕ) → (m ≡ 0 → ⊥) → refusal p work sort_list errors ≡ m → Solved p work sort_list errors (refused_by m) work sort_list errors
  unfolding exit_on
  refused zero h e = absurd (h refl)
  refused (suc m) h e =
      let x : exit_on p (solve p) work sort_list errors (suc m) ≡ exit p work sort_list errors = exit_on_lem (suc m) e in
      record {
        outcome = ap (λ (y : Exit). y.outcome) x;
        work_at_exit = ap (λ (y : Exit). y.work) x;
        sort_list_at_exit = ap (λ (y : Exit). y.sort_list) x;
        errors_at_exit = ap (λ (y : Exit). y.errors) x;
        few_passes = omega arith;
      }

  pub refused_records : (r : Refusal) → number_of r ≡ records_refusal p → Solved p work sort_list errors (refused_by (number_of r)) work sort_list errors
  unfolding refusal
  refused_records r e =
      let h : number_of r ≡ 0 → ⊥ = λ z. omega (arith, positive r) in
      refused (number_of r) h (rw (← e) (first_given_lem (number_of r) _ h))

  pub refused_room : (r : Refusal) → 0 ≡ records_refusal p
      → number_of r ≡ room_refusal p.counts.terms p.counts.records (length work) (length sort_list) (length errors)
      → Solved p work sort_list errors (refused_by (number_of r)) work sort_list errors
  unfolding refusal
  refused_room r z e = refused (number_of r) (λ z. omega (arith, positive r)) (then_given (records_refusal p) _ (sym z) ∙ sym e)

  -- what run and finish leave, the list of errors lent as far as its entries
  left_solved : refusal p work sort_list errors ≡ 0 → (r : Outcome) (work₁ errors₁ work' sort_list' entries : List ℕ)
      → length work₁ ≡ length work → length errors₁ ≡ p.counts.records * entry_cells
      → Left p (at_end p (running p)) work₁ sort_list errors₁ r work' sort_list' entries
      → Solved p work sort_list errors r work' sort_list' (entries ++ drop (p.counts.records * entry_cells) errors)
  unfolding exit_on solve
  left_solved z r work₁ errors₁ work' sort_list' entries lw le left =
      let x : exit_on p (solve p) work sort_list errors 0 ≡ exit p work sort_list errors = exit_on_lem 0 z in
      record {
        outcome = left.outcome ∙ ap (λ (y : Exit). y.outcome) x;
        work_at_exit = left.zeroed ∙ ap (λ (k : ℕ). replicate k 0) lw ∙ ap (λ (y : Exit). y.work) x;
        sort_list_at_exit = left.filled ∙ ap (λ (y : Exit). y.sort_list) x;
        errors_at_exit =
            ap (λ (l : List ℕ). l ++ drop (p.counts.records * entry_cells) errors)
            (left.listed ∙ ap (λ (k : ℕ). take k (entries_cells (entries_of (at_end p (running p))) ++ replicate k 0)) le)
            ∙ ap (λ (y : Exit). y.errors) x;
        few_passes = rw (left.outcome, end_passes p (running p)) (running_passes p);
      }

-- what is known once nothing is refused
pub record Accepted (p : Problem) (work sort_list errors : List ℕ) : Type 0 where
  pub records : 0 ≡ records_refusal p
  pub lists : 0 ≡ room_refusal p.counts.terms p.counts.records (length work) (length sort_list) (length errors)

module _ {p : Problem} {work sort_list errors : List ℕ} (a : Accepted p work sort_list errors) where
  abbrev n : Counts
  n = p.counts

  ok : Sound p
  ok = sound p (sym a.records)

  lent_room : Roomy n.terms n.records (length work) (length sort_list) (length errors)
  lent_room = roomy _ _ _ _ _ (sym a.lists)

  none_refused : refusal p work sort_list errors ≡ 0
  unfolding refusal
  none_refused = then_given (records_refusal p) _ (sym a.records) ∙ sym a.lists

  pub few_records : n.records ≤ max_records
  few_records = ok.counts.records

  pub entries_lent : n.records * entry_cells ≤ length errors
  entries_lent = lent_room.error_cells

  pub can_run : CanRun n p.records p.side p.tops work (take (n.records * entry_cells) errors)
  unfolding room
  can_run =
      record {
        fits = λ c m. fits_alike n p.records p.side p.tops p.range [] [] max_depth c (ok.fits c m);
        records_lent = ok.counts.records_lent;
        side_lent = ok.counts.side_lent;
        tops_lent = ok.counts.tops_lent;
        space = omega (arith, lent_room.room);
        entries = rw (length-take-le (n.records * entry_cells) errors entries_lent, size_alike n p.records p.side [] [] p.tops p.range max_depth, ok.sizes) (omega arith);
      }

  pub can_finish : (ended : Ended) (o : Run) (work₁ errors₁ : List ℕ) → length work₁ ≡ length work → Ends ended o n work₁ errors₁
      → CanFinish ended n p.range work₁ sort_list errors₁
  can_finish ended o work₁ errors₁ lw e =
      record {
        entries = ok.counts.range_lent;
        terms = ok.range;
        room = omega (arith, lent_room.room, lw);
        cells = lent_room.sort_cells;
        fits = end_fits ended o n work₁ errors₁ e;
      }

  pub solved : {r : Outcome} {work₁ errors₁ work' sort_list' entries : List ℕ}
      → length work₁ ≡ length work → length errors₁ ≡ length (take (n.records * entry_cells) errors)
      → Left p (at_end p (running p)) work₁ sort_list errors₁ r work' sort_list' entries
      → Solved p work sort_list errors r work' sort_list' (entries ++ drop (n.records * entry_cells) errors)
  solved lw le left =
      left_solved p work sort_list errors none_refused _ _ _ _ _ _ lw (le ∙ length-take-le (n.records * entry_cells) errors entries_lent) left

-- 1 to 4 are not given: the counts are small
pub few : (p : Problem) → 0 ≡ records_refusal p → (p.counts.terms ≤ max_terms) × (p.counts.records ≤ max_records)
few p e = let c : Counted p = (sound p (sym e)).counts in (c.terms, c.records)
