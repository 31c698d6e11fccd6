-- What the person who signs can rely on, at the entry point: from the contract of `grounded_check` to the grounded terms of
-- the body lent. crates/grounded_body/specs/Demand.antt says which those are, apart from solving.
use Prim.Native.Nat.{ℕ, zero, suc, ◌+◌, ◌*◌, ◌≤◌}
use mathlib.Core.Path.{◌≡◌, refl, sym, ap, ◌∙◌}
use mathlib.Core.Logic.{◌⊎◌, inl, inr}
use mathlib.Core.Bool.{Bool, true, false, ◌&&◌}
use mathlib.Core.List.{List, [], ◌∷◌}
use native.Mathlib.Omega.{arith}
use lib.Dec.{leb}
use lib.ListN.{length}
use contract.Lifetimes.{Lfts}
use denote.Triple.Clauses.{at_exit}
use borrow.Fn.Kinds.{Dens, ended_of}
use Rattle.definition.specs.declared.Outcome.{Outcome}
use Rattle.definition.specs.Lists.{from}
use Rattle.definition.specs.Refusal.{unless, first_given, room_refusal}
use Rattle.definition.specs.Sizes.{max_records, max_side, room_frames, entry_cells}
use Rattle.definition.specs.Buffers.{Exit, exit}
use Rattle.definition.proofs.Laws.Once.{Left}
use Rattle.grounded_body.specs.Body.{Body, kind_at, arguments_at, given_at}
use Rattle.grounded_body.specs.Layout.{records_in, side_in, grounded_problem}
use Rattle.grounded_body.specs.Check.{sizes_fit, body_fits, shape_fits, atoms_refusal, grounded_refusal, checked_on, grounded_exit}
use Rattle.grounded_body.specs.Parts.{seen}
use Rattle.grounded_body.specs.Demand.{Grounded, BodyVariable, Verdict, all_grounded, one_is_not}
use Rattle.grounded_body.proofs.Promise.{verdict}
use Rattle.grounded.specs.Entry.{Checked}
use Rattle.grounded.proofs.grounded_check as check

-- every refusal is at most 10, so that 40 is none
unless_most : (t : Bool) (n rest : ℕ) → n ≤ 10 → rest ≤ 10 → unless t n rest ≤ 10
unless_most true n rest h k = k
unless_most false n rest h k = h

first_most : (a c : ℕ) → a ≤ 10 → c ≤ 10 → first_given a c ≤ 10
unfolding first_given
first_most zero c h k = k
first_most (suc a) c h k = h

atoms_most : (b : Body) (n s : ℕ) (atoms : List ℕ) → atoms_refusal b n s atoms ≤ 10
unfolding atoms_refusal
atoms_most b n s [] = omega arith
atoms_most b n s (a ∷ rest) =
    unless_most (shape_fits (kind_at b a) (length (arguments_at b a))) 7 _ (omega arith)
    (unless_most (leb (n + records_in (given_at b a)) max_records && leb (s + length (side_in (given_at b a))) max_side) 10 _ (omega arith)
    (atoms_most b (n + records_in (given_at b a)) (s + length (side_in (given_at b a))) rest))

refusal_most : (b : Body) (work sort_list errors : ℕ) → grounded_refusal b work sort_list errors ≤ 10
unfolding grounded_refusal room_refusal
refusal_most b work sort_list errors =
    unless_most (sizes_fit b) 1 _ (omega arith)
    (unless_most (body_fits b) 2 _ (omega arith)
    (first_most _ _
    (unless_most (leb (room_frames * (b.term_count + max_records)) work) 5 _ (omega arith)
    (unless_most (leb b.term_count sort_list && leb (max_records * entry_cells) errors) 6 0 (omega arith) (omega arith)))
    (atoms_most b 0 0 (from 0 b.atom_count))))

-- a refusal's number is the outcome's
refused_number : (e : Exit) (work sort_list errors : List ℕ) (n k : ℕ) → (checked_on e work sort_list errors n).outcome.number ≡ k → (n ≡ k) ⊎ (n ≡ 0)
unfolding checked_on
refused_number e work sort_list errors zero k h = inr refl
refused_number e work sort_list errors (suc n) k h = inl h

module _ (b : Body) (work sort_list errors : List ℕ) (r : Outcome) (work' sort_list' errors' : List ℕ) (met : Checked b work sort_list errors r work' sort_list' errors') where
  abbrev refused_by : ℕ
  refused_by = grounded_refusal b (length work) (length sort_list) (length errors)

  same_number : (grounded_exit b work sort_list errors).outcome.number ≡ r.number
  same_number = ap (λ (o : Outcome). o.number) (sym met.outcome)

  -- 0 and 40 are no refusals
  not_refused : (k : ℕ) → r.number ≡ k → (refused_by ≡ k → refused_by ≡ 0) → refused_by ≡ 0
  unfolding grounded_exit
  not_refused k e f =
      go (refused_number (exit (grounded_problem b) work sort_list errors) work sort_list errors refused_by k (same_number ∙ e))
    where
      go : (refused_by ≡ k) ⊎ (refused_by ≡ 0) → refused_by ≡ 0
      go (inl h) = f h
      go (inr h) = h

  -- past its refusals: 0, and every variable of the body is grounded; or 40 and one that is not
  pub check_verdict : refused_by ≡ 0 → Verdict b r
  check_verdict past = rw met.outcome (verdict b work sort_list errors past)

  pub check_grounded : r.number ≡ 0 → (t : ℕ) → BodyVariable b t → Grounded b t
  check_grounded e = on (check_verdict (not_refused 0 e (λ h. h)))
    where
      on : Verdict b r → (t : ℕ) → BodyVariable b t → Grounded b t
      on (all_grounded h k) = k
      on (one_is_not h i k l) = absurd (omega (arith, e, h))

  pub check_ungrounded : r.number ≡ 40 → BodyVariable b r.term × (Grounded b r.term → ⊥) × (r.place ≡ b.place)
  check_ungrounded e = on (check_verdict (not_refused 40 e (λ h. absurd (omega (arith, h, refusal_most b (length work) (length sort_list) (length errors))))))
    where
      on : Verdict b r → BodyVariable b r.term × (Grounded b r.term → ⊥) × (r.place ≡ b.place)
      on (all_grounded h k) = absurd (omega (arith, e, h))
      on (one_is_not h i k l) = (k, l, i)

  -- and a body whose variables are all grounded, past the refusals, is answered with 0
  pub check_accepts : refused_by ≡ 0 → ((t : ℕ) → BodyVariable b t → Grounded b t) → r.number ≡ 0
  check_accepts past all = on (check_verdict past)
    where
      on : Verdict b r → r.number ≡ 0
      on (all_grounded h k) = h
      on (one_is_not h i k l) = absurd (l (all r.term k))

-- The contract's own reading, of any arguments and any outcome that meets it: arguments and last lists stand in the order of
-- the parameters.
module _ (κs : Lfts 4) (a : Dens κs check.Kinds.ps) (o : Left 4 check.Kinds.ps check.Kinds.r κs a) (met : check.Reads.Post κs a o.0 (at_exit (ended_of 4 check.Kinds.ps check.Kinds.r) κs a o.1)) where
  -- what was lent
  abbrev pub lent_to : Body
  lent_to = seen a.0

  abbrev refused_with : ℕ
  refused_with = grounded_refusal lent_to (length a.1.0.now) (length a.1.1.0.now) (length a.1.1.1.0.now)

  check_met : Checked lent_to a.1.0.now a.1.1.0.now a.1.1.1.0.now o.0 o.1.1.0 o.1.1.1.0 o.1.1.1.1.0
  check_met = met

  pub entry_grounded : o.0.number ≡ 0 → (t : ℕ) → BodyVariable lent_to t → Grounded lent_to t
  entry_grounded = check_grounded _ _ _ _ _ _ _ _ check_met

  pub entry_ungrounded :
      o.0.number ≡ 40 → BodyVariable lent_to o.0.term × (Grounded lent_to o.0.term → ⊥) × (o.0.place ≡ a.0.place)
  entry_ungrounded = check_ungrounded _ _ _ _ _ _ _ _ check_met

  pub entry_accepts : refused_with ≡ 0 → ((t : ℕ) → BodyVariable lent_to t → Grounded lent_to t) → o.0.number ≡ 0
  entry_accepts = check_accepts _ _ _ _ _ _ _ _ check_met
