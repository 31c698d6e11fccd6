-- A loop over the passes gives what the definition's run gives.
use Prim.Native.Nat.{ℕ, suc, ◌+◌, ◌≤◌}
use mathlib.Core.Bool.{Bool, true, false}
use mathlib.Core.List.{List, [], ◌∷◌, ◌++◌, append_assoc}
use mathlib.Core.Path.{◌≡◌, refl, sym, ap, ◌∙◌, subst}
use native.Mathlib.Numerals.{add-one}
use native.Mathlib.Omega.{arith}
use lib.ListN.{length, take, drop, replicate, length-replicate, replicate-append-replicate}
use lib.Seq.{take_at, drop_at, length-take-le}
use Rattle.definition.specs.Frame.{empty_frame}
use Rattle.definition.proofs.Laws.Lists.{from_length}
use Rattle.definition.proofs.Laws.Passes.{Tops, Ahead, ahead_start, ahead_again, ahead_settled, ahead_failed, ahead_most}
use Rattle.definition.specs.Lists.{from}
use Rattle.definition.specs.Problem.{Problem, Node, eq, assign, and, xor, impossible, implies, node}
use Rattle.definition.specs.Sizes.{max_depth}
use Rattle.definition.specs.Solve.{pass, is_implies, implies_among, most_passes, running, settled, failed}
use Rattle.definition.specs.Update.{Out, ok, upd, each}
use Rattle.definition.specs.declared.Counts.{Counts}
use Rattle.solver.specs.Finish.{RunFailed}
use Rattle.solve_leaves.specs.Room.{frame_of, bare}
use Rattle.solver.specs.Run.{problem, CanRun}
use Rattle.solve_leaves.specs.Says.{Ready, Failure}
use Rattle.solver.proofs.Alike.{each_alike, fits_alike, framed_alike}

-- there are no more Implies than records
one_few : (m : Node) → is_implies m ≤ 1
one_few (eq x y) = omega arith
one_few (assign x s) = omega arith
one_few (and cs) = omega arith
one_few (xor cs) = omega arith
one_few (impossible h e) = omega arith
one_few (implies ws c) = omega arith

implies_few : (p : Problem) (l : List ℕ) → implies_among p l ≤ length l
unfolding implies_among
implies_few p [] = omega arith
implies_few p (r ∷ rs) = omega (arith, one_few (node p r), implies_few p rs)

pub passes_few : (p : Problem) → most_passes p ≤ p.counts.terms + p.counts.records + 1
passes_few p = omega (arith, implies_few p (from 0 p.counts.records), from_length 0 p.counts.records)

-- zeroes at the front are a frame with nothing sorted, narrowed or fired
frame_of_zeroes : (n : Counts) (rest : List ℕ)
    → frame_of n (replicate (n.terms + n.records) 0 ++ rest)
    ≡ record { sorts = replicate n.terms 0; states = replicate n.records 0 }
frame_of_zeroes n rest =
    let a : List ℕ = replicate n.terms 0 in
    let b : List ℕ = replicate n.records 0 in
    let e : replicate (n.terms + n.records) 0 ++ rest ≡ a ++ (b ++ rest) =
    ap (λ (l : List ℕ). l ++ rest) (sym (replicate-append-replicate n.terms n.records 0)) ∙ append_assoc a b rest in
    ap (frame_of n) e
    ∙ (λ i. record {
      sorts = take_at a (b ++ rest) n.terms (length-replicate n.terms 0) i;
      states = (ap (take n.records) (drop_at a (b ++ rest) n.terms (length-replicate n.terms 0))
          ∙ take_at b rest n.records (length-replicate n.records 0)) i;
    })

-- the front of the room has been zeroed
pub front_zeroed : (n : Counts) (work front : List ℕ) → n.terms + n.records ≤ length work
    → front ≡ replicate (length (take (n.terms + n.records) work)) 0
    → frame_of n (front ++ drop (n.terms + n.records) work)
    ≡ record { sorts = replicate n.terms 0; states = replicate n.records 0 }
front_zeroed n work front le e = rw (e, length-take-le (n.terms + n.records) work le) (frame_of_zeroes n _)

-- this pass is next, and the frame at the front of the room is that of the passes before it, whatever the range
abbrev pub At : Counts → List ℕ → List ℕ → List ℕ → ℕ → List ℕ → Type 0
At n R S T passes work =
    (before : ℕ) × (passes ≡ before + 1) × ((range : List ℕ) → Ahead (problem n R S T range) before (frame_of n work))

module _ {n : Counts} {R S T work₀ errors₀ : List ℕ} (can : CanRun n R S T work₀ errors₀) where
  abbrev whole : List ℕ → Problem
  whole range = problem n R S T range

  tops_fit : (range : List ℕ) → Tops (whole range)
  tops_fit range r m = fits_alike n R S [] [] T range max_depth r (can.fits r m)

  pub at_start : (work : List ℕ) → frame_of n work ≡ empty_frame (whole []) → At n R S T 1 work
  at_start work e = (0, refl, λ range. subst (Ahead (whole range) 0) (sym e) (ahead_start (whole range) (tops_fit range)))

  pub ready : (passes : ℕ) (work errors : List ℕ) → At n R S T passes work → length work ≡ length work₀ → length errors ≡ length errors₀
      → Ready (bare n R S) max_depth (take n.tops T) work errors
  ready passes work errors at lw le =
      record {
        fits = can.fits;
        records = can.records_lent;
        side = can.side_lent;
        framed = framed_alike n R S T [] [] [] (frame_of n work) (at.2 []).framed;
        space = rw lw can.space;
        entries = rw le can.entries;
      }

  -- one more pass from there
  module _ (passes : ℕ) (work : List ℕ) (at : At n R S T passes work) where
    abbrev out : Out
    out = each (upd (bare n R S) max_depth) (take n.tops T) (frame_of n work)

    begun : passes ≡ suc at.0
    begun = at.1 ∙ add-one at.0

    pass_out : (range : List ℕ) → pass (whole range) (frame_of n work) ≡ out
    pass_out range = each_alike n R S T range [] [] max_depth (take n.tops T) (frame_of n work)

    pub at_again : (work' : List ℕ) (b : Bool) → out ≡ ok b (frame_of n work') → b ≡ true → At n R S T (passes + 1) work'
    at_again work' b e t = (
      at.0 + 1,
      ap (λ (k : ℕ). k + 1) at.1,
      λ range. rw (add-one at.0)
          (ahead_again (whole range) (tops_fit range) at.0 (frame_of n work) (frame_of n work') (at.2 range) (pass_out range ∙ e ∙ ap (λ (x : Bool). ok x (frame_of n work')) t)),
    )

    pub at_settled : (work' : List ℕ) (b : Bool) → out ≡ ok b (frame_of n work') → b ≡ false
        → (range : List ℕ) → running (whole range) ≡ settled passes (frame_of n work')
    at_settled work' b e t range =
        ahead_settled (whole range) (tops_fit range) at.0 (frame_of n work) (frame_of n work') (at.2 range) (pass_out range ∙ e ∙ ap (λ (x : Bool). ok x (frame_of n work')) t)
        ∙ ap (λ (k : ℕ). settled k (frame_of n work')) (sym begun)

    pub at_failed : (k : ℕ) (errors' : List ℕ) → Failure out k errors'
        → (range : List ℕ) → RunFailed (running (whole range)) passes k errors'
    at_failed k errors' f range =
        record {
          entry = f.entry;
          below = f.below;
          holds = f.holds;
          run =
              ahead_failed (whole range) (tops_fit range) at.0 (frame_of n work) f.entry f.below (at.2 range) (pass_out range ∙ f.out)
              ∙ ap (λ (k : ℕ). failed k f.entry f.below) (sym begun);
        }

    -- the measure, and that a count of passes fits
    pub at_most : passes ≤ most_passes (whole [])
    at_most = omega (arith, begun, ahead_most (whole []) (tops_fit []) at.0 (frame_of n work) (at.2 []))

    pub at_few : passes ≤ n.terms + n.records + 1
    at_few = omega (arith, at_most, passes_few (whole []))
