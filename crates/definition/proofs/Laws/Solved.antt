-- What solving leaves: a framed frame, or an error that has room in one entry for each record.
use Rattle.std.specs.Prelude.{ℕ, zero, suc, ◌≡◌, refl}
use Rattle.std.proofs.Common.{subst}
use Rattle.std.proofs.Math.Bool.{true, false}
use Rattle.definition.specs.Sizes.{max_depth}
use Rattle.definition.specs.Problem.{Problem, top_level}
use Rattle.definition.specs.Frame.{Frame}
use Rattle.definition.specs.Update.{Out, ok, err}
use Rattle.definition.specs.Solve.{pass, Run, settled, failed, after_pass, run, most_passes, running, Open, all_found, open_at, opening, Answer, answered, unconstrained, conflict, with_open, at_end, solve}
use Rattle.definition.specs.Refusal.{records_refusal}
use Rattle.definition.specs.Fits.{Framed, total, size}
use Rattle.definition.proofs.Laws.Kept.{framed_empty, framed_each}
use Rattle.definition.proofs.Laws.Entries.{Few, each_few}
use Rattle.definition.proofs.Laws.Refused.{sound}

abbrev pub RunLeaves : Problem → Run → Type 0
RunLeaves p (settled n f) = Framed p f
RunLeaves p (failed n e es) = Few (total (size p max_depth) (top_level p)) e es

abbrev pub Leaves : Problem → ℕ → Answer → Type 0
Leaves p n (answered k f) = Framed p f
Leaves p n (unconstrained k t place) = Unit {0}
Leaves p n (conflict k e es) = Few n e es

pub run_leaves : (p : Problem) (k n : ℕ) (f : Frame) → Framed p f → RunLeaves p (run p k n f)
unfolding run
run_leaves p zero n f F = F
run_leaves p (suc k) n f F = go (pass p f) refl (run_leaves p k (suc n))
  where
    go : (o : Out) → pass p f ≡ o → ((g : Frame) → Framed p g → RunLeaves p (run p k (suc n) g)) →
        RunLeaves p (after_pass (suc n) o (run p k (suc n)))
    go (ok true g) e next = unfold after_pass in next g (framed_each p max_depth (top_level p) f g true e F)
    go (ok false g) e next = unfold after_pass in framed_each p max_depth (top_level p) f g false e F
    go (err x xs) e next = unfold after_pass in each_few p max_depth (top_level p) f x xs F e

end_leaves : (p : Problem) (r : Run) → RunLeaves p r → Leaves p (total (size p max_depth) (top_level p)) (at_end p r)
unfolding at_end
end_leaves p (settled n f) F = go (opening p f)
  where
    go : (o : Open) → Leaves p (total (size p max_depth) (top_level p)) (with_open n f o)
    go all_found = unfold with_open in F
    go (open_at t place) = unfold with_open in tt
end_leaves p (failed n e es) h = h

pub solve_leaves : (p : Problem) → records_refusal p ≡ 0 → Leaves p p.counts.records (solve p)
unfolding solve
solve_leaves p h =
    subst (λ (n : ℕ). Leaves p n (at_end p (running p))) (sound p h).sizes
    (end_leaves p (running p) (run_leaves p (most_passes p) 0 _ (framed_empty p)))
