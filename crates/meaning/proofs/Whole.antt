-- The statements, put together from the arguments.
use Rattle.std.specs.Prelude.{ℕ, suc, ◌+◌, ◌≤◌, ◌<◌, ◌≡◌, refl, false, List, ◌∷◌, map, length, get_or}
use Rattle.std.proofs.Common.{sym, ap, ◌∙◌, subst, arith}
use Rattle.definition.specs.Lists.{from, count}
use Rattle.definition.specs.Problem.{Problem, kind_of, range_term}
use Rattle.definition.specs.Frame.{Frame, sort_of, empty_frame}
use Rattle.definition.specs.Update.{Entry}
use Rattle.definition.specs.Solve.{Run, settled, failed, run, most_passes, running, Open, all_found, open_at, opening, with_open, at_end, unconstrained, conflict, solve, outcome_of}
use Rattle.definition.specs.Refusal.{records_refusal}
use Rattle.definition.specs.Meaning.{Names, Total, Satisfies}
use Rattle.definition.proofs.Laws.Kept.{framed_empty}
use Rattle.definition.proofs.Laws.Refused.{sound}
use Rattle.definition.proofs.Laws.Solved.{Leaves, solve_leaves}
use Rattle.definition.proofs.Laws.Passes.{Tops, Ended, run_enough, running_ended, start_below, implies_kinds, passes_of, running_passes}
use Rattle.meaning.specs.Words.{Has, given, Held, Gives, SortsAll, Changed, begin, again, Conflicting, StandsIn}
use Rattle.meaning.proofs.Forced.{Agreed, agreed}
use Rattle.meaning.proofs.Only.{given_suc, means_pass}
use Rattle.meaning.proofs.Answers.{answered_from, open_from, conflict_from, last_pass, settled_in_table, range_sorted, OpenAt, opening_at}
use Rattle.meaning.proofs.Plain.{Under}
use Rattle.meaning.proofs.Order.{settles_in}
use Rattle.meaning.proofs.Exit.{Ending, answers, opens, fails, ending, number_conflict}

tops_of_lem : (p : Problem) → records_refusal p ≡ 0 → Tops p
tops_of_lem p h = (sound p h).fits

-- a cell of the list is a cell of the frame
cell : (p : Problem) (S : List ℕ) (h : Held p S) (t s : ℕ) → Has S t s → sort_of h.frame t ≡ suc s
cell p S h t s k = ap (λ (l : List ℕ). get_or l t 0) (sym h.sorts) ∙ k

pub held_forced : (p : Problem) (S : List ℕ) → Held p S → (t s : ℕ) → Has S t s → (τ : ℕ → ℕ) → Satisfies p τ → τ t ≡ s
held_forced p S h t s k τ sat =
    (subst (Agreed p τ) h.settles (agreed p τ (tops_of_lem p h.accepted) sat)).sorts t s (cell p S h t s k)

pub held_in_table : (p : Problem) (S : List ℕ) → Held p S → (t s : ℕ) → Has S t s → s < p.counts.sorts
held_in_table p S h t s k =
    settled_in_table p (tops_of_lem p h.accepted) h.passes h.frame h.settles t s (cell p S h t s k)

-- 31 holds the sorts of a frame in which the entry named is the first of the range without one
pub open_held : (p : Problem) → records_refusal p ≡ 0 → (n t place : ℕ) → solve p ≡ unconstrained n t place →
    (f : Frame) × Held p f.sorts × OpenAt p f 0 t place
open_held p h n t place e =
    let (f, r, o) = open_from p n t place e in
    (f, record { accepted = h; passes = n; frame = f; settles = r; sorts = refl }, opening_at p f t place o)

pub held_satisfies : (p : Problem) (S : List ℕ) → Held p S → SortsAll p S → Satisfies p (given S)
held_satisfies p S h full =
    let tops : Tops p = tops_of_lem p h.accepted in
    let (f, w, e, k) = last_pass p tops h.passes h.frame h.settles in
    means_pass p S full tops f h.frame false w (e ∙ sym h.sorts) k

pub held_total : (p : Problem) (S : List ℕ) → Held p S → SortsAll p S → Total p (given S)
held_total p S h full t named = let (s, k) = full t named in rw (given_suc S t s k) (held_in_table p S h t s k)

pub held_only : (p : Problem) (S : List ℕ) → Held p S → SortsAll p S → (τ : ℕ → ℕ) → Satisfies p τ → (t : ℕ) → Names p t →
    τ t ≡ given S t
held_only p S h full τ sat t named = let (s, k) = full t named in held_forced p S h t s k τ sat ∙ sym (given_suc S t s k)

pub conflict_unsatisfied : (p : Problem) → records_refusal p ≡ 0 → Conflicting (outcome_of (solve p)).number → (τ : ℕ → ℕ) →
    Satisfies p τ → ⊥
conflict_unsatisfied p h c τ sat =
    let (n, x, xs, e) = number_conflict p h c in
    subst (Agreed p τ) (conflict_from p n x xs e) (agreed p τ (tops_of_lem p h) sat)

-- what settles in q settles in p; so a conflict of p is one of q
pub sorts_stay : (p q : Problem) (ρ σ : ℕ → ℕ) → StandsIn p q ρ σ → (S U : List ℕ) → Held p S → Held q U → (t s : ℕ) →
    Has S t s → Has U (σ t) s
sorts_stay p q ρ σ stands S U h i t s k =
    let under : Under σ h.frame.sorts i.frame.sorts =
    (settles_in p q ρ σ stands (tops_of_lem p h.accepted) (tops_of_lem q i.accepted) i.passes i.frame i.settles).0 h.passes h.frame h.settles in
    ap (λ (l : List ℕ). get_or l (σ t) 0) i.sorts ∙ under t s (cell p S h t s k)

pub conflict_stays : (p q : Problem) (ρ σ : ℕ → ℕ) → StandsIn p q ρ σ → records_refusal p ≡ 0 → records_refusal q ≡ 0 →
    Conflicting (outcome_of (solve p)).number
    → Conflicting (outcome_of (solve q)).number
conflict_stays p q ρ σ stands h i c = on (ending q i) (number_conflict p h c)
  where
    never : (m : ℕ) (g : Frame) → running q ≡ settled m g →
        (n : ℕ) × (e : Entry) × (es : List Entry) × (solve p ≡ conflict n e es) → ⊥
    never m g r (n, x, xs, e) =
        (settles_in p q ρ σ stands (tops_of_lem p h) (tops_of_lem q i) m g r).1 n x xs (conflict_from p n x xs e)

    on : Ending q (outcome_of (solve q)).number → (n : ℕ) × (e : Entry) × (es : List Entry) × (solve p ≡ conflict n e es) →
        Conflicting (outcome_of (solve q)).number
    on (answers m g e k) f = absurd (never m g (answered_from q m g k).0 f)
    on (opens m t place e k) f = absurd (never m (open_from q m t place k).0 (open_from q m t place k).1 f)
    on (fails m x xs e k) f = e

-- the passes
pub passes_counted : (p : Problem) → records_refusal p ≡ 0 → Ended p (Changed p) (running p)
passes_counted p h = running_ended p (tops_of_lem p h) (Changed p) (λ n f g w c e. again c e) begin

pub more_passes : (p : Problem) → records_refusal p ≡ 0 → (k : ℕ) → most_passes p ≤ k → run p k 0 (empty_frame p) ≡ running p
more_passes p h k l =
    run_enough p (tops_of_lem p h) k (most_passes p) 0 (empty_frame p) (framed_empty p) (omega (arith, start_below p)) (start_below p)

-- the passes of an outcome are those of the run
pub outcome_passes : (p : Problem) → (outcome_of (solve p)).passes ≡ passes_of (running p)
unfolding solve at_end with_open outcome_of
outcome_passes p = on (running p)
  where
    with : (n : ℕ) (f : Frame) (o : Open) → (outcome_of (with_open n f o)).passes ≡ n
    with n f all_found = refl
    with n f (open_at t place) = refl

    on : (o : Run) → (outcome_of (at_end p o)).passes ≡ passes_of o
    on (settled n f) = with n f (opening p f)
    on (failed n e es) = refl

pub passes_most : (p : Problem) →
    (outcome_of (solve p)).passes ≤ p.counts.terms + count 5 (map (kind_of p) (from 0 p.counts.records)) + 1
passes_most p = omega (arith, outcome_passes p, running_passes p, implies_kinds p (from 0 p.counts.records))

-- the entries of an error, and the range of an answer
pub conflict_entries : (p : Problem) → records_refusal p ≡ 0 → (n : ℕ) (e : Entry) (es : List Entry) →
    solve p ≡ conflict n e es → length (e ∷ es) ≤ p.counts.records
conflict_entries p h n e es k = (subst (Leaves p p.counts.records) k (solve_leaves p h)).few

pub given_range : (p : Problem) (S : List ℕ) → Gives p S → (i : ℕ) → i < p.counts.range →
    (s : ℕ) × Has S (range_term p i) s
given_range p S g i l =
    let (s, k) = range_sorted p g.frame (answered_from p g.passes g.frame g.answer).1 i l in
    (s, ap (λ (l : List ℕ). get_or l (range_term p i) 0) g.sorts ∙ k)
