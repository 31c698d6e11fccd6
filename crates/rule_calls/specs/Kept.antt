-- Laws that the code's older form cited; they still hold.
use Rattle.std.specs.Prelude.{ℕ, zero, suc, ◌+◌, ◌-◌, ◌*◌, ◌≤◌, ◌<◌, ◌≡◌, refl, List, [], ◌∷◌, length, take, get_or, set, replicate}
use Rattle.std.proofs.Common.{arith, sym, ap, subst, ◌∙◌}
use Rattle.std.proofs.lemmas.List.{length-replicate}
use Rattle.definition.specs.declared.Counts.{Counts}
use Rattle.definition.specs.Sizes.{max_terms}
use Rattle.definition.specs.Lists.{from}
use Rattle.definition.specs.Problem.{Problem}
use Rattle.definition.proofs.Laws.Refused.{first_given_lem}
use Rattle.rule_cells.specs.Put.{puts}
use Rattle.rule_signatures.specs.Tables.{term_cells}
use Rattle.rule_ranges.specs.Enter.{new_if, new}
use Rattle.rule_lent.specs.Fit.{Lending, local_tested, lent_refusal}
use Rattle.rule_steps.specs.declared.Lengths.{Lengths}
use Rattle.rule_steps.specs.Ask.{Tables, Source, head_of, place_of}
use Rattle.rule_steps.specs.Given.{State, Verdict, refused, added, after, run}
use Rattle.rule_steps.specs.Step.{Few, state}
use Rattle.rule_calls.specs.declared.Added.{Added}
use Rattle.rule_calls.specs.Exit.{state_of, call_verdict, answer_of, problem_after, terms_after, local_given, local_refusal, local_verdict}
use Rattle.rule_calls.specs.Left.{LocalLeft, refused_with, Going, RunLeft, CallLeft, ActionsLeft}
use Rattle.rule_calls.specs.Laws.Run.{refusing, next, rest_refused, run_answer, Numbered, Grown, filled_all, refused_same, stop_headless, run_turn as run_on}
use Rattle.rule_calls.specs.Laws.Call.{running, call_numbered, call_grown}

-- one term enters or not
pub new_one : (marks : List ℕ) (t : ℕ) → get_or marks t 0 ≡ 0 → length (new marks (t ∷ [])) ≡ 1
unfolding new new_if
new_one marks t e = rw e

pub new_none : (marks : List ℕ) (t : ℕ) → (get_or marks t 0 ≡ 0 → ⊥) → length (new marks (t ∷ [])) ≡ 0
unfolding new new_if
new_none marks t n = go (get_or marks t 0) n
  where
    go : (v : ℕ) → (v ≡ 0 → ⊥) → length (new_if t v (new (set marks t 1) [])) ≡ 0
    go zero m = absurd (m refl)
    go (suc v) m = refl

-- a front of zeroes
abbrev nought : ℕ → List ℕ
nought n = replicate n 0

take_nought : (n m : ℕ) → n ≤ m → take n (nought m) ≡ nought n
take_nought zero m h = refl
take_nought (suc n) zero h = absurd (omega arith)
take_nought (suc n) (suc m) h = ap (λ (l : List ℕ). 0 ∷ l) (take_nought n m (omega arith))

pub zeroes : (n : ℕ) → n ≤ 512 → take n (nought 512) ≡ nought n
zeroes n h = take_nought n 512 h

pub zeroes_length : (n : ℕ) → n ≤ 512 → n ≡ length (take n (nought 512))
zeroes_length n h = sym (ap length (zeroes n h) ∙ length-replicate n 0)

-- the marks by another name; other lists to add to
module _ (T : Tables) (l : Lengths) (c : Source) (o k : Counts) (r s t g : List ℕ) {m m' : List ℕ} (is : List ℕ) (e : m ≡ m') (a : Added) where
  pub run_marked : (r' s' t' g' : List ℕ) → RunLeft o (run T l c (state k r s t g m) is) r' s' t' g' a → RunLeft o (run T l c (state k r s t g m') is) r' s' t' g' a
  run_marked r' s' t' g' h = rw e at h

  pub run_foreseen : a ≡ answer_of o (run T l c (state k r s t g m) is) → (r' s' t' g' : List ℕ) → a ≡ answer_of o (run T l c (state k r' s' t' g' m') is)
  run_foreseen h r' s' t' g' = (rw e at h) ∙ run_answer T l c o k r s t g r' s' t' g' m' is

-- what is refused by a number, with nothing of a head
abbrev pub refused_at : ℕ → Counts → Added
refused_at number counts = record { number = number; head = 0; place = 0; counts = counts }

-- a turn and a refusal in a run, by any number
module _ {T : Tables} {l : Lengths} {c : Source} {start s : State} {i n : ℕ} (g : Going T l c start s i n) where
  pub run_turn : (s' : State) (k : ℕ) → i < n → k ≡ refusing T l c s i → k ≡ 0 → s' ≡ next T l c s i → Few s'.counts → Going T l c start s' (i + 1) n
  run_turn s' k h w z e f = run_on g s' h (sym z ∙ w) e f

  pub run_refused : (o : Counts) (k : ℕ) (records side tops range : List ℕ) (r : Added) → i < n → k ≡ refusing T l c s i → (k ≡ 0 → ⊥)
      → r ≡ refused_with k (head_of c i) (place_of c i) o → RunLeft o (run T l c start (from 0 n)) records side tops range r
  unfolding answer_of
  run_refused o k records side tops range r h w z a =
      rw (sym g.rest ∙ rest_refused T l c s i n k h w z) (record { answer = a; lists = tt })

-- a typed local refused by any number
pub local_early : (p : Problem) (terms : List ℕ) (term sort place n : ℕ) → n ≡ local_tested p terms term sort → (n ≡ 0 → ⊥)
    → LocalLeft p (local_verdict p terms term sort place) p.records p.tops p.range (refused_at n p.counts)
unfolding local_refusal answer_of problem_after
local_early p terms term sort place n e h =
    let k : local_refusal p terms term sort ≡ n = rw (← e) (first_given_lem n _ h) in
    let v : local_verdict p terms term sort place ≡ refused n 0 0 = rw k (stop_headless n (added (after (state_of p) (record { place = place }) (local_given term sort) (term ∷ []) 0)) h) in
    rw v (record { answer = refl; records' = refl; tops' = refl; range' = refl })

-- what a verdict's number says of it, for each answer
module _ (p : Problem) (v : Verdict) (k : Numbered v) where
  pub left_refused : (r : Added) → r ≡ answer_of p.counts v → (r.number ≡ 0 → ⊥) → CallLeft p v p.records p.side p.tops p.range r
  left_refused r a z =
      let e : problem_after p v ≡ p = refused_same p p.counts v (λ w. z (rw a w)) in
      record { answer = a; lists = rw e (record { records' = refl; side' = refl; tops' = refl; range' = refl }) }

  pub left_added : (q : Added) → q ≡ answer_of p.counts v → q.number ≡ 0 → (records side tops range : List ℕ) (r : Added)
      → RunLeft p.counts v records side tops range r → CallLeft p v records side tops range r
  left_added q a z records side tops range r l =
      record { answer = l.answer; lists = filled_all p p.counts v records side tops range k (rw a at z) l.lists }

module _ (n : ℕ) (c : Counts) where
  refused_terms : (terms : List ℕ) (v : Verdict) → ((answer_of c v).number ≡ 0 → ⊥) → terms ≡ terms_after n terms v
  unfolding answer_of terms_after
  refused_terms terms (refused m h q) z = refl
  refused_terms terms (added s) z = absurd (z refl)

  added_terms : (terms : List ℕ) (v : Verdict) → Numbered v → (answer_of c v).number ≡ 0
      → puts terms (n * term_cells) (replicate (((answer_of c v).counts.terms - n) * term_cells) 0) ≡ terms_after n terms v
  unfolding answer_of terms_after
  added_terms terms (refused m h q) k z = absurd (k z)
  added_terms terms (added s) k z = refl

  grown_terms : (v : Verdict) → Numbered v → Grown n v → (answer_of c v).number ≡ 0 → (n ≤ (answer_of c v).counts.terms) × ((answer_of c v).counts.terms ≤ max_terms)
  unfolding answer_of
  grown_terms (refused m h q) k g z = absurd (k z)
  grown_terms (added s) k g z = (g.1, g.0.terms)

module _ (d : Lending) where
  -- 1 or 2 is given
  pub call_early : (n : ℕ) → n ≡ lent_refusal d → (n ≡ 0 → ⊥)
      → CallLeft d.problem (call_verdict d) d.problem.records d.problem.side d.problem.tops d.problem.range (refused_at n d.problem.counts)
  unfolding answer_of problem_after
  call_early n e z =
      let k : call_verdict d ≡ refused n 0 0 = rw (← e) (stop_headless n (running d) z) in
      rw k (record { answer = refl; lists = record { records' = refl; side' = refl; tops' = refl; range' = refl } })

  -- the fresh terms of actions
  module _ (records side tops range : List ℕ) (r : Added) (l : CallLeft d.problem (call_verdict d) records side tops range r) where
    abbrev known : ℕ
    known = d.problem.counts.terms

    pub actions_refused : (r.number ≡ 0 → ⊥) → ActionsLeft d.problem (call_verdict d) d.terms d.terms records side tops range r
    actions_refused z =
        record { left = l; terms' = refused_terms known d.problem.counts d.terms (call_verdict d) (λ w. z (ap (λ (a : Added). a.number) l.answer ∙ w)) }

    answered : r.number ≡ 0 → (answer_of d.problem.counts (call_verdict d)).number ≡ 0
    answered z = sym (ap (λ (a : Added). a.number) l.answer) ∙ z

    pub actions_few : r.number ≡ 0 → (known ≤ r.counts.terms) × (r.counts.terms ≤ max_terms)
    actions_few z =
        subst (λ (a : Added). (known ≤ a.counts.terms) × (a.counts.terms ≤ max_terms)) (sym l.answer)
        (grown_terms known d.problem.counts (call_verdict d) (call_numbered d) (call_grown d) (answered z))

    pub actions_added : r.number ≡ 0 → (terms : List ℕ) → terms ≡ puts d.terms (known * term_cells) (replicate ((r.counts.terms - known) * term_cells) 0)
        → ActionsLeft d.problem (call_verdict d) d.terms terms records side tops range r
    actions_added z terms e =
        let k : r.counts.terms ≡ (answer_of d.problem.counts (call_verdict d)).counts.terms = ap (λ (a : Added). a.counts.terms) l.answer in
        record {
          left = l;
          terms' = e ∙ rw k (added_terms known d.problem.counts d.terms (call_verdict d) (call_numbered d) (answered z));
        }
