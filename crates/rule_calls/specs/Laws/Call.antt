-- What follows of a whole call: what passing 1 and 2 says, and how each way out meets what the entry points promise.
use Rattle.std.specs.Prelude.{ℕ, ◌-◌, ◌*◌, ◌≤◌, ◌<◌, ◌≡◌, Ok, Err, List, replicate}
use Rattle.std.proofs.Common.{arith, sym, ap, subst, ◌∙◌, length-take-le}
use Rattle.std.proofs.Math.Path.{refl}
use borrow.Author.Tests.{ltb-true}
use Rattle.definition.specs.declared.Counts.{Counts}
use Rattle.definition.specs.declared.Refusal.{Refusal}
use Rattle.definition.specs.Numbers.{number_of}
use Rattle.definition.specs.Sizes.{max_terms}
use Rattle.definition.specs.Lists.{from}
use Rattle.definition.specs.Problem.{Problem}
use Rattle.definition.proofs.Laws.Lists.{and_true}
use Rattle.definition.proofs.Laws.Refused.{Counted, counted}
use Rattle.definition.proofs.Laws.Numbers.{positive}
use Rattle.rule_cells.specs.Put.{puts}
use Rattle.rule_signatures.specs.Tables.{term_cells}
use Rattle.rule_lent.specs.Fit.{Lending, source_of, contexts, tables_counted, tables_fit, lent_refusal}
use Rattle.rule_lent.specs.Laws.{Passed, passed, Sizes, sizes}
use Rattle.rule_calls.specs.declared.Added.{Added}
use Rattle.rule_steps.specs.Given.{Verdict, refused, added, run}
use Rattle.rule_calls.specs.Exit.{tables_of, lengths_of, state_of, call_verdict, answer_of, problem_after, terms_after}
use Rattle.rule_calls.specs.declared.Refused.{Refused}
use Rattle.rule_calls.specs.Left.{told, headless, Ready, RunLeft, CallLeft, ActionsLeft}
use Rattle.rule_steps.specs.Step.{Few}
use Rattle.rule_calls.specs.Laws.Run.{Numbered, numbered, Grown, grown, grown_unless, numbered_unless, filled_all, refused_same, go_on, stop_headless}

-- what a verdict's number says of it
module _ (p : Problem) (v : Verdict) (k : Numbered v) where
  pub left_refused : (e : Refused) → told p.counts (Err e) ≡ answer_of p.counts v → CallLeft p v p.records p.side p.tops p.range (told p.counts (Err e))
  left_refused e a =
      let s : problem_after p v ≡ p = refused_same p p.counts v (λ w. let n : number_of e.refusal ≡ 0 = ap (λ (t : Added). t.number) a ∙ w in omega (arith, positive e.refusal)) in
      record { answer = a; lists = rw s (record { records' = refl; side' = refl; tops' = refl; range' = refl }) }

  pub left_added : (c : Counts) → told p.counts (Ok c) ≡ answer_of p.counts v → (records side tops range : List ℕ) (r : Added)
      → RunLeft p.counts v records side tops range r → CallLeft p v records side tops range r
  left_added c a records side tops range r l =
      record { answer = l.answer; lists = filled_all p p.counts v records side tops range k (sym (ap (λ (t : Added). t.number) a)) l.lists }

-- the terms after it
module _ (n : ℕ) (c : Counts) where
  refused_terms : (terms : List ℕ) (v : Verdict) → ((answer_of c v).number ≡ 0 → ⊥) → terms ≡ terms_after n terms v
  unfolding answer_of terms_after
  refused_terms terms (refused m h q) z = refl
  refused_terms terms (added s) z = absurd (z refl)

  added_terms : (terms : List ℕ) (v : Verdict) → Numbered v → (answer_of c v).number ≡ 0
      → puts terms (n * term_cells) (replicate (((answer_of c v).counts.terms - n) * term_cells) 0) ≡ terms_after n terms v
  unfolding answer_of terms_after
  added_terms terms (refused m h q) k z = absurd (k z)
  added_terms terms (added s) k z = refl

  grown_terms : (v : Verdict) → Numbered v → Grown n v → (answer_of c v).number ≡ 0 → (n ≤ (answer_of c v).counts.terms) × ((answer_of c v).counts.terms ≤ max_terms)
  unfolding answer_of
  grown_terms (refused m h q) k g z = absurd (k z)
  grown_terms (added s) k g z = (g.1, g.0.terms)

module _ (d : Lending) where
  -- the run of a call that passes 1 and 2
  abbrev pub running : Verdict
  running = run (tables_of d) (lengths_of d.problem d.terms) (source_of d) (state_of d.problem) (from 0 d.lent.calls)

  all_passed : lent_refusal d ≡ 0 → Passed d.problem (tables_counted d) (tables_fit d)
  unfolding lent_refusal
  all_passed e = passed d.problem (tables_counted d) (tables_fit d) e

  lent_context : lent_refusal d ≡ 0 → d.lent.context < contexts
  unfolding tables_fit
  lent_context e =
      let h : _ × _ = and_true _ _ (and_true _ _ (and_true _ _ (and_true _ _ (and_true _ _ (and_true _ _ (all_passed e).fits).0).0).0).0).0 in
      ltb-true d.lent.context contexts h.0

  pub lent_counted : lent_refusal d ≡ 0 → Counted d.problem
  lent_counted e = counted d.problem (all_passed e).counts

  pub lent_sizes : lent_refusal d ≡ 0 → Sizes d
  lent_sizes e = sizes d (all_passed e).counted

  pub lent_few : lent_refusal d ≡ 0 → Few d.problem.counts
  lent_few e = let k = lent_counted e in record { records = k.records; side = k.side; tops = k.tops; range = k.range; terms = k.terms }

  -- what a run asks
  pub lent_ready : lent_refusal d ≡ 0 → Ready d.lent (source_of d).arguments d.problem.range d.problem.counts
  lent_ready e =
      let k = lent_sizes e in
      record {
        steps =
            record {
              few = lent_few e;
              declared_few = k.signatures;
              context_few = lent_context e;
              arguments_few = rw (length-take-le d.lent.arguments d.arguments k.arguments_lent) k.arguments;
            };
        range_lent = (lent_counted e).range_lent;
      }

  -- 1 or 2 is given
  pub call_early : (e : Refusal) → number_of e ≡ lent_refusal d
      → CallLeft d.problem (call_verdict d) d.problem.records d.problem.side d.problem.tops d.problem.range (told d.problem.counts (Err (headless e)))
  unfolding answer_of problem_after
  call_early e h =
      let k : call_verdict d ≡ refused (number_of e) 0 0 = rw (← h) (stop_headless (number_of e) running (λ z. omega (arith, positive e))) in
      rw k (record { answer = refl; lists = record { records' = refl; side' = refl; tops' = refl; range' = refl } })

  -- neither is
  pub call_passed : lent_refusal d ≡ 0 → (records side tops range : List ℕ) (r : Added)
      → CallLeft d.problem running records side tops range r → CallLeft d.problem (call_verdict d) records side tops range r
  call_passed e records side tops range r h = rw (go_on (lent_refusal d) 0 0 running e) h

  pub call_numbered : Numbered (call_verdict d)
  call_numbered = numbered_unless (lent_refusal d) 0 0 running (numbered _ _ _ _ _)

  pub call_grown : Grown d.problem.counts.terms (call_verdict d)
  call_grown =
      grown_unless d.problem.counts.terms (lent_refusal d) 0 0 running
      (λ e. grown _ _ _ d.problem.counts.terms (state_of d.problem) _ (lent_few e) (omega arith))

  -- the fresh terms of actions
  abbrev known : ℕ
  known = d.problem.counts.terms

  module _ (records side tops range : List ℕ) where
    pub actions_refused : (e : Refused) → CallLeft d.problem (call_verdict d) records side tops range (told d.problem.counts (Err e))
        → ActionsLeft d.problem (call_verdict d) d.terms d.terms records side tops range (told d.problem.counts (Err e))
    actions_refused e l =
        record { left = l; terms' = refused_terms known d.problem.counts d.terms (call_verdict d) (λ w. let n : number_of e.refusal ≡ 0 = ap (λ (a : Added). a.number) l.answer ∙ w in omega (arith, positive e.refusal)) }

    module _ (c : Counts) (l : CallLeft d.problem (call_verdict d) records side tops range (told d.problem.counts (Ok c))) where
      answered : (answer_of d.problem.counts (call_verdict d)).number ≡ 0
      answered = sym (ap (λ (a : Added). a.number) l.answer)

      pub actions_few : (known ≤ c.terms) × (c.terms ≤ max_terms)
      actions_few =
          subst (λ (a : Added). (known ≤ a.counts.terms) × (a.counts.terms ≤ max_terms)) (sym l.answer)
          (grown_terms known d.problem.counts (call_verdict d) call_numbered call_grown answered)

      pub actions_added : (terms : List ℕ) → terms ≡ puts d.terms (known * term_cells) (replicate ((c.terms - known) * term_cells) 0)
          → ActionsLeft d.problem (call_verdict d) d.terms terms records side tops range (told d.problem.counts (Ok c))
      actions_added terms e =
          let k : c.terms ≡ (answer_of d.problem.counts (call_verdict d)).counts.terms = ap (λ (a : Added). a.counts.terms) l.answer in
          record {
            left = l;
            terms' = e ∙ rw k (added_terms known d.problem.counts d.terms (call_verdict d) call_numbered answered);
          }
