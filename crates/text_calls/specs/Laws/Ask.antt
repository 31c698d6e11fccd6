-- The call of a line, by its way: a query and a typed local make no term.
use Prim.Native.Nat.{ℕ, zero, suc, ◌-◌, ◌*◌, ◌≤◌}
use Rattle.std.proofs.Common.{arith, add-zero, ap}
use Rattle.std.specs.Prelude.{◌≡◌, Bool, true, false, List, [], ◌∷◌, replicate}
use Rattle.std.proofs.Math.Path.{refl}
use Rattle.std.proofs.lemmas.List.Edits.{sets}
use Rattle.definition.specs.declared.Counts.{Counts}
use Rattle.definition.specs.Problem.{Problem}
use Rattle.solve_records.specs.Lent.{lent as problem_of}
use Rattle.rule_heads.specs.Layout.{side_of}
use Rattle.rule_lent.specs.declared.Lent.{Lent}
use Rattle.rule_lent.specs.Fit.{Lending, lent_refusal, source_of}
use Rattle.rule_lent.specs.Lend.{lending}
use Rattle.rule_steps.specs.declared.Lengths.{Lengths}
use Rattle.rule_steps.specs.Ask.{Tables, Source, atom_ask, ask, head_of, args_of, place_of, call_kind}
use Rattle.rule_steps.specs.Given.{State, Verdict, refused, added, unless_refused, counts_after, after, stepped, run}
use Rattle.rule_calls.specs.declared.Added.{Added}
use Rattle.rule_calls.specs.Exit.{state_of, call_verdict, answer_of, problem_after, terms_after, local_refusal, local_verdict}
use Rattle.rule_calls.specs.Left.{LocalLeft, CallLeft, ActionsLeft}
use Rattle.rule_calls.specs.Laws.Run.{numbered_unless, Grown}
use Rattle.rule_calls.specs.Laws.Call.{running, call_numbered, call_grown}
use Rattle.text_definition.specs.declared.Numbers.{Numbers}
use Rattle.text_terms.specs.declared.call.Call.{Call}
use Rattle.text_terms.specs.Call.{call_cells, lent_by, counts_by}
use Rattle.text_calls.specs.Ask.{arguments_of, nothing_added, Kept, Asked}

-- as many named as before
abbrev Same : ℕ → Verdict → Type 0
Same n (refused m h q) = Unit {0}
Same n (added s) = s.counts.terms ≡ n

same_unless : (n m head place : ℕ) (v : Verdict) → Same n v → Same n (unless_refused m head place v)
unfolding unless_refused
same_unless n zero head place v h = h
same_unless n (suc m) head place v h = tt

same_terms : (n : ℕ) (terms : List ℕ) (v : Verdict) → Same n v → terms ≡ terms_after n terms v
unfolding terms_after
same_terms n terms (refused m h q) e = refl
same_terms n terms (added s) e =
    ap (λ (k : ℕ). sets terms (n * 2) (replicate k 0)) (let z : 0 ≡ (s.counts.terms - n) * 2 = omega arith in z)

same_kept : (n : ℕ) (v : Verdict) → n ≤ 256 → Same n v → Kept n v
same_kept n (refused m h q) l e = tt
same_kept n (added s) l e = (omega arith, omega arith)

grown_kept : (n : ℕ) (v : Verdict) → Grown n v → Kept n v
grown_kept n (refused m h q) g = tt
grown_kept n (added s) g = (g.1, g.0.terms)

-- an atom makes no term
atom_fresh : (head : ℕ) (args : List ℕ) (kind : ℕ) → (atom_ask head args kind).fresh ≡ 0
unfolding atom_ask
atom_fresh head args zero = refl
atom_fresh head args (suc k) = refl

query_fresh : (T : Tables) (named : ℕ) (c : Source) (i : ℕ) → c.query ≡ true → (ask T named c i).fresh ≡ 0
unfolding ask
query_fresh T named c i e = rw e (atom_fresh (head_of c i) (args_of c i) (call_kind c i))

run_same : (T : Tables) (l : Lengths) (c : Source) (n : ℕ) (s : State) (is : List ℕ) → c.query ≡ true → s.counts.terms ≡ n → Same n (run T l c s is)
unfolding run after counts_after
run_same T l c n s [] e h = h
run_same T l c n s (i ∷ is) e h =
    same_unless n _ (head_of c i) (place_of c i) (run T l c (stepped T c s i (ask T s.counts.terms c i)) is)
    (run_same T l c n (stepped T c s i (ask T s.counts.terms c i)) is e (omega (arith, query_fresh T s.counts.terms c i e)))

call_same : (d : Lending) → d.query ≡ true → Same d.problem.counts.terms (call_verdict d)
call_same d e = same_unless d.problem.counts.terms (lent_refusal d) 0 0 (running d) (run_same _ _ (source_of d) d.problem.counts.terms (state_of d.problem) _ e refl)

module _ (d : Lending) (records side tops range : List ℕ) (r : Added) where
  asked_query : d.query ≡ true → CallLeft d.problem (call_verdict d) records side tops range r → Asked d.problem (call_verdict d) d.terms d.terms records side tops range r
  asked_query e h = record {
    left = record { left = h; terms' = same_terms d.problem.counts.terms d.terms (call_verdict d) (call_same d e) };
    firm = call_numbered d;
    kept = grown_kept d.problem.counts.terms (call_verdict d) (call_grown d);
  }

  asked_action : (terms : List ℕ) → ActionsLeft d.problem (call_verdict d) d.terms terms records side tops range r → Asked d.problem (call_verdict d) d.terms terms records side tops range r
  asked_action terms h = record { left = h; firm = call_numbered d; kept = grown_kept d.problem.counts.terms (call_verdict d) (call_grown d) }

module _ (p : Problem) (few : p.counts.terms ≤ 256) (terms : List ℕ) where
  module _ (term sort place : ℕ) (records tops range : List ℕ) (r : Added) where
    abbrev v : Verdict
    v = local_verdict p terms term sort place

    local_same : Same p.counts.terms v
    unfolding after counts_after
    local_same = same_unless p.counts.terms (local_refusal p terms term sort) 0 0 _ (add-zero p.counts.terms)

    -- the side list stays
    side_unless : (n : ℕ) (w : Verdict) → p.side ≡ (problem_after p w).side → p.side ≡ (problem_after p (unless_refused n 0 0 w)).side
    unfolding unless_refused problem_after
    side_unless zero w e = e
    side_unless (suc n) w e = refl

    local_side : p.side ≡ (problem_after p v).side
    unfolding problem_after after side_of
    local_side = side_unless (local_refusal p terms term sort) _ refl

    asked_local : LocalLeft p v records tops range r → Asked p v terms terms records p.side tops range r
    asked_local h = record {
      left = record {
        left = record { answer = h.answer; lists = record { records' = h.records'; side' = local_side; tops' = h.tops'; range' = h.range' } };
        terms' = same_terms p.counts.terms terms v local_same;
      };
      firm = numbered_unless (local_refusal p terms term sort) 0 0 _ tt;
      kept = same_kept p.counts.terms v few local_same;
    }

  asked_nothing : Asked p (added (state_of p)) terms terms p.records p.side p.tops p.range (nothing_added p.counts)
  unfolding answer_of problem_after
  asked_nothing = record {
    left = record {
      left = record { answer = refl; lists = record { records' = refl; side' = refl; tops' = refl; range' = refl } };
      terms' = same_terms p.counts.terms terms (added (state_of p)) refl;
    };
    firm = tt;
    kept = same_kept p.counts.terms (added (state_of p)) few refl;
  }

-- the same of the loan, the counts, the terms and the arguments as the code has them
module _ (n : Numbers) (call : Call) (named : ℕ) (few : named ≤ 256) (signatures signature_sorts globals terms numbers records side tops range : List ℕ) {lent' : Lent} {counts' : Counts} {laid args : List ℕ}
    (l : lent' ≡ lent_by n call.given) (c : counts' ≡ counts_by n named) (w : laid ≡ call_cells call) (a : args ≡ arguments_of call numbers) where
  abbrev problem : Problem
  problem = problem_of (counts_by n named) records side tops range

  abbrev lend : Bool → Lending
  lend q = lending q (lent_by n call.given) problem signatures signature_sorts globals terms (call_cells call) (arguments_of call numbers)

  module _ (records₁ side₁ tops₁ range₁ : List ℕ) (r : Added) where
    pub query_asked : CallLeft (problem_of counts' records side tops range) (call_verdict (lending true lent' (problem_of counts' records side tops range) signatures signature_sorts globals terms laid args)) records₁ side₁ tops₁ range₁ r
        → Asked problem (call_verdict (lend true)) terms terms records₁ side₁ tops₁ range₁ r
    query_asked h = asked_query (lend true) records₁ side₁ tops₁ range₁ r refl (rw (l, c, w, a) at h)

    pub action_asked : (terms₁ : List ℕ) → ActionsLeft (problem_of counts' records side tops range) (call_verdict (lending false lent' (problem_of counts' records side tops range) signatures signature_sorts globals terms laid args)) terms terms₁ records₁ side₁ tops₁ range₁ r
        → Asked problem (call_verdict (lend false)) terms terms₁ records₁ side₁ tops₁ range₁ r
    action_asked terms₁ h = asked_action (lend false) records₁ side₁ tops₁ range₁ r terms₁ (rw (l, c, w, a) at h)

    pub local_asked : (term sort place : ℕ) → LocalLeft (problem_of counts' records side tops range) (local_verdict (problem_of counts' records side tops range) terms term sort place) records₁ tops₁ range₁ r
        → Asked problem (local_verdict problem terms term sort place) terms terms records₁ side tops₁ range₁ r
    local_asked term sort place h = asked_local problem few terms term sort place records₁ tops₁ range₁ r (rw c at h)

  pub nothing_asked : Asked problem (added (state_of problem)) terms terms records side tops range (nothing_added counts')
  nothing_asked = rw c (asked_nothing problem few terms)
