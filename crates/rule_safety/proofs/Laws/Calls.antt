-- Whole calls: what each atom or action adds keeps the problem safe.
use Rattle.std.specs.Prelude.{ℕ, zero, suc, ◌+◌, ◌≤◌, ◌<◌, ◌≡◌, refl, true, ltb, eqb}
use Rattle.std.proofs.Common.{arith, ap, ◌∙◌, ltb-true}
use Rattle.std.proofs.Math.Decide.{dec_lt}
use mathlib.Core.List.Memᴰ
use mathlib.Core.List.{List, [], ◌∷◌}
use Rattle.definition.specs.Lists.{from}
use Rattle.definition.specs.Problem.{Problem, children}
use Rattle.definition.specs.Refusal.{depth, records_refusal}
use Rattle.definition.proofs.Laws.Lists.{and_true, from_member}
use Rattle.definition.proofs.Laws.Refused.{accepted, named_count, child_below, unless_none, first_none}
use Rattle.rule_cells.specs.declared.Origin.{Origin}
use Rattle.rule_signatures.specs.Tables.{term_kind}
use Rattle.rule_heads.specs.Alternatives.{Given}
use Rattle.rule_lent.specs.Call.{head_of, place_of}
use Rattle.rule_lent.specs.Fit.{Lending, source_of, lent_refusal, terms_counted, terms_fit, variable_fits, local_fits, local_tested}
use Rattle.rule_lent.specs.Laws.{passed}
use Rattle.rule_steps.specs.declared.Lengths.{Lengths}
use Rattle.rule_steps.specs.Ask.{Tables, Ask, ask}
use Rattle.rule_steps.specs.Given.{State, Verdict, refused, added, unless_refused, given, counts_after, after, room_for, ask_refusal, origin_of, stepped, run}
use Rattle.rule_calls.specs.Exit.{tables_of, lengths_of, marks_of, state_of, call_verdict, problem_after, local_given, local_refusal, local_verdict}
use Rattle.rule_safety.specs.Safe.{Added, Safe}
use Rattle.rule_safety.proofs.Laws.Blocks.{same_depth}
use Rattle.rule_safety.proofs.Laws.Grown.{problem_in, Long, long_after, safe_after}
use Rattle.rule_safety.proofs.Laws.Laid.{GivenFits}
use Rattle.rule_safety.proofs.Laws.Gives.{Low}
use Rattle.rule_safety.proofs.Laws.Asks.{low_one, AskFits, given_fits, ask_fits, Past, past, LentFits, lent_fits}

-- nothing is added; two additions, one after the other
pub safe_none : (p : Problem) → records_refusal p ≡ 0 → Safe p p
safe_none p h = record {
  taken = h;
  more = omega arith;
  kept = λ r l. refl;
  tops = λ r m. m;
  once = λ r a. absurd (omega (arith, a.past, a.below));
  shallow = λ r a. absurd (omega (arith, a.past, a.below));
  within = λ d l w. w;
}

pub safe_both : (p q t : Problem) → Safe p q → Safe q t → Safe p t
safe_both p q t a b = record {
  taken = b.taken;
  more = omega (arith, a.more, b.more);
  kept = λ r h. b.kept r (omega (arith, a.more)) ∙ a.kept r h;
  tops = λ r m. b.tops r (a.tops r m);
  once = λ r n. named_count t (accepted t b.taken).trees r n.below;
  shallow = λ r n. on r n (dec_lt r q.counts.records);
  within = λ d h w. b.within d h (a.within d h w);
}
  where
    on : (r : ℕ) → Added p t r → Dec (r < q.counts.records) → depth t r ≤ 3
    on r n (yes h) =
        let e : depth t r ≡ depth q r =
        same_depth q t q.counts.records (λ r h. ap children (b.kept r h)) (λ r c h m. child_below q (accepted q a.taken).trees r c h m) (suc r) r h in
        omega (arith, a.shallow r (record { past = n.past; below = h }))
    on r n (no h) = b.shallow r (record { past = omega arith; below = n.below })

-- what holds between the atoms or actions of a call
pub record Going (p : Problem) (terms : List ℕ) (s : State) : Type 0 where
  pub safe : Safe p (problem_in s)
  pub long : Long (lengths_of p terms) (problem_in s)
  pub terms' : p.counts.terms ≤ s.counts.terms
  pub sorts : s.counts.sorts ≡ p.counts.sorts

pub start : (p : Problem) (terms : List ℕ) → records_refusal p ≡ 0 → Going p terms (state_of p)
start p terms h = record { safe = safe_none p h; long = record { records = refl; side = refl; tops = refl; range = refl }; terms' = omega arith; sorts = refl }

pub going_after : (p : Problem) (terms : List ℕ) (s : State) (o : Origin) (g : Given) (bound : List ℕ) (fresh : ℕ) → Going p terms s →
    room_for (lengths_of p terms) (counts_after s.counts s.marks g bound fresh) ≡ true → GivenFits (s.counts.terms + fresh) s.counts.sorts g → Low (s.counts.terms + fresh) bound →
    Going p terms (after s o g bound fresh)
going_after p terms s o g bound fresh w r f l = record {
  safe = safe_both p (problem_in s) (problem_in (after s o g bound fresh)) w.safe
      (safe_after (lengths_of p terms) s o g bound fresh (accepted (problem_in s) w.safe.taken) w.long r f l);
  long = long_after (lengths_of p terms) s o g bound fresh w.long;
  terms' = unfold after in unfold counts_after in omega (arith, w.terms');
  sorts = unfold after in unfold counts_after in w.sorts;
}

-- how a call ends
abbrev pub Ends : Problem → List ℕ → Verdict → Type 0
Ends p terms (refused n h q) = Unit {0}
Ends p terms (added s) = Going p terms s

unless_ends : (p : Problem) (terms : List ℕ) (n h q : ℕ) (v : Verdict) → (n ≡ 0 → Ends p terms v) → Ends p terms (unless_refused n h q v)
unfolding unless_refused
unless_ends p terms zero h q v f = f refl
unless_ends p terms (suc n) h q v f = tt

module _ (d : Lending) (fits : LentFits d) where
  abbrev T : Tables
  T = tables_of d

  abbrev l : Lengths
  l = lengths_of d.problem d.terms

  going_step : (s : State) (i : ℕ) → i < d.lent.calls → Going d.problem d.terms s →
      ask_refusal T l s.counts s.marks (ask T s.counts.terms (source_of d) i) ≡ 0 → Going d.problem d.terms (stepped T (source_of d) s i (ask T s.counts.terms (source_of d) i))
  going_step s i h w e =
      let a : Ask = ask T s.counts.terms (source_of d) i in
      let g : Past T l s.counts s.marks a = past T l s.counts s.marks a e in
      let f : AskFits (s.counts.terms + a.fresh) a =
      ask_fits T d.terms d.problem.counts.terms (source_of d) d.lent.arguments i fits.arguments s.counts.terms w.terms' (fits.calls i h) g.counted in
      going_after d.problem d.terms s (origin_of (source_of d) i) (given T a) a.bound a.fresh w g.room
      (given_fits T (s.counts.terms + a.fresh) s.counts.sorts (rw w.sorts fits.tables) a.args f.args a.form f.form g.form) f.bound

  run_ends : (is : List ℕ) → Low d.lent.calls is → (s : State) → Going d.problem d.terms s →
      Ends d.problem d.terms (run T l (source_of d) s is)
  unfolding run
  run_ends [] low s w = w
  run_ends (i ∷ is) low s w =
      let a : Ask = ask T s.counts.terms (source_of d) i in
      unless_ends d.problem d.terms (ask_refusal T l s.counts s.marks a) (head_of (source_of d) i) (place_of (source_of d) i) (run T l (source_of d) (stepped T (source_of d) s i a) is)
      (λ e. run_ends is (λ t m. low t (Memᴰ.tail m)) (stepped T (source_of d) s i a) (going_step s i (low i (Memᴰ.head refl)) w e))

pub call_ends : (d : Lending) → records_refusal d.problem ≡ 0 → Ends d.problem d.terms (call_verdict d)
call_ends d h =
    unless_ends d.problem d.terms (lent_refusal d) 0 0 (run (tables_of d) (lengths_of d.problem d.terms) (source_of d) (state_of d.problem) (from 0 d.lent.calls))
    (λ e. run_ends d (lent_fits d e) (from 0 d.lent.calls) (λ i m. let (a, b) = from_member 0 d.lent.calls i m in omega arith) (state_of d.problem) (start d.problem d.terms h))

pub local_ends : (p : Problem) (terms : List ℕ) (term sort place : ℕ) → records_refusal p ≡ 0 → Ends p terms (local_verdict p terms term sort place)
unfolding local_refusal
local_ends p terms term sort place h =
    unless_ends p terms (local_refusal p terms term sort) 0 0 (added (after (state_of p) (record { place = place }) (local_given term sort) (term ∷ []) 0)) (λ e.
    let (tested, roomy) = first_none (local_tested p terms term sort) _ e in
    let (r, done) = unless_none (room_for (lengths_of p terms) (counts_after p.counts (marks_of p.range p.counts.range) (local_given term sort) (term ∷ []) 0)) 9 0 roomy in
    let own = (passed p (terms_counted p.counts.terms terms) (local_fits p.counts terms term sort) tested).fits in
    let (var, low) = and_true (variable_fits terms p.counts.terms term) (ltb sort p.counts.sorts) (and_true (terms_fit terms p.counts.terms p.counts.sorts) _ own).1 in
    let t : term < p.counts.terms = ltb-true term p.counts.terms (and_true (ltb term p.counts.terms) (eqb (term_kind terms term) 0) var).0 in
    let s : sort < p.counts.sorts = ltb-true sort p.counts.sorts low in
    going_after p terms (state_of p) (record { place = place }) (local_given term sort) (term ∷ []) 0 (start p terms h) r ((omega arith, s), tt) (low_one (p.counts.terms + 0) term (omega arith)))

-- and so the problem after it
pub ends_safe : (p : Problem) (terms : List ℕ) (v : Verdict) → records_refusal p ≡ 0 → Ends p terms v → Safe p (problem_after p v)
unfolding problem_after
ends_safe p terms (refused n h q) e w = safe_none p e
ends_safe p terms (added s) e w = w.safe
