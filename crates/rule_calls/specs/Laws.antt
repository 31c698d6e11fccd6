-- What follows for the entry points.
-- a run over a list
pub mod Run
-- a whole call
pub mod Call
use mir.Val.{bool_byte}
use Rattle.std.specs.Prelude.{eqb, ℕ, zero, suc, ◌+◌, ◌*◌, ◌≤◌, ◌≡◌, Ok, Err, true, false, List, [], ◌∷◌, length, get_or, set}
use Rattle.std.proofs.Common.{arith, ne_eqb}
use Rattle.std.proofs.Math.Nat.{add-zero}
use Rattle.std.proofs.Math.Path.{refl}
use Rattle.definition.specs.declared.Counts.{Counts}
use Rattle.definition.specs.declared.Refusal.{Refusal}
use Rattle.definition.specs.declared.Refusal.TheVariants.{NoRoom}
use Rattle.definition.specs.Numbers.{number_of}
use Rattle.definition.specs.Sizes.{record_cells, range_cells}
use Rattle.definition.specs.Lists.{from}
use Rattle.definition.specs.Problem.{Problem}
use Rattle.definition.specs.Refusal.{first_given}
use Rattle.definition.proofs.Laws.Refused.{Counted, counted, first_given_lem}
use Rattle.definition.proofs.Laws.Numbers.{positive}
use Rattle.rule_cells.specs.Put.{assign, puts, cells, lay}
use Rattle.rule_heads.specs.Layout.{records_of, side_of, tops_of}
use Rattle.rule_ranges.specs.Enter.{new_if, new, entries}
use Rattle.rule_lent.specs.Fit.{terms_counted, local_fits, local_tested}
use Rattle.rule_lent.specs.Laws.{passed}
use Rattle.rule_steps.specs.Given.{refused, added, counts_after, after, room_for}
use Rattle.rule_calls.specs.Exit.{lengths_of, marks_of, state_of, answer_of, problem_after, local_given, local_refusal, local_verdict}
use Rattle.rule_calls.specs.Left.{LocalLeft, told, headless}
use Rattle.rule_calls.specs.Laws.Run.{go_on, stop_headless}

-- one term enters or not
pub new_counted : (marks : List ℕ) (t v : ℕ) → v ≡ get_or marks t 0 → bool_byte (eqb v 0) ≡ length (new marks (t ∷ []))
unfolding new new_if
new_counted marks t v e = rw e (go (get_or marks t 0))
  where
    go : (v : ℕ) → bool_byte (eqb v 0) ≡ length (new_if t v (new (set marks t 1) []))
    go zero = refl
    go (suc v) = rw (ne_eqb (suc v) 0 (λ e. omega arith))

pub new_few : (marks : List ℕ) (t : ℕ) → length (new marks (t ∷ [])) ≤ 1
unfolding new new_if
new_few marks t = go (get_or marks t 0)
  where
    go : (v : ℕ) → length (new_if t v (new (set marks t 1) [])) ≤ 1
    go zero = omega arith
    go (suc v) = omega arith

module _ (p : Problem) (terms : List ℕ) (term sort place : ℕ) where
  pub local_counted : local_tested p terms term sort ≡ 0 → Counted p
  local_counted e = counted p (passed p (terms_counted p.counts.terms terms) (local_fits p.counts terms term sort) e).counts

  module _ (records tops range : List ℕ) where
    same : (n : ℕ) → local_verdict p terms term sort place ≡ refused n 0 0 → LocalLeft p (local_verdict p terms term sort place) p.records p.tops p.range (record { number = n; head = 0; place = 0; counts = p.counts })
    unfolding answer_of problem_after
    same n e = rw e (record { answer = refl; records' = refl; tops' = refl; range' = refl })

    pub local_early : (r : Refusal) → number_of r ≡ local_tested p terms term sort → LocalLeft p (local_verdict p terms term sort place) p.records p.tops p.range (told p.counts (Err (headless r)))
    unfolding local_refusal
    local_early r e =
        let h : number_of r ≡ 0 → ⊥ = λ z. omega (arith, positive r) in
        let k : local_refusal p terms term sort ≡ number_of r = rw (← e) (first_given_lem (number_of r) _ h) in
        same (number_of r) (rw k (stop_headless (number_of r) (added (after (state_of p) (record { place = place }) (local_given term sort) (term ∷ []) 0)) h))

    abbrev marks : List ℕ
    marks = marks_of p.range p.counts.range

    abbrev counts' : Counts
    counts' = counts_after p.counts marks (local_given term sort) (term ∷ []) 0

    -- the counts after it
    pub local_counts : (k : ℕ) → k ≡ length (new marks (term ∷ []))
        → counts' ≡ record { records = p.counts.records + 1; side = p.counts.side; tops = p.counts.tops + 1; range = p.counts.range + k; terms = p.counts.terms; sorts = p.counts.sorts }
    unfolding counts_after records_of side_of tops_of from
    local_counts k e = rw (e, add-zero p.counts.side, add-zero p.counts.terms)

    pub local_full : local_tested p terms term sort ≡ 0 → room_for (lengths_of p terms) counts' ≡ false → LocalLeft p (local_verdict p terms term sort place) p.records p.tops p.range (told p.counts (Err (headless NoRoom)))
    unfolding local_refusal first_given
    local_full e f =
        let k : local_refusal p terms term sort ≡ 10 = rw (e, f) in
        same 10 (rw k (stop_headless 10 (added (after (state_of p) (record { place = place }) (local_given term sort) (term ∷ []) 0)) (λ z. omega arith)))

    pub local_added : (c : Counts) → local_tested p terms term sort ≡ 0 → room_for (lengths_of p terms) counts' ≡ true → c ≡ counts'
        → records ≡ puts p.records (p.counts.records * record_cells) (cells (record { place = place }) (assign term sort))
        → tops ≡ set p.tops p.counts.tops p.counts.records
        → range ≡ puts p.range (p.counts.range * range_cells) (entries place (new marks (term ∷ [])))
        → LocalLeft p (local_verdict p terms term sort place) records tops range (told p.counts (Ok c))
    unfolding local_refusal first_given answer_of problem_after after records_of side_of tops_of lay from
    local_added c e f ec er et eg =
        let k : local_refusal p terms term sort ≡ 0 = rw (e, f) in
        let v : local_verdict p terms term sort place ≡ added (after (state_of p) (record { place = place }) (local_given term sort) (term ∷ []) 0) = rw k (go_on 0 0 0 (added (after (state_of p) (record { place = place }) (local_given term sort) (term ∷ []) 0)) refl) in
        rw v (record { answer = rw ec; records' = er; tops' = et; range' = eg })
