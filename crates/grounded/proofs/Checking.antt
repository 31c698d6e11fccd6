-- What the check is made of gives what the definition says: refused, or solved and named.
use Prim.Native.Nat.{ℕ, zero, suc, ◌+◌, ◌*◌, ◌-◌, ◌≤◌, ◌<◌}
use mathlib.Core.Path.{◌≡◌, sym, ap, ◌∙◌}
use mathlib.Core.List.{List, [], ◌++◌}
use native.Mathlib.Omega.{arith}
use lib.ListN.{length, take, drop, replicate, length-append, length-replicate}
use lib.Seq.{length-take-le, take_all, drop-append-add, drop-drop, length_front}
use Rattle.definition.specs.declared.Outcome.{Outcome}
use Rattle.definition.specs.Solve.{solve}
use Rattle.definition.specs.Buffers.{Exit, exit, exit_on, filled, entries_cells, entries_of}
use Rattle.rule_cells.specs.Put.{puts}
use Rattle.rule_cells.specs.Laws.{puts_is, puts_front}
use Rattle.solver.specs.Entry.{Solved, refused_by}
use Rattle.definition.specs.declared.Refusal.{Refusal}
use Rattle.definition.specs.Numbers.{number_of}
use Rattle.definition.proofs.Laws.Numbers.{positive}
use Rattle.grounded_body.specs.Body.{Body}
use Rattle.grounded_body.specs.Layout.{records_in, constraints, grounded_problem}
use Rattle.grounded_body.specs.Check.{named, grounded_refusal, checked_on, grounded_exit}
use Rattle.grounded_body.specs.Parts.{Accepted}
use Rattle.grounded_body.proofs.Laws.Whole.{Fine, fine, records_most, nothing_refused, errors_lent}
use Rattle.grounded.specs.Entry.{Checked}

-- zeroes in front are put there
pub front_cleared : (l m : List ℕ) (n : ℕ) → n ≤ length l → m ≡ replicate (length (take n l)) 0 → m ++ drop n l ≡ puts l 0 (replicate n 0)
front_cleared l m n h e =
    let z : length (replicate {A = ℕ} n 0) ≡ n = length-replicate {A = ℕ} n 0 in
    rw (e, length-take-le n l h) (sym (puts_front l (replicate n 0) (omega (arith, z)) ∙ ap (λ (j : ℕ). replicate n 0 ++ drop j l) z))

-- behind what is filled a list is as it was
module _ (k : ℕ) (cells old : List ℕ) where
  abbrev front : List ℕ
  front = take k (cells ++ replicate k 0)

  front_length : length front ≡ k
  front_length = length-take-le k (cells ++ replicate k 0) (omega (arith, length-append cells (replicate k 0), length-replicate {A = ℕ} k 0))

  drop_filled : (n : ℕ) → k ≤ n → drop n (filled k cells old) ≡ drop n old
  drop_filled n h =
      let e : n ≡ length front + (n - k) = omega (arith, front_length) in
      let f : k + (n - k) ≡ n = omega arith in
      ap (λ (j : ℕ). drop j (front ++ drop k old)) e ∙ drop-append-add front (drop k old) (n - k) ∙ drop-drop (n - k) k old ∙ ap (λ (j : ℕ). drop j old) f

  filled_length : k ≤ length old → length (filled k cells old) ≡ length old
  filled_length h = length_front old front k (front_length ∙ sym (length-take-le k old h))

  -- and filled with zeroes farther it forgets what it was filled with
  cleared : (n : ℕ) (l : List ℕ) → l ≡ filled k cells old → k ≤ n → n ≤ length old → puts l 0 (replicate n 0) ≡ filled n [] old
  cleared n l e h m =
      let z : length (replicate {A = ℕ} n 0) ≡ n = length-replicate {A = ℕ} n 0 in
      let w : 0 + length (replicate {A = ℕ} n 0) ≡ n = omega (arith, z) in
      ap (λ (x : List ℕ). puts x 0 (replicate n 0)) e
      ∙ puts_is (filled k cells old) 0 (replicate n 0) (omega (arith, z, filled_length (omega arith)))
      ∙ ap (λ (j : ℕ). replicate n 0 ++ drop j (filled k cells old)) w
      ∙ ap (λ (r : List ℕ). replicate n 0 ++ r) (drop_filled n h)
      ∙ ap (λ (r : List ℕ). r ++ drop n old) (sym (take_all n (replicate n 0) (omega (arith, z))))

module _ (b : Body) (work sort_list errors : List ℕ) where
  abbrev left : Exit
  left = exit (grounded_problem b) work sort_list errors

  abbrev number : ℕ
  number = grounded_refusal b (length work) (length sort_list) (length errors)

  -- a refusal changes nothing
  pub refused : (r : Refusal) → number_of r ≡ number → Checked b work sort_list errors (refused_by (number_of r)) work sort_list errors
  unfolding grounded_exit checked_on
  refused r e = go (number_of r) (positive r) (ap (checked_on left work sort_list errors) e)
    where
      go : (k : ℕ) → 0 < k → checked_on left work sort_list errors k ≡ grounded_exit b work sort_list errors → Checked b work sort_list errors (refused_by k) work sort_list errors
      go zero h x = absurd (omega arith)
      go (suc k) h x = record {
        outcome = ap (λ (y : Exit). y.outcome) x;
        work_at_exit = ap (λ (y : Exit). y.work) x;
        sort_list_at_exit = ap (λ (y : Exit). y.sort_list) x;
        errors_at_exit = ap (λ (y : Exit). y.errors) x;
      }

  module _ (z : 0 ≡ number) where
    past : Fine b work sort_list errors
    past = fine b work sort_list errors (sym z)

    pub accepted : Accepted b
    accepted = past.accepted

    abbrev entries : List ℕ
    entries = entries_cells (entries_of (solve (grounded_problem b)))

    errors_left : left.errors ≡ filled (records_in (constraints b) * 8) entries errors
    unfolding exit exit_on grounded_problem
    errors_left = rw (nothing_refused b work sort_list errors past)

    -- solving keeps the list's length, which is enough for 512 entries
    pub errors_long : (errors₁ : List ℕ) → errors₁ ≡ left.errors → 4096 ≤ length errors₁
    errors_long errors₁ f =
        let few : records_in (constraints b) * 8 ≤ 4096 = omega (arith, records_most b accepted) in
        let long : 4096 ≤ length errors = errors_lent b work sort_list errors past in
        omega (arith, ap length (f ∙ errors_left), filled_length (records_in (constraints b) * 8) entries errors (omega arith))

    errors_cleared : (errors₁ : List ℕ) → errors₁ ≡ left.errors → puts errors₁ 0 (replicate 4096 0) ≡ filled 4096 [] errors
    errors_cleared errors₁ f =
        let few : records_in (constraints b) * 8 ≤ 4096 = omega (arith, records_most b accepted) in
        cleared (records_in (constraints b) * 8) entries errors 4096 errors₁ (f ∙ errors_left) few (errors_lent b work sort_list errors past)

    pub checked : (o r : Outcome) (work' sort_list' errors₁ errors' : List ℕ) → Solved (grounded_problem b) work sort_list errors o work' sort_list' errors₁ →
        errors' ≡ puts errors₁ 0 (replicate 4096 0) → r ≡ named o → Checked b work sort_list errors r work' sort_list' errors'
    unfolding grounded_exit checked_on
    checked o r work' sort_list' errors₁ errors' s f g =
        let x : checked_on left work sort_list errors 0 ≡ grounded_exit b work sort_list errors = ap (checked_on left work sort_list errors) z in
        record {
          outcome = g ∙ ap named s.outcome ∙ ap (λ (y : Exit). y.outcome) x;
          work_at_exit = s.work_at_exit ∙ ap (λ (y : Exit). y.work) x;
          sort_list_at_exit = s.sort_list_at_exit ∙ ap (λ (y : Exit). y.sort_list) x;
          errors_at_exit = f ∙ errors_cleared errors₁ s.errors_at_exit ∙ ap (λ (y : Exit). y.errors) x;
        }
