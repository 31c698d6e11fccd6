-- `put_row` meets its contract: the line is too short for any row, has room for a refusal, is too short for three names, has room.
use Rattle.std.proofs.Common.{◌≡◌, ◌+◌, ◌≤◌, ℕ, List, ap, length, refl, arith, rules}
use Rattle.out_rows.specs.declared.Shown.{Shown}
use Rattle.out_rows.specs.Shown.{shown}
use Rattle.out_rows.specs.Room.{fitted}
use Rattle.out_rows.specs.Fits.{row_fits}
use Rattle.out_rows.specs.Row.{wrote_as, wrote_front}
use Rattle.out_rows.specs.Laws.{fitted_short, fitted_refused, fitted_narrow, fitted_solved, put_none}
use Rattle.out_rows.proofs.Shown.put_row.Goals as goal

-- a row at the front of the line is within it
fits : (w : Shown) (line : List ℕ) (k : ℕ) {row : List ℕ} {end : ℕ} → end ≡ 0 + length row → row ≡ fitted w.text.now (length line) (shown w) k → end ≤ length line
fits w line k ends is =
    omega (arith, ends, ap length is, row_fits w.text.now w.sort_names.now w.head_names.now w.term_names.now w.sort_list.now w.errors.now w.ended (length line) k)

pub returns-then-line-lt-BESIDES-clause-put : goal.returns-then-line-lt-BESIDES-clause-put
returns-then-line-lt-BESIDES-clause-put c = put_none (fitted_short _ _ _ c.args.self.ended _ _ c.if-line-lt-BESIDES.true)

pub returns-then-names-self-clause-put : goal.returns-then-names-self-clause-put
returns-then-names-self-clause-put c = put_none (fitted_narrow _ _ _ c.args.self.ended _ _ c.if-self-ne0.false (omega arith))

pub returns-then-self-ne0-clause-put : goal.returns-then-self-ne0-clause-put
returns-then-self-ne0-clause-put c =
    wrote_front _ _ (wrote_as (fitted_refused _ _ _ c.args.self.ended _ _ c.if-self-ne0.true c.if-line-lt-BESIDES.false) c.put_refused.ensures) refl refl (search rules)

pub returns-then-self-ne0-clause-upper_bound : goal.returns-then-self-ne0-clause-upper_bound
returns-then-self-ne0-clause-upper_bound c = fits c.args.self c.args.line.now c.args.k c.put_refused.ensures.put.ends (fitted_refused _ _ _ c.args.self.ended _ _ c.if-self-ne0.true c.if-line-lt-BESIDES.false)

pub returns-clause-put : goal.returns-clause-put
returns-clause-put c =
    wrote_front _ _ (wrote_as (fitted_solved _ _ _ c.args.self.ended _ _ c.if-self-ne0.false (omega arith)) c.put_solved.ensures) refl refl (search rules)

pub returns-clause-upper_bound : goal.returns-clause-upper_bound
returns-clause-upper_bound c = fits c.args.self c.args.line.now c.args.k c.put_solved.ensures.put.ends (fitted_solved _ _ _ c.args.self.ended _ _ c.if-self-ne0.false (omega arith))
