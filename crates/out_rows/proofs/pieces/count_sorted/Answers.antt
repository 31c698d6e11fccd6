-- `count_sorted` meets its contract: a cell holds a sort where it is not 0.
use Rattle.std.proofs.Common.{◌≡◌, ◌+◌, ◌∙◌, ℕ, zero, suc, List, ◌∷◌, cond, not, ◌==◌, count_by, ne_eqb, refl, sym, arith, rules}
use Rattle.std.proofs.lemmas.List.Recursion.{is_count_by}
use Rattle.text_definition.specs.Rows.{sorted}
use Rattle.out_rows.proofs.pieces.count_sorted.Goals as goal

step : (cell : ℕ) (cells : List ℕ) → sorted (cell ∷ cells) ≡ cond (not (cell == 0)) (1 + sorted cells) (sorted cells)
unfolding sorted
step zero cells = refl
step (suc s) cells = let h : suc (sorted cells) ≡ 1 + sorted cells = omega arith in rw (ne_eqb (suc s) 0 (λ e. omega arith)) h

counted : (cells : List ℕ) → sorted cells ≡ count_by (λ cell. not (cell == 0)) cells
unfolding sorted
counted cells = is_count_by sorted _ refl step cells

pub returns : goal.returns
returns c = let h : c.count.result ≡ count_by (λ cell. not (cell == 0)) c.args.sort_list.now = search rules in h ∙ sym (counted c.args.sort_list.now)
