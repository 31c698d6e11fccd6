-- `put_ok` meets its contract.
use Rattle.std.proofs.Common.{◌-◌, ◌∙◌, ℕ, ap, sym, arith}
use Rattle.text_grammar.specs.Bytes.{bytes}
use Rattle.out_rows.specs.Laws.{ok_first, ok_later, term_unsorted, term_sorted}
use Rattle.out_rows.specs.Row.{two_numbers, wrote_as, wrote_none}
use Rattle.out_rows.specs.Shown.{decls}
use Rattle.out_rows.proofs.Shown.put_ok.Goals as goal

pub returns-then-k-eq0 : goal.returns-then-k-eq0
returns-then-k-eq0 c =
    wrote_as (ap (λ (n : ℕ). two_numbers (bytes "ok ") n (bytes " passes ") c.args.self.ended.outcome.passes) c.count_sorted.ensures ∙ sym (ok_first _ _ _ c.if-k-eq0.true))
    c.put_two.ensures

pub returns-in-Some : goal.returns-in-Some
returns-in-Some c =
    let a = c.args in
    let some = c.in-Some.ensures in
    wrote_as (sym (ok_later (decls a.self) _ (a.k - 1) a.k (omega arith) ∙ term_sorted (decls a.self) (a.k - 1) _ c.in-Some.sort (omega (arith, some)))) c.put_sorted.ensures

pub returns-in_default : goal.returns-in_default
returns-in_default c = let a = c.args in wrote_none (ok_later (decls a.self) _ (a.k - 1) a.k (omega arith) ∙ term_unsorted _ (a.k - 1) _ (omega arith))
