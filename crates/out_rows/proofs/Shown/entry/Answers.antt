-- An entry's cells say its row.
use Rattle.std.proofs.Common.{sym, arith}
use Rattle.out_rows.specs.Laws.{entry_mismatch, entry_none, entry_arity, entry_nothing}
use Rattle.out_rows.specs.Shown.{decls, exit}
use Rattle.out_rows.proofs.Shown.entry.Goals as goal

pub returns-in-30 : goal.returns-in-30
returns-in-30 c =
    let w = c.args.self in
    entry_mismatch (decls w) (exit w) c.args.i _ c.entry_cell.ensures _ _ _ _ c.entry_cell-place.ensures c.entry_cell-first.ensures c.entry_cell-second.ensures c.entry_cell-in-30.ensures c.in-30.is

pub returns-in-32 : goal.returns-in-32
returns-in-32 c = let w = c.args.self in entry_none (decls w) (exit w) c.args.i _ c.entry_cell.ensures _ c.entry_cell-first.ensures c.in-32.is

pub returns-in-33 : goal.returns-in-33
returns-in-33 c =
    let w = c.args.self in
    entry_arity (decls w) (exit w) c.args.i _ c.entry_cell.ensures _ _ _ _ c.entry_cell-place.ensures c.entry_cell-first.ensures c.entry_cell-second.ensures c.saturating_sub.ensures c.in-33.is

pub returns-in_default : goal.returns-in_default
returns-in_default c = let w = c.args.self in sym (entry_nothing (decls w) (exit w) c.args.i _ c.entry_cell.ensures (λ k. omega arith) (λ k. omega arith) (λ k. omega arith))
