-- What the tests say of what is lent: the lists have the cells that the counts ask for. Nothing here has to be believed.
use Rattle.std.specs.Prelude.{◌*◌, ◌≤◌, ◌≡◌, Bool, true, ◌&&◌, leb, length}
use Rattle.std.proofs.Common.{leb-true}
use Rattle.definition.proofs.Laws.Lists.{and_true}
use Rattle.definition.specs.Problem.{Problem}
use Rattle.definition.specs.Refusal.{counts_fit, cells_fit}
use Rattle.definition.proofs.Laws.Refused.{both_at_most, none_of_two}
use Rattle.rule_signatures.specs.Tables.{signature_cells, term_cells}
use Rattle.rule_lent.specs.Call.{call_cells}
use Rattle.rule_lent.specs.Fit.{Lending, max_signatures, max_signature_sorts, max_globals, max_arguments, terms_counted, tables_counted, refusal_with}

pub record Sizes (d : Lending) : Type 0 where
  pub signatures : d.lent.signatures ≤ max_signatures
  pub sorts : d.lent.signature_sorts ≤ max_signature_sorts
  pub sorts_lent : d.lent.signature_sorts ≤ length d.signature_sorts
  pub globals : d.lent.globals ≤ max_globals
  pub globals_lent : d.lent.globals ≤ length d.globals
  pub arguments : d.lent.arguments ≤ max_arguments
  pub arguments_lent : d.lent.arguments ≤ length d.arguments
  pub terms_lent : d.problem.counts.terms * term_cells ≤ length d.terms

-- where neither 1 nor 2 is given, all four tests pass
pub record Passed (p : Problem) (t f : Bool) : Type 0 where
  pub counts : counts_fit p ≡ true
  pub counted : t ≡ true
  pub cells : cells_fit p ≡ true
  pub fits : f ≡ true

pub passed : (p : Problem) (t f : Bool) → refusal_with p t f ≡ 0 → Passed p t f
passed p t f h =
    let (one, two) = none_of_two (counts_fit p && t) (cells_fit p && f) h in
    let (counts, counted) = and_true (counts_fit p) t one in
    let (cells, fits) = and_true (cells_fit p) f two in
    record { counts = counts; counted = counted; cells = cells; fits = fits }

-- comparisons that pass together
pub sizes : (d : Lending) → tables_counted d ≡ true → Sizes d
unfolding tables_counted
sizes d h =
    let f : _ × (terms_counted d.problem.counts.terms d.terms ≡ true) = and_true _ _ h in
    let e : _ × (leb (d.lent.calls * call_cells) (length d.calls) ≡ true) = and_true _ _ f.0 in
    let a : _ × _ = and_true _ _ e.0 in
    let g : _ × _ = and_true _ _ a.0 in
    let s : _ × _ = and_true _ _ g.0 in
    let sig = both_at_most d.lent.signatures max_signatures (d.lent.signatures * signature_cells) (length d.signatures) s.0 in
    let srt = both_at_most d.lent.signature_sorts max_signature_sorts d.lent.signature_sorts (length d.signature_sorts) s.1 in
    let glo = both_at_most d.lent.globals max_globals d.lent.globals (length d.globals) g.1 in
    let arg = both_at_most d.lent.arguments max_arguments d.lent.arguments (length d.arguments) a.1 in
    record {
      signatures = sig.0;
      sorts = srt.0;
      sorts_lent = srt.1;
      globals = glo.0;
      globals_lent = glo.1;
      arguments = arg.0;
      arguments_lent = arg.1;
      terms_lent = leb-true (d.problem.counts.terms * term_cells) (length d.terms) f.1;
    }
