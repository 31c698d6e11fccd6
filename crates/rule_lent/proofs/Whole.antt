-- The tests of everything lent, over what each function reads of it.
use Rattle.std.specs.Prelude.{ℕ, zero, suc, ◌≡◌, refl, ◌&&◌, List, leb, ltb, take}
use Rattle.definition.specs.declared.Problem.{Problem as Lent}
use Rattle.definition.specs.Lists.{all, from}
use Rattle.definition.proofs.Laws.Lists.{all_same}
use Rattle.solve_records.specs.Lent.{seen}
use Rattle.rule_lent.specs.declared.Tables.{Tables}
use Rattle.rule_lent.specs.declared.calls.Listed.{Listed}
use Rattle.rule_lent.specs.declared.calls.Listed.TheVariants.{Atoms}
use Rattle.rule_lent.specs.Call.{Source}
use Rattle.rule_lent.specs.Fit.{Lending, source_of, contexts, signature_fits, terms_fit, atom_fits, action_fits, call_fits, tables_counted, tables_fit, refusal_with, lent_refusal}
use Rattle.rule_lent.specs.Lend.{lends, counted, asked}

-- no test of an atom or an action reads an argument
atom_asked : (c : Source) (m i k : ℕ) → atom_fits c m i k ≡ atom_fits (asked c.query c.calls) m i k
unfolding atom_fits
atom_asked c m i zero = refl
atom_asked c m i (suc zero) = refl
atom_asked c m i (suc (suc k)) = refl

action_asked : (terms : List ℕ) (n : ℕ) (c : Source) (m i k : ℕ) →
    action_fits terms n c m i k ≡ action_fits terms n (asked c.query c.calls) m i k
unfolding action_fits
action_asked terms n c m i zero = refl
action_asked terms n c m i (suc zero) = refl
action_asked terms n c m i (suc (suc zero)) = refl
action_asked terms n c m i (suc (suc (suc zero))) = refl
action_asked terms n c m i (suc (suc (suc (suc zero)))) = refl
action_asked terms n c m i (suc (suc (suc (suc (suc zero))))) = refl
action_asked terms n c m i (suc (suc (suc (suc (suc (suc k)))))) = refl

call_asked : (terms : List ℕ) (n : ℕ) (c : Source) (m i : ℕ) → call_fits terms n c m i ≡ call_fits terms n (asked c.query c.calls) m i
unfolding call_fits
call_asked terms n c m i = rw (atom_asked c m i, action_asked terms n c m i)

pub tables_asked : (d : Lending) → tables_fit d ≡
    (ltb d.lent.context contexts
    && all (signature_fits d.signatures d.lent.signature_sorts d.problem.counts.sorts) (from 0 d.lent.signatures)
    && all (λ s. ltb s d.problem.counts.sorts) (take d.lent.signature_sorts d.signature_sorts)
    && all (λ g. leb g d.problem.counts.sorts) (take d.lent.globals d.globals)
    && terms_fit d.terms d.problem.counts.terms d.problem.counts.sorts
    && all (λ a. ltb a d.problem.counts.terms) (take d.lent.arguments d.arguments)
    && all (call_fits d.terms d.problem.counts.terms (asked d.query d.calls) d.lent.arguments) (from 0 d.lent.calls))
unfolding tables_fit
tables_asked d =
    rw (all_same (call_fits d.terms d.problem.counts.terms (source_of d) d.lent.arguments) (call_fits d.terms d.problem.counts.terms (asked d.query d.calls) d.lent.arguments) (from 0 d.lent.calls) (λ i m. call_asked d.terms d.problem.counts.terms (source_of d) d.lent.arguments i))

-- the refusal, where the tests of the tables read the counts of the problem alone
pub refusal_apart : (listed : Listed) (t : Tables) (terms : List ℕ) (p : Lent) → lent_refusal (lends listed t terms (seen p)) ≡
    refusal_with (seen p) (tables_counted (lends Atoms t terms (counted p.counts))) (tables_fit (lends listed t terms (counted p.counts)))
unfolding lent_refusal tables_counted tables_fit
refusal_apart listed t terms p = refl
