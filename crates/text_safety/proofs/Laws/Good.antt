-- What holds of all that the lines so far have declared and said.
use Rattle.std.specs.Prelude.{ℕ, ◌*◌, ◌≤◌, ◌<◌, ◌≡◌, refl, Bool, true, false, length, replicate}
use Rattle.std.proofs.Common.{arith}
use mathlib.Core.List.Memᴰ
use Rattle.std.proofs.lemmas.List.{length-replicate}
use Rattle.definition.specs.Sizes.{max_terms, max_sorts, max_depth}
use Rattle.definition.specs.Problem.{Problem}
use Rattle.definition.specs.Refusal.{records_refusal}
use Rattle.definition.proofs.Laws.Refused.{not_refused}
use Rattle.rule_signatures.specs.Tables.{signature_cells, term_cells}
use Rattle.rule_lent.specs.Fit.{max_signatures, max_signature_sorts, max_globals, contexts}
use Rattle.rule_safety.proofs.Laws.Blocks.{nothing}
use Rattle.rule_safety.proofs.Laws.Grown.{block_accepted}
use Rattle.text_definition.specs.Decls.{Decls, start}
use Rattle.text_definition.specs.Declare.{Next, refused, next, unless_full}
use Rattle.text_safety.specs.Told.{Told}
use Rattle.text_safety.proofs.Laws.Tables.{Globals, Heads, Terms, no_globals, no_heads, no_terms}

-- solve takes the problem, and there are names for its terms and sorts
pub record Posed (p : Problem) (terms sorts : ℕ) : Type 0 where
  pub taken : records_refusal p ≡ 0
  pub few_terms : p.counts.terms ≤ terms
  pub few_sorts : p.counts.sorts ≤ sorts

pub record Good (d : Decls) : Type 0 where
  pub sorts : length d.sort_names ≤ max_sorts
  pub globals : Globals (length d.sort_names) d.global_names d.globals
  pub heads : Heads (length d.sort_names) d.head_names d.signatures d.used d.signature_sorts
  pub terms : Terms (length d.sort_names) (length d.global_names) d.term_names d.terms
  pub context : d.context < contexts
  pub problem : Posed d.problem (length d.term_names) (length d.sort_names)

-- after a line: a number that may be shown, or all still holds
abbrev pub After : Next → Type 0
After (refused n) = Told n
After (next d) = Good d

-- the numbers
pub told_7 : Told 7
told_7 = Memᴰ.head refl

pub told_8 : Told 8
told_8 = Memᴰ.tail (Memᴰ.head refl)

pub told_10 : Told 10
told_10 = Memᴰ.tail (Memᴰ.tail (Memᴰ.head refl))

pub told_20 : Told 20
told_20 = Memᴰ.tail (Memᴰ.tail (Memᴰ.tail (Memᴰ.head refl)))

pub told_21 : Told 21
told_21 = Memᴰ.tail (Memᴰ.tail (Memᴰ.tail (Memᴰ.tail (Memᴰ.head refl))))

pub told_50 : Told 50
told_50 = Memᴰ.tail (Memᴰ.tail (Memᴰ.tail (Memᴰ.tail (Memᴰ.tail (Memᴰ.head refl)))))

pub told_51 : Told 51
told_51 = Memᴰ.tail (Memᴰ.tail (Memᴰ.tail (Memᴰ.tail (Memᴰ.tail (Memᴰ.tail (Memᴰ.head refl))))))

pub unless_full_lem : (b : Bool) (d : Decls) → (b ≡ true → Good d) → After (unless_full b d)
unless_full_lem true d f = f refl
unless_full_lem false d f = told_10

-- nothing is declared
none_taken : records_refusal start.problem ≡ 0
unfolding start
none_taken = not_refused start.problem (block_accepted start.problem (record {
  records = omega arith;
  records_lent = omega arith;
  side = omega arith;
  side_lent = omega arith;
  tops = omega arith;
  tops_lent = omega arith;
  range = omega arith;
  range_lent = omega arith;
  terms = omega arith;
  sorts = omega arith;
}) (nothing start.problem 0 max_depth) (λ i h. absurd (omega arith)))

pub good_start : Good start
unfolding start
good_start = record {
  sorts = omega arith;
  globals = no_globals 0 (replicate max_globals 0) (length-replicate {A = ℕ} max_globals 0);
  heads = no_heads 0 (replicate (max_signatures * signature_cells) 0) (replicate max_signature_sorts 0) (length-replicate {A = ℕ} (max_signatures * signature_cells) 0) (length-replicate {A = ℕ} max_signature_sorts 0);
  terms = no_terms 0 0 (replicate (max_terms * term_cells) 0) (length-replicate {A = ℕ} (max_terms * term_cells) 0);
  context = omega arith;
  problem = record { taken = none_taken; few_terms = omega arith; few_sorts = omega arith };
}
