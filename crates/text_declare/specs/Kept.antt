-- That a line which declares keeps the numbers within their sizes.
use Rattle.std.specs.Prelude.{ℕ, ◌+◌, ◌*◌, ◌≤◌, ◌≡◌, refl, Bool, true, false, ◌&&◌, cond, List, eqb, ltb, leb, length}
use Rattle.std.proofs.Common.{arith, ap, ◌∙◌, ltb-true, leb-true}
use Rattle.std.proofs.lemmas.List.Edits.{sets}
use Rattle.std.proofs.Math.Seq.{length-sets}
use Rattle.definition.specs.Sizes.{max_sorts}
use Rattle.rule_lent.specs.Fit.{max_globals, max_signatures, max_signature_sorts}
use Rattle.text_words.specs.Names.{number_below}
use Rattle.text_words.specs.Parts.{part_at, part_cells}
use Rattle.text_grammar.specs.Grammar.{context_bound}
use Rattle.text_definition.specs.Store.{Store, Within}
use Rattle.text_declare.specs.declared.Step.{Step}
use Rattle.text_declare.specs.Steps.{small, taken, full, more_sorts, more_globals, in_context, name_cells, sort_fits, global_fits, sort_step, sort_names_after, global_names_after, globals_after, global_step, context_step}
use Rattle.text_declare.specs.Signatures.{is_signature, length_of, more_signatures, signature_step, head_names_after, signatures_after, signature_sorts_after}
use Rattle.text_declare.specs.After.{step_after, store_after, tables, Ready, sorts_now, after_sort, after_global}

module _ (form : ℕ) (step : Step) (w : Within step.numbers) where
  pub sort_within : Within (sort_step form step).numbers
  sort_within = by (eqb form 0) (sort_fits step) refl
    where
      by : (a b : Bool) → sort_fits step ≡ b → Within (cond a (cond b (taken (more_sorts step.numbers)) (full step.numbers)) step).numbers
      by true true e = record { sorts≤ = omega (arith, ltb-true step.numbers.sorts max_sorts e); globals≤ = w.globals≤; heads≤ = w.heads≤; terms≤ = w.terms≤; used≤ = w.used≤ }
      by true false e = w
      by false b e = w

  pub global_within : Within (global_step form step).numbers
  global_within = by (eqb form 5) (global_fits step) refl
    where
      by : (a b : Bool) → global_fits step ≡ b → Within (cond a (cond b (taken (more_globals step.numbers)) (full step.numbers)) step).numbers
      by true true e = record { sorts≤ = w.sorts≤; globals≤ = omega (arith, ltb-true step.numbers.globals max_globals e); heads≤ = w.heads≤; terms≤ = w.terms≤; used≤ = w.used≤ }
      by true false e = w
      by false b e = w

  pub context_within : (s words : List ℕ) → Within (context_step form step s words).numbers
  context_within s words = by (eqb form 6)
    where
      by : (a : Bool) → Within (cond a (taken (in_context step.numbers (number_below context_bound (part_at s words 1)))) step).numbers
      by true = record { sorts≤ = w.sorts≤; globals≤ = w.globals≤; heads≤ = w.heads≤; terms≤ = w.terms≤; used≤ = w.used≤ }
      by false = w

  module _ (s words : List ℕ) (count : ℕ) (sort_names : List ℕ) where
    pub signature_within : Within (signature_step form step s words count sort_names).numbers
    signature_within =
        by (is_signature form) (ltb step.numbers.heads max_signatures) (leb (step.numbers.used + length_of form step s words count sort_names) max_signature_sorts) refl refl
      where
        by : (a b c : Bool) → ltb step.numbers.heads max_signatures ≡ b → leb (step.numbers.used + length_of form step s words count sort_names) max_signature_sorts ≡ c
            → Within (cond a (cond (b && c) (taken (more_signatures step.numbers (length_of form step s words count sort_names))) (full step.numbers)) step).numbers
        by true true true h k = record {
          sorts≤ = w.sorts≤;
          globals≤ = w.globals≤;
          heads≤ = omega (arith, ltb-true step.numbers.heads max_signatures h);
          terms≤ = w.terms≤;
          used≤ = leb-true (step.numbers.used + length_of form step s words count sort_names) max_signature_sorts k;
        }
        by true true false h k = w
        by true false c h k = w
        by false b c h k = w

pub declared_within : (form : ℕ) (step : Step) (s words : List ℕ) (count : ℕ) (t : Store) → Within step.numbers → Within (step_after form step s words count t).numbers
declared_within form step s words count t w =
    context_within form (signature_step form (after_global form step s words count t) s words count (sorts_now form step s words count t))
    (signature_within form (after_global form step s words count t) (global_within form (after_sort form step s words count t) (sort_within form step w)) s words count (sorts_now form step s words count t)) s words

-- a list that is written, or not, is as long as it was
pub kept_length : (a b : Bool) (l : List ℕ) (i : ℕ) (vs : List ℕ) → length (cond a (cond b (sets l i vs) l) l) ≡ length l
kept_length true true l i vs = length-sets l i vs
kept_length true false l i vs = refl
kept_length false b l i vs = refl

pub sorts_length : (form : ℕ) (step : Step) (words sort_names : List ℕ) → length (sort_names_after form step words sort_names) ≡ length sort_names
sorts_length form step words sort_names = kept_length (eqb form 0) (sort_fits step) sort_names (step.numbers.sorts * part_cells) (name_cells words)

-- one function after another: what each of them leaves, and what all leave
module _ (form : ℕ) (step : Step) (s words : List ℕ) (count : ℕ) (t : Store) {a : Step} {sort_names : List ℕ}
    (sort-step : a ≡ sort_step form step) (sorts-left : sort_names ≡ sort_names_after form step words t.sort_names) where
  pub sort_ready : Ready step count t.sort_names t.global_names t.head_names t.signatures → (a.numbers.sorts ≤ small) × (a.numbers.sorts * part_cells ≤ length sort_names)
  sort_ready h =
      let w = sort_within form step h.within in
      let e : a.numbers.sorts ≡ (sort_step form step).numbers.sorts = ap (λ (x : Step). x.numbers.sorts) sort-step in
      let l : length sort_names ≡ max_sorts * part_cells = ap length sorts-left ∙ sorts_length form step words t.sort_names ∙ h.tabled.sort_names' in
      (omega (arith, w.sorts≤), omega (arith, w.sorts≤))

  module _ {b : Step} (global-step : b ≡ global_step form a) where
    pub global_ready : Ready step count t.sort_names t.global_names t.head_names t.signatures
        → ((b.numbers.sorts ≤ small) × (b.numbers.sorts * part_cells ≤ length sort_names)) × ((b.numbers.used ≤ small) × (count ≤ small) × (length t.head_names ≡ max_signatures * part_cells))
    global_ready h =
        let w = global_within form (sort_step form step) (sort_within form step h.within) in
        let e : b ≡ global_step form (sort_step form step) = global-step ∙ ap (global_step form) sort-step in
        let n : b.numbers.sorts ≡ (global_step form (sort_step form step)).numbers.sorts = ap (λ (x : Step). x.numbers.sorts) e in
        let u : b.numbers.used ≡ (global_step form (sort_step form step)).numbers.used = ap (λ (x : Step). x.numbers.used) e in
        let l : length sort_names ≡ max_sorts * part_cells = ap length sorts-left ∙ sorts_length form step words t.sort_names ∙ h.tabled.sort_names' in
        ((omega (arith, w.sorts≤), omega (arith, w.sorts≤)), (omega (arith, w.used≤), h.count≤, h.tabled.head_names'))

    pub all_steps : {c r : Step} → c ≡ signature_step form b s words count sort_names → r ≡ context_step form c s words → r ≡ step_after form step s words count t
    all_steps signature-step context_step_lem = rw (context_step_lem, signature-step, global-step, sort-step, sorts-left)

    pub all_left : {global_names head_names signatures signature_sorts globals : List ℕ} → global_names ≡ global_names_after form a words t.global_names → globals ≡ globals_after form a s words sort_names t.globals
        → head_names ≡ head_names_after form b s words count sort_names t.head_names → signatures ≡ signatures_after form b s words count sort_names t.head_names t.signatures
        → signature_sorts ≡ signature_sorts_after form b s words count sort_names t.signature_sorts
        → tables sort_names global_names head_names signatures signature_sorts globals
        ≡ store_after form step s words count (tables t.sort_names t.global_names t.head_names t.signatures t.signature_sorts t.globals)
    all_left p q u v w = rw (p, q, u, v, w, global-step, sort-step, sorts-left)
