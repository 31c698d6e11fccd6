-- What one line's functions ask of one another, and what they leave together.
use Rattle.std.specs.Prelude.{ℕ, suc, ◌-◌, ◌*◌, ◌<◌, ◌≤◌, ◌≡◌, true, cond, List, [], ◌∷◌, map, eqb, length, Result}
use Rattle.std.proofs.Common.{ap, sym, ◌∙◌}
use Rattle.rule_signatures.specs.Tables.{signature_cells}
use Rattle.text_words.specs.Parts.{between, part_at, parts_from, parts_of, part_cells, find}
use Rattle.text_grammar.specs.declared.Form.{Form}
use Rattle.text_grammar.specs.Bytes.{Word}
use Rattle.text_definition.specs.declared.Numbers.{Numbers}
use Rattle.text_definition.specs.Declare.{next}
use Rattle.text_definition.specs.Run.{line}
use Rattle.text_definition.specs.Store.{Store, store, Sized, Within, word_cells, decls_of}
use Rattle.text_declare.specs.declared.Step.{Step}
use Rattle.text_declare.specs.Forms.{order_of}
use Rattle.text_declare.specs.Steps.{name_cells, sort_fits, global_fits}
use Rattle.text_declare.specs.Signatures.{is_signature, signature_fits, sort_number, cells_of, says_of, length_of, head_of}
use Rattle.text_declare.specs.After.{tables, store_after, after_sort, after_global, sorts_now}
use Rattle.text_declare.specs.Kept.{kept_length, declared_within}
use Rattle.text_opening.specs.Opening.{Verdict, verdict_at, begun, Openable, Opens}
use Rattle.text_opening.specs.Laws.{part_length, words_are, count_fits}
use Rattle.definition.specs.declared.Refusal.{Refusal}
use Rattle.text_calls.specs.Shape.{say_of, words_fit}
use Rattle.text_calls.specs.Line.{word_numbers, Speaks, Ends}
use Rattle.text_lines.specs.Line.{joined, left_from, line_next, Readable, Taken}
use Rattle.text_lines.specs.Laws.Line.{context_then, words_then, whole_line, joined_sizes}

-- of all lists, where the line was opened over those that it declares in
pub opens_store : {s : List ℕ} {start end : ℕ} {n : Numbers} {words : List ℕ} {f : Form} {count : ℕ} {d : Step} {words' : List ℕ} {a b c e g h a₀ b₀ c₀ e₀ g₀ h₀ : List ℕ}
    → Opens s start end n words (tables a₀ b₀ c₀ e₀ g₀ h₀) f count d words' (tables a b c e g h) → (term_names terms records side tops range : List ℕ)
    → Opens s start end n words (store a₀ b₀ c₀ term_names e₀ g₀ h₀ terms records side tops range) f count d words' (store a b c term_names e g h terms records side tops range)
opens_store o term_names terms records side tops range = record {
  counted = o.counted;
  spelt = o.spelt;
  formed = o.formed;
  stepped = o.stepped;
  stored = λ i. let x = o.stored i in store x.sort_names x.global_names x.head_names term_names x.signatures x.signature_sorts x.globals terms records side tops range;
}

module _ (form : ℕ) (step : Step) (s words : List ℕ) (count : ℕ) (t : Store) (h : Sized t) where
  abbrev a : Step
  a = after_sort form step s words count t

  abbrev g : Step
  g = after_global form step s words count t

  abbrev now : List ℕ
  now = sorts_now form step s words count t

  pub declared_sized : Sized (store_after form step s words count t)
  declared_sized = record {
    tabled = record {
      sort_names' = kept_length (eqb form 0) (sort_fits step) t.sort_names (step.numbers.sorts * part_cells) (name_cells words) ∙ h.tabled.sort_names';
      global_names' = kept_length (eqb form 5) (global_fits a) t.global_names (a.numbers.globals * part_cells) (name_cells words) ∙ h.tabled.global_names';
      head_names' = kept_length (is_signature form) (signature_fits form g s words count now) t.head_names (g.numbers.heads * part_cells) (name_cells words) ∙ h.tabled.head_names';
      signatures' = kept_length (is_signature form) (signature_fits form g s words count now) t.signatures (g.numbers.heads * signature_cells)
          (cells_of (says_of form g s words count now) (head_of form g s words count now t.head_names) g.numbers.used (length_of form g s words count now)) ∙ h.tabled.signatures';
    };
    term_names' = h.term_names';
    signature_sorts' = kept_length (is_signature form) (signature_fits form g s words count now) t.signature_sorts g.numbers.used
        (map (sort_number s now g.numbers.sorts) (parts_from s words (says_of form g s words count now).first (length_of form g s words count now))) ∙ h.signature_sorts';
    globals' = kept_length (eqb form 5) (global_fits a) t.globals a.numbers.globals (suc (find (part_at s words 2) (parts_of s now a.numbers.sorts)) ∷ []) ∙ h.globals';
    terms' = h.terms';
    records' = h.records';
    side' = h.side';
    tops' = h.tops';
    range' = h.range';
  }

module _ {s words : List ℕ} {start end : ℕ} {n : Numbers} {t : Store} (h : Readable s start end n) (sized : Sized t) (long : length words ≡ word_cells) where
  pub openable : Openable s start end n words t.sort_names t.global_names t.head_names t.signatures
  openable = record {
    ordered = h.ordered;
    inside = h.inside;
    short = h.short;
    words' = long;
    tabled = sized.tabled;
    within = h.within;
  }

  -- the line is opened
  module _ {f : Form} {count : ℕ} {d : Step} {words' : List ℕ} {t₁ : Store} (o : Opens s start end n words t f count d words' t₁) where
    abbrev v : Verdict
    v = verdict_at s (end - start) n t words' count

    within_then : Within d.numbers
    within_then = rw o.stepped (declared_within (order_of v.form) (begun v n) s words' count t h.within)

    context_now : d.numbers.context < 8
    context_now = rw o.stepped (context_then s words' count n t (end - start) h.context<)

    pub speaks : {numbers : List ℕ} → word_numbers ≤ length numbers → (words_fit f count ≡ true) × Speaks words' numbers count d.numbers t₁
    speaks scratch = (
      rw o.formed (words_then s words' count n t (end - start)),
      record {
        words≤ = count_fits openable o.counted o.spelt;
        scratch = scratch;
        sized = rw o.stored (declared_sized (order_of v.form) (begun v n) s words' count t sized);
        within = within_then;
        context< = context_now;
      },
    )

    -- what was said then
    module _ (place : ℕ) (a : Result Numbers Refusal) (t₂ : Store) (said : Ends s d.numbers (say_of f (decls_of s d.numbers t₁) (parts_of s words' count) place) a t₂) where
      bytes_are : cond (eqb (end - start) 0) (next (decls_of s n t)) (line (decls_of s n t) (parts_of s words' count) place) ≡ line_next (decls_of s n t) (between s start end) place
      bytes_are =
          ap (λ (k : ℕ). cond (eqb k 0) (next (decls_of s n t)) (line (decls_of s n t) (parts_of s words' count) place)) (sym (part_length openable))
          ∙ ap (λ (l : List Word). cond (eqb (length (between s start end)) 0) (next (decls_of s n t)) (line (decls_of s n t) l place)) (words_are openable o.counted o.spelt)

      pub line_taken : {r : Result Numbers ℕ} → r ≡ joined d a → Taken s (line_next (decls_of s n t) (between s start end) place) r t₂
      line_taken e = rw e (record {
        taken' = ap (λ (x : Step). left_from s (joined x a) t₂) o.stepped
            ∙ whole_line s words' count n t sized place a t₂ (end - start) (rw (o.stepped, o.stored, o.formed) at said) ∙ bytes_are;
        sizes = joined_sizes s d.numbers t₂ d (say_of f (decls_of s d.numbers t₁) (parts_of s words' count) place) a said context_now;
      })
