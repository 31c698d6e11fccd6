-- What the functions that open a line ask of one another, and what they leave together.
use Rattle.std.specs.Prelude.{ℕ, ◌+◌, ◌-◌, ◌*◌, ◌≤◌, ◌≡◌, List, length, drop}
use Rattle.std.proofs.Common.{arith, ap, sym, ◌∙◌, length-take, length-drop}
use Rattle.std.proofs.lemmas.List.Edits.{sets}
use Rattle.std.proofs.Math.Seq.{length-sets}
use Rattle.definition.proofs.Laws.Once.{one}
use Rattle.rule_signatures.specs.Tables.{signature_cells}
use Rattle.text_words.specs.Bytes.{space}
use Rattle.text_words.specs.Parts.{split, cuts, between, parts_of, part_cells}
use Rattle.text_words.specs.Laws.Cut.{split_most, cuts_spell}
use Rattle.text_grammar.specs.declared.Form.{Form}
use Rattle.text_definition.specs.declared.Numbers.{Numbers}
use Rattle.text_definition.specs.Run.{max_bytes}
use Rattle.text_definition.specs.Store.{Store}
use Rattle.text_declare.specs.declared.Step.{Step}
use Rattle.text_declare.specs.Forms.{order_of}
use Rattle.text_declare.specs.After.{Ready, step_after, store_after}
use Rattle.text_opening.specs.Opening.{Verdict, verdict_at, begun, Openable, Opens}

module _ {s : List ℕ} {start end : ℕ} {n : Numbers} {words sort_names global_names head_names signatures : List ℕ} (h : Openable s start end n words sort_names global_names head_names signatures) where
  pub part_length : length (between s start end) ≡ end - start
  part_length = length-take (end - start) (drop start s) ∙ omega (arith, length-drop start s, h.ordered, h.inside)

  line_room : (length (between s start end) * part_cells + part_cells ≤ length words) × (start + length (between s start end) ≤ max_bytes)
  line_room = (omega (arith, part_length, h.inside, h.short, h.words'), omega (arith, part_length, h.ordered, h.inside, h.short))

  pub split_ready : {part : List ℕ} → part ≡ between s start end → (length part * part_cells + part_cells ≤ length words) × (start + length part ≤ max_bytes)
  split_ready e = rw e line_room

  -- its words are cut: `words'` has their places, `count` says how many there are
  module _ {count : ℕ} {words' : List ℕ} (counted : count ≡ length (split space (between s start end))) (spelt : words' ≡ sets words 0 (cuts space start (between s start end))) where
    pub words_are : parts_of s words' count ≡ split space (between s start end)
    words_are =
        ap (λ (w : List ℕ). parts_of s w count) spelt
        ∙ ap (parts_of s (sets words 0 (cuts space start (between s start end)))) counted
        ∙ cuts_spell space s words start end h.ordered h.inside line_room.0

    words_length : length words' ≡ length words
    words_length = ap length spelt ∙ length-sets words 0 (cuts space start (between s start end))

    pub count_fits : count * part_cells ≤ length words'
    count_fits = omega (arith, counted, split_most space (between s start end), words_length, line_room.0)

    pub judge_ready : (count * part_cells ≤ length words') × ((n.sorts * part_cells ≤ length sort_names) × ((n.globals * part_cells ≤ length global_names) × ((n.heads * part_cells ≤ length head_names) × (n.heads * signature_cells ≤ length signatures))))
    judge_ready =
        let w = h.within in
        let t = h.tabled in
        (count_fits, (omega (arith, w.sorts≤, t.sort_names'), (omega (arith, w.globals≤, t.global_names'), (omega (arith, w.heads≤, t.head_names'), omega (arith, w.heads≤, t.signatures')))))

    pub declare_ready : (v : Verdict) → Ready (begun v n) count sort_names global_names head_names signatures
    declare_ready v = record {
      within = h.within;
      count≤ = omega (arith, counted, split_most space (between s start end), line_room.1);
      tabled = h.tabled;
    }

module _ {s : List ℕ} {start end : ℕ} {n : Numbers} {words : List ℕ} {t : Store} where
  -- from the verdict and the form's order as the code has them
  pub opened_so : {count : ℕ} {words' : List ℕ} → count ≡ length (split space (between s start end)) → words' ≡ sets words 0 (cuts space start (between s start end))
      → {v : Verdict} {k : ℕ} {d : Step} {t' : Store} → v ≡ verdict_at s (end - start) n t words' count → k ≡ order_of v.form
      → d ≡ step_after k (begun v n) s words' count t → t' ≡ store_after k (begun v n) s words' count t → Opens s start end n words t v.form count d words' t'
  opened_so c w j o p q = record { counted = c; spelt = w; formed = ap (λ (x : Verdict). x.form) j; stepped = p ∙ rw (o, j); stored = q ∙ rw (o, j) }

  -- no second way
  pub opens_once : {f f' : Form} {count count' : ℕ} {d d' : Step} {words₁ words₂ : List ℕ} {t₁ t₂ : Store} → Opens s start end n words t f count d words₁ t₁
      → Opens s start end n words t f' count' d' words₂ t₂ → (f ≡ f') × ((count ≡ count') × ((d ≡ d') × ((words₁ ≡ words₂) × (t₁ ≡ t₂))))
  opens_once {count = count} {count' = count'} {words₁ = words₁} {words₂ = words₂} p q =
      let c : count ≡ count' = one p.counted q.counted in
      let w : words₁ ≡ words₂ = one p.spelt q.spelt in
      let v : verdict_at s (end - start) n t words₁ count ≡ verdict_at s (end - start) n t words₂ count' = λ i. verdict_at s (end - start) n t (w i) (c i) in
      (p.formed ∙ (λ i. (v i).form) ∙ sym q.formed, (c, (p.stepped ∙ (λ i. step_after (order_of (v i).form) (begun (v i) n) s (w i) (c i) t) ∙ sym q.stepped, (w, p.stored ∙ (λ i. store_after (order_of (v i).form) (begun (v i) n) s (w i) (c i) t) ∙ sym q.stored))))
