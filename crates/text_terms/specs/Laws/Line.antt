-- A line's terms, named: the words named first, then the others.
use Rattle.std.specs.Prelude.{ℕ, ◌+◌, ◌-◌, ◌<◌, ◌≤◌, ◌⊎◌, ◌≡◌, List, [], ◌++◌, take, drop}
use Rattle.std.proofs.Common.{arith, zero-add, inl, inr, sym, ◌∙◌, take_at}
use Rattle.std.proofs.Math.Path.{ap}
use Rattle.std.proofs.Math.ListN.{length, get_or}
use Rattle.text_words.specs.Parts.{part_at, parts_from, parts_of, find}
use Rattle.text_words.specs.Laws.Parts.{parts_count}
use Rattle.text_grammar.specs.Bytes.{Word}
use Rattle.text_definition.specs.Decls.{Decls}
use Rattle.text_definition.specs.Say.{with_terms}
use Rattle.text_terms.specs.declared.shape.Words.{Words}
use Rattle.text_terms.specs.declared.shape.Shape.{Shape}
use Rattle.text_terms.specs.Shape.{part, named, Shaped}
use Rattle.text_terms.specs.Named.{NamedRange, NamedLine}
use Rattle.text_words.specs.Laws.Table.{drop_parts}
use Rattle.text_terms.specs.Laws.Naming.{parts_both, named_both, named_full}

-- words of a line as parts of its table
module _ (s words : List ℕ) (n : ℕ) where
  take_parts : (i m k : ℕ) → k ≤ m → take k (parts_from s words i m) ≡ parts_from s words i k
  take_parts i m k h =
      ap (λ (l : ℕ). take k (parts_from s words i l)) (let e : m ≡ k + (m - k) = omega arith in e)
      ∙ ap (take k) (parts_both s words i k (m - k))
      ∙ take_at (parts_from s words i k) (parts_from s words (i + k) (m - k)) k (parts_count s words i k)

  pub rest_parts : (a : ℕ) → drop a (parts_of s words n) ≡ parts_from s words a (n - a)
  rest_parts a = drop_parts s words 0 n a ∙ ap (λ (k : ℕ). parts_from s words k (n - a)) (zero-add a)

  pub part_parts : (r : Words) → r.end ≤ n → part r (parts_of s words n) ≡ parts_from s words r.start (r.end - r.start)
  part_parts r h = ap (take (r.end - r.start)) (rest_parts r.start) ∙ take_parts r.start (n - r.start) (r.end - r.start) (omega arith)

  pub named_parts : (h : Shape) → Shaped h n → named h (parts_of s words n) ≡ parts_from s words h.bound.start (h.bound.end - h.bound.start) ++ parts_from s words h.args.start (n - h.args.start)
  named_parts h f =
      ap (λ (l : List Word). l ++ drop h.args.start (parts_of s words n)) (part_parts h.bound (omega (arith, f.ends≤, f.rest≤)))
      ∙ ap (λ (l : List Word). parts_from s words h.bound.start (h.bound.end - h.bound.start) ++ l) (rest_parts h.args.start)

module _ {s words : List ℕ} {h : Shape} {n : ℕ} (shaped : Shaped h n) {d : Decls} {names : List Word} {terms numbers : List ℕ}
    {m : ℕ} {names₁ : List Word} {terms₁ numbers₁ : List ℕ} (a : NamedRange s words h.bound.start h.bound.end d names terms numbers m names₁ terms₁ numbers₁) where
  pub line_named : {k : ℕ} {names₂ : List Word} {terms₂ numbers₂ : List ℕ} → m ≤ 256 → length numbers₁ ≡ length numbers → NamedRange s words h.args.start n d names₁ terms₁ numbers₁ k names₂ terms₂ numbers₂
      → NamedLine s words h n d names terms numbers k names₂ terms₂ numbers₂
  unfolding with_terms
  line_named {k} {names₂} {terms₂} {numbers₂} l len b = record {
    named' = rw (named_parts s words n h shaped) (named_both d names terms (parts_from s words h.bound.start (h.bound.end - h.bound.start)) (parts_from s words h.args.start (n - h.args.start)) m names₁ terms₁ a.named k names₂ terms₂ l b.named);
    numbered' = λ q j w r. by q j r w;
  }
    where
      by : k ≤ 256 → (j : ℕ) → j < length numbers → (h.bound.start ≤ j × j < h.bound.end) ⊎ (h.args.start ≤ j × j < n) → get_or numbers₂ j 0 ≡ find (part_at s words j) names₂
      by q j r (inl (f, e)) =
          (b.numbered q []).below j (omega (arith, shaped.ends≤))
          ∙ (a.numbered l (parts_from s words h.args.start (n - h.args.start))).inside j f e r
          ∙ ap (find (part_at s words j)) (sym (b.named.called q))
      by q j r (inr (f, e)) = (b.numbered q []).inside j f e (omega arith)

  pub line_full : {names₂ : List Word} {terms₂ numbers₂ : List ℕ} → 256 < m → NamedLine s words h n d names terms numbers m names₂ terms₂ numbers₂
  line_full {names₂} {terms₂} l = record {
    named' = rw (named_parts s words n h shaped) (named_full d names terms (parts_from s words h.bound.start (h.bound.end - h.bound.start)) (parts_from s words h.args.start (n - h.args.start)) m names₁ terms₁ a.named names₂ terms₂ l);
    numbered' = λ q. absurd (omega arith);
  }
