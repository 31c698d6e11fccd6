-- What was put into a row.
use Rattle.std.specs.Prelude.{ℕ, ◌≡◌, List, [], ◌∷◌, ◌++◌, ◌+◌, length}
use Rattle.std.proofs.Common.{◌∙◌, ap, append_assoc, sym, subst, refl}
use Rattle.std.proofs.lemmas.List.Edits.{sets}
use Rattle.text_words.specs.Bytes.{line_feed}
use Rattle.text_words.specs.Put.{decimal, Put}
use Rattle.text_words.specs.Laws.Put.{put_both, put_nothing}
use Rattle.text_grammar.specs.Bytes.{bytes}
use Rattle.text_definition.specs.Rows.{term_text}
use Rattle.out_rows.specs.declared.row.Row.{Row}

-- The bytes stand behind what was there, in the same line.
pub record Wrote (r : Row) (bytes : List ℕ) (r' : Row) : Type 0 where
  pub same : r'.line.ghost_name ≡ r.line.ghost_name
  pub put : Put r.line.now r.at bytes r'.at r'.line.now
  pub long : length r'.line.now ≡ length r.line.now

abbrev pub one_number : List ℕ → ℕ → List ℕ
one_number word n = word ++ decimal n ++ line_feed ∷ []

abbrev pub two_numbers : List ℕ → ℕ → List ℕ → ℕ → List ℕ
two_numbers word n middle m = word ++ decimal n ++ middle ++ decimal m ++ line_feed ∷ []

-- one piece behind another
pub wrote_both : {r m r' : Row} {a b : List ℕ} → Wrote r a m → Wrote m b r' → Wrote r (a ++ b) r'
wrote_both p q = record { same = q.same ∙ p.same; put = put_both p.put q.put; long = q.long ∙ p.long }

pub wrote_as : {r r' : Row} {a b : List ℕ} → a ≡ b → Wrote r a r' → Wrote r b r'
wrote_as {r} {r'} h p = subst (λ (l : List ℕ). Wrote r l r') h p

pub wrote_none : {r : Row} {a : List ℕ} → a ≡ [] → Wrote r a r
wrote_none {r} h = wrote_as (sym h) (record { same = refl; put = put_nothing r.line.now r.at; long = refl })

pub wrote_next : {r m r' : Row} {a : List ℕ} (b c : List ℕ) → Wrote r a m → Wrote m (b ++ c) r' → Wrote r (a ++ b ++ c) r'
wrote_next {a = a} b c p q = wrote_as (sym (append_assoc a b c)) (wrote_both p q)

-- a space and a name
pub wrote_name : {r m r' : Row} {a : List ℕ} (name name' : List ℕ) → name ≡ name' → Wrote r a m → Wrote m (bytes " " ++ name) r' → Wrote r (a ++ bytes " " ++ name') r'
wrote_name {a = a} name name' h p q = wrote_as (ap (λ (w : List ℕ). a ++ bytes " " ++ w) h) (wrote_next (bytes " ") name p q)

-- a term, by its name
pub wrote_term : {r r' : Row} (t : ℕ) (name name' : List ℕ) → name ≡ name' → Wrote r (term_text t name) r' → Wrote r (term_text t name') r'
wrote_term t name name' h = wrote_as (ap (term_text t) h)

-- a row at the front of a line, which is left as the row leaves it
pub wrote_front : {r r' : Row} {bytes : List ℕ} (line line' : List ℕ) → Wrote r bytes r' → r.line.now ≡ line → r.at ≡ 0 → line' ≡ r'.line.now → Put line 0 bytes r'.at line'
wrote_front {r} {r'} {bytes} line line' p is front left = record {
  ends = p.put.ends ∙ ap (λ (k : ℕ). k + length bytes) front;
  holds = left ∙ p.put.holds ∙ ap (λ (l : List ℕ). sets l r.at bytes) is ∙ ap (λ (k : ℕ). sets line k bytes) front;
}
