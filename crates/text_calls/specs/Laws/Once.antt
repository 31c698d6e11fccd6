-- A line that is taken has no second answer, and leaves no second meaning of the tables.
use Rattle.std.specs.Prelude.{ℕ, ◌≡◌, List, length}
use Rattle.std.proofs.Common.{ap, sym, ◌∙◌}
use Rattle.text_words.specs.Parts.{parts_of}
use Rattle.text_words.specs.Laws.Parts.{parts_count}
use Rattle.text_definition.specs.declared.Numbers.{Numbers}
use Rattle.text_definition.specs.Decls.{Decls}
use Rattle.text_definition.specs.Store.{Store, decls_of}
use Rattle.text_calls.specs.Line.{Taken}

-- as many names, as many parts
same_count : (s table table' : List ℕ) (m m' : ℕ) → parts_of s table m ≡ parts_of s table' m' → m ≡ m'
same_count s table table' m m' e = sym (parts_count s table 0 m) ∙ ap length e ∙ parts_count s table' 0 m'

-- the tables tell the numbers
pub same_numbers : (s : List ℕ) (m m' : Numbers) (t t' : Store) → decls_of s m t ≡ decls_of s m' t' → m ≡ m'
same_numbers s m m' t t' e i = record {
  sorts = same_count s t.sort_names t'.sort_names m.sorts m'.sorts (ap (λ (d : Decls). d.sort_names) e) i;
  globals = same_count s t.global_names t'.global_names m.globals m'.globals (ap (λ (d : Decls). d.global_names) e) i;
  heads = same_count s t.head_names t'.head_names m.heads m'.heads (ap (λ (d : Decls). d.head_names) e) i;
  terms = same_count s t.term_names t'.term_names m.terms m'.terms (ap (λ (d : Decls). d.term_names) e) i;
  used = (e i).used;
  context = (e i).context;
  problem = (e i).problem.counts;
}

pub taken_once : (s : List ℕ) (n : Numbers) (d : Decls) (r r' : Numbers) (t t' : Store) → Taken s n d r t → Taken s n d r' t' → (r ≡ r') × (decls_of s r t ≡ decls_of s r' t')
taken_once s n d r r' t t' a b =
    let e : decls_of s r t ≡ decls_of s r' t' = a.decls ∙ sym b.decls in
    (same_numbers s r r' t t' e, e)
