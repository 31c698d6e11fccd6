-- What naming the terms of a line leaves.
use Rattle.std.specs.Prelude.{ℕ, suc, ◌-◌, ◌*◌, ◌≤◌, ◌<◌, min, ◌≡◌, ◌⊎◌, cond, List, [], ◌∷◌, ◌++◌, length, get_or, replicate}
use Rattle.std.proofs.lemmas.List.Edits.{sets}
use Rattle.definition.specs.Sizes.{max_terms}
use Rattle.rule_signatures.specs.Tables.{term_cells}
use Rattle.text_words.specs.Parts.{part_at, parts_from, parts_of, part_cells, find}
use Rattle.text_grammar.specs.Bytes.{Word}
use Rattle.text_definition.specs.Decls.{Decls, is_in, start}
use Rattle.text_definition.specs.declared.Declared.{Declared}
use Rattle.text_words.specs.declared.parts.Parts.{Parts}
use Rattle.text_definition.specs.Say.{with_terms, cells_of_all}
use Rattle.text_terms.specs.declared.shape.Shape.{Shape}
use Rattle.text_terms.specs.Shape.{named}

-- the words that are new, by first appearance
unfoldable pub new_terms : List Word → List Word → List Word
new_terms names [] = []
new_terms names (w ∷ ws) = cond (is_in w names) (new_terms names ws) (w ∷ new_terms (names ++ w ∷ []) ws)

-- what a term's cells depend on: the names of sorts and globals
abbrev pub naming : List Word → List Word → Decls
naming sort_names global_names = record {
  sort_names = sort_names;
  global_names = global_names;
  head_names = start.head_names;
  term_names = start.term_names;
  signatures = start.signatures;
  used = start.used;
  signature_sorts = start.signature_sorts;
  globals = start.globals;
  terms = start.terms;
  context = start.context;
  problem = start.problem;
}

-- the same, by the tables: s is the text
abbrev pub naming_by : List ℕ → Declared → Decls
naming_by s d = naming (parts_of s d.sort_names.now d.numbers.sorts) (parts_of s d.global_names.now d.numbers.globals)

-- the tables that a term's cells depend on are long enough for what is declared
abbrev pub NamesFit : Declared → Type 0
NamesFit d = (d.numbers.sorts * part_cells ≤ length d.sort_names.now) × (d.numbers.globals * part_cells ≤ length d.global_names.now)

-- and of k terms, there may be more
abbrev pub Room : Declared → ℕ → List ℕ → Type 0
Room d k term_names =
    (d.numbers.sorts * part_cells ≤ length d.sort_names.now) × ((d.numbers.globals * part_cells ≤ length d.global_names.now) × ((k ≤ max_terms) × (max_terms * part_cells ≤ length term_names)))

-- the count where a term too many has appeared
abbrev pub overfull : ℕ
overfull = suc max_terms

-- The words `ws` are named, behind the names there are: how many there are then, and, if not too many, the names and the
-- cells of the terms.
pub record Named (d : Decls) (names : List Word) (terms : List ℕ) (ws : List Word) (count : ℕ) (names' : List Word) (terms' : List ℕ) : Type 0 where
  pub counted : count ≡ min (length (with_terms names ws)) overfull
  pub called : count ≤ max_terms → names' ≡ with_terms names ws
  pub celled : count ≤ max_terms → terms' ≡ sets terms (length names * term_cells) (cells_of_all d (new_terms names ws))

-- The numbers of the words from `from` up to `to` stand each at its word's place; the cells elsewhere are as they were.
pub record Numbered (s words : List ℕ) (names : List Word) (from to : ℕ) (before after : List ℕ) : Type 0 where
  pub inside : (j : ℕ) → from ≤ j → j < to → j < length before → get_or after j 0 ≡ find (part_at s words j) names
  pub below : (j : ℕ) → j < from → get_or after j 0 ≡ get_or before j 0
  pub above : (j : ℕ) → to ≤ j → get_or after j 0 ≡ get_or before j 0

-- The words of a range are named and numbered; no later word changes their numbers.
pub record NamedRange (s words : List ℕ) (from to : ℕ) (d : Decls) (names : List Word) (terms numbers : List ℕ) (count : ℕ) (names' : List Word) (terms' numbers' : List ℕ) : Type 0 where
  pub named : Named d names terms (parts_from s words from (to - from)) count names' terms'
  pub numbered : count ≤ max_terms → (more : List Word) → Numbered s words (with_terms names' more) from to numbers numbers'

-- The terms of a line of n words are named and numbered.
pub record NamedLine (s words : List ℕ) (h : Shape) (n : ℕ) (d : Decls) (names : List Word) (terms numbers : List ℕ) (count : ℕ) (names' : List Word) (terms' numbers' : List ℕ) : Type 0 where
  pub named' : Named d names terms (named h (parts_of s words n)) count names' terms'
  pub numbered' : count ≤ max_terms → (j : ℕ) → (h.bound.start ≤ j × j < h.bound.end) ⊎ (h.args.start ≤ j × j < n) → j < length numbers → get_or numbers' j 0 ≡ find (part_at s words j) names'

-- the same, by the tables: `k` terms before, `count` then
abbrev pub RangeNamed : Parts → ℕ → ℕ → Declared → ℕ → List ℕ → List ℕ → List ℕ → ℕ → List ℕ → List ℕ → List ℕ → Type 0
RangeNamed l from to d k term_names terms numbers count term_names' terms' numbers' =
    NamedRange l.text.now l.table.now from to (naming_by l.text.now d) (parts_of l.text.now term_names k) terms numbers count (parts_of l.text.now term_names' count) terms' numbers'

abbrev pub LineNamed : Parts → Shape → Declared → List ℕ → List ℕ → List ℕ → ℕ → List ℕ → List ℕ → List ℕ → Type 0
LineNamed l h d term_names terms numbers count term_names' terms' numbers' =
    NamedLine l.text.now l.table.now h l.count (naming_by l.text.now d) (parts_of l.text.now term_names d.numbers.terms) terms numbers count (parts_of l.text.now term_names' count) terms' numbers'

-- behind `from` names there are empty ones, up to `to`
abbrev pub Unnamed : List ℕ → ℕ → ℕ → List ℕ → Type 0
Unnamed term_names from to term_names' = (s : List ℕ) → parts_of s term_names' to ≡ parts_of s term_names from ++ replicate (to - from) []
