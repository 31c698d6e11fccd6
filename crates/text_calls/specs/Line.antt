-- What a line leaves.
use Rattle.std.specs.Prelude.{ℕ, ◌*◌, ◌≤◌, ◌<◌, ◌≡◌, cond, List, eqb, length, Result, Ok, Err}
use Rattle.definition.specs.declared.Refusal.{Refusal}
use Rattle.definition.specs.Numbers.{number_of}
use Rattle.rule_lent.specs.Fit.{contexts}
use Rattle.rule_calls.specs.declared.Added.{Added}
use Rattle.text_terms.specs.Call.{numbers_by}
use Rattle.text_calls.specs.Refusal.{refusal_of}
use Rattle.text_words.specs.Parts.{part_cells}
use Rattle.text_definition.specs.declared.Numbers.{Numbers}
use Rattle.text_definition.specs.declared.Declared.{Declared}
use Rattle.text_definition.specs.Decls.{Decls}
use Rattle.text_definition.specs.Declare.{Next, refused, next}
use Rattle.text_definition.specs.Store.{Store, store, decls_of, Sized, Within}

-- the numbers of a line's words: those before its terms, and the largest number of arguments
abbrev pub word_numbers : ℕ
word_numbers = 2051

-- What a line is lent: its words, of which there are as many as its form asks; lists of their sizes; numbers within them.
pub record Speaks (words numbers : List ℕ) (count : ℕ) (n : Numbers) (t : Store) : Type 0 where
  pub words≤ : count * part_cells ≤ length words
  pub scratch : word_numbers ≤ length numbers
  pub sized : Sized t
  pub within : Within n
  pub context< : n.context < contexts

-- the lists of what is declared and what is said
abbrev pub store_of : Declared → (term_names terms records side tops range : List ℕ) → Store
store_of d term_names terms records side tops range =
    store d.sort_names.now d.global_names.now d.head_names.now term_names d.signatures.now d.signature_sorts.now d.globals.now terms records side tops range

-- It is taken: the tables are as the definition says, the numbers within their sizes, the context is as it was.
pub record Taken (s : List ℕ) (n : Numbers) (d : Decls) (r : Numbers) (t : Store) : Type 0 where
  pub decls : decls_of s r t ≡ d
  pub within' : Within r
  pub context' : r.context ≡ n.context

-- or refused, with the number that the definition gives; nothing is said of the lists then
abbrev pub Ends : List ℕ → Numbers → Next → Result Numbers Refusal → Store → Type 0
Ends s n (refused k) (Err e) t = number_of e ≡ k
Ends s n (refused k) (Ok r) t = ⊥
Ends s n (next d) (Err e) t = ⊥
Ends s n (next d) (Ok r) t = Taken s n d r t

-- by what its call answered
abbrev pub settled : Added → Numbers → Result Numbers Refusal
settled done n = cond (eqb done.number 0) (Ok (numbers_by n done.counts)) (Err (refusal_of done.number))
