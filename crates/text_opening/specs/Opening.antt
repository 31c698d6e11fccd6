-- A line as it is opened: what it is, and what is left once its words are cut and what it declares is declared.
use Rattle.std.specs.Prelude.{ℕ, ◌-◌, ◌≤◌, ◌≡◌, Bool, cond, List, Result, Ok, Err, eqb, length}
use Rattle.std.proofs.lemmas.List.Edits.{sets}
use Rattle.definition.specs.declared.Refusal.{Refusal}
use Rattle.definition.specs.Numbers.{number_of}
use Rattle.text_words.specs.Bytes.{space}
use Rattle.text_words.specs.Parts.{split, cuts, between, parts_of}
use Rattle.text_grammar.specs.declared.Form.{Form}
use Rattle.text_grammar.specs.declared.Form.TheVariants.{Malformed}
use Rattle.text_grammar.specs.Bytes.{Word}
use Rattle.text_grammar.specs.Grammar.{form_of, pattern_of, pass_from}
use Rattle.text_definition.specs.declared.Numbers.{Numbers}
use Rattle.text_definition.specs.Decls.{known_in}
use Rattle.text_definition.specs.Run.{max_bytes}
use Rattle.text_definition.specs.Store.{Store, Within, Tabled, word_cells}
use Rattle.text_declare.specs.declared.Step.{Step}
use Rattle.text_declare.specs.Forms.{order_of}
use Rattle.text_declare.specs.After.{step_after, store_after}

-- what a line is: its form, Malformed where nothing is to be taken, and the number of its refusal
pub record Verdict : Type 0 where
  pub form : Form
  pub refused : ℕ

-- as the code answers it
abbrev pub verdict_from : Result Form Refusal → Verdict
verdict_from (Ok f) = record { form = f; refused = 0 }
verdict_from (Err r) = record { form = Malformed; refused = number_of r }

-- a line that is not to be taken has no form
abbrev pub without : ℕ → Verdict
without n = record { form = Malformed; refused = n }

-- 51 where a name is not known, 50 where there is no form
abbrev pub settled : Form → Bool → Verdict
settled f known = cond known (record { form = f; refused = cond (eqb (order_of f) 16) 50 0 }) (without 51)

-- an empty line is not refused
abbrev pub verdict_of : ℕ → List Word → List Word → List Word → List ℕ → List Word → Verdict
verdict_of bytes sort_names global_names head_names signatures ws =
    cond (eqb bytes 0) (without 0) (settled (form_of ws) (pass_from (known_in sort_names global_names head_names signatures) (pattern_of (form_of ws)) 0 ws))

-- of a line of so many bytes, by the tables as they are
abbrev pub verdict_at : List ℕ → ℕ → Numbers → Store → List ℕ → ℕ → Verdict
verdict_at s bytes n t words count =
    verdict_of bytes (parts_of s t.sort_names n.sorts) (parts_of s t.global_names n.globals) (parts_of s t.head_names n.heads) t.signatures (parts_of s words count)

abbrev pub begun : Verdict → Numbers → Step
begun v n = record { refused = v.refused; numbers = n }

-- What it is lent: a part of the text, room for its words, lists of their sizes.
pub record Openable (s : List ℕ) (start end : ℕ) (n : Numbers) (words sort_names global_names head_names signatures : List ℕ) : Type 0 where
  pub ordered : start ≤ end
  pub inside : end ≤ length s
  pub short : length s ≤ max_bytes
  pub words' : length words ≡ word_cells
  pub tabled : Tabled sort_names global_names head_names signatures
  pub within : Within n

-- What is left: the places of its `count` words, its form `f`, and what it declares: the step `d` and the tables `t'`.
pub record Opens (s : List ℕ) (start end : ℕ) (n : Numbers) (words : List ℕ) (t : Store) (f : Form) (count : ℕ) (d : Step) (words' : List ℕ) (t' : Store) : Type 0 where
  pub counted : count ≡ length (split space (between s start end))
  pub spelt : words' ≡ sets words 0 (cuts space start (between s start end))
  pub formed : f ≡ (verdict_at s (end - start) n t words' count).form
  pub stepped : d ≡ step_after (order_of (verdict_at s (end - start) n t words' count).form) (begun (verdict_at s (end - start) n t words' count) n) s words' count t
  pub stored : t' ≡ store_after (order_of (verdict_at s (end - start) n t words' count).form) (begun (verdict_at s (end - start) n t words' count) n) s words' count t
