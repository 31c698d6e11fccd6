-- One line: what it is lent and what is left of it.
use Rattle.std.specs.Prelude.{ℕ, ◌≤◌, ◌<◌, ◌≡◌, cond, List, eqb, length, Result, Ok, Err}
use Rattle.definition.specs.declared.Refusal.{Refusal}
use Rattle.definition.specs.Numbers.{number_of}
use Rattle.text_words.specs.Bytes.{space}
use Rattle.text_words.specs.Parts.{split}
use Rattle.text_definition.specs.declared.Numbers.{Numbers}
use Rattle.text_definition.specs.Decls.{Decls}
use Rattle.text_definition.specs.Declare.{Next, refused, next}
use Rattle.text_definition.specs.Run.{line, max_bytes}
use Rattle.text_definition.specs.Store.{Store, Within, decls_of}
use Rattle.text_declare.specs.declared.Step.{Step}

-- what the definition makes of a line
abbrev pub line_next : Decls → List ℕ → ℕ → Next
line_next d bytes place = cond (eqb (length bytes) 0) (next d) (line d (split space bytes) place)

-- What a line is: a part of the text, with numbers within their sizes.
pub record Readable (s : List ℕ) (start end : ℕ) (n : Numbers) : Type 0 where
  pub short : length s ≤ max_bytes
  pub ordered : start ≤ end
  pub inside : end ≤ length s
  pub within : Within n
  pub context< : n.context < 8

-- what was declared, then what was said: the first refusal, by its number, or the numbers after both
abbrev pub numbered : Result Numbers Refusal → Result Numbers ℕ
numbered (Ok n) = Ok n
numbered (Err e) = Err (number_of e)

abbrev pub joined : Step → Result Numbers Refusal → Result Numbers ℕ
joined d a = cond (eqb d.refused 0) (numbered a) (Err d.refused)

-- what is left of a line
abbrev pub left_from : List ℕ → Result Numbers ℕ → Store → Next
left_from s (Ok n) t = next (decls_of s n t)
left_from s (Err m) t = refused m

-- numbers within their sizes; no refusal is 0
abbrev pub InSizes : Result Numbers ℕ → Type 0
InSizes (Ok n) = Within n × (n.context < 8)
InSizes (Err m) = m ≡ 0 → ⊥

-- What it leaves: what the definition does, and numbers within their sizes.
pub record Taken (s : List ℕ) (x : Next) (r : Result Numbers ℕ) (t : Store) : Type 0 where
  pub taken' : left_from s r t ≡ x
  pub sizes : InSizes r
