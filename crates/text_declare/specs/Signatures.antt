-- What a line that declares a signature leaves.
use Rattle.std.specs.Prelude.{ℕ, suc, ◌+◌, ◌-◌, ◌*◌, Bool, ◌&&◌, cond, List, [], ◌∷◌, map, eqb, ltb, leb}
use Rattle.std.proofs.lemmas.List.Edits.{sets}
use Rattle.text_definition.specs.Declare.{length_cell}
use Rattle.rule_signatures.specs.Tables.{signature_cells}
use Rattle.rule_lent.specs.Fit.{max_signatures, max_signature_sorts}
use Rattle.text_words.specs.Names.{is_absent, number_below}
use Rattle.text_words.specs.Parts.{part_at, parts_from, parts_of, part_cells, find}
use Rattle.text_grammar.specs.Bytes.{Word}
use Rattle.text_grammar.specs.Grammar.{mask_bound}
use Rattle.text_definition.specs.declared.Numbers.{Numbers}
use Rattle.text_declare.specs.declared.Step.{Step}
use Rattle.text_declare.specs.declared.signature.Signature.{Signature}
use Rattle.text_declare.specs.Steps.{taken, full, with_numbers, name_cells}

abbrev pub plain : ℕ → ℕ → ℕ → Signature
plain kind mask first = record { kind = kind; mask = mask; first = first; common = 0; exact = 0; output = 0 }

abbrev pub sort_number : List ℕ → List ℕ → ℕ → Word → ℕ
sort_number s sort_names n w = find w (parts_of s sort_names n)

abbrev pub sort_cell : List ℕ → List ℕ → ℕ → Word → ℕ
sort_cell s sort_names n w = cond (is_absent w) 0 (suc (sort_number s sort_names n w))

-- a function's form is 1, a constructor's 2, a simple primitive's 3, an all-equal one's 4
unfoldable pub signature_for : ℕ → List ℕ → List ℕ → ℕ → List ℕ → ℕ → Signature
signature_for form s words count sort_names n =
    let mask = number_below mask_bound (part_at s words 2) in
    cond (ltb form 3) (plain (form - 1) 0 2)
    (cond (eqb form 3) (plain (form - 1) mask 4)
    (record { kind = form - 1; mask = mask; first = count; common = sort_cell s sort_names n (part_at s words 4); exact = length_cell (part_at s words 5); output = sort_cell s sort_names n (part_at s words 6) }))

abbrev pub more_signatures : Numbers → ℕ → Numbers
more_signatures n length = with_numbers n.sorts n.globals (n.heads + 1) (n.used + length) n.context n

-- its ten cells
abbrev pub cells_of : Signature → ℕ → ℕ → ℕ → List ℕ
cells_of says head used length =
    says.kind ∷ head ∷ says.mask ∷ used ∷ length ∷ says.common ∷ says.exact ∷ says.output ∷ 0 ∷ 0 ∷ []

-- the line is one of these
abbrev pub is_signature : ℕ → Bool
is_signature form = leb 1 form && leb form 4

module _ (form : ℕ) (step : Step) (s words : List ℕ) (count : ℕ) (sort_names : List ℕ) where
  abbrev pub says_of : Signature
  says_of = signature_for form s words count sort_names step.numbers.sorts

  -- how many sorts it has
  abbrev pub length_of : ℕ
  length_of = count - says_of.first

  -- there is room for it and its sorts
  abbrev pub signature_fits : Bool
  signature_fits = ltb step.numbers.heads max_signatures && leb (step.numbers.used + length_of) max_signature_sorts

  abbrev pub signature_step : Step
  signature_step =
      cond (is_signature form) (cond signature_fits (taken (more_signatures step.numbers length_of)) (full step.numbers)) step

  abbrev pub with_name : List ℕ → List ℕ
  with_name head_names = sets head_names (step.numbers.heads * part_cells) (name_cells words)

  abbrev pub head_names_after : List ℕ → List ℕ
  head_names_after head_names = cond (is_signature form) (cond signature_fits (with_name head_names) head_names) head_names

  -- its head is the first of that name
  abbrev pub head_of : List ℕ → ℕ
  head_of head_names = find (part_at s words 1) (parts_of s (with_name head_names) (step.numbers.heads + 1))

  abbrev pub signatures_after : List ℕ → List ℕ → List ℕ
  signatures_after head_names signatures =
      cond (is_signature form)
      (cond signature_fits (sets signatures (step.numbers.heads * signature_cells) (cells_of says_of (head_of head_names) step.numbers.used length_of)) signatures)
      signatures

  abbrev pub signature_sorts_after : List ℕ → List ℕ
  signature_sorts_after cells =
      cond (is_signature form)
      (cond signature_fits (sets cells step.numbers.used (map (sort_number s sort_names step.numbers.sorts) (parts_from s words says_of.first length_of))) cells)
      cells
