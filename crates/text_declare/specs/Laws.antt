-- What follows from the definitions: a turn of the loop over a signature's sorts, and that a line's step is the text's.
use Rattle.std.specs.Prelude.{ℕ, ◌+◌, ◌-◌, ◌<◌, ◌≤◌, ◌≡◌, true, false, List, [], map, set}
use Rattle.std.proofs.Common.{add-one, lt-ltb, le-ltb, le-leb}
use Rattle.std.proofs.lemmas.Bool.{lt-leb}
use Rattle.std.proofs.lemmas.List.Edits.{sets}
use Rattle.text_words.specs.Parts.{part_at, parts_from}
use Rattle.text_words.specs.Laws.Parts.{parts_next, parts_end}
use Rattle.text_grammar.specs.Bytes.{Word}
use Rattle.rule_lent.specs.Fit.{max_signatures, max_signature_sorts}
use Rattle.text_declare.specs.declared.Step.{Step}
use Rattle.text_declare.specs.declared.signature.Signature.{Signature}
use Rattle.text_declare.specs.Signatures.{is_signature, length_of, signature_fits}

pub says_equal : (kind first : ℕ) {m m' a a' b b' o o' : ℕ} → m ≡ m' → a ≡ a' → b ≡ b' → o ≡ o'
    → ◌≡◌ {A = Signature} (record { kind = kind; mask = m; first = first; common = a; exact = b; output = o }) (record { kind = kind; mask = m'; first = first; common = a'; exact = b'; output = o' })
says_equal kind first p q r t i = record { kind = kind; mask = p i; first = first; common = q i; exact = r i; output = t i }

-- the numbers of a signature's sorts, or of any words, a turn at a time
module _ (s words : List ℕ) (number : Word → ℕ) where
  pub sorts_turn : (l l' : List ℕ) (at i count : ℕ) → i < count → l' ≡ set l at (number (part_at s words i))
      → sets l' (at + 1) (map number (parts_from s words (i + 1) (count - (i + 1)))) ≡ sets l at (map number (parts_from s words i (count - i)))
  sorts_turn l l' at i count h e = rw (parts_next s words [] i count h, e, add-one at)

  pub sorts_end : (l : List ℕ) (at i count : ℕ) → count ≤ i → l ≡ sets l at (map number (parts_from s words i (count - i)))
  sorts_end l at i count h = rw (parts_end s words [] i count h)

-- which forms are signatures
module _ (form : ℕ) where
  pub before_signatures : form < 1 → is_signature form ≡ false
  before_signatures h = rw (lt-leb 1 form h)

  pub behind_signatures : 1 ≤ form → 4 < form → is_signature form ≡ false
  behind_signatures l h = rw (le-leb 1 form l, lt-leb form 4 h)

  pub is_signature_lem : 1 ≤ form → form ≤ 4 → is_signature form ≡ true
  is_signature_lem l h = rw (le-leb 1 form l, le-leb form 4 h)

-- whether there is room for one
module _ (form : ℕ) (step : Step) (s words : List ℕ) (count : ℕ) (sort_names : List ℕ) where
  pub heads_full : max_signatures ≤ step.numbers.heads → signature_fits form step s words count sort_names ≡ false
  heads_full h = rw (le-ltb step.numbers.heads max_signatures h)

  pub sorts_full : step.numbers.heads < max_signatures → max_signature_sorts < step.numbers.used + length_of form step s words count sort_names
      → signature_fits form step s words count sort_names ≡ false
  sorts_full h k = rw (lt-ltb step.numbers.heads max_signatures h, lt-leb (step.numbers.used + length_of form step s words count sort_names) max_signature_sorts k)

  pub signature_fits_lem : step.numbers.heads < max_signatures → step.numbers.used + length_of form step s words count sort_names ≤ max_signature_sorts
      → signature_fits form step s words count sort_names ≡ true
  signature_fits_lem h k = rw (lt-ltb step.numbers.heads max_signatures h, le-leb (step.numbers.used + length_of form step s words count sort_names) max_signature_sorts k)
