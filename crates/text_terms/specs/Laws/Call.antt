-- The call of a line: its refusal where it has too many terms, its cells, what it is lent.
use Prim.Native.Nat.{ℕ, zero, suc, ◌+◌, ◌-◌, ◌<◌, ◌≤◌}
use native.Mathlib.Omega.{arith}
use Rattle.std.proofs.Common.{add-zero, inr, sym, ◌∙◌, ltb-true, ltb-false, length-append, length-take, take_at, drop-cons}
use Rattle.std.specs.Prelude.{◌≡◌, Bool, true, false, cond, Option, Some, None, is_some, ltb, length, drop, get_or}
use Rattle.std.proofs.Math.Path.{refl, ap}
use mathlib.Core.List.{List, [], ◌∷◌}
use Rattle.std.proofs.Math.ListN.{take}
use Rattle.std.proofs.lemmas.List.Edits.{sets, sets-eq}
use Rattle.definition.specs.Lists.{from}
use Rattle.rule_heads.specs.Alternatives.{keep, is_function, is_permitted, function_of, alternatives}
use Rattle.rule_heads.specs.Laws.{keep_few}
use Rattle.text_definition.specs.Decls.{Decls}
use Rattle.text_definition.specs.Say.{Said, too_many, cells_of_call, numbers as numbers_of}
use Rattle.text_words.specs.Parts.{find}
use Rattle.text_words.specs.Parts.{part_at, parts_from, parts_of}
use Rattle.text_words.specs.Laws.Parts.{parts_count}
use Rattle.text_grammar.specs.Bytes.{Word}
use Rattle.text_terms.specs.declared.shape.Shape.{Shape}
use Rattle.text_terms.specs.Shape.{head_word, said_by, Shaped}
use Rattle.text_terms.specs.Named.{NamedLine}
use Rattle.text_terms.specs.Call.{too_many_on, number_at, number_of, call_by, call_cells}
use Rattle.text_terms.specs.Laws.Line.{part_parts}

-- the alternatives of a head fit a list of 257, and stand at its front
alternatives_few : (signatures : List ℕ) (n head context : ℕ) → n ≤ 256 → length (alternatives signatures n head context) ≤ 257
unfolding alternatives function_of
alternatives_few signatures n head context h =
    let fs = keep (is_function signatures head) (from 0 n) in
    let ps = keep (is_permitted signatures head context) (from 0 n) in
    omega (arith, length-append (take 1 fs) ps, length-take 1 fs, keep_few (is_permitted signatures head context) 0 n)

front : (l xs : List ℕ) → length xs ≤ length l → take (length xs) (sets l 0 xs) ≡ xs
front l xs h = ap (take (length xs)) (sets-eq xs l 0 (omega arith)) ∙ take_at xs (drop (0 + length xs) l) (length xs) refl

pub found_there : (signatures : List ℕ) (n head context k : ℕ) (l l' found : List ℕ) → n ≤ 256 → length l ≡ 257
    → (l' ≡ sets l 0 (alternatives signatures n head context)) × (k ≡ length (alternatives signatures n head context)) → found ≡ take k l' → found ≡ alternatives signatures n head context
found_there signatures n head context k l l' found h e f g =
    g ∙ rw (f.0, f.1) (front l (alternatives signatures n head context) (omega (arith, alternatives_few signatures n head context h)))

-- of a line's head, which is not looked up where there is none
pub many_said : (d : Decls) (s : Said) → too_many_on d.signatures (length d.head_names) d.context s.kind s.headed (cond s.headed (find s.head d.head_names) 0) ≡ too_many d s
unfolding too_many_on too_many
many_said d s = by s.headed
  where
    by : (t : Bool) → too_many_on d.signatures (length d.head_names) d.context s.kind t (cond t (find s.head d.head_names) 0) ≡ too_many_on d.signatures (length d.head_names) d.context s.kind t (find s.head d.head_names)
    by true = refl
    by false = refl

-- a head that there is not is not looked up
pub head_said : (head_names : List Word) (head : Option ℕ) (ws : List Word) → number_of head ws head_names ≡ cond (is_some head) (find (head_word head ws) head_names) 0
head_said head_names (Some i) ws = refl
head_said head_names None ws = refl

-- the numbers of a range of words
module _ (s words numbers : List ℕ) (names : List Word) where
  pub numbers_part : (a m : ℕ) → ((j : ℕ) → a ≤ j → j < a + m → get_or numbers j 0 ≡ find (part_at s words j) names) → a + m ≤ length numbers
      → take m (drop a numbers) ≡ numbers_of names (parts_from s words a m)
  unfolding parts_from
  numbers_part a zero h l = refl
  numbers_part a (suc m) h l =
      ap (take (suc m)) (drop-cons numbers a 0 (omega arith))
      ∙ ap (λ (k : ℕ). k ∷ take m (drop (suc a) numbers)) (h a (omega arith) (omega arith))
      ∙ ap (λ (ks : List ℕ). find (part_at s words a) names ∷ ks) (numbers_part (suc a) m (λ j p q. h j (omega arith) (omega arith)) (omega arith))

  number_there : (a m k : ℕ) → k < m → get_or (numbers_of names (parts_from s words a m)) k 0 ≡ find (part_at s words (a + k)) names
  unfolding parts_from
  number_there a zero k h = absurd (omega arith)
  number_there a (suc m) zero h = ap (λ (j : ℕ). find (part_at s words j) names) (sym (add-zero a))
  number_there a (suc m) (suc k) h = number_there (suc a) m k (omega arith) ∙ ap (λ (j : ℕ). find (part_at s words j) names) (let e : suc a + k ≡ a + suc k = omega arith in e)

  number_behind : (a m k : ℕ) → m ≤ k → get_or (numbers_of names (parts_from s words a m)) k 0 ≡ 0
  unfolding parts_from
  number_behind a zero k h = refl
  number_behind a (suc m) zero h = absurd (omega arith)
  number_behind a (suc m) (suc k) h = number_behind (suc a) m k (omega arith)

  pub number_other : (other others k : ℕ) → ((j : ℕ) → other ≤ j → j < others → get_or numbers j 0 ≡ find (part_at s words j) names)
      → number_at numbers (other + k) others ≡ get_or (numbers_of names (parts_from s words other (others - other))) k 0
  number_other other others k h = by (ltb (other + k) others) refl
    where
      by : (t : Bool) → ltb (other + k) others ≡ t → cond t (get_or numbers (other + k) 0) 0 ≡ get_or (numbers_of names (parts_from s words other (others - other))) k 0
      by true e =
          let l : other + k < others = ltb-true (other + k) others e in
          h (other + k) (omega arith) l ∙ sym (number_there other (others - other) k (omega arith))
      by false e =
          let l : others ≤ other + k = ltb-false (other + k) others e in
          sym (number_behind other (others - other) k (omega arith))

-- a line whose terms are named: its arguments and its cells
module _ (s words : List ℕ) (h : Shape) (n : ℕ) (shaped : Shaped h n) (d e : Decls) (old : List Word) (terms numbers : List ℕ) (count : ℕ) (names : List Word) (terms' numbers' : List ℕ)
    (a : NamedLine s words h n d old terms numbers count names terms' numbers') (few : count ≤ 256) (room : n ≤ length numbers) (len : length numbers' ≡ length numbers) (place : ℕ) where
  abbrev ws : List Word
  ws = parts_of s words n

  args_said : (said_by h ws).args ≡ parts_from s words h.args.start (h.args.end - h.args.start)
  args_said = part_parts s words n h.args shaped.args≤

  others_said : (said_by h ws).others ≡ parts_from s words h.others.start (h.others.end - h.others.start)
  others_said = part_parts s words n h.others shaped.others≤

  pub given_said : h.args.end - h.args.start ≡ length (said_by h ws).args
  given_said = sym (ap length args_said ∙ parts_count s words h.args.start (h.args.end - h.args.start))

  pub args_numbers : take (h.args.end - h.args.start) (drop h.args.start numbers') ≡ numbers_of names (said_by h ws).args
  args_numbers =
      numbers_part s words numbers' names h.args.start (h.args.end - h.args.start) (λ j p q. a.numbered' few j (inr (p, omega (arith, shaped.args≤, shaped.args≥))) (omega (arith, shaped.args≤, shaped.args≥))) (omega (arith, shaped.args≤, shaped.args≥, shaped.rest≤))
      ∙ ap (numbers_of names) (sym args_said)

  there : (j : ℕ) → h.others.start ≤ j → j < h.others.end → get_or numbers' j 0 ≡ find (part_at s words j) names
  there j p q = a.numbered' few j (shaped.within j p q) (omega (arith, shaped.others≤))

  other_said : (k : ℕ) → number_at numbers' (h.others.start + k) h.others.end ≡ get_or (numbers_of names (said_by h ws).others) k 0
  other_said k = number_other s words numbers' names h.others.start h.others.end k there ∙ ap (λ (l : List Word). get_or (numbers_of names l) k 0) (sym others_said)

  -- x
  pub other_first : number_at numbers' h.others.start h.others.end ≡ get_or (numbers_of names (said_by h ws).others) 0 0
  other_first = ap (λ (k : ℕ). number_at numbers' k h.others.end) (sym (add-zero h.others.start)) ∙ other_said 0

  pub cells_said : call_cells (call_by h ws e.head_names numbers' place) ≡ cells_of_call e names (said_by h ws) place
  cells_said =
      ap (λ (k : ℕ). h.kind ∷ k ∷ 0 ∷ (h.args.end - h.args.start) ∷ number_at numbers' h.others.start h.others.end ∷ number_at numbers' (h.others.start + 1) h.others.end ∷ place ∷ 0 ∷ []) (head_said e.head_names h.head ws)
      ∙ ap (λ (k : ℕ). h.kind ∷ cond (is_some h.head) (find (said_by h ws).head e.head_names) 0 ∷ 0 ∷ k ∷ number_at numbers' h.others.start h.others.end ∷ number_at numbers' (h.others.start + 1) h.others.end ∷ place ∷ 0 ∷ []) given_said
      ∙ ap (λ (k : ℕ). h.kind ∷ cond (is_some h.head) (find (said_by h ws).head e.head_names) 0 ∷ 0 ∷ length (said_by h ws).args ∷ k ∷ number_at numbers' (h.others.start + 1) h.others.end ∷ place ∷ 0 ∷ []) other_first
      ∙ ap (λ (k : ℕ). h.kind ∷ cond (is_some h.head) (find (said_by h ws).head e.head_names) 0 ∷ 0 ∷ length (said_by h ws).args ∷ get_or (numbers_of names (said_by h ws).others) 0 0 ∷ k ∷ place ∷ 0 ∷ []) (other_said 1)
