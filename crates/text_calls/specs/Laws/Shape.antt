-- The shape of a line gives what the line says; the grammar's lines have the words that their shape asks.
use Rattle.std.specs.Prelude.{ℕ, zero, suc, ◌+◌, ◌-◌, ◌<◌, ◌≤◌, ◌⊎◌, ◌≡◌, Bool, false, ◌&&◌, cond, List, [], ◌∷◌, leb, eqb, take, drop, get_or, Result}
use native.Mathlib.Omega.{arith}
use Rattle.std.proofs.Common.{add-zero, inl, inr, ap, sym, subst, ◌∙◌, take_all, drop-cons, get_or-drop}
use Rattle.std.proofs.Math.Path.{refl}
use Rattle.std.proofs.Math.Bool.{true}
use borrow.Author.Tests.{leb-true, eqb-true, eq-eqb}
use Rattle.std.proofs.Math.ListN.{length, length-drop, drop_of_length-le}
use Rattle.definition.specs.declared.Refusal.{Refusal}
use Rattle.definition.proofs.Laws.Lists.{and_true}
use Rattle.text_words.specs.Parts.{parts_of}
use Rattle.text_words.specs.Laws.Parts.{parts_count}
use Rattle.text_grammar.specs.declared.Kind.{Kind}
use Rattle.text_grammar.specs.declared.Kind.TheVariants.{Extra}
use Rattle.text_grammar.specs.declared.Pattern.{Pattern}
use Rattle.text_grammar.specs.Grammar.{pattern_of, kind_at, spelt, pass_from, fits, forms, first_form, form_of}
use Rattle.text_grammar.specs.declared.Form.{Form}
use Rattle.text_grammar.specs.declared.Form.TheVariants.{Sort, Fun, Ctor, Simple, Equal, Global, Context, Atom, Set, Change, Eq, Union, Let, Bind, Panic, Local as LocalLine, Malformed}
use Rattle.text_grammar.specs.Bytes.{Word}
use Rattle.text_definition.specs.declared.Numbers.{Numbers}
use Rattle.text_definition.specs.Decls.{Decls}
use Rattle.text_definition.specs.Declare.{Next}
use Rattle.text_definition.specs.Say.{with_terms, say_named, say_local_named, too_many}
use Rattle.text_definition.specs.Run.{at, line_of, last_of}
use Rattle.text_definition.specs.Store.{Store, decls_of}
use Rattle.text_terms.specs.declared.shape.Shape.{Shape}
use Rattle.text_terms.specs.declared.shape.Way.{Way}
use Rattle.text_terms.specs.declared.shape.Way.TheVariants.{Action}
use Rattle.text_terms.specs.Shape.{words as span, silent, plain, is_silent, shape_of, part, Shaped}
use Rattle.text_calls.specs.Shape.{words_fit, say_of, verdict_of, say_by}
use Rattle.text_calls.specs.Line.{Ends}

-- all the words from one on; the last
part_all : (a n : ℕ) (ws : List Word) → length ws ≡ n → part (span a n) ws ≡ drop a ws
part_all a n ws e = take_all (n - a) (drop a ws) (omega (arith, length-drop a ws))

part_last : (n : ℕ) (ws : List Word) → length ws ≡ n → 3 ≤ n → part (span (n - 1) n) ws ≡ last_of (drop 2 ws) ∷ []
part_last n ws e h =
    ap (λ (k : ℕ). take k (drop (n - 1) ws)) (let z : n - (n - 1) ≡ 1 = omega arith in z)
    ∙ ap (take 1) (drop-cons ws (n - 1) [] (omega arith))
    ∙ ap (λ (w : Word). w ∷ [])
    (ap (λ (k : ℕ). get_or ws k []) (let z : n - 1 ≡ 2 + (length (drop 2 ws) - 1) = omega (arith, length-drop 2 ws) in z) ∙ sym (get_or-drop 2 ws (length (drop 2 ws) - 1) []))

part_one : (a : ℕ) (ws : List Word) → a < length ws → take 1 (drop a ws) ≡ at ws a ∷ []
part_one a ws h = ap (take 1) (drop-cons ws a [] h)

cond_yes : (b : Bool) (x y : Next) → cond b x y ≡ cond (b && true) x y
cond_yes true x y = refl
cond_yes false x y = refl

module _ (d : Decls) (ws : List Word) (place n : ℕ) (e : length ws ≡ n) where
  pub shaped_line : (f : Form) → words_fit f n ≡ true → say_of f d ws place ≡ say_by (shape_of f n).way (shape_of f n) d ws place
  unfolding shape_of say_by verdict_of line_of words_fit say_named say_local_named too_many
  shaped_line Atom h = rw (part_all 2 n ws e, length-drop 2 ws)
  shaped_line Eq h = let z : length ws - 1 ≡ 2 = omega (arith, eqb-true n 3 h) in rw (part_all 1 n ws e, z)
  shaped_line Let h = rw (part_one 1 ws (omega (arith, leb-true 3 n h)), part_all 3 n ws e, length-drop 3 ws)
  shaped_line Set h =
      let z : n - 1 - 2 ≡ length (drop 2 ws) - 1 = omega (arith, length-drop 2 ws) in
      rw (part_last n ws e (leb-true 3 n h), z, length-drop 2 ws)
  shaped_line Change h = rw (part_all 2 n ws e, length-drop 2 ws)
  shaped_line Union h = let z : length ws - 1 ≡ 2 = omega (arith, eqb-true n 3 h) in rw (part_all 1 n ws e, z)
  shaped_line Bind h = let z : length ws - 1 ≡ 2 = omega (arith, eqb-true n 3 h) in rw (part_all 1 n ws e, z)
  shaped_line Panic h =
      let z : length ws - 1 ≡ 0 = omega (arith, eqb-true n 1 h) in
      rw (drop_of_length-le ws {i = 1} (omega (arith, eqb-true n 1 h)), z)
  shaped_line LocalLine h =
      let z : length ws - n ≡ 0 = omega arith in
      rw (part_one 1 ws (omega (arith, eqb-true n 3 h)), drop_of_length-le ws {i = n} (omega arith), z)
      (cond_yes (leb (length (with_terms d.term_names (at ws 1 ∷ []))) 256) _ _)
  shaped_line Sort h = refl
  shaped_line Fun h = refl
  shaped_line Ctor h = refl
  shaped_line Simple h = refl
  shaped_line Equal h = refl
  shaped_line Global h = refl
  shaped_line Context h = refl
  shaped_line Malformed h = refl

-- where its words stand; x and y are named, or there are none
stand : (h : Shape) (n : ℕ) → h.bound.start ≤ h.bound.end → h.bound.end ≤ h.args.start → h.args.start ≤ n → h.args.start ≤ h.args.end → h.args.end ≤ n → h.others.start ≤ n → h.others.end ≤ n → (is_silent h.way ≡ false → h.args.start ≤ 3)
    → ((j : ℕ) → h.others.start ≤ j → j < h.others.end → (h.bound.start ≤ j × j < h.bound.end) ⊎ (h.args.start ≤ j × j < n)) → Shaped h n
stand h n a b c d e f g i w = record { bound≤ = a; ends≤ = b; rest≤ = c; args≥ = d; args≤ = e; other≤ = f; others≤ = g; within = w; three = i }

none : {b e r n : ℕ} (x y : ℕ) → y ≤ x → (j : ℕ) → x ≤ j → j < y → (b ≤ j × j < e) ⊎ (r ≤ j × j < n)
none x y h j k l = absurd (omega arith)

silent_shaped : (n : ℕ) → Shaped (silent n) n
silent_shaped n = stand (silent n) n (omega arith) (omega arith) (omega arith) (omega arith) (omega arith) (omega arith) (omega arith) (λ z. absurd (let no : ◌≡◌ {A = ℕ} 0 1 = cc in omega arith)) (none 0 0 (omega arith))

plain_shaped : (way : Way) (kind : ℕ) → Shaped (plain way kind 1 (span 1 3)) 3
plain_shaped way kind = stand _ 3 (omega arith) (omega arith) (omega arith) (omega arith) (omega arith) (omega arith) (omega arith) (λ z. omega arith) (λ j k l. inr (k, l))

pub shape_shaped : (f : Form) (n : ℕ) → words_fit f n ≡ true → Shaped (shape_of f n) n
unfolding words_fit shape_of
shape_shaped Atom n h = let k = leb-true 2 n h in stand _ n (omega arith) (omega arith) (omega arith) (omega arith) (omega arith) (omega arith) (omega arith) (λ z. omega arith) (none 0 0 (omega arith))
shape_shaped Eq n h = let k = eqb-true n 3 h in stand _ n (omega arith) (omega arith) (omega arith) (omega arith) (omega arith) (omega arith) (omega arith) (λ z. omega arith) (none 0 0 (omega arith))
shape_shaped Let n h = let k = leb-true 3 n h in stand _ n (omega arith) (omega arith) (omega arith) (omega arith) (omega arith) (omega arith) (omega arith) (λ z. omega arith) (λ j a b. inl (a, b))
shape_shaped Set n h = let k = leb-true 3 n h in stand _ n (omega arith) (omega arith) (omega arith) (omega arith) (omega arith) (omega arith) (omega arith) (λ z. omega arith) (λ j a b. inr (omega arith, b))
shape_shaped Change n h = let k = leb-true 2 n h in stand _ n (omega arith) (omega arith) (omega arith) (omega arith) (omega arith) (omega arith) (omega arith) (λ z. omega arith) (none 0 0 (omega arith))
shape_shaped Union n h = rw (eqb-true n 3 h) (plain_shaped Action 3)
shape_shaped Bind n h = rw (eqb-true n 3 h) (plain_shaped Action 4)
shape_shaped Panic n h = let k = eqb-true n 1 h in stand _ n (omega arith) (omega arith) (omega arith) (omega arith) (omega arith) (omega arith) (omega arith) (λ z. omega arith) (none 0 0 (omega arith))
shape_shaped LocalLine n h = let k = eqb-true n 3 h in stand _ n (omega arith) (omega arith) (omega arith) (omega arith) (omega arith) (omega arith) (omega arith) (λ z. omega arith) (λ j a b. inl (a, b))
shape_shaped Sort n h = silent_shaped n
shape_shaped Fun n h = silent_shaped n
shape_shaped Ctor n h = silent_shaped n
shape_shaped Simple n h = silent_shaped n
shape_shaped Equal n h = silent_shaped n
shape_shaped Global n h = silent_shaped n
shape_shaped Context n h = silent_shaped n
shape_shaped Malformed n h = silent_shaped n

-- so a line ends as its shape says
module _ (f : Form) (count : ℕ) {h : Shape} (shape : h ≡ shape_of f count) (words-fit : words_fit f count ≡ true) where
  pub shaped_there : Shaped h count
  shaped_there = subst (λ (x : Shape). Shaped x count) (sym shape) (shape_shaped f count words-fit)

  pub ends_line : (s words : List ℕ) (place : ℕ) (n : Numbers) (t t' : Store) (r : Result Numbers Refusal) → Ends s n (say_by h.way h (decls_of s n t) (parts_of s words count) place) r t'
      → Ends s n (say_of f (decls_of s n t) (parts_of s words count) place) r t'
  ends_line s words place n t t' r x =
      subst (λ (y : Next). Ends s n y r t')
      (ap (λ (y : Shape). say_by y.way y (decls_of s n t) (parts_of s words count) place) shape
      ∙ sym (shaped_line (decls_of s n t) (parts_of s words count) place count (parts_count s words 0 count) f words-fit))
      x

-- the form of a line fits it
pub form_fits : (ws : List Word) (fs : List Form) → (first_form ws fs ≡ Malformed) ⊎ (fits (first_form ws fs) ws ≡ true)
unfolding first_form
form_fits ws [] = inl refl
form_fits ws (f ∷ fs) = by (fits f ws) refl (form_fits ws fs)
  where
    by : (b : Bool) → fits f ws ≡ b → (first_form ws fs ≡ Malformed) ⊎ (fits (first_form ws fs) ws ≡ true)
        → (cond b f (first_form ws fs) ≡ Malformed) ⊎ (fits (cond b f (first_form ws fs)) ws ≡ true)
    by true e h = inr e
    by false e h = h

-- a line that has a form has the words of the form
ends_there : (f : Form) (r : Pattern) (k i : ℕ) (ws : List Word) → kind_at r (k + i) ≡ Extra → pass_from (spelt f) r i ws ≡ true → length ws ≤ k
unfolding pass_from spelt
ends_there f r k i [] x h = omega arith
ends_there f r zero i (w ∷ ws) x h =
    let e : kind_at r i ≡ Extra = ap (kind_at r) (let z : i ≡ zero + i = omega arith in z) ∙ x in
    let b : spelt f (kind_at r i) w ≡ true = (and_true (spelt f (kind_at r i) w) (pass_from (spelt f) r (suc i) ws) h).0 in
    let z : ◌≡◌ {A = Bool} false true = ap (λ (q : Kind). spelt f q w) (sym e) ∙ b in
    let no : ◌≡◌ {A = ℕ} 0 1 = cc in
    absurd (omega arith)
ends_there f r (suc k) i (w ∷ ws) x h =
    let e : kind_at r (k + suc i) ≡ Extra = ap (kind_at r) (let z : k + suc i ≡ suc k + i = omega arith in z) ∙ x in
    omega (arith, ends_there f r k (suc i) ws e (and_true (spelt f (kind_at r i) w) (pass_from (spelt f) r (suc i) ws) h).1)

module _ (ws : List Word) where
  -- at least its fewest words; no more than k where word k is none
  fewest : (f : Form) → fits f ws ≡ true → leb (pattern_of f).fewest (length ws) ≡ true
  fewest f h = (and_true (leb (pattern_of f).fewest (length ws)) (pass_from (spelt f) (pattern_of f) 0 ws) h).0

  exactly : (f : Form) (k : ℕ) → (pattern_of f).fewest ≡ k → kind_at (pattern_of f) k ≡ Extra → fits f ws ≡ true → eqb (length ws) k ≡ true
  exactly f k e x h =
      let least : (pattern_of f).fewest ≤ length ws = leb-true (pattern_of f).fewest (length ws) (fewest f h) in
      let most : length ws ≤ k = ends_there f (pattern_of f) k 0 ws (rw add-zero x) (and_true (leb (pattern_of f).fewest (length ws)) (pass_from (spelt f) (pattern_of f) 0 ws) h).1 in
      eq-eqb (length ws) k (omega arith)

  fit_words : (f : Form) → fits f ws ≡ true → words_fit f (length ws) ≡ true
  unfolding words_fit pattern_of kind_at
  fit_words Atom h = fewest Atom h
  fit_words Eq h = exactly Eq 3 refl refl h
  fit_words Let h = fewest Let h
  fit_words Set h = fewest Set h
  fit_words Change h = fewest Change h
  fit_words Union h = exactly Union 3 refl refl h
  fit_words Bind h = exactly Bind 3 refl refl h
  fit_words Panic h = exactly Panic 1 refl refl h
  fit_words LocalLine h = exactly LocalLine 3 refl refl h
  fit_words Sort h = refl
  fit_words Fun h = refl
  fit_words Ctor h = refl
  fit_words Simple h = refl
  fit_words Equal h = refl
  fit_words Global h = refl
  fit_words Context h = refl
  fit_words Malformed h = refl

  pub form_words : words_fit (form_of ws) (length ws) ≡ true
  unfolding words_fit
  form_words = by (form_fits ws forms)
    where
      by : (form_of ws ≡ Malformed) ⊎ (fits (form_of ws) ws ≡ true) → words_fit (form_of ws) (length ws) ≡ true
      by (inl e) = rw e
      by (inr e) = fit_words (form_of ws) e
