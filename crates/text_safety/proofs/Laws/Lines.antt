-- Every line keeps what holds, or is refused with a number that may be shown.
use Rattle.std.specs.Prelude.{ℕ, zero, suc, ◌+◌, ◌-◌, ◌≤◌, ◌<◌, ◌≡◌, ◌⊎◌, Bool, ◌||◌, cond, leb, ltb}
use native.Mathlib.Omega.{arith}
use Rattle.std.proofs.Math.Decide.{dec_lt}
use Rattle.std.proofs.Math.Path.{refl, ap}
use Rattle.std.proofs.Common.{sym, ◌∙◌, inl, inr, get_or-drop, ltb-true, leb-true}
use Rattle.std.proofs.Math.Bool.{true, false}
use Rattle.std.proofs.lemmas.Bool.{false≢true}
use mathlib.Core.List.Memᴰ
use mathlib.Core.List.{List, [], ◌∷◌}
use Rattle.std.proofs.Math.ListN.{length, drop, length-take, length-drop}
use Rattle.definition.proofs.Laws.Lists.{and_true}
use Rattle.rule_lent.specs.Fit.{max_length}
use Rattle.text_words.specs.Names.{is_absent, is_variable, number_below}
use Rattle.text_words.specs.Parts.{find}
use Rattle.text_grammar.specs.declared.Form.{Form}
use Rattle.text_grammar.specs.declared.Form.TheVariants.{Sort, Fun, Ctor, Simple, Equal, Global, Context, Atom, Set, Change, Eq, Union, Let, Bind, Panic, Local, Malformed}
use Rattle.text_grammar.specs.declared.Kind.TheVariants.{KnownSort, Term, Variable, Extra}
use Rattle.text_grammar.specs.Bytes.{Word}
use Rattle.text_grammar.specs.Grammar.{pattern_of, kind_at, spelt, pass_from, fits, first_form, form_of, forms, mask_bound, context_bound, length_bound}
use Rattle.text_definition.specs.Decls.{Decls, is_in, known_in, known, known_term, all_known}
use Rattle.text_definition.specs.Declare.{add_global, add_signature, set_context, simple, all_equal, sort_cell, length_cell}
use Rattle.text_definition.specs.Say.{say, say_local}
use Rattle.text_definition.specs.Run.{at, query, action, plain, all_but_last, last_of, line_of, if_known, line_on, line}
use Rattle.text_safety.proofs.Laws.Words.{Of, word_at, of_take, from_words, passes, From, from_four, from_three, from_two, Known, in_known, word_kind, variable_kind, variable_known}
use Rattle.text_safety.proofs.Laws.Tables.{SaysFits}
use Rattle.text_safety.proofs.Laws.Good.{Good, After, told_50, told_51}
use Rattle.text_safety.proofs.Laws.Declared.{sort_added, global_added, head_added, context_set}
use Rattle.text_safety.proofs.Laws.Said.{said_kept, local_kept}

-- a line fits its form, or has none
form_fits : (ws : List Word) (fs : List Form) → (fits (first_form ws fs) ws ≡ true) ⊎ (first_form ws fs ≡ Malformed)
unfolding first_form
form_fits ws [] = inr refl
form_fits ws (g ∷ fs) = on (fits g ws) refl (form_fits ws fs)
  where
    on : (b : Bool) → fits g ws ≡ b → (fits (first_form ws fs) ws ≡ true) ⊎ (first_form ws fs ≡ Malformed) →
        (fits (cond b g (first_form ws fs)) ws ≡ true) ⊎ (cond b g (first_form ws fs) ≡ Malformed)
    on true h k = inl h
    on false h k = k

-- the words of a line that fits its form and whose names are known
pub record Read (d : Decls) (f : Form) (ws : List Word) : Type 0 where
  pub enough : (pattern_of f).fewest ≤ length ws
  pub spells : (k : ℕ) → k < length ws → spelt f (kind_at (pattern_of f) k) (at ws k) ≡ true
  pub knows : (k : ℕ) → k < length ws → known d (kind_at (pattern_of f) k) (at ws k) ≡ true

pub read : (d : Decls) (f : Form) (ws : List Word) → fits f ws ≡ true → all_known d f ws ≡ true → Read d f ws
read d f ws h k =
    let (a, b) = and_true (leb (pattern_of f).fewest (length ws)) (pass_from (spelt f) (pattern_of f) 0 ws) h in
    record { enough = leb-true (pattern_of f).fewest (length ws) a; spells = passes (spelt f) (pattern_of f) ws b; knows = passes (known d) (pattern_of f) ws k }

module _ (d : Decls) (f : Form) (ws : List Word) (r : Read d f ws) where
  -- the words from number k on are known sorts, or known terms
  sorts_from : (k : ℕ) → From (pattern_of f) KnownSort k → (w : Word) → Of w (drop k ws) → Known w d.sort_names
  unfolding known_in
  sorts_from k e = from_words (λ w. Known w d.sort_names) k ws (λ j l h. in_known (at ws j) d.sort_names (rw (e j l) at (r.knows j h)))

  -- a word for a term
  abbrev ForTerm : ℕ → Type 0
  ForTerm k = (kind_at (pattern_of f) k ≡ Term) ⊎ (kind_at (pattern_of f) k ≡ Variable)

  spelt_variable : (k : ℕ) → k < length ws → kind_at (pattern_of f) k ≡ Variable → is_variable (at ws k) ≡ true
  unfolding spelt
  spelt_variable k h e = rw e at (r.spells k h)

  bound : (k : ℕ) → k < length ws → kind_at (pattern_of f) k ≡ Variable → word_kind (at ws k) ≡ 0
  bound k h e = variable_kind (at ws k) (spelt_variable k h e)

  term_at : (k : ℕ) → k < length ws → ForTerm k → known_term d.sort_names d.global_names (at ws k) ≡ true
  unfolding known_in
  term_at k h (inl e) = rw e at (r.knows k h)
  term_at k h (inr e) = variable_known d.sort_names d.global_names (at ws k) (spelt_variable k h e)

  terms_from : (k : ℕ) → ((j : ℕ) → k ≤ j → j < length ws → ForTerm j) → (w : Word) → Of w (drop k ws) → known_term d.sort_names d.global_names w ≡ true
  terms_from k e = from_words (λ w. known_term d.sort_names d.global_names w ≡ true) k ws (λ j l h. term_at j h (e j l h))

  all_terms : (k : ℕ) → From (pattern_of f) Term k → (w : Word) → Of w (drop k ws) → known_term d.sort_names d.global_names w ≡ true
  all_terms k e = terms_from k (λ j l h. inl (e j l))

  -- no word where there may be none
  no_more : (k : ℕ) → kind_at (pattern_of f) k ≡ Extra → length ws ≤ k
  unfolding spelt
  no_more k e = on (dec_lt k (length ws))
    where
      on : Dec (k < length ws) → length ws ≤ k
      on (yes h) = absurd (false≢true (rw e at (r.spells k h)))
      on (no h) = omega arith

  -- two words for terms, and no more
  two_terms : ForTerm 1 → ForTerm 2 → kind_at (pattern_of f) 3 ≡ Extra → (w : Word) → Of w (drop 1 ws) → known_term d.sort_names d.global_names w ≡ true
  two_terms a b c = terms_from 1 (λ j l h. on j l (omega (arith, no_more 3 c)))
    where
      on : (j : ℕ) → 1 ≤ j → j < 3 → ForTerm j
      on zero l h = absurd (omega arith)
      on (suc zero) l h = a
      on (suc (suc zero)) l h = b
      on (suc (suc (suc j))) l h = absurd (omega arith)

nothing_of : (ws : List Word) (w : Word) → Of w [] → Of w ws
nothing_of ws w m = elim m [ ]

-- a sort, or absent; a length, or absent
absent_or : (a b : Bool) → a || b ≡ true → (a ≡ false → b ≡ true)
absent_or true b h e = absurd (false≢true (sym e))
absent_or false b h e = h

sort_cell_lem : (d : Decls) (w : Word) → is_absent w || is_in w d.sort_names ≡ true → sort_cell d w ≤ length d.sort_names
sort_cell_lem d w h = on (is_absent w) (absent_or (is_absent w) (is_in w d.sort_names) h)
  where
    on : (b : Bool) → (b ≡ false → is_in w d.sort_names ≡ true) → cond b 0 (suc (find w d.sort_names)) ≤ length d.sort_names
    on true f = omega arith
    on false f = omega (arith, in_known w d.sort_names (f refl))

length_cell_lem : (w : Word) → is_absent w || ltb (number_below length_bound w) length_bound ≡ true → length_cell w ≤ max_length + 1
length_cell_lem w h = on (is_absent w) (absent_or (is_absent w) (ltb (number_below length_bound w) length_bound) h)
  where
    on : (b : Bool) → (b ≡ false → ltb (number_below length_bound w) length_bound ≡ true) → cond b 0 (suc (number_below length_bound w)) ≤ max_length + 1
    on true f = omega arith
    on false f = omega (arith, ltb-true (number_below length_bound w) length_bound (f refl))

-- lines, by their form
module _ (d : Decls) (o : Good d) (ws : List Word) (place : ℕ) where
  of_signature : (f : Form) (kind mask k : ℕ) → Read d f ws → From (pattern_of f) KnownSort k → SaysFits (length d.sort_names) kind 0 0 0 →
      After (add_signature d (at ws 1) (simple kind mask (drop k ws)))
  of_signature f kind mask k r e h = head_added d o (at ws 1) (simple kind mask (drop k ws)) (sorts_from d f ws r k e) h

  of_equal : Read d Equal ws → After (add_signature d (at ws 1) (all_equal d (number_below mask_bound (at ws 2)) (at ws 4) (at ws 5) (at ws 6)))
  unfolding pattern_of kind_at known_in spelt
  of_equal r =
      head_added d o (at ws 1) (all_equal d (number_below mask_bound (at ws 2)) (at ws 4) (at ws 5) (at ws 6)) (λ w m. elim m [ ])
      (sort_cell_lem d (at ws 4) (r.knows 4 (omega (arith, r.enough))), length_cell_lem (at ws 5) (r.spells 5 (omega (arith, r.enough))), sort_cell_lem d (at ws 6) (r.knows 6 (omega (arith, r.enough))))

  of_global : Read d Global ws → After (add_global d (at ws 1) (at ws 2))
  unfolding pattern_of kind_at known_in
  of_global r = global_added d o (at ws 1) (at ws 2) (in_known (at ws 2) d.sort_names (r.knows 2 (omega (arith, r.enough))))

  of_context : Read d Context ws → After (set_context d (number_below context_bound (at ws 1)))
  unfolding pattern_of kind_at spelt
  of_context r = context_set d o (number_below context_bound (at ws 1)) (ltb-true (number_below context_bound (at ws 1)) context_bound (r.spells 1 (omega (arith, r.enough))))

  of_atom : Read d Atom ws → After (say d (query 0 true (at ws 1) (drop 2 ws)) (length (drop 2 ws)) place)
  unfolding pattern_of
  of_atom r =
      said_kept d o (query 0 true (at ws 1) (drop 2 ws)) (length (drop 2 ws)) place
      (record { known = all_terms d Atom ws r 2 (from_two (pattern_of Atom) Term refl refl refl refl refl refl); args = λ w m. m; others = nothing_of (drop 2 ws); shape = tt }) (omega arith)

  of_eq : Read d Eq ws → After (say d (query 1 false [] (drop 1 ws)) 2 place)
  unfolding pattern_of kind_at
  of_eq r =
      said_kept d o (query 1 false [] (drop 1 ws)) 2 place
      (record { known = two_terms d Eq ws r (inl refl) (inl refl) refl; args = λ w m. m; others = nothing_of (drop 1 ws); shape = tt })
      (omega (arith, no_more d Eq ws r 3 refl, length-drop 1 ws))

  of_let : Read d Let ws → After (say d (action 0 (at ws 2) (at ws 1 ∷ drop 3 ws) (drop 3 ws) (at ws 1 ∷ [])) (length (drop 3 ws)) place)
  unfolding pattern_of kind_at
  of_let r =
      said_kept d o (action 0 (at ws 2) (at ws 1 ∷ drop 3 ws) (drop 3 ws) (at ws 1 ∷ [])) (length (drop 3 ws)) place
      (record { known = there; args = λ w m. Memᴰ.tail m; others = first; shape = (omega arith, bound d Let ws r 1 (omega (arith, r.enough)) refl) }) (omega arith)
    where
      there : (w : Word) → Of w (at ws 1 ∷ drop 3 ws) → known_term d.sort_names d.global_names w ≡ true
      there w (Memᴰ.head e) = rw e (term_at d Let ws r 1 (omega (arith, r.enough)) (inr refl))
      there w (Memᴰ.tail m) = all_terms d Let ws r 3 (from_three (pattern_of Let) Term refl refl refl refl refl) w m

      first : (w : Word) → Of w (at ws 1 ∷ []) → Of w (at ws 1 ∷ drop 3 ws)
      first w (Memᴰ.head e) = Memᴰ.head e
      first w (Memᴰ.tail m) = elim m [ ]

  of_set : Read d Set ws →
      After (say d (action 1 (at ws 1) (drop 2 ws) (all_but_last (drop 2 ws)) (last_of (drop 2 ws) ∷ [])) (length (drop 2 ws)) place)
  unfolding pattern_of
  of_set r =
      said_kept d o (action 1 (at ws 1) (drop 2 ws) (all_but_last (drop 2 ws)) (last_of (drop 2 ws) ∷ [])) (length (drop 2 ws)) place
      (record { known = all_terms d Set ws r 2 (from_two (pattern_of Set) Term refl refl refl refl refl refl); args = λ w m. of_take w (length (drop 2 ws) - 1) (drop 2 ws) m; others = last; shape = omega arith })
      (omega (arith, length-take (length (drop 2 ws) - 1) (drop 2 ws)))
    where
      last : (w : Word) → Of w (last_of (drop 2 ws) ∷ []) → Of w (drop 2 ws)
      last w (Memᴰ.head e) = rw e (word_at (drop 2 ws) (length (drop 2 ws) - 1) (omega (arith, r.enough, length-drop 2 ws)))
      last w (Memᴰ.tail m) = elim m [ ]

  of_change : Read d Change ws → After (say d (action 2 (at ws 1) (drop 2 ws) (drop 2 ws) []) (length (drop 2 ws)) place)
  unfolding pattern_of
  of_change r =
      said_kept d o (action 2 (at ws 1) (drop 2 ws) (drop 2 ws) []) (length (drop 2 ws)) place
      (record { known = all_terms d Change ws r 2 (from_two (pattern_of Change) Term refl refl refl refl refl refl); args = λ w m. m; others = nothing_of (drop 2 ws); shape = tt }) (omega arith)

  of_union : Read d Union ws → After (say d (plain 3 (drop 1 ws)) 2 place)
  unfolding pattern_of kind_at
  of_union r =
      said_kept d o (plain 3 (drop 1 ws)) 2 place
      (record { known = two_terms d Union ws r (inl refl) (inl refl) refl; args = nothing_of (drop 1 ws); others = λ w m. m; shape = omega (arith, r.enough, length-drop 1 ws) }) (omega arith)

  of_bind : Read d Bind ws → After (say d (plain 4 (drop 1 ws)) 1 place)
  unfolding pattern_of kind_at
  of_bind r =
      said_kept d o (plain 4 (drop 1 ws)) 1 place
      (record {
        known = two_terms d Bind ws r (inr refl) (inl refl) refl;
        args = nothing_of (drop 1 ws);
        others = λ w m. m;
        shape = (omega (arith, r.enough, length-drop 1 ws), ap word_kind (get_or-drop 1 ws 0 []) ∙ bound d Bind ws r 1 (omega (arith, r.enough)) refl);
      }) (omega arith)

  of_panic : After (say d (plain 5 []) 0 place)
  of_panic = said_kept d o (plain 5 []) 0 place (record { known = λ w m. elim m [ ]; args = λ w m. m; others = λ w m. m; shape = tt }) (omega arith)

  of_local : Read d Local ws → After (say_local d (at ws 1) (at ws 2) place)
  unfolding pattern_of kind_at known_in
  of_local r =
      let l : 3 ≤ length ws = r.enough in
      local_kept d o (at ws 1) (at ws 2) place (bound d Local ws r 1 (omega arith) refl) (term_at d Local ws r 1 (omega arith) (inr refl))
      (in_known (at ws 2) d.sort_names (r.knows 2 (omega arith)))

  of_form : (f : Form) → Read d f ws → After (line_of f d ws place)
  unfolding line_of pattern_of
  of_form Sort r = sort_added d o (at ws 1)
  of_form Fun r = of_signature Fun 0 0 2 r (from_two (pattern_of Fun) KnownSort refl refl refl refl refl refl) tt
  of_form Ctor r = of_signature Ctor 1 0 2 r (from_two (pattern_of Ctor) KnownSort refl refl refl refl refl refl) tt
  of_form Simple r = of_signature Simple 2 (number_below mask_bound (at ws 2)) 4 r (from_four (pattern_of Simple) KnownSort refl refl refl refl) tt
  of_form Equal r = of_equal r
  of_form Global r = of_global r
  of_form Context r = of_context r
  of_form Atom r = of_atom r
  of_form Eq r = of_eq r
  of_form Let r = of_let r
  of_form Set r = of_set r
  of_form Change r = of_change r
  of_form Union r = of_union r
  of_form Bind r = of_bind r
  of_form Panic r = of_panic
  of_form Local r = of_local r
  of_form Malformed r = told_50

  if_known_lem : (b : Bool) (f : Form) → (b ≡ true → After (line_of f d ws place)) → After (if_known b f d ws place)
  unfolding if_known
  if_known_lem true f h = h refl
  if_known_lem false f h = told_51

  pub line_kept : After (line d ws place)
  unfolding line_on
  line_kept = on (form_fits ws forms)
    where
      on : (fits (form_of ws) ws ≡ true) ⊎ (form_of ws ≡ Malformed) → After (if_known (all_known d (form_of ws) ws) (form_of ws) d ws place)
      on (inl h) = if_known_lem (all_known d (form_of ws) ws) (form_of ws) (λ k. of_form (form_of ws) (read d (form_of ws) ws h k))
      on (inr e) = rw e (if_known_lem (all_known d Malformed ws) Malformed (λ k. unfold line_of in told_50))
