-- One line: what was declared and what was said are together what the definition makes of it.
use Rattle.std.specs.Prelude.{ℕ, ◌<◌, ◌≤◌, ◌⊎◌, ◌≡◌, Bool, cond, List, [], ◌∷◌, eqb, ltb, leb, length, Result, Ok, Err, IfOk}
use Rattle.std.proofs.lemmas.Bool.{eqb-false}
use Rattle.definition.specs.declared.Refusal.{Refusal}
use Rattle.definition.specs.Numbers.{number_of}
use Rattle.definition.proofs.Laws.Numbers.{positive}
use Rattle.std.proofs.Common.{arith, inl, inr, sym, ◌∙◌}
use Rattle.std.proofs.Math.Path.{refl, ap}
use Rattle.std.proofs.Math.Bool.{true, false}
use borrow.Author.Tests.{ltb-true, leb-true}
use Rattle.definition.proofs.Laws.Lists.{and_true}
use Rattle.text_words.specs.Names.{number_below}
use Rattle.text_words.specs.Parts.{part_at, parts_of}
use Rattle.text_words.specs.Laws.Parts.{parts_count}
use Rattle.text_words.specs.Laws.Table.{part_there}
use Rattle.text_grammar.specs.declared.Form.{Form}
use Rattle.text_grammar.specs.declared.Form.TheVariants.{Sort, Fun, Ctor, Simple, Equal, Global, Context, Atom, Set, Change, Eq, Union, Let, Bind, Panic, Local, Malformed}
use Rattle.text_grammar.specs.Bytes.{Word}
use Rattle.text_grammar.specs.Grammar.{pattern_of, kind_at, spelt, pass_from, fits, forms, form_of, context_bound}
use Rattle.text_definition.specs.declared.Numbers.{Numbers}
use Rattle.text_definition.specs.Decls.{Decls, all_known}
use Rattle.text_definition.specs.Declare.{Next, refused, next}
use Rattle.text_definition.specs.Run.{at, line_of, line_on, if_known, line}
use Rattle.text_definition.specs.Store.{Store, Sized, Within, decls_of}
use Rattle.text_declare.specs.declared.Step.{Step}
use Rattle.text_declare.specs.Forms.{order_of}
use Rattle.text_declare.specs.Steps.{taken, in_context, sort_fits, global_fits, context_step}
use Rattle.text_declare.specs.Signatures.{is_signature, signature_fits, signature_step}
use Rattle.text_declare.specs.After.{next_from, step_after, store_after, sorts_now, after_sort, after_global}
use Rattle.text_declare.specs.Lines.{never, declares, declared_line}
use Rattle.text_terms.specs.Shape.{shape_of}
use Rattle.text_calls.specs.Shape.{say_of, words_fit}
use Rattle.text_calls.specs.Line.{Ends}
use Rattle.text_calls.specs.Laws.Shape.{form_fits, form_words}
use Rattle.text_opening.specs.Opening.{Verdict, without, settled, verdict_at, begun}
use Rattle.text_lines.specs.Line.{numbered, joined, left_from, InSizes}

module _ (ws : List Word) where
  enough : (f : Form) → (f ≡ Malformed) ⊎ (fits f ws ≡ true) → (pattern_of f).fewest ≤ length ws
  unfolding pattern_of
  enough f (inl e) = rw e (omega arith)
  enough f (inr e) = leb-true (pattern_of f).fewest (length ws) (and_true (leb (pattern_of f).fewest (length ws)) (pass_from (spelt f) (pattern_of f) 0 ws) e).0

  pub fewest_words : (pattern_of (form_of ws)).fewest ≤ length ws
  fewest_words = enough (form_of ws) (form_fits ws forms)

-- a context is below 8
context_spelt : (ws : List Word) → fits Context ws ≡ true → (1 < length ws) × (number_below context_bound (at ws 1) < context_bound)
unfolding pattern_of pass_from spelt kind_at
context_spelt [] e = never e
context_spelt (w ∷ []) e = never e
context_spelt (w ∷ v ∷ ws) e =
    let tests = (and_true (leb 2 (length (w ∷ v ∷ ws))) (pass_from (spelt Context) (pattern_of Context) 0 (w ∷ v ∷ ws)) e).1 in
    let rest = (and_true (spelt Context (kind_at (pattern_of Context) 0) w) (pass_from (spelt Context) (pattern_of Context) 1 (v ∷ ws)) tests).1 in
    (omega arith, ltb-true (number_below context_bound v) context_bound (and_true (ltb (number_below context_bound v) context_bound) (pass_from (spelt Context) (pattern_of Context) 2 ws) rest).0)

context_below : (ws : List Word) (f : Form) → (f ≡ Malformed) ⊎ (fits f ws ≡ true) → eqb (order_of f) 6 ≡ true → (1 < length ws) × (number_below context_bound (at ws 1) < context_bound)
context_below ws f (inl h) e = never (rw h at e)
context_below ws Context (inr h) e = context_spelt ws h
context_below ws Sort (inr h) e = never e
context_below ws Fun (inr h) e = never e
context_below ws Ctor (inr h) e = never e
context_below ws Simple (inr h) e = never e
context_below ws Equal (inr h) e = never e
context_below ws Global (inr h) e = never e
context_below ws Atom (inr h) e = never e
context_below ws Set (inr h) e = never e
context_below ws Change (inr h) e = never e
context_below ws Eq (inr h) e = never e
context_below ws Union (inr h) e = never e
context_below ws Let (inr h) e = never e
context_below ws Bind (inr h) e = never e
context_below ws Panic (inr h) e = never e
context_below ws Local (inr h) e = never e
context_below ws Malformed (inr h) e = never e

-- what both ways of a step leave as it was, the step leaves
same_both : (f : Step → ℕ) (own fits : Bool) (x y step : Step) → f x ≡ f step → f y ≡ f step → f (cond own (cond fits x y) step) ≡ f step
same_both f true true x y step p q = p
same_both f true false x y step p q = q
same_both f false fits x y step p q = refl

-- only a line of that form changes the context
abbrev context_of : Step → ℕ
context_of step = step.numbers.context

module _ (form : ℕ) (step : Step) where
  context_step_lem : (s words : List ℕ) → (eqb form 6 ≡ true → number_below context_bound (part_at s words 1) < context_bound) → step.numbers.context < context_bound
      → (context_step form step s words).numbers.context < context_bound
  context_step_lem s words h k = by (eqb form 6) h
    where
      by : (a : Bool) → (a ≡ true → number_below context_bound (part_at s words 1) < context_bound)
          → (cond a (taken (in_context step.numbers (number_below context_bound (part_at s words 1)))) step).numbers.context < context_bound
      by true h = h refl
      by false h = k

context_after : (form : ℕ) (step : Step) (s words : List ℕ) (count : ℕ) (t : Store) → (eqb form 6 ≡ true → number_below context_bound (part_at s words 1) < context_bound)
    → step.numbers.context < context_bound → (step_after form step s words count t).numbers.context < context_bound
context_after form step s words count t h k =
    let b = after_sort form step s words count t in
    let g = after_global form step s words count t in
    let e : context_of (signature_step form g s words count (sorts_now form step s words count t)) ≡ context_of step =
    same_both context_of (is_signature form) (signature_fits form g s words count (sorts_now form step s words count t)) _ _ g refl refl
    ∙ same_both context_of (eqb form 5) (global_fits b) _ _ b refl refl ∙ same_both context_of (eqb form 0) (sort_fits step) _ _ step refl refl in
    context_step_lem form (signature_step form g s words count (sorts_now form step s words count t)) s words h (rw e k)

-- what was said, behind what was declared
module _ (s : List ℕ) (m : Numbers) (t : Store) where
  said : (x : Next) (a : Result Numbers Refusal) → Ends s m x a t → left_from s (numbered a) t ≡ x
  said (refused k) (Err e) h = ap refused h
  said (next d) (Ok n) h = ap next h.decls
  said (refused k) (Ok n) h = absurd h
  said (next d) (Err e) h = absurd h

  said_line : (n : Numbers) (x : Next) (a : Result Numbers Refusal) → Ends s m x a t → left_from s (joined (taken n) a) t ≡ x
  said_line n x a h = said x a h

  silent_line : (d : Step) (t₁ : Store) (a : Result Numbers Refusal) → Ends s m (next (decls_of s d.numbers t₁)) a t → left_from s (joined d a) t ≡ next_from s d t₁
  silent_line d t₁ a h = by (eqb d.refused 0)
    where
      by : (b : Bool) → left_from s (cond b (numbered a) (Err d.refused)) t ≡ cond b (next (decls_of s d.numbers t₁)) (refused d.refused)
      by true = said (next (decls_of s d.numbers t₁)) a h
      by false = refl

  said_sizes : (x : Next) (a : Result Numbers Refusal) → Ends s m x a t → m.context < context_bound → InSizes (numbered a)
  said_sizes x (Err e) h w = λ z. let p : 0 < number_of e = positive e in omega arith
  said_sizes (next d) (Ok n) h w = (h.within', rw h.context' w)
  said_sizes (refused k) (Ok n) h w = absurd h

  pub joined_sizes : (d : Step) (x : Next) (a : Result Numbers Refusal) → Ends s m x a t → m.context < context_bound → InSizes (joined d a)
  joined_sizes d x a h w = by (eqb d.refused 0) refl
    where
      by : (b : Bool) → eqb d.refused 0 ≡ b → InSizes (cond b (numbered a) (Err d.refused))
      by true e = said_sizes x a h w
      by false e = eqb-false d.refused 0 e

  said_within : (x : Next) (a : Result Numbers Refusal) → Ends s m x a t → IfOk (numbered a) Within
  said_within x (Err e) h = tt
  said_within (next d) (Ok n) h = h.within'
  said_within (refused k) (Ok n) h = absurd h

  pub joined_within : (d : Step) (x : Next) (a : Result Numbers Refusal) → Ends s m x a t → IfOk (joined d a) Within
  joined_within d x a h = by (eqb d.refused 0)
    where
      by : (b : Bool) → IfOk (cond b (numbered a) (Err d.refused)) Within
      by true = said_within x a h
      by false = tt

  said_context : (x : Next) (a : Result Numbers Refusal) → Ends s m x a t → m.context < context_bound → IfOk (numbered a) (λ n. n.context < context_bound)
  said_context x (Err e) h w = tt
  said_context (next d) (Ok n) h w = rw h.context' w
  said_context (refused k) (Ok n) h w = absurd h

  pub joined_context : (d : Step) (x : Next) (a : Result Numbers Refusal) → Ends s m x a t → m.context < context_bound → IfOk (joined d a) (λ n. n.context < context_bound)
  joined_context d x a h w = by (eqb d.refused 0)
    where
      by : (b : Bool) → IfOk (cond b (numbered a) (Err d.refused)) (λ n. n.context < context_bound)
      by true = said_context x a h w
      by false = tt

-- the whole line
module _ (s words : List ℕ) (count : ℕ) (n : Numbers) (t : Store) where
  abbrev ws : List Word
  ws = parts_of s words count

  abbrev d : Decls
  d = decls_of s n t

  -- of a line with this verdict: what is left once it is declared
  abbrev pub declared_step : Verdict → Step
  declared_step v = step_after (order_of v.form) (begun v n) s words count t

  abbrev pub declared_store : Verdict → Store
  declared_store v = store_after (order_of v.form) (begun v n) s words count t

  abbrev chosen : Bool → Bool → Verdict
  chosen empty known = cond empty (without 0) (settled (form_of ws) known)

  context_of_lem : (b k : Bool) → eqb (order_of (chosen b k).form) 6 ≡ true → number_below context_bound (part_at s words 1) < context_bound
  context_of_lem true k e = never e
  context_of_lem false false e = never e
  context_of_lem false true e =
      let h = context_below ws (form_of ws) (form_fits ws forms) e in
      let l : 1 < count = omega (arith, h.0, parts_count s words 0 count) in
      rw (part_there s words count 1 l) at h.1

  pub context_then : (bytes : ℕ) → n.context < context_bound → (declared_step (verdict_at s bytes n t words count)).numbers.context < context_bound
  context_then bytes h =
      let v = verdict_at s bytes n t words count in
      context_after (order_of v.form) (begun v n) s words count t (context_of_lem (eqb bytes 0) (all_known d (form_of ws) ws)) h

  fit_of : (b k : Bool) → words_fit (chosen b k).form count ≡ true
  unfolding words_fit
  fit_of true k = refl
  fit_of false false = refl
  fit_of false true = ap (words_fit (form_of ws)) (sym (parts_count s words 0 count)) ∙ form_words ws

  pub words_then : (bytes : ℕ) → words_fit (verdict_at s bytes n t words count).form count ≡ true
  words_then bytes = fit_of (eqb bytes 0) (all_known d (form_of ws) ws)

  module _ (room : Sized t) (place : ℕ) (a : Result Numbers Refusal) (t₂ : Store) where
    abbrev Said : Verdict → Type 0
    Said v = Ends s (declared_step v).numbers (say_of v.form (decls_of s (declared_step v).numbers (declared_store v)) ws place) a t₂

    abbrev Left : Verdict → Next
    Left v = left_from s (joined (declared_step v) a) t₂

    declaring : (f : Form) → declares f ≡ true → (pattern_of f).fewest ≤ count
        → Ends s (step_after (order_of f) (taken n) s words count t).numbers (next (decls_of s (step_after (order_of f) (taken n) s words count t).numbers (store_after (order_of f) (taken n) s words count t))) a t₂
        → left_from s (joined (step_after (order_of f) (taken n) s words count t) a) t₂ ≡ line_of f d ws place
    declaring f e h q =
        silent_line s (step_after (order_of f) (taken n) s words count t).numbers t₂ (step_after (order_of f) (taken n) s words count t) (store_after (order_of f) (taken n) s words count t) a q
        ∙ declared_line s words count n t room f place e h

    form_line : (f : Form) → (pattern_of f).fewest ≤ count → Said (settled f true) → Left (settled f true) ≡ line_of f d ws place
    unfolding shape_of line_of
    form_line Sort h e = declaring Sort refl h e
    form_line Fun h e = declaring Fun refl h e
    form_line Ctor h e = declaring Ctor refl h e
    form_line Simple h e = declaring Simple refl h e
    form_line Equal h e = declaring Equal refl h e
    form_line Global h e = declaring Global refl h e
    form_line Context h e = declaring Context refl h e
    form_line Atom h e = said_line s n t₂ n (line_of Atom d ws place) a e
    form_line Set h e = said_line s n t₂ n (line_of Set d ws place) a e
    form_line Change h e = said_line s n t₂ n (line_of Change d ws place) a e
    form_line Eq h e = said_line s n t₂ n (line_of Eq d ws place) a e
    form_line Union h e = said_line s n t₂ n (line_of Union d ws place) a e
    form_line Let h e = said_line s n t₂ n (line_of Let d ws place) a e
    form_line Bind h e = said_line s n t₂ n (line_of Bind d ws place) a e
    form_line Panic h e = said_line s n t₂ n (line_of Panic d ws place) a e
    form_line Local h e = said_line s n t₂ n (line_of Local d ws place) a e
    form_line Malformed h e = refl

    line_by : (b k : Bool) → Said (chosen b k) → Left (chosen b k) ≡ cond b (next d) (if_known k (form_of ws) d ws place)
    unfolding shape_of if_known
    line_by true k e = said_line s n t₂ n (next d) a e
    line_by false false e = refl
    line_by false true e = form_line (form_of ws) (omega (arith, fewest_words ws, parts_count s words 0 count)) e

    pub whole_line : (bytes : ℕ) → let v = verdict_at s bytes n t words count in Said v → Left v ≡ cond (eqb bytes 0) (next d) (line d ws place)
    unfolding line_on
    whole_line bytes e = line_by (eqb bytes 0) (all_known d (form_of ws) ws) e
