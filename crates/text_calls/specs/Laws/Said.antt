-- A line that is named and asked leaves what the definition says.
use Rattle.std.specs.Prelude.{ℕ, zero, suc, ◌-◌, ◌*◌, ◌<◌, ◌≤◌, min, ◌≡◌, refl, Bool, ◌&&◌, cond, leb, eqb, drop, get_or, is_some, Result, Ok, Err, is_ok}
use Rattle.std.proofs.Common.{arith, sym, ◌∙◌, le-leb, leb-true, leb-false, eqb-true}
use Rattle.std.proofs.Math.Path.{ap, subst}
use Rattle.std.proofs.Math.Bool.{true, false}
use mathlib.Core.List.{List, [], ◌++◌}
use Rattle.std.proofs.lemmas.Bool.{lt-leb, eqb-false}
use Rattle.std.proofs.Math.ListN.{length, replicate}
use Rattle.std.proofs.lemmas.List.Edits.{sets}
use Rattle.std.proofs.Math.Seq.{drop-append_seam}
use Rattle.definition.specs.declared.Counts.{Counts}
use Rattle.definition.specs.declared.Refusal.{Refusal}
use Rattle.definition.specs.Numbers.{number_of}
use Rattle.definition.specs.Refusal.{first_given}
use Rattle.definition.specs.Problem.{Problem}
use Rattle.definition.proofs.Laws.Lists.{and_true}
use Rattle.definition.proofs.Laws.Numbers.{positive as some_number}
use Rattle.solve_records.specs.Lent.{lent as problem_of}
use Rattle.rule_heads.specs.Alternatives.{function_of, is_constructor, alternatives, head_refusal}
use Rattle.rule_lent.specs.Fit.{Lending}
use Rattle.rule_lent.specs.Lend as Lend
use Rattle.rule_steps.specs.Given.{Verdict, refused, added}
use Rattle.rule_calls.specs.declared.Added.{Added}
use Rattle.rule_calls.specs.Exit.{state_of, call_verdict, local_verdict, answer_of, problem_after}
use Rattle.rule_calls.specs.Left.{ActionsLeft}
use Rattle.rule_calls.specs.Laws.Run.{Numbered}
use Rattle.text_words.specs.Parts.{parts_of}
use Rattle.text_words.specs.Laws.Parts.{parts_count}
use Rattle.text_grammar.specs.Bytes.{Word}
use Rattle.text_definition.specs.declared.Numbers.{Numbers}
use Rattle.text_definition.specs.Decls.{Decls, counted}
use Rattle.text_definition.specs.Declare as Next
use Rattle.text_definition.specs.Say.{with_terms, cells_with, cells_of_all, numbers as numbers_of, cells_of_call, lending, with_problem, after_call, too_many}
use Rattle.text_definition.specs.Store.{Store, store, decls_of, Within}
use Rattle.text_definition.specs.Run.{at}
use Rattle.text_terms.specs.declared.shape.Shape.{Shape}
use Rattle.text_terms.specs.declared.shape.Way.{Way}
use Rattle.text_terms.specs.declared.shape.Way.TheVariants.{Silent, Query, Action, Local}
use Rattle.text_terms.specs.declared.call.Call.{Call}
use Rattle.text_terms.specs.Shape.{said_by, named, is_query, is_silent, fitting, Shaped}
use Rattle.text_calls.specs.Shape.{verdict_of, say_named_by, say_by}
use Rattle.text_terms.specs.Named.{new_terms, naming, NamedLine, Unnamed}
use Rattle.text_terms.specs.Call.{too_many_on, call_by, sort_by, call_cells, lent_by, counts_by, numbers_by}
use Rattle.text_calls.specs.Ask.{arguments_of, verdict_by, Kept, Asked}
use Rattle.text_calls.specs.Refusal.{refusal_of, answered}
use Rattle.text_calls.specs.Line.{word_numbers, Ends, settled}
use Rattle.text_calls.specs.Laws.Told.{Told, call_told, local_told}
use Rattle.text_terms.specs.Laws.Names.{with_new, cells_named}
use Rattle.text_terms.specs.Laws.Call.{many_said, head_said, given_said, args_numbers, cells_said, other_first}

-- a line with too many terms is refused
given_positive : (n m : ℕ) → first_given n (suc m) ≡ 0 → ⊥
unfolding first_given
given_positive zero m e = omega arith
given_positive (suc n) m e = omega arith

many_positive : (signatures : List ℕ) (n context kind : ℕ) (headed : Bool) (head : ℕ) → too_many_on signatures n context kind headed head ≡ 0 → ⊥
unfolding too_many_on
many_positive signatures n context kind false head e = omega arith
many_positive signatures n context kind true head e = by (eqb kind 1 && is_constructor signatures (function_of signatures n head)) e
  where
    by : (t : Bool) → cond t 21 (first_given (head_refusal signatures (alternatives signatures n head context)) 10) ≡ 0 → ⊥
    by true z = omega arith
    by false z = given_positive (head_refusal signatures (alternatives signatures n head context)) 9 z

-- an answer is the one or the other
ok_not_err : {A : Type 0} {a : A} {e : Refusal} → ◌≡◌ {A = Result A Refusal} (Ok a) (Err e) → ⊥
ok_not_err z = let no : ◌≡◌ {A = Bool} true false = ap is_ok z in let one : ◌≡◌ {A = ℕ} 1 0 = ap (λ (b : Bool). cond b 1 0) no in omega arith

same_ok : {A : Type 0} {a b : A} → ◌≡◌ {A = Result A Refusal} (Ok a) (Ok b) → a ≡ b
same_ok z = cc

same_err : {A : Type 0} {e f : Refusal} → ◌≡◌ {A = Result A Refusal} (Err e) (Err f) → e ≡ f
same_err z = cc

verdict_told : (way : Way) (h : Shape) (d : Decls) (ws names : List Word) (place : ℕ) → Told (verdict_of way h d ws names place)
unfolding verdict_of
verdict_told Silent h d ws names place = tt
verdict_told Query h d ws names place = call_told _
verdict_told Action h d ws names place = call_told _
verdict_told Local h d ws names place = local_told _ _ _ _ _

-- the record that a call is lent
module _ (used context : ℕ) (signatures sorts globals : List ℕ) where
  abbrev lends : Bool → ℕ → ℕ → ℕ → Problem → List ℕ → List ℕ → List ℕ → Lending
  lends q heads bound given p term_names calls arguments =
      Lend.lending q (record { signatures = heads; signature_sorts = used; globals = bound; context = context; calls = 1; arguments = given }) p signatures sorts globals term_names calls arguments

  same_lends : (q q' : Bool) (heads heads' bound bound' given given' : ℕ) (p p' : Problem) (term_names term_names' calls calls' arguments arguments' : List ℕ)
      → q ≡ q' → heads ≡ heads' → bound ≡ bound' → given ≡ given' → p ≡ p' → term_names ≡ term_names' → calls ≡ calls' → arguments ≡ arguments'
      → lends q heads bound given p term_names calls arguments ≡ lends q' heads' bound' given' p' term_names' calls' arguments'
  same_lends q q' heads heads' bound bound' given given' p p' term_names term_names' calls calls' arguments arguments' z a b c e f g h = cc

-- as many terms as were counted, where these are not too many
fits_counted : (m count : ℕ) → count ≡ min m 257 → leb m 256 ≡ leb count 256
fits_counted m count e = by (leb m 256) refl
  where
    by : (t : Bool) → leb m 256 ≡ t → t ≡ leb count 256
    by true f = sym (le-leb count 256 (omega (arith, leb-true m 256 f)))
    by false f = sym (lt-leb count 256 (omega (arith, leb-false m 256 f)))

-- 0 is the refusal exactly where the terms fit
fits_zero : (t : Bool) (e x : ℕ) → e ≡ cond t 0 x → (x ≡ 0 → ⊥) → e ≡ 0 → t ≡ true
fits_zero true e x f g z = refl
fits_zero false e x f g z = absurd (g (sym f ∙ z))

fits_not : (t : Bool) (e x : ℕ) → e ≡ cond t 0 x → (e ≡ 0 → ⊥) → (t ≡ false) × (e ≡ x)
fits_not true e x f g = absurd (g f)
fits_not false e x f g = (refl, f)

by_yes : (t : Bool) (x y : Next.Next) → t ≡ true → cond t x y ≡ x
by_yes t x y e = rw e

by_no : (t : Bool) (x y : Next.Next) → t ≡ false → cond t x y ≡ y
by_no t x y e = rw e

not_silent : (way : Way) (h : Shape) (d : Decls) (ws : List Word) (place : ℕ) → is_silent way ≡ false → say_by way h d ws place ≡ say_named_by way h d ws place (with_terms d.term_names (named h ws))
unfolding say_by
not_silent Silent h d ws place e = absurd (let z : ◌≡◌ {A = ℕ} 0 1 = cc in omega arith)
not_silent Query h d ws place e = refl
not_silent Action h d ws place e = refl
not_silent Local h d ws place e = refl

pub said_silent : (way : Way) (h : Shape) (s words : List ℕ) (k : ℕ) (n : Numbers) (t : Store) (place : ℕ) → Within n → is_silent way ≡ true
    → Ends s n (say_by way h (decls_of s n t) (parts_of s words k) place) (Ok n) t
unfolding say_by
said_silent Silent h s words k n t place w e = record { decls = refl; within' = w; context' = refl }
said_silent Query h s words k n t place w e = absurd (let z : ◌≡◌ {A = ℕ} 0 1 = cc in omega arith)
said_silent Action h s words k n t place w e = absurd (let z : ◌≡◌ {A = ℕ} 0 1 = cc in omega arith)
said_silent Local h s words k n t place w e = absurd (let z : ◌≡◌ {A = ℕ} 0 1 = cc in omega arith)

kept_terms : (p : Problem) (v : Verdict) → Numbered v → Kept p.counts.terms v → (r : Added) → r ≡ answer_of p.counts v → r.number ≡ 0 → (p.counts.terms ≤ r.counts.terms) × (r.counts.terms ≤ 256)
unfolding answer_of
kept_terms p (refused m x q) k g r e z = absurd (k (sym (ap (λ (y : Added). y.number) e) ∙ z))
kept_terms p (added st) k g r e z =
    subst (λ (y : Counts). (p.counts.terms ≤ y.terms) × (y.terms ≤ 256)) (sym (ap (λ (y : Added). y.counts) e)) g

-- the lists after a call, and how it ends
module _ (s : List ℕ) (n : Numbers) (t : Store) (names : List Word) where
  abbrev d : Decls
  d = decls_of s n t

  abbrev after : (term_names terms records side tops range : List ℕ) → Store
  after term_names terms records side tops range =
      store t.sort_names t.global_names t.head_names term_names t.signatures t.signature_sorts t.globals terms records side tops range

  same_decls : (c c' : Counts) (term_names : List ℕ) (names' : List Word) (terms terms' records records' side side' tops tops' range range' : List ℕ)
      → parts_of s term_names c.terms ≡ names' → c ≡ c' → terms ≡ terms' → records ≡ records' → side ≡ side' → tops ≡ tops' → range ≡ range'
      → decls_of s (numbers_by n c) (after term_names terms records side tops range)
      ≡ record { sort_names = d.sort_names; global_names = d.global_names; head_names = d.head_names; term_names = names'; signatures = d.signatures; used = d.used; signature_sorts = d.signature_sorts; globals = d.globals; terms = terms'; context = d.context; problem = record { counts = c'; records = records'; side = side'; tops = tops'; range = range' } }
  same_decls c c' term_names names' terms terms' records records' side side' tops tops' range range' a b e f g h i = cc

  module _ (terms term_names terms' records side tops range : List ℕ) (r : Added) where
    ends_added : (v : Verdict) → Within n → Numbered v → Kept (length names) v → ActionsLeft (counted d (length names)) v (cells_with d names) terms' records side tops range r → r.number ≡ 0
        → parts_of s term_names r.counts.terms ≡ names ++ replicate (r.counts.terms - length names) []
        → Ends s n (after_call d names v) (Ok (numbers_by n r.counts)) (after term_names terms' records side tops range)
    unfolding after_call with_problem answer_of problem_after
    ends_added (refused m x q) w k g l z p = absurd (k (sym (ap (λ (y : Added). y.number) l.left.answer) ∙ z))
    ends_added (added st) w k g l z p =
        let e : r.counts ≡ st.counts = ap (λ (y : Added). y.counts) l.left.answer in
        let i = l.left.lists in
        let q : parts_of s term_names r.counts.terms ≡ names ++ replicate (st.counts.terms - length names) [] = p ∙ ap (λ (y : Counts). names ++ replicate (y.terms - length names) []) e in
        let m : r.counts.terms ≤ 256 = subst (λ (y : Counts). y.terms ≤ 256) (sym e) g.1 in
        record {
          decls = same_decls r.counts st.counts term_names (names ++ replicate (st.counts.terms - length names) []) terms' _ records _ side _ tops _ range _ q e l.terms' i.records' i.side' i.tops' i.range';
          within' = record { sorts≤ = w.sorts≤; globals≤ = w.globals≤; heads≤ = w.heads≤; terms≤ = m; used≤ = w.used≤ };
          context' = refl;
        }

    ends_refused : (v : Verdict) (t' : Store) → Told v → ActionsLeft (counted d (length names)) v (cells_with d names) terms' records side tops range r → (r.number ≡ 0 → ⊥)
        → Ends s n (after_call d names v) (Err (refusal_of r.number)) t'
    unfolding after_call answer_of
    ends_refused (refused m x q) t' k l z = ap (λ (y : Added). number_of (refusal_of y.number)) l.left.answer ∙ k
    ends_refused (added st) t' k l z = absurd (z (ap (λ (y : Added). y.number) l.left.answer))

-- A line whose terms are named, `count` of them: what is so of it. `full` is its refusal where they are too many.
pub record Heard (s : List ℕ) (n : Numbers) (t : Store) (words : List ℕ) (k : ℕ) (h : Shape) (place count : ℕ) (term_names₁ terms₁ numbers₁ : List ℕ) (full : ℕ) : Type 0 where
  pub numbers : List ℕ
  pub call : Call
  pub shaped : Shaped h k
  pub speaking : is_silent h.way ≡ false
  pub room : word_numbers ≤ length numbers
  pub length' : length numbers₁ ≡ length numbers
  pub line : NamedLine s words h k (naming (parts_of s t.sort_names n.sorts) (parts_of s t.global_names n.globals)) (parts_of s t.term_names n.terms) t.terms numbers count (parts_of s term_names₁ count) terms₁ numbers₁
  pub call' : call ≡ call_by h (parts_of s words k) (parts_of s t.head_names n.heads) numbers₁ place
  pub full' : full ≡ cond (fitting count (k - h.args.start)) 0 (too_many_on t.signatures n.heads n.context h.kind (is_some h.head) call.head)

-- and its call is answered
pub record Replied {s : List ℕ} {n : Numbers} {t : Store} {words : List ℕ} {k : ℕ} {h : Shape} {place count : ℕ} {term_names₁ terms₁ numbers₁ : List ℕ} {full : ℕ}
    (heard : Heard s n t words k h place count term_names₁ terms₁ numbers₁ full) (terms₂ records side tops range : List ℕ) (r : Added) : Type 0 where
  pub sort : ℕ
  pub sort' : sort ≡ sort_by h.way (at (parts_of s words k) 2) (parts_of s t.sort_names n.sorts)
  pub asked : Asked (problem_of (counts_by n count) t.records t.side t.tops t.range) (verdict_by h.way heard.call sort (lent_by n heard.call.given) (problem_of (counts_by n count) t.records t.side t.tops t.range) t.signatures t.signature_sorts t.globals terms₁ numbers₁) terms₁ terms₂ records side tops range r

module _ {s : List ℕ} {n : Numbers} {t : Store} {words : List ℕ} {k : ℕ} {h : Shape} {place count : ℕ} {term_names₁ terms₁ numbers₁ : List ℕ} {full : ℕ}
    (heard : Heard s n t words k h place count term_names₁ terms₁ numbers₁ full) where
  abbrev ws : List Word
  ws = parts_of s words k

  abbrev names : List Word
  names = with_terms (decls_of s n t).term_names (named h ws)

  abbrev call : Call
  call = call_by h ws (decls_of s n t).head_names numbers₁ place

  fits_same : fitting (length names) (length ws - h.args.start) ≡ fitting count (k - h.args.start)
  fits_same = rw (parts_count s words 0 k) (ap (λ (b : Bool). b && leb (k - h.args.start) 2048) (fits_counted (length names) count heard.line.named'.counted))

  full_is : full ≡ cond (fitting count (k - h.args.start)) 0 (too_many_on t.signatures n.heads n.context h.kind (is_some h.head) call.head)
  full_is =
      heard.full'
      ∙ ap (λ (c : Call). cond (fitting count (k - h.args.start)) 0 (too_many_on t.signatures n.heads n.context h.kind (is_some h.head) c.head)) heard.call'

  positive : too_many_on t.signatures n.heads n.context h.kind (is_some h.head) call.head ≡ 0 → ⊥
  positive = many_positive t.signatures n.heads n.context h.kind (is_some h.head) call.head

  many_is : too_many_on t.signatures n.heads n.context h.kind (is_some h.head) call.head ≡ too_many (decls_of s n t) (said_by h ws)
  many_is =
      ap (λ (m : ℕ). too_many_on t.signatures m n.context h.kind (is_some h.head) call.head) (sym (parts_count s t.head_names 0 n.heads))
      ∙ ap (too_many_on t.signatures (length (decls_of s n t).head_names) n.context h.kind (is_some h.head)) (head_said (decls_of s n t).head_names h.head ws)
      ∙ many_said (decls_of s n t) (said_by h ws)

  pub said_full : (t' : Store) (e : Refusal) → full ≡ number_of e → Ends s n (say_by h.way h (decls_of s n t) ws place) (Err e) t'
  said_full t' e x =
      let b = fits_not (fitting count (k - h.args.start)) full _ full_is (λ z. let p : 0 < number_of e = some_number e in let q : number_of e ≡ 0 = sym x ∙ z in omega arith) in
      let m : say_by h.way h (decls_of s n t) ws place ≡ Next.refused (too_many (decls_of s n t) (said_by h ws)) =
      not_silent h.way h (decls_of s n t) ws place heard.speaking ∙ by_no (fitting (length names) (length ws - h.args.start)) (after_call (decls_of s n t) names (verdict_of h.way h (decls_of s n t) ws names place)) _ (fits_same ∙ b.0) in
      subst (λ (y : Next.Next). Ends s n y (Err e) t') (sym m) (sym x ∙ b.1 ∙ many_is)

  -- not too many
  module _ (z : full ≡ 0) where
    fit : fitting count (k - h.args.start) ≡ true
    fit = fits_zero (fitting count (k - h.args.start)) full _ full_is positive z

    pub few : count ≤ 256
    few = leb-true count 256 (and_true (leb count 256) (leb (k - h.args.start) 2048) fit).0

    names_count : length names ≡ count
    names_count = omega (arith, heard.line.named'.counted, few)

    names_there : parts_of s term_names₁ count ≡ names
    names_there = heard.line.named'.called few

    cells_there : terms₁ ≡ cells_with (decls_of s n t) names
    cells_there =
        heard.line.named'.celled few
        ∙ ap (sets t.terms (length (decls_of s n t).term_names * 2))
        (cells_named (decls_of s n t) (new_terms (decls_of s n t).term_names (named h ws))
        ∙ ap (cells_of_all (decls_of s n t)) (sym (ap (drop (length (decls_of s n t).term_names)) (with_new (decls_of s n t).term_names (named h ws)) ∙ drop-append_seam (decls_of s n t).term_names (new_terms (decls_of s n t).term_names (named h ws)))))

    abbrev problem : Problem
    problem = problem_of (counts_by n count) t.records t.side t.tops t.range

    same_problem : problem ≡ counted (decls_of s n t) (length names)
    same_problem = rw (names_count, parts_count s t.sort_names 0 n.sorts)

    rooms : k ≤ length heard.numbers
    rooms = omega (arith, leb-true (k - h.args.start) 2048 (and_true (leb count 256) (leb (k - h.args.start) 2048) fit).1, heard.shaped.rest≤, heard.shaped.three heard.speaking)

    named_there : NamedLine s words h k (naming (parts_of s t.sort_names n.sorts) (parts_of s t.global_names n.globals)) (parts_of s t.term_names n.terms) t.terms heard.numbers count names terms₁ numbers₁
    named_there =
        subst (λ (l : List Word). NamedLine s words h k (naming (parts_of s t.sort_names n.sorts) (parts_of s t.global_names n.globals)) (parts_of s t.term_names n.terms) t.terms heard.numbers count l terms₁ numbers₁) names_there heard.line

    same_call : (b : Bool) → b ≡ is_query h.way
        → call_verdict (Lend.lending b (lent_by n call.given) problem t.signatures t.signature_sorts t.globals terms₁ (call_cells call) (arguments_of call numbers₁))
        ≡ call_verdict (lending (decls_of s n t) names (said_by h ws) place)
    same_call b c =
        let l = named_there in
        ap call_verdict
        (same_lends n.used n.context t.signatures t.signature_sorts t.globals b (is_query h.way) n.heads (length (decls_of s n t).head_names) n.globals (length (decls_of s n t).global_names)
        (h.args.end - h.args.start) (length (said_by h ws).args) problem (counted (decls_of s n t) (length names)) terms₁ (cells_with (decls_of s n t) names)
        (call_cells call) (cells_of_call (decls_of s n t) names (said_by h ws) place) (arguments_of call numbers₁) (numbers_of names (said_by h ws).args)
        c (sym (parts_count s t.head_names 0 n.heads)) (sym (parts_count s t.global_names 0 n.globals))
        (given_said s words h k heard.shaped _ (decls_of s n t) _ _ heard.numbers count names terms₁ numbers₁ l few rooms heard.length' place) same_problem cells_there
        (cells_said s words h k heard.shaped _ (decls_of s n t) _ _ heard.numbers count names terms₁ numbers₁ l few rooms heard.length' place)
        (args_numbers s words h k heard.shaped _ (decls_of s n t) _ _ heard.numbers count names terms₁ numbers₁ l few rooms heard.length' place))

    same_verdict : (way : Way) → h.way ≡ way → (sort : ℕ) → sort ≡ sort_by way (at ws 2) (decls_of s n t).sort_names
        → verdict_by way call sort (lent_by n call.given) problem t.signatures t.signature_sorts t.globals terms₁ numbers₁ ≡ verdict_of way h (decls_of s n t) ws names place
    unfolding verdict_by verdict_of
    same_verdict Silent w sort c = ap (λ (p : Problem). added (state_of p)) same_problem
    same_verdict Query w sort c = same_call true (ap is_query (sym w))
    same_verdict Action w sort c = same_call false (ap is_query (sym w))
    same_verdict Local w sort c =
        let l = named_there in
        ap (λ (p : Problem). local_verdict p terms₁ call.x sort place) same_problem
        ∙ ap (λ (y : List ℕ). local_verdict (counted (decls_of s n t) (length names)) y call.x sort place) cells_there
        ∙ ap (λ (x : ℕ). local_verdict (counted (decls_of s n t) (length names)) (cells_with (decls_of s n t) names) x sort place)
        (other_first s words h k heard.shaped _ (decls_of s n t) _ _ heard.numbers count names terms₁ numbers₁ l few rooms heard.length' place)
        ∙ ap (λ (x : ℕ). local_verdict (counted (decls_of s n t) (length names)) (cells_with (decls_of s n t) names) (get_or (numbers_of names (said_by h ws).others) 0 0) x place) c

    module _ {terms₂ records side tops range : List ℕ} {r : Added} (reply : Replied heard terms₂ records side tops range r) where
      asked_is : Asked problem (verdict_by h.way call reply.sort (lent_by n call.given) problem t.signatures t.signature_sorts t.globals terms₁ numbers₁) terms₁ terms₂ records side tops range r
      asked_is =
          subst
          (λ (c : Call). Asked problem (verdict_by h.way c reply.sort (lent_by n c.given) problem t.signatures t.signature_sorts t.globals terms₁ numbers₁) terms₁ terms₂ records side tops range r)
          heard.call'
          reply.asked

      abbrev v : Verdict
      v = verdict_of h.way h (decls_of s n t) ws names place

      asked : Asked (counted (decls_of s n t) (length names)) v (cells_with (decls_of s n t) names) terms₂ records side tops range r
      asked =
          subst (λ (p : Problem). Asked p v (cells_with (decls_of s n t) names) terms₂ records side tops range r) same_problem
          (subst (λ (y : List ℕ). Asked problem v y terms₂ records side tops range r) cells_there
          (subst (λ (x : Verdict). Asked problem x terms₁ terms₂ records side tops range r) (same_verdict h.way refl reply.sort reply.sort') asked_is))

      ends_as : (r' : Result Numbers Refusal) (t' : Store) → Ends s n (after_call (decls_of s n t) names v) r' t' → Ends s n (say_by h.way h (decls_of s n t) ws place) r' t'
      ends_as r' t' x =
          subst (λ (y : Next.Next). Ends s n y r' t') (sym (not_silent h.way h (decls_of s n t) ws place heard.speaking ∙ by_yes (fitting (length names) (length ws - h.args.start)) (after_call (decls_of s n t) names v) (Next.refused (too_many (decls_of s n t) (said_by h ws))) (fits_same ∙ fit))) x

      -- the call is refused
      pub said_refused : (t' : Store) (e : Refusal) → answered r ≡ Err e → Ends s n (say_by h.way h (decls_of s n t) ws place) (Err e) t'
      said_refused t' e x = by (eqb r.number 0) refl x
        where
          by : (b : Bool) → eqb r.number 0 ≡ b → ◌≡◌ {A = Result Counts Refusal} (cond b (Ok r.counts) (Err (refusal_of r.number))) (Err e) → Ends s n (say_by h.way h (decls_of s n t) ws place) (Err e) t'
          by true q z = absurd (ok_not_err z)
          by false q z =
              subst (λ (y : Refusal). Ends s n (say_by h.way h (decls_of s n t) ws place) (Err y) t') (same_err z)
              (ends_as (Err (refusal_of r.number)) t' (ends_refused s n t names terms₁ [] terms₂ records side tops range r v t' (verdict_told h.way h (decls_of s n t) ws names place) asked.left (eqb-false r.number 0 q)))

      -- or taken: no term goes, and there are not too many
      module _ {after_counts : Counts} (x : answered r ≡ Ok after_counts) where
        added_zero : (b : Bool) → eqb r.number 0 ≡ b → ◌≡◌ {A = Result Counts Refusal} (cond b (Ok r.counts) (Err (refusal_of r.number))) (Ok after_counts) → (r.number ≡ 0) × (r.counts ≡ after_counts)
        added_zero true q z = (eqb-true r.number 0 q, same_ok z)
        added_zero false q z = absurd (ok_not_err (sym z))

        taken : (r.number ≡ 0) × (r.counts ≡ after_counts)
        taken = added_zero (eqb r.number 0) refl x

        pub said_terms : (count ≤ after_counts.terms) × (after_counts.terms ≤ 256)
        said_terms = rw (sym taken.1) (kept_terms problem _ asked_is.firm asked_is.kept r asked_is.left.left.answer taken.0)

        pub said_added : (term_names₂ : List ℕ) → Within n → Unnamed term_names₁ count after_counts.terms term_names₂
            → Ends s n (say_by h.way h (decls_of s n t) ws place) (Ok (numbers_by n after_counts)) (after s n t names term_names₂ terms₂ records side tops range)
        said_added term_names₂ w u =
            rw (sym taken.1)
            (ends_as (Ok (numbers_by n r.counts)) (after s n t names term_names₂ terms₂ records side tops range)
            (ends_added s n t names terms₁ term_names₂ terms₂ records side tops range r v w asked.firm asked.kept asked.left taken.0
            ((rw (sym taken.1) at u s) ∙ ap (λ (y : List Word). y ++ replicate (r.counts.terms - count) []) names_there
            ∙ ap (λ (m : ℕ). names ++ replicate (r.counts.terms - m) []) (sym names_count))))

      -- either, by what the call answered
      pub said_settled : (term_names₂ : List ℕ) {r' : Result Numbers Refusal} → Within n → r' ≡ settled r n → (r.number ≡ 0 → Unnamed term_names₁ count r.counts.terms term_names₂)
          → Ends s n (say_by h.way h (decls_of s n t) ws place) r' (after s n t names term_names₂ terms₂ records side tops range)
      said_settled term_names₂ w e u = rw e (by (eqb r.number 0) refl)
        where
          by : (b : Bool) → eqb r.number 0 ≡ b
              → Ends s n (say_by h.way h (decls_of s n t) ws place) (cond b (Ok (numbers_by n r.counts)) (Err (refusal_of r.number))) (after s n t names term_names₂ terms₂ records side tops range)
          by true q = let x : answered r ≡ Ok r.counts = rw q in said_added x term_names₂ w (u (eqb-true r.number 0 q))
          by false q = let x : answered r ≡ Err (refusal_of r.number) = rw q in said_refused (after s n t names term_names₂ terms₂ records side tops range) (refusal_of r.number) x
