-- Lines that say something of terms: their calls are not refused by 1, 2 or 9, and keep what holds.
use Prim.Native.Nat.{ℕ, zero, suc, ◌+◌, ◌-◌, ◌*◌, ◌≤◌, ◌<◌}
use native.Mathlib.Omega.{arith}
use Rattle.std.specs.Prelude.{◌≡◌, Bool, ◌&&◌, eqb, get_or, take, drop}
use Rattle.std.proofs.Math.Path.{refl}
use Rattle.std.proofs.Common.{ap, ◌∙◌, drop_at}
use Rattle.std.proofs.Math.Bool.{true, false, cond}
use mathlib.Core.List.Memᴰ
use mathlib.Core.List.{List, [], ◌∷◌}
use Rattle.std.proofs.Math.Dec.{leb, ltb}
use Rattle.std.proofs.Math.ListN.{length, replicate, length-append, length-replicate}
use borrow.Author.Tests.{lt-ltb, leb-true, le-leb}
use Rattle.definition.specs.declared.Counts.{Counts}
use Rattle.definition.specs.Sizes.{max_terms}
use Rattle.definition.specs.Lists.{from, all}
use Rattle.definition.specs.Refusal.{first_given, records_refusal}
use Rattle.definition.proofs.Laws.Lists.{and_true, true_and, from_all}
use Rattle.definition.proofs.Laws.Refused.{Accepted, accepted, counted as counted_by}
use Rattle.rule_signatures.specs.Tables.{unbound}
use Rattle.rule_signatures.specs.Gives.{any}
use Rattle.rule_heads.specs.Alternatives.{function_of, is_constructor, alternatives, some_empty, head_refusal}
use Rattle.rule_lent.specs.Call.{Source, x_of, y_of}
use Rattle.rule_lent.specs.Fit.{Lending, source_of, max_arguments, signature_fits, variable_fits, call_part_fits, atom_fits, action_fits, call_fits, tables_counted, tables_fit, lent_refusal}
use Rattle.rule_steps.specs.declared.Form.{Form}
use Rattle.rule_steps.specs.declared.Form.TheVariants.{Nothing, Equality, Application}
use Rattle.rule_steps.specs.declared.Lengths.{Lengths}
use Rattle.rule_steps.specs.Ask.{Tables, Ask, ask}
use Rattle.rule_steps.specs.Given.{State, Verdict, refused, added, unless_refused, given, counts_after, room_for, form_refusal, alternatives_of, early_refusal, ask_refusal, stepped, run}
use Rattle.rule_calls.specs.Exit.{tables_of, lengths_of, state_of, call_verdict, local_refusal, local_verdict, problem_after, terms_after}
use Rattle.rule_safety.proofs.Laws.Grown.{wider, problem_in}
use Rattle.rule_safety.proofs.Laws.Calls.{Ends, call_ends, local_ends}
use Rattle.text_words.specs.Parts.{find}
use Rattle.text_grammar.specs.Bytes.{Word}
use Rattle.text_definition.specs.Decls.{Decls, counted, known_term}
use Rattle.text_definition.specs.Declare.{Next, refused as refusing}
use Rattle.text_definition.specs.Say.{Said, with_terms, cells_of_all, cells_with, numbers, lending, with_problem, after_call, too_many, say_named, say, say_local_named, say_local}
use Rattle.text_safety.specs.Told.{Told}
use Rattle.text_safety.proofs.Laws.Words.{Of, word_at, Known, Extended, extended, word_kind, numbers_at, numbers_length}
use Rattle.text_safety.proofs.Laws.Tables.{Terms, add_terms, fresh_cells, words_cells, terms_fit_lem, never_unbound, variable_fits_lem}
use Rattle.text_safety.proofs.Laws.Good.{Good, After, told_7, told_8, told_10, told_20, told_21}

-- none, or a number that may be shown
abbrev pub OrNone : ℕ → Type 0
OrNone zero = Unit {0}
OrNone (suc n) = Told (suc n)

abbrev pub Shows : Verdict → Type 0
Shows (refused n h p) = Told n
Shows (added s) = Unit {0}

unless_shows : (n h p : ℕ) (v : Verdict) → OrNone n → Shows v → Shows (unless_refused n h p v)
unfolding unless_refused
unless_shows zero h p v o s = s
unless_shows (suc n) h p v o s = o

-- 20 and 8
head_shows : (signatures is : List ℕ) → OrNone (head_refusal signatures is)
unfolding head_refusal
head_shows signatures [] = told_20
head_shows signatures (i ∷ is) = on (some_empty signatures (i ∷ is))
  where
    on : (b : Bool) → OrNone (cond b 8 0)
    on true = told_8
    on false = tt

first_shows : (a b : ℕ) → OrNone a → OrNone b → OrNone (first_given a b)
unfolding first_given
first_shows zero b o p = p
first_shows (suc a) b o p = o

cond_shows : (b : Bool) (n m : ℕ) → OrNone n → OrNone m → OrNone (cond b n m)
cond_shows true n m o p = o
cond_shows false n m o p = p

form_shows : (T : Tables) (f : Form) → OrNone (form_refusal T f)
unfolding form_refusal
form_shows T Nothing = tt
form_shows T (Equality x y) = tt
form_shows T (Application h) = head_shows T.signatures (alternatives_of T h)

none_any : (t : ℕ → Bool) → ((x : ℕ) → t x ≡ false) → (xs : List ℕ) → any t xs ≡ false
unfolding any
none_any t h [] = refl
none_any t h (x ∷ xs) = rw (h x, none_any t h xs)

ask_shows : (T : Tables) (l : Lengths) (c : Counts) (marks : List ℕ) (a : Ask) → ((t : ℕ) → unbound T.terms T.globals t ≡ false) →
    OrNone (ask_refusal T l c marks a)
unfolding ask_refusal early_refusal
ask_shows T l c marks a bound =
    first_shows (early_refusal T a) _
    (cond_shows a.forbidden 21 _ told_21
    (cond_shows a.miscounted 7 _ told_7
    (first_shows (form_refusal T a.form) _ (form_shows T a.form) (rw (none_any (unbound T.terms T.globals) bound a.args) tt))))
    (cond_shows (room_for l (counts_after c marks (given T a) a.bound a.fresh)) 0 10 tt told_10)

run_shows : (T : Tables) (l : Lengths) (c : Source) (s : State) (is : List ℕ) → ((t : ℕ) → unbound T.terms T.globals t ≡ false) →
    Shows (run T l c s is)
unfolding run
run_shows T l c s [] bound = tt
run_shows T l c s (i ∷ is) bound =
    let a : Ask = ask T s.counts.terms c i in
    unless_shows (ask_refusal T l s.counts s.marks a) _ _ (run T l c (stepped T c s i a) is) (ask_shows T l s.counts s.marks a bound) (run_shows T l c (stepped T c s i a) is bound)

pub call_shows : (L : Lending) → lent_refusal L ≡ 0 → ((t : ℕ) → unbound (tables_of L).terms (tables_of L).globals t ≡ false) → Shows (call_verdict L)
call_shows L h bound =
    let rest : Verdict = run (tables_of L) (lengths_of L.problem L.terms) (source_of L) (state_of L.problem) (from 0 L.lent.calls) in
    unless_shows (lent_refusal L) 0 0 rest (rw h tt) (run_shows (tables_of L) (lengths_of L.problem L.terms) (source_of L) (state_of L.problem) (from 0 L.lent.calls) bound)

-- a test that the first k cells pass
all_cells : (t : ℕ → Bool) (k : ℕ) (l : List ℕ) → ((j : ℕ) → j < k → t (get_or l j 0) ≡ true) → all t (take k l) ≡ true
unfolding all
all_cells t zero l h = refl
all_cells t (suc k) [] h = refl
all_cells t (suc k) (x ∷ l) h = true_and (t x) (all t (take k l)) (h 0 (omega arith)) (all_cells t k l (λ j i. h (suc j) (omega arith)))

-- The problem that a call is lent, and the terms with those of the line.
module _ (d : Decls) (o : Good d) (named : List Word) (known : (w : Word) → Of w named → known_term d.sort_names d.global_names w ≡ true) where
  abbrev names : List Word
  names = with_terms d.term_names named

  abbrev n : ℕ
  n = length d.sort_names

  ext : Extended d.term_names named names
  ext = extended d.term_names named

  pub names_known : (w : Word) → Of w named → Known w names
  names_known = ext.known

  module _ (few : length names ≤ max_terms) where
    pub terms_there : Terms n (length d.global_names) names (cells_with d names)
    terms_there =
        let e : drop (length d.term_names) names ≡ ext.extra = ap (drop (length d.term_names)) ext.whole ∙ drop_at d.term_names ext.extra (length d.term_names) refl in
        let l : length d.term_names + length ext.extra ≤ max_terms = omega (arith, ap length ext.whole, length-append d.term_names ext.extra) in
        rw e (rw ext.whole (add_terms n (length d.global_names) d.term_names ext.extra d.terms (cells_of_all d ext.extra) (words_cells d ext.extra (λ w m. known w (ext.from w m))) l o.terms))

    pub problem_taken : records_refusal (counted d (length names)) ≡ 0
    problem_taken =
        let l : length d.term_names ≤ length names = omega (arith, ap length ext.whole, length-append d.term_names ext.extra) in
        wider d.problem (length names) n o.problem.taken (omega (arith, o.problem.few_terms)) few o.problem.few_sorts o.sorts

    -- what there is after a call
    pub kept : (v : Verdict) → Shows v → Ends (counted d (length names)) (cells_with d names) v → After (after_call d names v)
    unfolding after_call with_problem terms_after problem_after
    kept (refused k h p) s e = s
    kept (added st) s e =
        let k : ℕ = st.counts.terms - length names in
        let A : Accepted (problem_in st) = accepted (problem_in st) e.safe.taken in
        let most : st.counts.terms ≤ max_terms = (counted_by (problem_in st) A.counts).terms in
        let fresh : List Word = replicate k [] in
        let l : length fresh ≡ k = length-replicate k [] in
        record {
          sorts = o.sorts;
          globals = o.globals;
          heads = o.heads;
          terms = add_terms n (length d.global_names) names fresh (cells_with d names) (replicate (k * 2) 0) (fresh_cells n (length d.global_names) k) (omega (arith, e.terms')) terms_there;
          context = o.context;
          problem = record { taken = e.safe.taken; few_terms = omega (arith, length-append names fresh); few_sorts = omega (arith, e.sorts) };
        }

-- What a line says: its words for arguments and for x and y are among those for terms, and those that its kind binds are variables.
abbrev pub Shape : Bool → ℕ → List Word → Type 0
Shape true zero others = Unit {0}
Shape true (suc zero) others = Unit {0}
Shape true (suc (suc kind)) others = ⊥
Shape false zero others = (1 ≤ length others) × (word_kind (get_or others 0 []) ≡ 0)
Shape false (suc zero) others = 1 ≤ length others
Shape false (suc (suc zero)) others = Unit {0}
Shape false (suc (suc (suc zero))) others = 2 ≤ length others
Shape false (suc (suc (suc (suc zero)))) others = (2 ≤ length others) × (word_kind (get_or others 0 []) ≡ 0)
Shape false (suc (suc (suc (suc (suc zero))))) others = Unit {0}
Shape false (suc (suc (suc (suc (suc (suc kind)))))) others = ⊥

pub record Says (d : Decls) (s : Said) : Type 0 where
  pub known : (w : Word) → Of w s.named → known_term d.sort_names d.global_names w ≡ true
  pub args : (w : Word) → Of w s.args → Of w s.named
  pub others : (w : Word) → Of w s.others → Of w s.named
  pub shape : Shape s.query s.kind s.others

module _ (d : Decls) (o : Good d) (s : Said) (ok : Says d s) (place : ℕ) (few : length (with_terms d.term_names s.named) ≤ max_terms) (short : length s.args ≤ max_arguments) where
  abbrev all' : List Word
  all' = with_terms d.term_names s.named

  abbrev L : Lending
  L = lending d all' s place

  there : Terms (length d.sort_names) (length d.global_names) all' (cells_with d all')
  there = terms_there d o s.named ok.known few

  other_known : (k : ℕ) → k < length s.others → Known (get_or s.others k []) all'
  other_known k h = names_known d o s.named ok.known (get_or s.others k []) (ok.others (get_or s.others k []) (word_at s.others k h))

  other_low : (k : ℕ) → k < length s.others → ltb (get_or (numbers all' s.others) k 0) (length all') ≡ true
  other_low k h = rw (numbers_at all' s.others k h) (lt-ltb (find (get_or s.others k []) all') (length all') (other_known k h))

  other_variable : 1 ≤ length s.others → word_kind (get_or s.others 0 []) ≡ 0 →
      variable_fits (cells_with d all') (length all') (get_or (numbers all' s.others) 0 0) ≡ true
  other_variable h e =
      rw (numbers_at all' s.others 0 h) (variable_fits_lem (length d.sort_names) (length d.global_names) all' (cells_with d all') there (get_or s.others 0 []) (other_known 0 h) e)

  part_fits_lem : call_part_fits (source_of L) (length s.args) 0 ≡ true
  part_fits_lem = le-leb (0 + length s.args) (length s.args) (omega arith)

  atom_fits_lem : (k : ℕ) → Shape true k s.others → atom_fits (source_of L) (length s.args) 0 k ≡ true
  unfolding atom_fits
  atom_fits_lem zero h = part_fits_lem
  atom_fits_lem (suc zero) h = part_fits_lem
  atom_fits_lem (suc (suc k)) h = absurd h

  action_fits_lem : (k : ℕ) → Shape false k s.others → action_fits (cells_with d all') (length all') (source_of L) (length s.args) 0 k ≡ true
  unfolding action_fits
  action_fits_lem zero h = true_and (call_part_fits (source_of L) (length s.args) 0) (variable_fits (cells_with d all') (length all') (x_of (source_of L) 0)) part_fits_lem (other_variable h.0 h.1)
  action_fits_lem (suc zero) h = true_and (call_part_fits (source_of L) (length s.args) 0) (ltb (x_of (source_of L) 0) (length all')) part_fits_lem (other_low 0 h)
  action_fits_lem (suc (suc zero)) h = part_fits_lem
  action_fits_lem (suc (suc (suc zero))) h = true_and (ltb (x_of (source_of L) 0) (length all')) (ltb (y_of (source_of L) 0) (length all')) (other_low 0 (omega arith)) (other_low 1 (omega arith))
  action_fits_lem (suc (suc (suc (suc zero)))) h =
      true_and (variable_fits (cells_with d all') (length all') (x_of (source_of L) 0)) (ltb (y_of (source_of L) 0) (length all')) (other_variable (omega arith) h.1) (other_low 1 (omega arith))
  action_fits_lem (suc (suc (suc (suc (suc zero))))) h = refl
  action_fits_lem (suc (suc (suc (suc (suc (suc k)))))) h = absurd h

  call_fits_lem : (i : ℕ) → 0 ≤ i → i < 0 + 1 → call_fits (cells_with d all') (length all') (source_of L) (length s.args) i ≡ true
  unfolding call_fits
  call_fits_lem i l h = let e : i ≡ 0 = omega arith in rw e (on s.query ok.shape)
    where
      on : (b : Bool) → Shape b s.kind s.others →
          cond b (atom_fits (source_of L) (length s.args) 0 s.kind) (action_fits (cells_with d all') (length all') (source_of L) (length s.args) 0 s.kind) ≡ true
      on true h = atom_fits_lem s.kind h
      on false h = action_fits_lem s.kind h

  taken : Accepted (counted d (length all'))
  taken = accepted (counted d (length all')) (problem_taken d o s.named ok.known few)

  tables_counted_lem : tables_counted L ≡ true
  unfolding tables_counted
  tables_counted_lem = rw (
    le-leb (length d.head_names) 256 o.heads.most,
    le-leb (length d.head_names * 10) (length d.signatures) (omega (arith, o.heads.most, o.heads.lent)),
    le-leb d.used 2048 o.heads.most_sorts,
    le-leb d.used (length d.signature_sorts) (omega (arith, o.heads.most_sorts, o.heads.sorts_lent)),
    le-leb (length d.global_names) 256 o.globals.most,
    le-leb (length d.global_names) (length d.globals) (omega (arith, o.globals.most, o.globals.lent)),
    le-leb (length s.args) 2048 short,
    le-leb (length s.args) (length (numbers all' s.args)) (omega (arith, numbers_length all' s.args)),
    le-leb (length all' * 2) (length (cells_with d all')) (omega (arith, there.lent)),
  )

  tables_fit_lem : tables_fit L ≡ true
  unfolding tables_fit
  tables_fit_lem = rw (
    lt-ltb d.context 8 o.context,
    from_all (signature_fits d.signatures d.used (length d.sort_names)) 0 (length d.head_names) (λ i l h. o.heads.fits i (omega arith)),
    all_cells (λ s. ltb s (length d.sort_names)) d.used d.signature_sorts (λ j h. lt-ltb (get_or d.signature_sorts j 0) (length d.sort_names) (o.heads.low j h)),
    all_cells (λ g. leb g (length d.sort_names)) (length d.global_names) d.globals (λ j h. le-leb (get_or d.globals j 0) (length d.sort_names) (o.globals.low j h)),
    terms_fit_lem (length d.sort_names) (length d.global_names) all' (cells_with d all') there,
    all_cells (λ a. ltb a (length all')) (length s.args) (numbers all' s.args) arg_low,
    from_all (call_fits (cells_with d all') (length all') (source_of L) (length s.args)) 0 1 call_fits_lem,
  )
    where
      arg_low : (j : ℕ) → j < length s.args → ltb (get_or (numbers all' s.args) j 0) (length all') ≡ true
      arg_low j h =
          rw (numbers_at all' s.args j h) (lt-ltb (find (get_or s.args j []) all') (length all')
          (names_known d o s.named ok.known (get_or s.args j []) (ok.args (get_or s.args j []) (word_at s.args j h))))

  -- 1 and 2 are not given
  pub lent_taken : lent_refusal L ≡ 0
  unfolding lent_refusal
  lent_taken = rw (taken.counts, tables_counted_lem, taken.cells, tables_fit_lem)

  pub call_kept : After (after_call d all' (call_verdict L))
  call_kept =
      kept d o s.named ok.known few (call_verdict L)
      (call_shows L lent_taken (never_unbound (length d.sort_names) (length d.global_names) all' (cells_with d all') there d.global_names d.globals refl o.globals))
      (call_ends L (problem_taken d o s.named ok.known few))

-- a line with too many terms
too_many_lem : (d : Decls) (s : Said) → Told (too_many d s)
unfolding too_many
too_many_lem d s = headed s.headed
  where
    first : (n : ℕ) → OrNone n → Told (first_given n 10)
    first zero h = unfold first_given in told_10
    first (suc n) h = unfold first_given in h

    sets : (b : Bool) (n : ℕ) → Told n → Told (cond b 21 n)
    sets true n h = told_21
    sets false n h = h

    headed : (b : Bool) →
        Told (cond b (cond (eqb s.kind 1 && is_constructor d.signatures (function_of d.signatures (length d.head_names) (find s.head d.head_names))) 21
        (first_given (head_refusal d.signatures (alternatives d.signatures (length d.head_names) (find s.head d.head_names) d.context)) 10)) 10)
    headed true =
        sets (eqb s.kind 1 && is_constructor d.signatures (function_of d.signatures (length d.head_names) (find s.head d.head_names))) _
        (first (head_refusal d.signatures (alternatives d.signatures (length d.head_names) (find s.head d.head_names) d.context))
        (head_shows d.signatures (alternatives d.signatures (length d.head_names) (find s.head d.head_names) d.context)))
    headed false = told_10

cond_after : (b : Bool) (x y : Next) → (b ≡ true → After x) → After y → After (cond b x y)
cond_after true x y f g = f refl
cond_after false x y f g = g

pub said_kept : (d : Decls) → Good d → (s : Said) (listed place : ℕ) → Says d s → length s.args ≤ listed → After (say d s listed place)
unfolding say_named
said_kept d o s listed place ok few =
    let names : List Word = with_terms d.term_names s.named in
    cond_after (leb (length names) max_terms && leb listed max_arguments) (after_call d names (call_verdict (lending d names s place))) (refusing (too_many d s))
    (λ h.
    let (a, b) = and_true (leb (length names) max_terms) (leb listed max_arguments) h in
    call_kept d o s ok place (leb-true (length names) max_terms a) (omega (arith, leb-true listed max_arguments b)))
    (too_many_lem d s)

-- a typed local
module _ (d : Decls) (o : Good d) (name sort : Word) (place : ℕ) (variable : word_kind name ≡ 0) (known : known_term d.sort_names d.global_names name ≡ true) (sorted : Known sort d.sort_names) where
  abbrev with' : List Word
  with' = with_terms d.term_names (name ∷ [])

  only : (w : Word) → Of w (name ∷ []) → known_term d.sort_names d.global_names w ≡ true
  only w (Memᴰ.head e) = rw e known
  only w (Memᴰ.tail m) = elim m [ ]

  module _ (few : length with' ≤ max_terms) where
    local_shows : OrNone (local_refusal (counted d (length with')) (cells_with d with') (find name with') (find sort d.sort_names))
    unfolding local_refusal first_given
    local_shows =
        let there : Terms (length d.sort_names) (length d.global_names) with' (cells_with d with') = terms_there d o (name ∷ []) only few in
        let A : Accepted (counted d (length with')) = accepted (counted d (length with')) (problem_taken d o (name ∷ []) only few) in
        rw (
          A.counts,
          le-leb (length with' * 2) (length (cells_with d with')) (omega (arith, there.lent)),
          A.cells,
          terms_fit_lem (length d.sort_names) (length d.global_names) with' (cells_with d with') there,
          variable_fits_lem (length d.sort_names) (length d.global_names) with' (cells_with d with') there name (names_known d o (name ∷ []) only name (Memᴰ.head refl)) variable,
          lt-ltb (find sort d.sort_names) (length d.sort_names) sorted,
        ) (cond_shows (room_for _ _) 0 10 tt told_10)

    local_verdict_lem : Shows (local_verdict (counted d (length with')) (cells_with d with') (find name with') (find sort d.sort_names) place)
    local_verdict_lem = unless_shows (local_refusal (counted d (length with')) (cells_with d with') (find name with') (find sort d.sort_names)) 0 0 (added _) local_shows tt

  pub local_kept : After (say_local d name sort place)
  unfolding say_local_named
  local_kept = cond_after (leb (length with') max_terms) (after_call d with' (local_verdict (counted d (length with')) (cells_with d with') (find name with') (find sort d.sort_names) place)) (refusing 10)
      (λ h.
      let few : length with' ≤ max_terms = leb-true (length with') max_terms h in
      kept d o (name ∷ []) only few (local_verdict (counted d (length with')) (cells_with d with') (find name with') (find sort d.sort_names) place) (local_verdict_lem few)
      (local_ends (counted d (length with')) (cells_with d with') (find name with') (find sort d.sort_names) place (problem_taken d o (name ∷ []) only few)))
      told_10
