-- What an atom or an action that is not refused asks: terms in range.
use Prim.Native.Nat.{ℕ, zero, suc, ◌+◌, ◌≤◌, ◌<◌}
use Rattle.std.proofs.Common.{arith, inl, inr, length-take-le}
use Rattle.std.proofs.Math.Decide.{dec_lt}
use Rattle.std.specs.Prelude.{◌≡◌, refl, Some, ◌⊎◌, Bool, ◌&&◌, leb, ltb, eqb, get_or, take}
use Rattle.std.proofs.Math.Bool.{true, false, cond}
use mathlib.Core.List.Memᴰ
use mathlib.Core.List.{List, [], ◌∷◌, ◌++◌}
use Rattle.std.proofs.Math.ListN.{length, get_or-eq_default}
use borrow.Author.Tests.{ltb-true, leb-true, eqb-true, eqb-false, not-false}
use Rattle.definition.specs.declared.Counts.{Counts}
use Rattle.definition.specs.Lists.{Among, from, all}
use Rattle.definition.proofs.Laws.Lists.{and_true, all_member, all_from, member_at}
use Rattle.definition.proofs.Laws.Refused.{first_none}
use Rattle.rule_cells.specs.Put.{eq}
use Rattle.rule_signatures.specs.Tables.{term_kind, known_sort}
use Rattle.rule_signatures.specs.Gives.{fixed}
use Rattle.rule_lent.specs.Call.{Source, call_kind, call_cell, head_of, args_of, x_of, y_of}
use Rattle.rule_lent.specs.Fit.{Lending, source_of, max_signature_sorts, contexts, signature_fits, variable_fits, call_part_fits, atom_fits, action_fits, call_fits, terms_fit, tables_counted, tables_fit, lent_refusal}
use Rattle.rule_lent.specs.Laws.{passed, sizes}
use Rattle.rule_steps.specs.declared.Form.{Form}
use Rattle.rule_steps.specs.declared.Form.TheVariants.{Nothing, Equality, Application}
use Rattle.rule_steps.specs.declared.Lengths.{Lengths}
use Rattle.rule_steps.specs.Ask.{Tables, Ask, application, sets_constructor, atom_ask, action_ask, ask}
use Rattle.rule_steps.specs.Given.{alternatives_of, given_on, given, counts_after, room_for, form_refusal, early_refusal, ask_refusal}
use Rattle.rule_calls.specs.Exit.{tables_of}
use Rattle.rule_safety.proofs.Laws.Laid.{GivenFits}
use Rattle.rule_safety.proofs.Laws.Gives.{Low, low_part, alternatives_low, known_low, leaves_append, fixed_fit, head_fits}

-- tables that 2 has passed
pub record Sorted (T : Tables) (sorts : ℕ) : Type 0 where
  pub signatures_fit : (i : ℕ) → i < T.declared → signature_fits T.signatures (length T.signature_sorts) sorts i ≡ true
  pub low : Low sorts T.signature_sorts
  pub few : length T.signature_sorts ≤ max_signature_sorts
  pub known : (t s : ℕ) → known_sort T.terms T.globals t ≡ Some s → s < sorts

-- the terms that a form names; a head has some arguments
abbrev pub FormFits : ℕ → List ℕ → Form → Type 0
FormFits n args Nothing = Unit {0}
FormFits n args (Equality x y) = (x < n) × (y < n)
FormFits n args (Application h) = 1 ≤ length args

pub given_fits : (T : Tables) (terms sorts : ℕ) → Sorted T sorts → (args : List ℕ) → Low terms args → (f : Form) → FormFits terms args f →
    form_refusal T f ≡ 0 → GivenFits terms sorts (given_on T args f)
unfolding given_on form_refusal
given_fits T terms sorts t args low Nothing f e = fixed_fit terms sorts T.terms T.globals args t.known low
given_fits T terms sorts t args low (Equality x y) f e =
    leaves_append terms sorts (fixed T.terms T.globals args) (eq x y ∷ []) (fixed_fit terms sorts T.terms T.globals args t.known low) (f, tt)
given_fits T terms sorts t args low (Application h) f e =
    head_fits terms sorts args low f T.signatures T.signature_sorts t.low t.few (fixed T.terms T.globals args) (alternatives_of T h)
    (fixed_fit terms sorts T.terms T.globals args t.known low)
    (λ i m. t.signatures_fit i (alternatives_low T.signatures T.declared h T.context i m)) e

-- what is asked, past 7
pub record AskFits (n : ℕ) (a : Ask) : Type 0 where
  pub args : Low n a.args
  pub bound : Low n a.bound
  pub form : FormFits n a.args a.form

some_args : (args : List ℕ) → eqb (length args) 0 ≡ false → 1 ≤ length args
some_args args h = positive (length args) (eqb-false (length args) 0 h)
  where
    positive : (n : ℕ) → (n ≡ 0 → ⊥) → 1 ≤ n
    positive zero f = absurd (f refl)
    positive (suc n) f = omega arith

pub low_one : (n x : ℕ) → x < n → Low n (x ∷ [])
low_one n x h t m = omega (arith, Memᴰ.eq_of_singleton m)

low_append : (n : ℕ) (a b : List ℕ) → Low n a → Low n b → Low n (a ++ b)
low_append n a b f g t m = go (Memᴰ.append_cases a m)
  where
    go : Among t a ⊎ Among t b → t < n
    go (inl k) = f t k
    go (inr k) = g t k

low_none : (n : ℕ) → Low n []
low_none n t m = elim m [ ]

low_more : (n k : ℕ) (ts : List ℕ) → n ≤ k → Low n ts → Low k ts
low_more n k ts h f t m = omega (arith, f t m)

form_more : (n k : ℕ) (args : List ℕ) (f : Form) → n ≤ k → FormFits n args f → FormFits k args f
form_more n k args Nothing h f = f
form_more n k args (Equality x y) h f = (omega (arith, f.0), omega (arith, f.1))
form_more n k args (Application g) h f = f

ask_more : (n k : ℕ) (a : Ask) → n ≤ k → AskFits n a → AskFits k a
ask_more n k a h f =
    record { args = low_more n k a.args h f.args; bound = low_more n k a.bound h f.bound; form = form_more n k a.args a.form h f.form }

module _ (T : Tables) (terms : List ℕ) (n : ℕ) (c : Source) (arguments i : ℕ) (low : Low n c.arguments) where
  args_low : Low n (args_of c i)
  args_low = low_part n (call_cell c i 2) (call_cell c i 3) c.arguments low

  variable_low : (t : ℕ) → variable_fits terms n t ≡ true → t < n
  variable_low t h = ltb-true t n (and_true (ltb t n) (eqb (term_kind terms t) 0) h).0

  atom_fits_lem : (k : ℕ) → (atom_ask (head_of c i) (args_of c i) k).miscounted ≡ false → AskFits n (atom_ask (head_of c i) (args_of c i) k)
  unfolding atom_ask
  atom_fits_lem zero h = record { args = args_low; bound = args_low; form = some_args (args_of c i) h }
  atom_fits_lem (suc k) h =
      let two : length (args_of c i) ≡ 2 = eqb-true (length (args_of c i)) 2 (not-false (eqb (length (args_of c i)) 2) h) in
      record {
        args = args_low;
        bound = args_low;
        form = (args_low _ (member_at (args_of c i) 0 (omega arith)), args_low _ (member_at (args_of c i) 1 (omega arith)));
      }

  -- a head applied to the arguments and one more
  applied : (m head x : ℕ) (bound : List ℕ) (fresh : ℕ) (forbidden : Bool) → n ≤ m → x < m → Low m bound →
      eqb (length (args_of c i ++ x ∷ [])) 0 ≡ false → AskFits m (application head (args_of c i ++ x ∷ []) bound fresh forbidden)
  applied m head x bound fresh forbidden h l b e = record {
    args = low_append m (args_of c i) (x ∷ []) (low_more n m (args_of c i) h args_low) (low_one m x l);
    bound = b;
    form = some_args (args_of c i ++ x ∷ []) e;
  }

  -- `now`: the terms there are, at least the n that were lent
  action_fits_lem : (now : ℕ) → n ≤ now → (k : ℕ) → action_fits terms n c arguments i k ≡ true → (action_ask T now (head_of c i) (args_of c i) (x_of c i) (y_of c i) k).miscounted ≡ false →
      AskFits (now + (action_ask T now (head_of c i) (args_of c i) (x_of c i) (y_of c i) k).fresh) (action_ask T now (head_of c i) (args_of c i) (x_of c i) (y_of c i) k)
  unfolding action_ask action_fits
  action_fits_lem now h zero f e =
      let x : x_of c i < n = variable_low (x_of c i) (and_true (call_part_fits c arguments i) (variable_fits terms n (x_of c i)) f).1 in
      applied (now + 0) (head_of c i) (x_of c i) (x_of c i ∷ []) 0 false (omega arith) (omega arith) (low_one (now + 0) (x_of c i) (omega arith)) e
  action_fits_lem now h (suc zero) f e =
      let x : x_of c i < n = ltb-true (x_of c i) n (and_true (call_part_fits c arguments i) (ltb (x_of c i) n) f).1 in
      applied (now + 0) (head_of c i) (x_of c i) [] 0 (sets_constructor T (head_of c i)) (omega arith) (omega arith) (low_none (now + 0)) e
  action_fits_lem now h (suc (suc zero)) f e = applied (now + 1) (head_of c i) now [] 1 false (omega arith) (omega arith) (low_none (now + 1)) e
  action_fits_lem now h (suc (suc (suc zero))) f e =
      let (fx, fy) = and_true (ltb (x_of c i) n) (ltb (y_of c i) n) f in
      let x : x_of c i < now + 0 = omega (arith, ltb-true (x_of c i) n fx) in
      let y : y_of c i < now + 0 = omega (arith, ltb-true (y_of c i) n fy) in
      record { args = low_append (now + 0) (x_of c i ∷ []) (y_of c i ∷ []) (low_one (now + 0) (x_of c i) x) (low_one (now + 0) (y_of c i) y); bound = low_none (now + 0); form = (x, y) }
  action_fits_lem now h (suc (suc (suc (suc zero)))) f e =
      let (fx, fy) = and_true (variable_fits terms n (x_of c i)) (ltb (y_of c i) n) f in
      let x : x_of c i < now + 0 = omega (arith, variable_low (x_of c i) fx) in
      let y : y_of c i < now + 0 = omega (arith, ltb-true (y_of c i) n fy) in
      record { args = low_one (now + 0) (y_of c i) y; bound = low_one (now + 0) (x_of c i) x; form = (x, y) }
  action_fits_lem now h (suc (suc (suc (suc (suc k))))) f e = record { args = low_none (now + 0); bound = low_none (now + 0); form = tt }

  pub ask_fits : (now : ℕ) → n ≤ now → call_fits terms n c arguments i ≡ true → (ask T now c i).miscounted ≡ false →
      AskFits (now + (ask T now c i).fresh) (ask T now c i)
  unfolding call_fits ask
  ask_fits now h f e = on c.query f e
    where
      on : (b : Bool) → cond b (atom_fits c arguments i (call_kind c i)) (action_fits terms n c arguments i (call_kind c i)) ≡ true →
          (cond b (atom_ask (head_of c i) (args_of c i) (call_kind c i)) (action_ask T now (head_of c i) (args_of c i) (x_of c i) (y_of c i) (call_kind c i))).miscounted ≡ false →
          AskFits (now + (cond b (atom_ask (head_of c i) (args_of c i) (call_kind c i)) (action_ask T now (head_of c i) (args_of c i) (x_of c i) (y_of c i) (call_kind c i))).fresh) (cond b (atom_ask (head_of c i) (args_of c i) (call_kind c i)) (action_ask T now (head_of c i) (args_of c i) (x_of c i) (y_of c i) (call_kind c i)))
      on true f e = ask_more n (now + (atom_ask (head_of c i) (args_of c i) (call_kind c i)).fresh) (atom_ask (head_of c i) (args_of c i) (call_kind c i)) (omega arith) (atom_fits_lem (call_kind c i) e)
      on false f e = action_fits_lem now h (call_kind c i) f e

-- past the refusals of an atom or an action
pub record Past (T : Tables) (l : Lengths) (c : Counts) (marks : List ℕ) (a : Ask) : Type 0 where
  pub counted : a.miscounted ≡ false
  pub form : form_refusal T a.form ≡ 0
  pub room : room_for l (counts_after c marks (given T a) a.bound a.fresh) ≡ true

not_told : (b : Bool) (n rest : ℕ) → cond b (suc n) rest ≡ 0 → (b ≡ false) × (rest ≡ 0)
not_told true n rest h = absurd (omega arith)
not_told false n rest h = (refl, h)

pub past : (T : Tables) (l : Lengths) (c : Counts) (marks : List ℕ) (a : Ask) → ask_refusal T l c marks a ≡ 0 → Past T l c marks a
unfolding ask_refusal early_refusal
past T l c marks a h =
    let (early, h4) = first_none (early_refusal T a) _ h in
    let (f, h1) = not_told a.forbidden 20 _ early in
    let (m, h2) = not_told a.miscounted 6 _ h1 in
    let (g, h3) = first_none (form_refusal T a.form) _ h2 in
    record { counted = m; form = g; room = fits (room_for l (counts_after c marks (given T a) a.bound a.fresh)) h4 }
  where
    fits : (b : Bool) → ◌≡◌ {A = ℕ} (cond b 0 10) 0 → b ≡ true
    fits true h = refl
    fits false h = absurd (omega arith)

-- past the refusals of a whole call
pub record LentFits (d : Lending) : Type 0 where
  pub tables : Sorted (tables_of d) d.problem.counts.sorts
  pub arguments : Low d.problem.counts.terms (source_of d).arguments
  pub calls : (i : ℕ) → i < d.lent.calls → call_fits d.terms d.problem.counts.terms (source_of d) d.lent.arguments i ≡ true

cells_most : (n : ℕ) (l : List ℕ) → all (λ g. leb g n) l ≡ true → (v : ℕ) → get_or l v 0 ≤ n
cells_most n l h v = on (dec_lt v (length l))
  where
    on : Dec (v < length l) → get_or l v 0 ≤ n
    on (yes k) = leb-true (get_or l v 0) n (all_member (λ g. leb g n) (get_or l v 0) l h (member_at l v k))
    on (no k) =
        let p : length l ≤ v = omega arith in
        let e : get_or l v 0 ≡ 0 = get_or-eq_default l 0 p in
        omega arith

pub lent_fits : (d : Lending) → lent_refusal d ≡ 0 → LentFits d
unfolding lent_refusal tables_fit
lent_fits d h =
    let n : ℕ = d.problem.counts.terms in
    let s : ℕ = d.problem.counts.sorts in
    let all_passed = passed d.problem (tables_counted d) (tables_fit d) h in
    let z = sizes d all_passed.counted in
    let context : Bool = ltb d.lent.context contexts in
    let signatures : Bool = all (signature_fits d.signatures d.lent.signature_sorts s) (from 0 d.lent.signatures) in
    let sorts : Bool = all (λ x. ltb x s) (take d.lent.signature_sorts d.signature_sorts) in
    let globals : Bool = all (λ g. leb g s) (take d.lent.globals d.globals) in
    let terms : Bool = terms_fit d.terms n s in
    let arguments : Bool = all (λ a. ltb a n) (take d.lent.arguments d.arguments) in
    let calls : Bool = all (call_fits d.terms n (source_of d) d.lent.arguments) (from 0 d.lent.calls) in
    let (t6, fc) = and_true (context && signatures && sorts && globals && terms && arguments) calls all_passed.fits in
    let (t5, fa) = and_true (context && signatures && sorts && globals && terms) arguments t6 in
    let (t4, ft) = and_true (context && signatures && sorts && globals) terms t5 in
    let (t3, fg) = and_true (context && signatures && sorts) globals t4 in
    let (t2, fs) = and_true (context && signatures) sorts t3 in
    let fr = (and_true context signatures t2).1 in
    let used : length (take d.lent.signature_sorts d.signature_sorts) ≡ d.lent.signature_sorts = length-take-le d.lent.signature_sorts d.signature_sorts z.sorts_lent in
    record {
      tables = record {
        signatures_fit = λ i k. rw used (all_from (signature_fits d.signatures d.lent.signature_sorts s) 0 d.lent.signatures i fr (omega arith) (omega arith));
        low = λ x m. ltb-true x s (all_member (λ x. ltb x s) x (take d.lent.signature_sorts d.signature_sorts) fs m);
        few = omega (arith, z.sorts);
        known = known_low d.terms (take d.lent.globals d.globals) n s ft (cells_most s (take d.lent.globals d.globals) fg);
      };
      arguments = λ t m. ltb-true t n (all_member (λ a. ltb a n) t (take d.lent.arguments d.arguments) fa m);
      calls = λ i k. all_from (call_fits d.terms n (source_of d) d.lent.arguments) 0 d.lent.calls i fc (omega arith) (omega arith);
    }
