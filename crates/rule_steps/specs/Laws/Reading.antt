-- What is asked, by what stands in the buffers.
use Prim.Native.Nat.{ℕ, zero, suc, ◌+◌, ◌≤◌}
use Rattle.std.proofs.Common.{arith, zero-add, ap, ◌∙◌, length-append, length-take, length-drop}
use Rattle.std.specs.Result.{result_unwrap_or}
use Rattle.std.specs.Prelude.{◌≡◌, Result, Bool, true, false, not, List, [], ◌∷◌, ◌++◌, eqb, length, take, get_or, set}
use Rattle.std.proofs.Math.Path.{refl}
use Rattle.definition.specs.declared.Refusal.{Refusal}
use Rattle.definition.specs.Lists.{from}
use Rattle.definition.specs.Problem.{part}
use Rattle.rule_cells.specs.Put.{puts}
use Rattle.rule_cells.specs.Laws.{puts_append, front}
use Rattle.rule_heads.specs.Alternatives.{keep, is_function, function_of, is_permitted, alternatives}
use Rattle.rule_heads.specs.Laws.{keep_few}
use Rattle.rule_steps.specs.declared.Form.{Form}
use Rattle.rule_steps.specs.declared.Form.TheVariants.{Nothing, Equality, Application}
use Rattle.rule_steps.specs.declared.Work.{Work}
use Rattle.rule_lent.specs.declared.calls.Atom.{Atom}
use Rattle.rule_lent.specs.declared.calls.Atom.TheVariants.{Applies, Equality as Equal}
use Rattle.rule_lent.specs.declared.calls.Action.{Action}
use Rattle.rule_lent.specs.declared.calls.Action.TheVariants.{Let, Set, Change, Union, LetAtomTerm, Panic}
use Rattle.rule_lent.specs.Numbers.{atom_of_number, action_of_number}
use Rattle.rule_steps.specs.Ask.{Tables, Source, Ask, call_kind, head_of, args_of, x_of, y_of, sets_constructor, application, equality, atom_ask, action_ask, ask}
use Rattle.rule_steps.specs.Step.{Buffers, Asked, applied, equal, asked_of, found_for}

-- a list and one more at the front of another
pub put_with : (l l₁ l₂ xs : List ℕ) (x : ℕ) → l₁ ≡ puts l 0 xs → l₂ ≡ set l₁ (length xs) x → l₂ ≡ puts l 0 (xs ++ x ∷ [])
put_with l l₁ l₂ xs x e₁ e₂ = rw (puts_append l 0 xs (x ∷ []), zero-add, e₂, e₁)

-- what a Panic asks
abbrev nothing : Ask
nothing = record { args = []; form = Nothing; bound = []; fresh = 0; forbidden = false; miscounted = false }

-- what is asked, by what stands in the buffers
module _ (args₀ bound₀ args bound own : List ℕ) (B : Buffers own args₀ bound₀) (w : Work) where
  pub asked_applied : (head last n b fresh : ℕ) (bs : List ℕ) (forbidden : Bool) → fresh ≤ 1 → b ≤ 1 → args ≡ puts args₀ 0 (own ++ last ∷ []) → n ≡ length own + 1 → take b bound ≡ bs
      → w ≡ applied head n b fresh forbidden → Asked (application head (own ++ last ∷ []) bs fresh forbidden) args bound w
  asked_applied head last n b fresh bs forbidden one held e k eb ew =
      let m : n ≡ length (own ++ last ∷ []) = omega (arith, length-append own (last ∷ [])) in
      let f : length (own ++ last ∷ []) ≤ 2049 = omega (arith, B.few) in
      rw ew (record {
        args' = front args₀ args (own ++ last ∷ []) n e m (omega (arith, B.args_long));
        args_held = omega (arith, B.few);
        few = f;
        bound' = eb;
        bound_held = omega arith;
        form = refl;
        fresh = refl;
        fresh_few = one;
        forbidden = refl;
        miscounted = ap (λ k. eqb k 0) m;
      })

  pub asked_atom : (head : ℕ) → args ≡ puts args₀ 0 own → bound ≡ puts bound₀ 0 own → w ≡ applied head (length own) (length own) 0 false → Asked (application head own own 0 false) args bound w
  asked_atom head ea eb ew =
      rw ew (record {
        args' = front args₀ args own (length own) ea refl (omega (arith, B));
        args_held = omega (arith, B.few);
        few = omega (arith, B.few);
        bound' = front bound₀ bound own (length own) eb refl (omega (arith, B));
        bound_held = omega (arith, B.few);
        form = refl;
        fresh = refl;
        fresh_few = omega arith;
        forbidden = refl;
        miscounted = refl;
      })

  pub asked_equal : (x y n b : ℕ) (xs bs : List ℕ) (m : Bool) → n ≤ 2049 → b ≤ 2049 → take n args ≡ xs → length xs ≤ 2049 → take b bound ≡ bs → w ≡ equal x y n b m
      → Asked (equality x y xs bs m) args bound w
  asked_equal x y n b xs bs m en em ea f eb ew =
      rw ew (record {
        args' = ea;
        args_held = en;
        few = f;
        bound' = eb;
        bound_held = em;
        form = refl;
        fresh = refl;
        fresh_few = omega arith;
        forbidden = refl;
        miscounted = refl;
      })

  pub asked_equality : args ≡ puts args₀ 0 own → bound ≡ puts bound₀ 0 own → {x y : ℕ} → x ≡ get_or own 0 0 → y ≡ get_or own 1 0
      → w ≡ equal x y (length own) (length own) (not (eqb (length own) 2))
      → Asked (equality (get_or own 0 0) (get_or own 1 0) own own (not (eqb (length own) 2))) args bound w
  asked_equality ea eb ex ey ew =
      asked_equal (get_or own 0 0) (get_or own 1 0) (length own) (length own) own own (not (eqb (length own) 2)) (omega (arith, B.few)) (omega (arith, B.few))
      (front args₀ args own (length own) ea refl (omega (arith, B))) (omega (arith, B.few)) (front bound₀ bound own (length own) eb refl (omega (arith, B))) (rw (ex, ey) at ew)

-- nothing is asked
pub asked_nothing : (args bound : List ℕ) (w : Work) → w ≡ record { form = Nothing; args = 0; bound = 0; fresh = 0; forbidden = false; miscounted = false } → Asked nothing args bound w
asked_nothing args bound w e =
    rw e (record { args' = refl; args_held = omega arith; few = omega arith; bound' = refl; bound_held = omega arith; form = refl; fresh = refl; fresh_few = omega arith; forbidden = refl; miscounted = refl })

-- what an atom or an action asks, by the kind that was read; a number that is no kind is read as the last one
abbrev pub atom_asks : ℕ → List ℕ → Atom → Ask
atom_asks head args Applies = application head args args 0 false
atom_asks head args Equal = equality (get_or args 0 0) (get_or args 1 0) args args (not (eqb (length args) 2))

atom_on : (head : ℕ) (args : List ℕ) (k : ℕ) → atom_ask head args k ≡ atom_asks head args (result_unwrap_or (atom_of_number k) Equal)
unfolding atom_ask
atom_on head args zero = refl
atom_on head args (suc zero) = refl
atom_on head args (suc (suc k)) = refl

pub atom_asked : (head : ℕ) (args : List ℕ) (k : ℕ) (r : Result Atom Refusal) (a : Atom) → r ≡ atom_of_number k → a ≡ result_unwrap_or r Equal → atom_ask head args k ≡ atom_asks head args a
atom_asked head args k r a e f = rw (f, e) (atom_on head args k)

abbrev pub action_asks : Tables → (terms head : ℕ) (args : List ℕ) (x y : ℕ) → Action → Ask
action_asks T terms head args x y Let = application head (args ++ x ∷ []) (x ∷ []) 0 false
action_asks T terms head args x y Set = application head (args ++ x ∷ []) [] 0 (sets_constructor T head)
action_asks T terms head args x y Change = application head (args ++ terms ∷ []) [] 1 false
action_asks T terms head args x y Union = equality x y (x ∷ y ∷ []) [] false
action_asks T terms head args x y LetAtomTerm = equality x y (y ∷ []) (x ∷ []) false
action_asks T terms head args x y Panic = nothing

action_on : (T : Tables) (terms head : ℕ) (args : List ℕ) (x y k : ℕ) → action_ask T terms head args x y k ≡ action_asks T terms head args x y (result_unwrap_or (action_of_number k) Panic)
unfolding action_ask
action_on T terms head args x y zero = refl
action_on T terms head args x y (suc zero) = refl
action_on T terms head args x y (suc (suc zero)) = refl
action_on T terms head args x y (suc (suc (suc zero))) = refl
action_on T terms head args x y (suc (suc (suc (suc zero)))) = refl
action_on T terms head args x y (suc (suc (suc (suc (suc zero))))) = refl
action_on T terms head args x y (suc (suc (suc (suc (suc (suc k)))))) = refl

pub action_asked : (T : Tables) (terms head : ℕ) (args : List ℕ) (x y k : ℕ) (r : Result Action Refusal) (a : Action) → r ≡ action_of_number k → a ≡ result_unwrap_or r Panic
    → action_ask T terms head args x y k ≡ action_asks T terms head args x y a
action_asked T terms head args x y k r a e f = rw (f, e) (action_on T terms head args x y k)

-- a part of a short list is short
pub part_few : (l own : List ℕ) (start count : ℕ) → own ≡ part l start count → length l ≤ 2048 → length own ≤ 2048
part_few l own start count e h = rw e (simp (length-take, length-drop) (omega arith))

-- atom or action i, by what is listed
module _ (T : Tables) (terms : ℕ) (c : Source) (i : ℕ) (own args bound : List ℕ) (w : Work) (eo : own ≡ args_of c i) where
  pub asked_query : c.query ≡ true → Asked (atom_ask (head_of c i) own (call_kind c i)) args bound w → Asked (ask T terms c i) args bound w
  unfolding ask
  asked_query q A = rw q (rw eo at A)

  pub asked_call : c.query ≡ false → Asked (action_ask T terms (head_of c i) own (x_of c i) (y_of c i) (call_kind c i)) args bound w → Asked (ask T terms c i) args bound w
  unfolding ask
  asked_call q A = rw q (rw eo at A)

-- what was asked, put together again
pub asked_is : (a : Ask) (args bound xs ys : List ℕ) (w : Work) → Asked a args bound w → xs ≡ take w.args args → ys ≡ take w.bound bound → asked_of w xs ys ≡ a
asked_is a args bound xs ys w A ex ey =
    λ i. record { args = (ex ∙ A.args') i; form = A.form i; bound = (ey ∙ A.bound') i; fresh = A.fresh i; forbidden = A.forbidden i; miscounted = A.miscounted i }

-- the alternatives are few
pub found_few_lem : (signatures : List ℕ) (declared context : ℕ) (form : Form) → declared ≤ 256 → length (found_for signatures declared context form) ≤ 257
unfolding found_for alternatives function_of
found_few_lem signatures declared context Nothing h = omega arith
found_few_lem signatures declared context (Equality x y) h = omega arith
found_few_lem signatures declared context (Application head) h =
    let fs = keep (is_function signatures head) (from 0 declared) in
    let ps = keep (is_permitted signatures head context) (from 0 declared) in
    omega (arith, length-append (take 1 fs) ps, length-take 1 fs, keep_few (is_permitted signatures head context) 0 declared)

-- what a list of 257 cells has at its front once they are found
pub found_is : (signatures : List ℕ) (declared context : ℕ) (form : Form) (r r' found : List ℕ) (n : ℕ) → declared ≤ 256 → length r ≡ 257
    → (r' ≡ puts r 0 (found_for signatures declared context form)) × (n ≡ length (found_for signatures declared context form)) → found ≡ take n r' → found ≡ found_for signatures declared context form
found_is signatures declared context form r r' found n h g F e =
    e ∙ front r r' (found_for signatures declared context form) n F.0 F.1 (omega (arith, found_few_lem signatures declared context form h))
