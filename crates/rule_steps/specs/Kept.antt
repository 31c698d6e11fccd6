-- Laws that the code's older form cited; they still hold.
use Prim.Native.Nat.{ℕ, zero, suc, ◌+◌, ◌≤◌}
use Rattle.std.specs.Prelude.{◌≡◌, refl, Bool, true, false, not, cond, eqb, List, [], ◌∷◌, ◌++◌, length, take, get_or}
use Rattle.std.proofs.Common.{arith, ap, sym, length-append}
use Rattle.definition.specs.Refusal.{first_given}
use Rattle.definition.specs.Problem.{part}
use Rattle.definition.proofs.Laws.Refused.{first_given_lem}
use Rattle.rule_cells.specs.Put.{puts}
use Rattle.rule_cells.specs.Laws.{front}
use Rattle.rule_signatures.specs.Tables.{unbound}
use Rattle.rule_signatures.specs.Gives.{any}
use Rattle.rule_steps.specs.declared.Form.TheVariants.{Nothing}
use Rattle.rule_steps.specs.declared.Lengths.{Lengths}
use Rattle.rule_steps.specs.declared.Work.{Work}
use Rattle.rule_steps.specs.Ask.{Tables, Source, Ask, call_kind, call_cell, head_of, x_of, y_of, application, equality, atom_ask, action_ask, ask}
use Rattle.rule_steps.specs.Given.{State, given, counts_after, room_for, form_refusal, early_refusal, ask_refusal, stepped}
use Rattle.rule_steps.specs.Step.{Buffers, Asked, applied, equal, left_by, Lists}
use Rattle.rule_steps.specs.Laws.Reading.{asked_atom as asked_application, asked_equality as asked_two, asked_nothing as asked_none}

-- the refusals before 10, test by test
module _ (T : Tables) (a : Ask) where
  pub early_forbidden : a.forbidden ≡ true → early_refusal T a ≡ 21
  unfolding early_refusal
  early_forbidden f = rw f

  pub early_miscounted : a.forbidden ≡ false → a.miscounted ≡ true → early_refusal T a ≡ 7
  unfolding early_refusal
  early_miscounted f m = rw (f, m)

  module _ (f : a.forbidden ≡ false) (m : a.miscounted ≡ false) (h : ℕ) (e : h ≡ form_refusal T a.form) where
    pub early_head : (h ≡ 0 → ⊥) → early_refusal T a ≡ h
    unfolding early_refusal
    early_head n = rw (f, m, ← e) (first_given_lem h (cond (any (unbound T.terms T.globals) a.args) 9 0) n)

    pub early_unbound : h ≡ 0 → (u : Bool) → u ≡ any (unbound T.terms T.globals) a.args → early_refusal T a ≡ cond u 9 0
    unfolding early_refusal first_given
    early_unbound n u g = rw (f, m, ← e, n, g)

-- what is asked, with its lists at the front of two buffers, where nothing is said of how long those are
pub record Fronted (a : Ask) (args bound : List ℕ) (w : Work) : Type 0 where
  pub args' : take w.args args ≡ a.args
  pub few : length a.args ≤ 2049
  pub bound' : take w.bound bound ≡ a.bound
  pub form : w.form ≡ a.form
  pub fresh : w.fresh ≡ a.fresh
  pub fresh_few : w.fresh ≤ 1
  pub forbidden : w.forbidden ≡ a.forbidden
  pub miscounted : w.miscounted ≡ a.miscounted

-- what is asked, by the number of its kind: 0 an application, each other one an equality
module _ (args₀ bound₀ args bound own : List ℕ) (B : Buffers own args₀ bound₀) (w : Work) where
  pub asked_applied : (head last n b fresh : ℕ) (bs : List ℕ) (forbidden : Bool) → fresh ≤ 1 → args ≡ puts args₀ 0 (own ++ last ∷ []) → n ≡ length own + 1 → take b bound ≡ bs
      → w ≡ applied head n b fresh forbidden → Fronted (application head (own ++ last ∷ []) bs fresh forbidden) args bound w
  asked_applied head last n b fresh bs forbidden one e k eb ew =
      let m : n ≡ length (own ++ last ∷ []) = omega (arith, length-append own (last ∷ [])) in
      let f : length (own ++ last ∷ []) ≤ 2049 = omega (arith, B.few) in
      rw ew (record {
        args' = front args₀ args (own ++ last ∷ []) n e m (omega (arith, B.args_long));
        few = f;
        bound' = eb;
        form = refl;
        fresh = refl;
        fresh_few = one;
        forbidden = refl;
        miscounted = ap (λ k. eqb k 0) m;
      })

  pub asked_atom : (head kind : ℕ) → args ≡ puts args₀ 0 own → bound ≡ puts bound₀ 0 own → kind ≡ 0 → w ≡ applied head (length own) (length own) 0 false → Asked (atom_ask head own kind) args bound w
  unfolding atom_ask
  asked_atom head kind ea eb ek ew = rw ek (asked_application args₀ bound₀ args bound own B w head ea eb ew)

  pub asked_equal : (x y n b : ℕ) (xs bs : List ℕ) (m : Bool) → take n args ≡ xs → length xs ≤ 2049 → take b bound ≡ bs → w ≡ equal x y n b m → Fronted (equality x y xs bs m) args bound w
  asked_equal x y n b xs bs m ea f eb ew =
      rw ew (record { args' = ea; few = f; bound' = eb; form = refl; fresh = refl; fresh_few = omega arith; forbidden = refl; miscounted = refl })

  pub asked_equality : (head kind : ℕ) → args ≡ puts args₀ 0 own → bound ≡ puts bound₀ 0 own → (kind ≡ 0 → ⊥) → {x y : ℕ} → x ≡ get_or own 0 0 → y ≡ get_or own 1 0
      → w ≡ equal x y (length own) (length own) (not (eqb (length own) 2)) → Asked (atom_ask head own kind) args bound w
  unfolding atom_ask
  asked_equality head zero ea eb ek ex ey ew = absurd (ek refl)
  asked_equality head (suc k) ea eb ek ex ey ew = asked_two args₀ bound₀ args bound own B w ea eb ex ey ew

-- a Panic, by a number that is none of 0 to 4
pub asked_nothing : (T : Tables) (terms head x y kind : ℕ) (own args bound : List ℕ) → (kind ≡ 0 → ⊥) → (kind ≡ 1 → ⊥) → (kind ≡ 2 → ⊥) → (kind ≡ 3 → ⊥) → (kind ≡ 4 → ⊥)
    → Asked (action_ask T terms head own x y kind) args bound (record { form = Nothing; args = 0; bound = 0; fresh = 0; forbidden = false; miscounted = false })
unfolding action_ask
asked_nothing T terms head x y zero own args bound a b c d e = absurd (a refl)
asked_nothing T terms head x y (suc zero) own args bound a b c d e = absurd (b refl)
asked_nothing T terms head x y (suc (suc zero)) own args bound a b c d e = absurd (c refl)
asked_nothing T terms head x y (suc (suc (suc zero))) own args bound a b c d e = absurd (d refl)
asked_nothing T terms head x y (suc (suc (suc (suc zero)))) own args bound a b c d e = absurd (e refl)
asked_nothing T terms head x y (suc (suc (suc (suc (suc k))))) own args bound a b c d e =
    asked_none args bound (record { form = Nothing; args = 0; bound = 0; fresh = 0; forbidden = false; miscounted = false }) refl

-- atom or action i, from its cells by any names
module _ (T : Tables) (terms : ℕ) (c : Source) (i kind head start count : ℕ) (own args bound : List ℕ) (w : Work) (ek : kind ≡ call_kind c i) (eh : head ≡ head_of c i)
    (es : start ≡ call_cell c i 2) (en : count ≡ call_cell c i 3) (eo : own ≡ part c.arguments start count) where
  pub asked_query : c.query ≡ true → Asked (atom_ask head own kind) args bound w → Asked (ask T terms c i) args bound w
  unfolding ask
  asked_query q A = rw q (rw (eo, ek, eh, es, en) at A)

  pub asked_call : (x y : ℕ) → c.query ≡ false → x ≡ x_of c i → y ≡ y_of c i → Asked (action_ask T terms head own x y kind) args bound w → Asked (ask T terms c i) args bound w
  unfolding ask
  asked_call x y q ex ey A = rw q (rw (eo, ek, eh, es, en, ex, ey) at A)

-- a step refused before 10, by any number but 0: it is the step's, and leaves the counts and the lists
number_refused : (n : ℕ) (s s' : State) → (n ≡ 0 → ⊥) → left_by n s s' ≡ s
unfolding left_by
number_refused zero s s' h = absurd (h refl)
number_refused (suc n) s s' h = refl

module _ (T : Tables) (l : Lengths) (c : Source) (s : State) (i : ℕ) (b : Ask) (eb : b ≡ ask T s.counts.terms c i) (n : ℕ) (en : n ≡ early_refusal T b) where
  pub stepped_refused : (n ≡ 0 → ⊥)
      → (n ≡ ask_refusal T l s.counts s.marks (ask T s.counts.terms c i))
      × (s.counts ≡ (left_by (ask_refusal T l s.counts s.marks (ask T s.counts.terms c i)) s (stepped T c s i (ask T s.counts.terms c i))).counts)
      × Lists (left_by (early_refusal T (ask T s.counts.terms c i)) s (stepped T c s i (ask T s.counts.terms c i))) s.records s.side s.tops s.range s.marks
  unfolding ask_refusal
  stepped_refused h =
      let e : ask_refusal T l s.counts s.marks b ≡ n = rw (← en) (first_given_lem n (cond (room_for l (counts_after s.counts s.marks (given T b) b.bound b.fresh)) 0 10) h) in
      let k : left_by (ask_refusal T l s.counts s.marks b) s (stepped T c s i b) ≡ s = rw e (number_refused n s (stepped T c s i b) h) in
      let m : left_by (early_refusal T b) s (stepped T c s i b) ≡ s = rw (← en) (number_refused n s (stepped T c s i b) h) in (
        rw (← eb) (sym e),
        rw (← eb) (ap (λ t. t.counts) (sym k)),
        rw (← eb) (rw m (record { records' = refl; side' = refl; tops' = refl; range' = refl; marks' = refl })),
      )
