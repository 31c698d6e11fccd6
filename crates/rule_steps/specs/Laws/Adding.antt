-- The refusals, what is written, and a step from its parts.
use Rattle.std.specs.Prelude.{ℕ, ◌+◌, ◌*◌, ◌≡◌, Result, Ok, Err, IfOk, Bool, true, false, List, [], ◌∷◌, ◌++◌, length}
use Rattle.std.proofs.Common.{arith, ◌∙◌}
use Rattle.std.proofs.Math.Path.{refl, sym, ap}
use Rattle.std.proofs.Math.Bool.{cond}
use Rattle.definition.specs.declared.Counts.{Counts}
use Rattle.definition.specs.declared.Refusal.{Refusal}
use Rattle.definition.specs.declared.Refusal.TheVariants.{TooMany, OutOfRange, NotTrees, TooDeep, SmallWork, ShortList, Miscounted, Empty, Unbound, NoRoom, UnboundFunction, SetConstructorDisallowed, Malformed, Unknown, TooLong}
use Rattle.definition.specs.Numbers.{number_of, refused}
use Rattle.definition.specs.Sizes.{range_cells}
use Rattle.definition.specs.Refusal.{first_given}
use Rattle.definition.proofs.Laws.Refused.{first_given_lem}
use Rattle.definition.proofs.Laws.Numbers.{positive}
use Rattle.rule_cells.specs.declared.Origin.{Origin}
use Rattle.rule_cells.specs.Put.{puts, eq}
use Rattle.rule_signatures.specs.Tables.{unbound}
use Rattle.rule_signatures.specs.Gives.{fixed, any}
use Rattle.rule_heads.specs.declared.Cursor.{Cursor}
use Rattle.rule_heads.specs.Alternatives.{Given, plain, head_gives}
use Rattle.rule_heads.specs.Layout.{side_of}
use Rattle.rule_heads.specs.Written.{Written}
use Rattle.rule_ranges.specs.Enter.{new, marked, entries}
use Rattle.rule_steps.specs.declared.Form.{Form}
use Rattle.rule_steps.specs.declared.Form.TheVariants.{Nothing, Equality, Application}
use Rattle.rule_steps.specs.declared.Lengths.{Lengths}
use Rattle.rule_steps.specs.Ask.{Tables, Source, Ask, ask}
use Rattle.rule_steps.specs.Given.{State, given_on, given, counts_after, after, room_for, form_refusal, early_refusal, ask_refusal, origin_of, stepped}
use Rattle.rule_steps.specs.Step.{found_for, state, Few, Adds, left_by, Stepped}
use Rattle.rule_steps.specs.Laws.Room.{room_few}

-- the refusals before 10, test by test
abbrev pub early_told : Tables → Ask → ℕ → Bool → ℕ
early_told T a head unbound = cond a.forbidden 21 (cond a.miscounted 7 (first_given head (cond unbound 9 0)))

pub early_same : (T : Tables) (a : Ask) → early_refusal T a ≡ early_told T a (form_refusal T a.form) (any (unbound T.terms T.globals) a.args)
unfolding early_refusal
early_same T a = refl

-- what is written, by form
module _ (T : Tables) (args : List ℕ) (form : Form) (o : Origin) (k k' : Cursor) (r r' s t t' : List ℕ) where
  pub written_nothing : form ≡ Nothing → Written o k (plain (fixed T.terms T.globals args)) r r' [] [] t t' k' → Written o k (given_on T args form) r r' s s t t' k'
  unfolding given_on side_of
  written_nothing e W = rw e (record { records = W.records; side = refl; tops = W.tops; at_record = W.at_record; at_side = W.at_side; at_top = W.at_top })

  pub written_equality : (x y : ℕ) → form ≡ Equality x y → Written o k (plain (fixed T.terms T.globals args ++ eq x y ∷ [])) r r' [] [] t t' k' → Written o k (given_on T args form) r r' s s t t' k'
  unfolding given_on side_of
  written_equality x y e W = rw e (record { records = W.records; side = refl; tops = W.tops; at_record = W.at_record; at_side = W.at_side; at_top = W.at_top })

  pub written_application : (s' found : List ℕ) (h : ℕ) → form ≡ Application h → found ≡ found_for T.signatures T.declared T.context form
      → Written o k (head_gives T.signatures T.signature_sorts args (fixed T.terms T.globals args) found) r r' s s' t t' k' → Written o k (given_on T args form) r r' s s' t t' k'
  unfolding given_on found_for
  written_application s' found h e f W = rw e (rw (f, e) at W)

-- adding, from what its parts leave
abbrev reached : Counts → Cursor → (range fresh : ℕ) → Counts
reached c k range fresh =
    record { records = k.records; side = k.side; tops = k.tops; range = range; terms = c.terms + fresh; sorts = c.sorts }

pub adds : (l : Lengths) (c : Counts) (o : Origin) (g : Given) (bound r s t e m r' s' t' e' m' : List ℕ) (fresh n : ℕ) (k : Cursor) (a : Result Counts Refusal)
    → Written o (record { records = c.records; side = c.side; tops = c.tops }) g r r' s s' t t' k
    → n ≡ c.range + length (new m bound) → e' ≡ puts e (c.range * range_cells) (entries o.place (new m bound)) → m' ≡ marked m bound
    → a ≡ cond (room_for l (reached c k n fresh)) (Ok (reached c k n fresh)) (Err NoRoom)
    → Adds l (state c r s t e m) o g bound fresh r' s' t' e' m' a
unfolding counts_after after
adds l c o g bound r s t e m r' s' t' e' m' fresh n k a W en ee em ea =
    let q : reached c k n fresh ≡ counts_after c m g bound fresh = λ i. record { records = W.at_record i; side = W.at_side i; tops = W.at_top i; range = en i; terms = c.terms + fresh; sorts = c.sorts } in
    record {
      answer = ea ∙ ap (λ d. cond (room_for l d) (Ok d) (Err NoRoom)) q;
      lists = λ i. state (counts_after c m g bound fresh) (W.records i) (W.side i) (W.tops i) (ee i) (em i);
    }

-- a step, refused early or by its room, or not
left_refused : (r : Refusal) (s s' : State) → left_by (number_of r) s s' ≡ s
unfolding left_by
left_refused TooMany s s' = refl
left_refused OutOfRange s s' = refl
left_refused NotTrees s s' = refl
left_refused TooDeep s s' = refl
left_refused SmallWork s s' = refl
left_refused ShortList s s' = refl
left_refused Miscounted s s' = refl
left_refused Empty s s' = refl
left_refused Unbound s s' = refl
left_refused NoRoom s s' = refl
left_refused UnboundFunction s s' = refl
left_refused SetConstructorDisallowed s s' = refl
left_refused Malformed s s' = refl
left_refused Unknown s s' = refl
left_refused TooLong s s' = refl

pub first_refused : (r : Refusal) (n : ℕ) → first_given (number_of r) n ≡ number_of r
first_refused r n = first_given_lem (number_of r) n (λ e. omega (arith, positive r))

module _ (T : Tables) (l : Lengths) (c : Source) (s : State) (i : ℕ) (b : Ask) (eb : b ≡ ask T s.counts.terms c i) where
  abbrev after' : Counts
  after' = counts_after s.counts s.marks (given T b) b.bound b.fresh

  abbrev room : Bool
  room = room_for l after'

  pub stepped_refused : (r : Refusal) → number_of r ≡ early_refusal T b → Stepped T l c s i s.records s.side s.tops s.range s.marks (Err r)
  unfolding ask_refusal
  stepped_refused r en =
      let m : left_by (early_refusal T b) s (stepped T c s i b) ≡ s = rw (← en) (left_refused r s (stepped T c s i b)) in
      record {
        number = rw (← eb, ← en) (sym (first_refused r (cond room 0 10)));
        counts' = tt;
        lists = rw (← eb) (rw m (record { records' = refl; side' = refl; tops' = refl; range' = refl; marks' = refl }));
        added = tt;
        few' = tt;
      }

  module _ (records side tops range marks : List ℕ) where
    pub stepped_added : (o : Origin) (a : Result Counts Refusal) → 0 ≡ early_refusal T b → o ≡ origin_of c i → Adds l s o (given T b) b.bound b.fresh records side tops range marks a → Stepped T l c s i records side tops range marks a
    unfolding ask_refusal first_given left_by
    stepped_added o a z eo A =
        let m : state after' records side tops range marks ≡ stepped T c s i b = A.lists ∙ ap (λ p. after s p (given T b) b.bound b.fresh) eo in
        record {
          number = rw (← eb, A.answer, ← z) (numbered room);
          counts' = rw (← eb, A.answer) (held (λ k. k ≡ (stepped T c s i b).counts) (λ e. ap (λ t. t.counts) m));
          lists = rw (← eb, ← z) (record {
            records' = ap (λ t. t.records) m;
            side' = ap (λ t. t.side) m;
            tops' = ap (λ t. t.tops) m;
            range' = ap (λ t. t.range) m;
            marks' = ap (λ t. t.marks) m;
          });
          added = rw (← eb, A.answer) (held (λ k. state k records side tops range marks ≡ stepped T c s i b) (λ e. m));
          few' = rw A.answer (held Few (λ e. room_few l after' e));
        }
      where
        numbered : (t : Bool) → refused (cond t (Ok after') (Err NoRoom)) ≡ cond t 0 10
        numbered true = refl
        numbered false = refl

        held : (P : Counts → Type 0) → (room ≡ true → P after') → IfOk (cond room (Ok after') (Err NoRoom)) P
        held P f = go room f
          where
            go : (t : Bool) → (t ≡ true → P after') → IfOk (cond t (Ok after') (Err NoRoom)) P
            go true g = g refl
            go false g = tt
