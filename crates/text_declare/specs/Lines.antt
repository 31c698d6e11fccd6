-- That a line which declares leaves what the text's definition says.
use Rattle.std.specs.Prelude.{ℕ, suc, ◌+◌, ◌-◌, ◌*◌, ◌<◌, ◌≤◌, ◌≡◌, Bool, ◌&&◌, cond, ltb, leb, eqb, length, drop, get_or}
use native.Mathlib.Omega.{arith}
use Rattle.std.proofs.Math.Path.{refl, ap, sym}
use Rattle.std.proofs.Common.{◌∙◌, ltb-true}
use Rattle.std.proofs.Math.Bool.{true, false}
use Rattle.std.proofs.lemmas.Bool.{false≢true}
use mathlib.Core.List.{List, [], ◌∷◌, ◌++◌, map}
use Rattle.std.proofs.lemmas.List.Edits.{sets}
use Rattle.definition.specs.Sizes.{max_sorts}
use Rattle.rule_lent.specs.Fit.{max_globals, max_signatures, max_signature_sorts}
use Rattle.text_words.specs.Names.{number_below}
use Rattle.text_words.specs.Parts.{part_at, parts_from, parts_of, part_cells, find}
use Rattle.text_words.specs.Laws.Parts.{parts_count}
use Rattle.text_words.specs.Laws.Table.{part_there, drop_parts, parts_put}
use Rattle.text_grammar.specs.Bytes.{Word}
use Rattle.text_grammar.specs.declared.Form.{Form}
use Rattle.text_grammar.specs.declared.Form.TheVariants.{Sort, Fun, Ctor, Simple, Equal, Global, Context, Atom, Set, Change, Eq, Union, Let, Bind, Panic, Local, Malformed}
use Rattle.text_grammar.specs.Grammar.{pattern_of, mask_bound, context_bound}
use Rattle.text_definition.specs.declared.Numbers.{Numbers}
use Rattle.text_definition.specs.Decls.{Decls}
use Rattle.text_definition.specs.Declare.{Next, refused, next, add_sort, add_global, add_signature, set_context, with_sorts, with_globals, with_signatures, Says, simple, all_equal, cells_of_signature, length_cell}
use Rattle.text_definition.specs.Run.{at, line_of}
use Rattle.text_definition.specs.Store.{Store, Sized, decls_of}
use Rattle.text_declare.specs.declared.signature.Signature.{Signature}
use Rattle.text_declare.specs.Forms.{order_of}
use Rattle.text_declare.specs.Steps.{taken, name_cells}
use Rattle.text_declare.specs.Signatures.{sort_number, sort_cell, cells_of, signature_for, is_signature, signature_fits}
use Rattle.text_declare.specs.After.{next_from, step_after, store_after}

-- the forms that declare; every other leaves all as it was
abbrev pub declares : Form → Bool
declares f = ltb (order_of f) 7

pub never : {A : Type 0} → false ≡ true → A
never e = absurd (false≢true e)

-- one name more
module _ (s words table : List ℕ) (count n most : ℕ) (named : 1 < count) (room : length table ≡ most * part_cells) where
  name_put : n < most → parts_of s (sets table (n * part_cells) (name_cells words)) (n + 1) ≡ parts_of s table n ++ at (parts_of s words count) 1 ∷ []
  name_put h =
      parts_put s table n (get_or words 2 0) (get_or words 3 0) (omega arith)
      ∙ ap (λ (w : Word). parts_of s table n ++ w ∷ []) (sym (part_there s words count 1 named))

module _ (s words : List ℕ) (count : ℕ) (n : Numbers) (t : Store) (room : Sized t) where
  abbrev d : Decls
  d = decls_of s n t

  abbrev ws : List Word
  ws = parts_of s words count

  abbrev left : ℕ → Next
  left form = next_from s (step_after form (taken n) s words count t) (store_after form (taken n) s words count t)

  sort_by_lem : (b : Bool) → ltb n.sorts max_sorts ≡ b → 1 < count → left 0 ≡ add_sort d (at ws 1)
  unfolding add_sort
  sort_by_lem true e h =
      rw (parts_count s t.sort_names 0 n.sorts, e)
      (ap (λ (names : List Word). next (with_sorts d names)) (name_put s words t.sort_names count n.sorts max_sorts h room.tabled.sort_names' (ltb-true n.sorts max_sorts e)))
  sort_by_lem false e h = rw (parts_count s t.sort_names 0 n.sorts, e)

  pub sort_line : 1 < count → left 0 ≡ add_sort d (at ws 1)
  sort_line h = sort_by_lem (ltb n.sorts max_sorts) refl h

  global_by : (b : Bool) → ltb n.globals max_globals ≡ b → 2 < count → left 5 ≡ add_global d (at ws 1) (at ws 2)
  unfolding add_global
  global_by true e h =
      rw (parts_count s t.global_names 0 n.globals, e)
      (ap (λ (names : List Word). next (with_globals d names (sets t.globals n.globals (suc (find (part_at s words 2) d.sort_names) ∷ []))))
      (name_put s words t.global_names count n.globals max_globals (omega arith) room.tabled.global_names' (ltb-true n.globals max_globals e))
      ∙ ap (λ (w : Word). next (with_globals d (d.global_names ++ at ws 1 ∷ []) (sets t.globals n.globals (suc (find w d.sort_names) ∷ []))))
      (sym (part_there s words count 2 h)))
  global_by false e h = rw (parts_count s t.global_names 0 n.globals, e)

  pub global_line : 2 < count → left 5 ≡ add_global d (at ws 1) (at ws 2)
  global_line h = global_by (ltb n.globals max_globals) refl h

  pub context_line : 1 < count → left 6 ≡ set_context d (number_below context_bound (at ws 1))
  unfolding set_context
  context_line h = rw (part_there s words count 1 h)

  -- a signature of which the code has `g` where the definition has `says`
  record Same (g : Signature) (says : Says) : Type 0 where
    kind' : g.kind ≡ says.kind
    mask' : g.mask ≡ says.mask
    sort_names' : parts_from s words g.first (count - g.first) ≡ says.sorts
    common' : g.common ≡ says.common
    exact' : g.exact ≡ says.exact
    output' : g.output ≡ says.output

  -- what the definition leaves, and what the code does
  abbrev asked : Word → Says → Next
  asked name says =
      next (with_signatures d (d.head_names ++ name ∷ []) (sets t.signatures (n.heads * 10) (cells_of_signature d name says)) (n.used + length says.sorts) (sets t.signature_sorts n.used (map (λ w. find w d.sort_names) says.sorts)))

  abbrev written : Signature → Next
  written g =
      let head_names = parts_of s (sets t.head_names (n.heads * part_cells) (name_cells words)) (n.heads + 1) in
      next (with_signatures d head_names (sets t.signatures (n.heads * 10) (cells_of g (find (part_at s words 1) head_names) n.used (count - g.first))) (n.used + (count - g.first)) (sets t.signature_sorts n.used (map (sort_number s t.sort_names n.sorts) (parts_from s words g.first (count - g.first)))))

  module _ (g : Signature) (says : Says) (same : Same g says) (named : 1 < count) where
    length_same : count - g.first ≡ length says.sorts
    length_same = sym (parts_count s words g.first (count - g.first)) ∙ ap length same.sort_names'

    written_asked : n.heads < max_signatures → written g ≡ asked (at ws 1) says
    written_asked h i =
        let names = name_put s words t.head_names count n.heads max_signatures named room.tabled.head_names' h in
        next (with_signatures d (names i)
        (sets t.signatures (n.heads * 10)
        (same.kind' i ∷ find (sym (part_there s words count 1 named) i) (names i) ∷ same.mask' i ∷ n.used ∷ length_same i ∷ same.common' i ∷ same.exact' i ∷ same.output' i ∷ 0 ∷ 0 ∷ []))
        (n.used + length_same i)
        (sets t.signature_sorts n.used (map (sort_number s t.sort_names n.sorts) (same.sort_names' i))))

  -- a full table, or all is written
  module _ (name : Word) (says : Says) where
    add_is : add_signature d name says ≡ cond (ltb n.heads max_signatures && leb (n.used + length says.sorts) max_signature_sorts) (asked name says) (refused 10)
    unfolding add_signature
    add_is = rw (parts_count s t.head_names 0 n.heads)

  module _ (form : ℕ) (own : is_signature form ≡ true) (no-sort : eqb form 0 ≡ false) (no-global : eqb form 5 ≡ false) (no-context : eqb form 6 ≡ false) where
    abbrev g : Signature
    g = signature_for form s words count t.sort_names n.sorts

    left_by_lem : (b : Bool) → signature_fits form (taken n) s words count t.sort_names ≡ b → left form ≡ cond b (written g) (refused 10)
    left_by_lem true e = rw (no-sort, no-global, own, e, no-context)
    left_by_lem false e = rw (no-sort, no-global, own, e, no-context)

    module _ (says : Says) (same : Same g says) (named : 1 < count) where
      listed : (b : Bool) → leb (n.used + (count - g.first)) max_signature_sorts ≡ b → leb (n.used + length says.sorts) max_signature_sorts ≡ b
      listed b e = ap (λ (k : ℕ). leb (n.used + k) max_signature_sorts) (sym (length_same g says same named)) ∙ e

      signature_by : (a b : Bool) → ltb n.heads max_signatures ≡ a → leb (n.used + (count - g.first)) max_signature_sorts ≡ b → left form ≡ add_signature d (at ws 1) says
      signature_by true true h k =
          left_by_lem true (rw (h, k)) ∙ written_asked g says same named (ltb-true n.heads max_signatures h) ∙ sym (add_is (at ws 1) says ∙ rw (h, listed true k))
      signature_by true false h k = left_by_lem false (rw (h, k)) ∙ sym (add_is (at ws 1) says ∙ rw (h, listed false k))
      signature_by false b h k = left_by_lem false (rw h) ∙ sym (add_is (at ws 1) says ∙ rw h)

      signature_line : left form ≡ add_signature d (at ws 1) says
      signature_line = signature_by (ltb n.heads max_signatures) (leb (n.used + (count - g.first)) max_signature_sorts) refl refl

  plain_same : (form : ℕ) → ltb form 3 ≡ true → Same (signature_for form s words count t.sort_names n.sorts) (simple (form - 1) 0 (drop 2 ws))
  unfolding signature_for
  plain_same form e = rw e (record { kind' = refl; mask' = refl; sort_names' = sym (drop_parts s words 0 count 2); common' = refl; exact' = refl; output' = refl })

  simple_same : 2 < count → Same (signature_for 3 s words count t.sort_names n.sorts) (simple 2 (number_below mask_bound (at ws 2)) (drop 4 ws))
  unfolding signature_for
  simple_same h = record {
    kind' = refl;
    mask' = ap (number_below mask_bound) (sym (part_there s words count 2 h));
    sort_names' = sym (drop_parts s words 0 count 4);
    common' = refl;
    exact' = refl;
    output' = refl;
  }

  equal_same : 6 < count
      → Same (signature_for 4 s words count t.sort_names n.sorts) (all_equal d (number_below mask_bound (at ws 2)) (at ws 4) (at ws 5) (at ws 6))
  unfolding signature_for parts_from
  equal_same h = record {
    kind' = refl;
    mask' = ap (number_below mask_bound) (sym (part_there s words count 2 (omega arith)));
    sort_names' = ap (parts_from s words count) (let e : count - count ≡ 0 = omega arith in e);
    common' = ap (sort_cell s t.sort_names n.sorts) (sym (part_there s words count 4 (omega arith)));
    exact' = ap length_cell (sym (part_there s words count 5 (omega arith)));
    output' = ap (sort_cell s t.sort_names n.sorts) (sym (part_there s words count 6 (omega arith)));
  }

  pub declared_line : (f : Form) (place : ℕ) → declares f ≡ true → (pattern_of f).fewest ≤ count → left (order_of f) ≡ line_of f d ws place
  unfolding line_of pattern_of
  declared_line Sort place e h = sort_line (omega arith)
  declared_line Fun place e h = signature_line 1 refl refl refl refl (simple 0 0 (drop 2 ws)) (plain_same 1 refl) (omega arith)
  declared_line Ctor place e h = signature_line 2 refl refl refl refl (simple 1 0 (drop 2 ws)) (plain_same 2 refl) (omega arith)
  declared_line Simple place e h =
      signature_line 3 refl refl refl refl (simple 2 (number_below mask_bound (at ws 2)) (drop 4 ws)) (simple_same (omega arith)) (omega arith)
  declared_line Equal place e h =
      signature_line 4 refl refl refl refl (all_equal d (number_below mask_bound (at ws 2)) (at ws 4) (at ws 5) (at ws 6)) (equal_same (omega arith)) (omega arith)
  declared_line Global place e h = global_line (omega arith)
  declared_line Context place e h = context_line (omega arith)
  declared_line Atom place e h = never e
  declared_line Set place e h = never e
  declared_line Change place e h = never e
  declared_line Eq place e h = never e
  declared_line Union place e h = never e
  declared_line Let place e h = never e
  declared_line Bind place e h = never e
  declared_line Panic place e h = never e
  declared_line Local place e h = never e
  declared_line Malformed place e h = never e
