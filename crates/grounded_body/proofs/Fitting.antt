-- The refusals of a body, by the tests that lead to them.
use Prim.Native.Nat.{ℕ, zero, suc, ◌+◌, ◌*◌, ◌-◌, ◌/◌, ◌<◌, ◌≤◌}
use mathlib.Core.Path.{◌≡◌, refl, sym, ap, ◌∙◌}
use mathlib.Core.Bool.{Bool, true, false, cond, not, ◌&&◌}
use Rattle.std.specs.List.{filter}
use Rattle.std.specs.Prelude.{Result}
use mathlib.Core.Logic.{◌⊎◌, inl, inr}
use mathlib.Core.List.{List, [], ◌∷◌}
use native.Mathlib.Omega.{arith}
use lib.Dec.{leb}
use lib.ListN.{length, length-take, length-append}
use borrow.Author.Tests.{le-leb, lt-leb}
use Rattle.definition.proofs.Laws.Left.{from_step, from_end}
use Rattle.grounded_body.specs.Body.{Body, atom_cells, term_cells, kind_at, arguments_at, is_variable, Constraint, constants, assigns, given_by, given_at}
use Rattle.definition.specs.Lists.{from, without_last}
use Rattle.definition.specs.Sizes.{max_terms, max_records}
use Rattle.definition.specs.declared.Refusal.{Refusal}
use Rattle.definition.specs.Numbers.{number_of, refused}
use Rattle.definition.specs.Refusal.{first_given, room_refusal}
use Rattle.definition.proofs.Laws.Refused.{first_given_lem}
use Rattle.definition.proofs.Laws.Numbers.{positive}
use Rattle.solve_records.proofs.Bools.{leb_same}
use Rattle.grounded_body.specs.declared.BodyCounts.{BodyCounts}
use Rattle.grounded_body.specs.declared.Body.{Body as Lent}
use Rattle.grounded_body.specs.declared.AtomKind.{AtomKind}
use Rattle.grounded_body.specs.declared.AtomKind.TheVariants.{Function, Primitive, Equality}
use Rattle.grounded_body.specs.Kinds.{atom_number, atom_kind}
use Rattle.grounded_body.specs.Layout.{records_in, side_in}
use Rattle.grounded_body.specs.Check.{max_arguments, shape_fits, body_fits, sizes_fit, atoms_refusal, grounded_refusal}
use Rattle.grounded_body.specs.Parts.{body, seen, SideAdded}

-- 1, with the lists divided
pub sizes_divided : (b : Body) → sizes_fit b ≡
    (leb b.term_count max_terms && leb b.term_count (length b.terms / term_cells)
    && (leb b.argument_count max_arguments && leb b.argument_count (length b.arguments))
    && leb b.atom_count (length b.atoms / atom_cells))
unfolding sizes_fit
sizes_divided b =
    let t : leb (b.term_count * term_cells) (length b.terms) ≡ leb b.term_count (length b.terms / term_cells)
    = leb_same (b.term_count * term_cells) (length b.terms) b.term_count (length b.terms / term_cells) (λ w. omega arith) (λ w. omega arith) in
    let a : leb (b.atom_count * atom_cells) (length b.atoms) ≡ leb b.atom_count (length b.atoms / atom_cells)
    = leb_same (b.atom_count * atom_cells) (length b.atoms) b.atom_count (length b.atoms / atom_cells) (λ w. omega arith) (λ w. omega arith) in
    rw (t, a)

pub assigns_records : (ts : List ℕ) → records_in (assigns ts) ≡ length ts
unfolding assigns records_in
assigns_records [] = refl
assigns_records (t ∷ ts) = omega (arith, assigns_records ts)

-- the records that an atom adds
module _ (T args : List ℕ) where
  pub function_records : length args ≡ records_in (given_by T 0 args)
  unfolding given_by
  function_records = sym (assigns_records args)

  pub primitive_records : length (constants T args) + 2 ≡ records_in (given_by T 1 args)
  unfolding given_by records_in
  primitive_records = omega (arith, assigns_records (constants T args))

  pub equality_records : length (constants T args) + 1 ≡ records_in (given_by T 2 args)
  unfolding given_by records_in
  equality_records = omega (arith, assigns_records (constants T args))

-- the constants are the arguments that are no variables
pub constants_filtered : (T ts : List ℕ) → filter (λ t. not (is_variable T t)) ts ≡ constants T ts
unfolding constants
constants_filtered T [] = refl
constants_filtered T (t ∷ ts) = go (is_variable T t) (constants_filtered T ts)
  where
    go : (v : Bool) → filter (λ t. not (is_variable T t)) ts ≡ constants T ts →
        cond (not v) (t ∷ filter (λ t. not (is_variable T t)) ts) (filter (λ t. not (is_variable T t)) ts) ≡ cond v (constants T ts) (t ∷ constants T ts)
    go true e = e
    go false e = ap (λ (l : List ℕ). t ∷ l) e

pub constants_few : (T ts : List ℕ) → length (constants T ts) ≤ length ts
unfolding constants
constants_few T [] = omega arith
constants_few T (t ∷ ts) = go (is_variable T t) (constants_few T ts)
  where
    go : (v : Bool) → length (constants T ts) ≤ length ts → length (cond v (constants T ts) (t ∷ constants T ts)) ≤ suc (length ts)
    go true h = omega arith
    go false h = omega arith

pub records_few : (T : List ℕ) (kind : ℕ) (args : List ℕ) → records_in (given_by T kind args) ≤ length args + 2
unfolding given_by records_in
records_few T zero args = omega (arith, assigns_records args)
records_few T (suc zero) args = omega (arith, assigns_records (constants T args), constants_few T args)
records_few T (suc (suc k)) args = omega (arith, assigns_records (constants T args), constants_few T args)

-- the side cells that an atom adds
pub assigns_side : (ts : List ℕ) → side_in (assigns ts) ≡ []
unfolding assigns side_in
assigns_side [] = refl
assigns_side (t ∷ ts) = assigns_side ts

module _ (args : List ℕ) where
  pub side_function : SideAdded 0 args 0
  unfolding given_by side_in
  side_function T = rw (assigns_side args)

  pub side_primitive : SideAdded 1 args (length args - 1)
  unfolding given_by side_in
  side_primitive T =
      rw (assigns_side (constants T args)) (omega (arith, length-append (without_last args) [], length-take (length args - 1) args))

  pub side_equality : SideAdded 2 args 0
  unfolding given_by side_in
  side_equality T = rw (assigns_side (constants T args))

pub side_few : (kind : AtomKind) (n : ℕ) (args : List ℕ) → SideAdded (atom_number kind) args n → n ≤ length args
side_few Function n args h = omega (arith, h [], side_function args [])
side_few Primitive n args h = omega (arith, h [], side_primitive args [])
side_few Equality n args h = omega (arith, h [], side_equality args [])

-- 7 and 10 of one atom
module _ (b : Body) (n s a : ℕ) (rest : List ℕ) where
  abbrev more : ℕ
  more = records_in (given_at b a)

  abbrev wider : ℕ
  wider = length (side_in (given_at b a))

  pub shape_bad : shape_fits (kind_at b a) (length (arguments_at b a)) ≡ false → atoms_refusal b n s (a ∷ rest) ≡ 7
  unfolding atoms_refusal
  shape_bad h = rw h

  module _ (shape : shape_fits (kind_at b a) (length (arguments_at b a)) ≡ true) where
    pub atom_over : (512 < n + more) ⊎ ((n + more ≤ 512) × (2048 < s + wider)) → atoms_refusal b n s (a ∷ rest) ≡ 10
    unfolding atoms_refusal
    atom_over (inl h) = rw (shape, lt-leb (n + more) 512 h)
    atom_over (inr h) = rw (shape, le-leb (n + more) 512 h.0, lt-leb (s + wider) 2048 h.1)

    pub atom_taken : n + more ≤ 512 → s + wider ≤ 2048 → atoms_refusal b n s (a ∷ rest) ≡ atoms_refusal b (n + more) (s + wider) rest
    unfolding atoms_refusal
    atom_taken h k = rw (shape, le-leb (n + more) 512 h, le-leb (s + wider) 2048 k)

-- what a kind is read as gives what its number gives
given_read : (T : List ℕ) (n : ℕ) (args : List ℕ) → given_by T (atom_number (atom_kind n)) args ≡ given_by T n args
unfolding given_by
given_read T zero args = refl
given_read T (suc zero) args = refl
given_read T (suc (suc k)) args = refl

pub shape_read : (n m : ℕ) → shape_fits (atom_number (atom_kind n)) m ≡ shape_fits n m
unfolding shape_fits
shape_read zero m = refl
shape_read (suc zero) m = refl
shape_read (suc (suc k)) m = refl

-- a turn of the loop over the atoms: what was read is the atom's
module _ (b : Body) (i : ℕ) (kind : AtomKind) (own : List ℕ) (h : i < b.atom_count) (k : kind ≡ atom_kind (kind_at b i)) (o : own ≡ arguments_at b i) where
  read_shape : (v : Bool) → shape_fits (atom_number kind) (length own) ≡ v → shape_fits (kind_at b i) (length (arguments_at b i)) ≡ v
  read_shape v e = rw (← o, ← shape_read (kind_at b i) (length own), ← k) e

  pub read_given : given_by b.terms (atom_number kind) own ≡ given_at b i
  unfolding given_at
  read_given = rw (o, k) (given_read b.terms (kind_at b i) (arguments_at b i))

  module _ (n s : ℕ) (inv : atoms_refusal b n s (from i (b.atom_count - i)) ≡ atoms_refusal b 0 0 (from 0 b.atom_count)) where
    abbrev rest : List ℕ
    rest = from (i + 1) (b.atom_count - (i + 1))

    here : atoms_refusal b n s (i ∷ rest) ≡ atoms_refusal b 0 0 (from 0 b.atom_count)
    here = ap (atoms_refusal b n s) (sym (from_step i b.atom_count h)) ∙ inv

    pub turn_shape : shape_fits (atom_number kind) (length own) ≡ false → 7 ≡ atoms_refusal b 0 0 (from 0 b.atom_count)
    turn_shape e = sym (shape_bad b n s i rest (read_shape false e)) ∙ here

    module _ (e : shape_fits (atom_number kind) (length own) ≡ true) (r w : ℕ) (er : r ≡ records_in (given_by b.terms (atom_number kind) own)) (ew : SideAdded (atom_number kind) own w) where
      records_read : r ≡ records_in (given_at b i)
      records_read = er ∙ ap records_in read_given

      side_read : w ≡ length (side_in (given_at b i))
      side_read = ew b.terms ∙ ap (λ (gs : List Constraint). length (side_in gs)) read_given

      pub turn_over : (512 < n + r) ⊎ ((n + r ≤ 512) × (2048 < s + w)) → 10 ≡ atoms_refusal b 0 0 (from 0 b.atom_count)
      turn_over l = sym (atom_over b n s i rest (read_shape true e) (rw (← records_read, ← side_read) l)) ∙ here

      pub turn_next : n + r ≤ 512 → s + w ≤ 2048 → atoms_refusal b (n + r) (s + w) rest ≡ atoms_refusal b 0 0 (from 0 b.atom_count)
      turn_next l m =
          rw (records_read, side_read)
          (sym (atom_taken b n s i rest (read_shape true e) (omega (arith, records_read)) (omega (arith, side_read))) ∙ here)

pub refusal_end : (b : Body) (n s i count : ℕ) → count ≤ i → 0 ≡ atoms_refusal b n s (from i (count - i))
unfolding atoms_refusal
refusal_end b n s i count h = rw (from_end i count h)

-- the refusals in their order: past 1 and 2 the room's is given, and where there is none, the atoms'
module _ (b : Body) (work sort_list errors : ℕ) (sizes : sizes_fit b ≡ true) where
  pub fits_not : body_fits b ≡ false → 2 ≡ grounded_refusal b work sort_list errors
  unfolding grounded_refusal
  fits_not h = rw (sizes, h)

  module _ (fits : body_fits b ≡ true) where
    pub room_given : (r : Refusal) → number_of r ≡ room_refusal b.term_count max_records work sort_list errors → number_of r ≡ grounded_refusal b work sort_list errors
    unfolding grounded_refusal
    room_given r e = rw (sizes, fits, ← e) (sym (first_given_lem (number_of r) _ (λ z. omega (arith, positive r))))

    pub atoms_given : (n : ℕ) → 0 ≡ room_refusal b.term_count max_records work sort_list errors → n ≡ atoms_refusal b 0 0 (from 0 b.atom_count) →
        n ≡ grounded_refusal b work sort_list errors
    unfolding grounded_refusal first_given
    atoms_given n e h = rw (sizes, fits, ← e) h

-- the refusals are the same at any place
module _ (n : BodyCounts) (place : ℕ) (A R T : List ℕ) where
  abbrev b : Body
  b = body n place A R T

  atoms_anywhere : (r s : ℕ) (xs : List ℕ) → atoms_refusal (body n 0 A R T) r s xs ≡ atoms_refusal b r s xs
  unfolding atoms_refusal given_at
  atoms_anywhere r s [] = refl
  atoms_anywhere r s (a ∷ xs) = rw (atoms_anywhere (r + records_in (given_at b a)) (s + length (side_in (given_at b a))) xs)

  pub refusal_anywhere : (work sort_list errors : ℕ) → grounded_refusal (body n 0 A R T) work sort_list errors ≡ grounded_refusal b work sort_list errors
  unfolding grounded_refusal sizes_fit body_fits
  refusal_anywhere work sort_list errors = rw (atoms_anywhere 0 0 (from 0 n.atoms))

-- so an answer for a body at its own place is one at place 0
pub refusal_told : (b : Lent) (work sort_list errors : ℕ) (r : Result Unit Refusal) → refused r ≡ grounded_refusal (seen b) work sort_list errors →
    refused r ≡ grounded_refusal (body b.counts 0 b.atoms.now b.arguments.now b.terms.now) work sort_list errors
refusal_told b work sort_list errors r h = h ∙ sym (refusal_anywhere b.counts b.place b.atoms.now b.arguments.now b.terms.now work sort_list errors)
