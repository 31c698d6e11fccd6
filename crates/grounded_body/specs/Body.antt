-- A rule's body as it is lent, and the constraints that grounded_check makes of it.
use Rattle.std.specs.Prelude.{ℕ, zero, suc, ◌+◌, ◌*◌, Bool, cond, List, [], ◌∷◌, ◌++◌, eqb, get_or}
use Rattle.definition.specs.Problem.{part}
use Rattle.definition.specs.Lists.{joined, last_of, without_last}
pub use Rattle.rule_cells.specs.Terms.{term_cells, term_kind}

-- the counts and the three flat lists, and the rule's place
pub record Body : Type 0 where
  pub atom_count : ℕ
  pub argument_count : ℕ
  pub term_count : ℕ
  pub place : ℕ
  pub atoms : List ℕ
  pub arguments : List ℕ
  pub terms : List ℕ

-- an atom is 8 cells, of which three are read: its kind, the start and the count of its arguments
abbrev pub atom_cells : ℕ
atom_cells = 8

abbrev pub kind_at : Body → ℕ → ℕ
kind_at b a = get_or b.atoms (a * atom_cells) 0

abbrev pub start_at : Body → ℕ → ℕ
start_at b a = get_or b.atoms (a * atom_cells + 2) 0

abbrev pub count_at : Body → ℕ → ℕ
count_at b a = get_or b.atoms (a * atom_cells + 3) 0

abbrev pub arguments_at : Body → ℕ → List ℕ
arguments_at b a = part b.arguments (start_at b a) (count_at b a)

abbrev pub is_variable : List ℕ → ℕ → Bool
is_variable terms t = eqb (term_kind terms t) 0

-- A constraint of grounded_check, over its one sort.
pub data Constraint : Type 0 where
  -- Assign(t, ())
  assigned : ℕ → Constraint
  -- Eq(x, y)
  same : ℕ → ℕ → Constraint
  -- Implies(watched terms; Assign(t, ()))
  follows : List ℕ → ℕ → Constraint

-- an Assign for each of these terms
unfoldable pub assigns : List ℕ → List Constraint
assigns [] = []
assigns (t ∷ ts) = assigned t ∷ assigns ts

-- these terms without the variables
unfoldable pub constants : List ℕ → List ℕ → List ℕ
constants terms [] = []
constants terms (t ∷ ts) = cond (is_variable terms t) (constants terms ts) (t ∷ constants terms ts)

-- what an atom gives, by its kind: a function; a primitive; an equality. The last two assign their literals and globals
unfoldable pub given_by : List ℕ → ℕ → List ℕ → List Constraint
given_by terms zero args = assigns args
given_by terms (suc zero) args = follows (without_last args) (last_of args) ∷ assigns (constants terms args)
given_by terms (suc (suc k)) args = same (get_or args 0 0) (get_or args 1 0) ∷ assigns (constants terms args)

unfoldable pub given_at : Body → ℕ → List Constraint
given_at b a = given_by b.terms (kind_at b a) (arguments_at b a)

-- and these atoms, in order
unfoldable pub given : Body → List ℕ → List Constraint
given b [] = []
given b (a ∷ as') = given_at b a ++ given b as'

-- the arguments of these atoms, in order
abbrev pub mentioned : Body → List ℕ → List ℕ
mentioned b atoms = joined (arguments_at b) atoms
