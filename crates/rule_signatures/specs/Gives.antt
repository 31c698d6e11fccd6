-- The constraints that arguments get, each written from the function of the module that its comment names.
use Rattle.std.specs.Prelude.{ℕ, Option, Some, None, Bool, false, ◌||◌, cond, eqb, length, get_or, drop}
use mathlib.Core.List.{List, [], ◌∷◌, map, zip_with}
use Rattle.definition.specs.Problem.{part}
use Rattle.definition.specs.Lists.{last_of, without_last}
use Rattle.rule_cells.specs.Put.{Record, eq, assign, impossible}
use Rattle.rule_signatures.specs.declared.Signature.{Signature}
use Rattle.rule_signatures.specs.declared.Signature.TheVariants.{Simple, AllEqual}
use Rattle.rule_signatures.specs.Tables.{known_sort}

-- get_literal_and_global_constraints: an Assign for each literal or global, in order
unfoldable pub assign_if : ℕ → Option ℕ → List Record → List Record
assign_if t None rest = rest
assign_if t (Some s) rest = assign t s ∷ rest

unfoldable pub fixed : List ℕ → List ℕ → List ℕ → List Record
fixed terms globals [] = []
fixed terms globals (t ∷ ts) = assign_if t (known_sort terms globals t) (fixed terms globals ts)

-- SimpleTypeConstraint::get, and the part of get_atom_application_constraints for a function
unfoldable pub simple_gives : ℕ → List ℕ → List ℕ → List Record
simple_gives head sorts args = cond (eqb (length args) (length sorts)) (zip_with assign args sorts) (impossible head (length sorts) ∷ [])

-- AllEqualTypeConstraint::get, from its end: the arguments left are of the common sort, or each later one is like the first
unfoldable pub alike : Option ℕ → List ℕ → List Record
alike (Some s) args = map (λ a. assign a s) args
alike None args = map (λ a. eq a (get_or args 0 0)) (drop 1 args)

-- an output sort: the last argument gets it and drops out
unfoldable pub output : Option ℕ → Option ℕ → List ℕ → List Record
output common None args = alike common args
output common (Some s) args = assign (last_of args) s ∷ alike common (without_last args)

-- a wrong exact length is all there is
unfoldable pub exact : ℕ → Option ℕ → List ℕ → List Record → List Record
exact head None args rest = rest
exact head (Some e) args rest = cond (eqb (length args) e) rest (impossible head e ∷ [])

-- `get` of the trait TypeConstraint.
unfoldable pub gives : List ℕ → Signature → List ℕ → List Record
gives signature_sorts (Simple s) args = simple_gives s.head (part signature_sorts s.start s.count) args
gives signature_sorts (AllEqual a) args = exact a.head a.length args (output a.common a.output args)

-- 8: a function or simple signature without sorts, an exact length of 0
unfoldable pub is_zero : Option ℕ → Bool
is_zero None = false
is_zero (Some n) = eqb n 0

unfoldable pub empty : Signature → Bool
empty (Simple s) = eqb s.count 0
empty (AllEqual a) = is_zero a.length

-- one of the numbers passes the test
unfoldable pub any : (ℕ → Bool) → List ℕ → Bool
any t [] = false
any t (x ∷ xs) = t x || any t xs
