-- The alternatives of a head: get_atom_application_constraints.
use Rattle.std.specs.Prelude.{ℕ, ◌/◌, ◌%◌, ◌^◌, Bool, false, ◌&&◌, cond, List, [], ◌∷◌, ◌++◌, map, leb, eqb, take}
use Rattle.definition.specs.Lists.{from}
use Rattle.rule_cells.specs.Put.{Record}
use Rattle.rule_signatures.specs.Tables.{kind_at, head_at, mask_at, signature_at}
use Rattle.rule_signatures.specs.Gives.{gives, empty, any}

-- the numbers of the list that pass the test
unfoldable pub keep : (ℕ → Bool) → List ℕ → List ℕ
keep t [] = []
keep t (x ∷ xs) = cond (t x) (x ∷ keep t xs) (keep t xs)

-- signature i is a function with this head; get_func_type finds the first
abbrev pub is_function : List ℕ → ℕ → ℕ → Bool
is_function signatures head i = leb (kind_at signatures i) 1 && eqb (head_at signatures i) head

unfoldable pub function_of : List ℕ → ℕ → ℕ → List ℕ
function_of signatures n head = take 1 (keep (is_function signatures head) (from 0 n))

-- a primitive with this head whose mask has the context's bit
abbrev pub permits : ℕ → ℕ → Bool
permits mask context = eqb (mask / 2 ^ context % 2) 1

abbrev pub is_permitted : List ℕ → ℕ → ℕ → ℕ → Bool
is_permitted signatures head context i =
    leb 2 (kind_at signatures i) && eqb (head_at signatures i) head && permits (mask_at signatures i) context

-- of the first n signatures: the head's first function, then each permitted primitive in table order
unfoldable pub alternatives : List ℕ → ℕ → ℕ → ℕ → List ℕ
alternatives signatures n head context =
    function_of signatures n head ++ keep (is_permitted signatures head context) (from 0 n)

-- 21: the head's function is a constructor
unfoldable pub is_constructor : List ℕ → List ℕ → Bool
is_constructor signatures [] = false
is_constructor signatures (i ∷ is) = eqb (kind_at signatures i) 1

-- 8: an alternative is empty
abbrev pub some_empty : List ℕ → List ℕ → Bool
some_empty signatures is = any (λ i. empty (signature_at signatures i)) is

-- what each alternative gives
abbrev pub given_by : List ℕ → List ℕ → List ℕ → ℕ → List Record
given_by signatures signature_sorts args i = gives signature_sorts (signature_at signatures i) args

-- The constraints of an atom or an action: those that stand by themselves, and, if its head has several alternatives,
-- one Xor of Ands after them.
pub data Given : Type 0 where
  plain : List Record → Given
  choice : List Record → List (List Record) → Given

-- after the literals' and globals': one alternative stands unwrapped, several are a choice
unfoldable pub head_gives : List ℕ → List ℕ → List ℕ → List Record → List ℕ → Given
head_gives signatures signature_sorts args before [] = plain before
head_gives signatures signature_sorts args before (i ∷ []) = plain (before ++ given_by signatures signature_sorts args i)
head_gives signatures signature_sorts args before (i ∷ j ∷ is) = choice before (map (given_by signatures signature_sorts args) (i ∷ j ∷ is))

-- 20: no alternative, UnboundFunction; then 8
unfoldable pub head_refusal : List ℕ → List ℕ → ℕ
head_refusal signatures [] = 20
head_refusal signatures (i ∷ is) = cond (some_empty signatures (i ∷ is)) 8 0
