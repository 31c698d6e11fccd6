-- What an atom or an action asks: Atom::get_constraints, CoreAction::get_constraints, and what add_query and add_actions
-- put into the range.
use Rattle.std.specs.Prelude.{ℕ, zero, suc, Bool, false, not, cond, List, [], ◌∷◌, ◌++◌, eqb, length, get_or}
use Rattle.rule_heads.specs.Alternatives.{function_of, is_constructor}
pub use Rattle.rule_lent.specs.Call.{Source, call_cells, call_kind, call_cell, head_of, args_of, x_of, y_of, place_of}
use Rattle.rule_steps.specs.declared.Form.{Form}
use Rattle.rule_steps.specs.declared.Form.TheVariants.{Nothing, Equality, Application}

-- The tables: the signatures and how many, the sorts of signatures and the globals within their counts, the terms,
-- the context.
pub record Tables : Type 0 where
  pub signatures : List ℕ
  pub declared : ℕ
  pub signature_sorts : List ℕ
  pub globals : List ℕ
  pub terms : List ℕ
  pub context : ℕ

-- args: literals and globals among them get their Assigns, and a head is applied to them. bound: the terms that enter the
-- range. fresh: how many terms are new. forbidden: 21 is given. miscounted: 7 is given.
pub record Ask : Type 0 where
  pub args : List ℕ
  pub form : Form
  pub bound : List ℕ
  pub fresh : ℕ
  pub forbidden : Bool
  pub miscounted : Bool

-- a head applied to arguments, of which there must be some
abbrev pub application : ℕ → List ℕ → List ℕ → ℕ → Bool → Ask
application head args bound fresh forbidden =
    record { args = args; form = Application head; bound = bound; fresh = fresh; forbidden = forbidden; miscounted = eqb (length args) 0 }

-- two terms are equal; the literals and globals are those of args
abbrev pub equality : ℕ → ℕ → List ℕ → List ℕ → Bool → Ask
equality x y args bound miscounted =
    record { args = args; form = Equality x y; bound = bound; fresh = 0; forbidden = false; miscounted = miscounted }

-- Atom::get_constraints, on the atom's kind. All argument terms of a query enter the range
unfoldable pub atom_ask : (head : ℕ) (args : List ℕ) → ℕ → Ask
atom_ask head args zero = application head args args 0 false
atom_ask head args (suc k) = equality (get_or args 0 0) (get_or args 1 0) args args (not (eqb (length args) 2))

-- the head's function is a constructor
abbrev pub sets_constructor : Tables → ℕ → Bool
sets_constructor T head = is_constructor T.signatures (function_of T.signatures T.declared head)

-- CoreAction::get_constraints: Let, Set, Change, Union, LetAtomTerm, Panic. `terms` is the count of terms, which a fresh
-- term takes as its number. Let and LetAtomTerm put their variable into the range
unfoldable pub action_ask : Tables → (terms head : ℕ) (args : List ℕ) (x y : ℕ) → ℕ → Ask
action_ask T terms head args x y zero = application head (args ++ x ∷ []) (x ∷ []) 0 false
action_ask T terms head args x y (suc zero) = application head (args ++ x ∷ []) [] 0 (sets_constructor T head)
action_ask T terms head args x y (suc (suc zero)) = application head (args ++ terms ∷ []) [] 1 false
action_ask T terms head args x y (suc (suc (suc zero))) = equality x y (x ∷ y ∷ []) [] false
action_ask T terms head args x y (suc (suc (suc (suc zero)))) = equality x y (y ∷ []) (x ∷ []) false
action_ask T terms head args x y (suc (suc (suc (suc (suc k))))) =
    record { args = []; form = Nothing; bound = []; fresh = 0; forbidden = false; miscounted = false }

-- atom or action i of the call
unfoldable pub ask : Tables → ℕ → Source → ℕ → Ask
ask T terms c i =
    cond c.query
    (atom_ask (head_of c i) (args_of c i) (call_kind c i))
    (action_ask T terms (head_of c i) (args_of c i) (x_of c i) (y_of c i) (call_kind c i))
