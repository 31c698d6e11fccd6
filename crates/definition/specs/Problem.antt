-- A problem as it is lent, and its records as nodes: updates go by `node`, never by a record's cells.
use Rattle.std.specs.Prelude.{ℕ, zero, suc, ◌+◌, ◌*◌, List, [], ◌∷◌, get_or, take, drop}
use Rattle.definition.specs.declared.Counts.{Counts}
use Rattle.definition.specs.Sizes.{record_cells, range_cells}

-- the counts and the four flat lists
pub record Problem : Type 0 where
  pub counts : Counts
  pub records : List ℕ
  pub side : List ℕ
  pub tops : List ℕ
  pub range : List ℕ

-- The six constraints of the module. A child is a record's number.
pub data Node : Type 0 where
  -- Eq(x, y)
  eq : ℕ → ℕ → Node
  -- Assign(x, sort)
  assign : ℕ → ℕ → Node
  -- And(children)
  and : List ℕ → Node
  -- Xor(children)
  xor : List ℕ → Node
  -- Impossible(head, expected count)
  impossible : ℕ → ℕ → Node
  -- Implies(watched terms, child)
  implies : List ℕ → ℕ → Node

-- a part of the side list
abbrev pub part : List ℕ → ℕ → ℕ → List ℕ
part side start count = take count (drop start side)

-- a record's cells: its kind, its values 1 to 5, its place
abbrev pub kind_of : Problem → ℕ → ℕ
kind_of p r = get_or p.records (r * record_cells) 0

abbrev pub value_of : Problem → ℕ → ℕ → ℕ
value_of p r k = get_or p.records (r * record_cells + k) 0

abbrev pub place_of : Problem → ℕ → ℕ
place_of p r = get_or p.records (r * record_cells + 6) 0

-- what a kind and three values mean. A kind above 5 is refused: it decodes as an Impossible that is refused as well
unfoldable pub node_of : List ℕ → ℕ → ℕ → ℕ → ℕ → Node
node_of side zero a b c = eq a b
node_of side (suc zero) a b c = assign a b
node_of side (suc (suc zero)) a b c = and (part side a b)
node_of side (suc (suc (suc zero))) a b c = xor (part side a b)
node_of side (suc (suc (suc (suc zero)))) a b c = impossible a b
node_of side (suc (suc (suc (suc (suc zero))))) a b c = implies (part side a b) c
node_of side (suc (suc (suc (suc (suc (suc k)))))) a b c = impossible 0 0

unfoldable pub node : Problem → ℕ → Node
node p r = node_of p.side (kind_of p r) (value_of p r 1) (value_of p r 2) (value_of p r 3)

-- the records below a node
abbrev pub children : Node → List ℕ
children (eq x y) = []
children (assign x s) = []
children (and cs) = cs
children (xor cs) = cs
children (impossible h e) = []
children (implies ws c) = c ∷ []

-- the terms that a node names
abbrev pub terms_of : Node → List ℕ
terms_of (eq x y) = x ∷ y ∷ []
terms_of (assign x s) = x ∷ []
terms_of (and cs) = []
terms_of (xor cs) = []
terms_of (impossible h e) = []
terms_of (implies ws c) = ws

-- the top-level records, in order
abbrev pub top_level : Problem → List ℕ
top_level p = take p.counts.tops p.tops

-- a range entry's term and place
abbrev pub range_term : Problem → ℕ → ℕ
range_term p i = get_or p.range (i * range_cells) 0

abbrev pub range_place : Problem → ℕ → ℕ
range_place p i = get_or p.range (i * range_cells + 1) 0
