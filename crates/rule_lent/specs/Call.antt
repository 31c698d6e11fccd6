-- A generator's call, cell by cell.
use Rattle.std.specs.Prelude.{ℕ, ◌+◌, ◌*◌, Bool, List, get_or}
use Rattle.definition.specs.Problem.{part}

-- The call: a query's atoms or a list of actions, and their arguments within the count.
pub record Source : Type 0 where
  pub query : Bool
  pub calls : List ℕ
  pub arguments : List ℕ

-- an atom or an action is 8 cells: kind, head, start and count of its arguments, x, y, place, one that is not read
abbrev pub call_cells : ℕ
call_cells = 8

abbrev pub call_kind : Source → ℕ → ℕ
call_kind c i = get_or c.calls (i * call_cells) 0

abbrev pub call_cell : Source → ℕ → ℕ → ℕ
call_cell c i k = get_or c.calls (i * call_cells + k) 0

abbrev pub head_of : Source → ℕ → ℕ
head_of c i = call_cell c i 1

abbrev pub args_of : Source → ℕ → List ℕ
args_of c i = part c.arguments (call_cell c i 2) (call_cell c i 3)

abbrev pub x_of : Source → ℕ → ℕ
x_of c i = call_cell c i 4

abbrev pub y_of : Source → ℕ → ℕ
y_of c i = call_cell c i 5

abbrev pub place_of : Source → ℕ → ℕ
place_of c i = call_cell c i 6
