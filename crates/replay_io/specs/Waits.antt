-- What waits to be written after something is put.
use Rattle.std.specs.Prelude.{ℕ, suc, ◌+◌, ◌≤◌, ◌≡◌, List, [], ◌∷◌, ◌++◌, length, cond, nat_eq, codes, decimal, flat_map}
use Rattle.definition.specs.declared.Outcome.{Outcome}
use Rattle.replay_io.specs.declared.output.Output.{Output}

-- as many bytes wait at most
abbrev pub block_bytes : ℕ
block_bytes = 65536

-- While there is room for the text, what waited and then the text wait.
abbrev pub Puts : Output → List ℕ → Output → Type 0
Puts old text new = length old.waiting.items + length text ≤ block_bytes → new.waiting.items ≡ old.waiting.items ++ text

-- each number behind a space
abbrev pub spaced : List ℕ → List ℕ
spaced numbers = flat_map (λ number. 32 ∷ decimal number) numbers

-- a run: its cell, and how often it stands there
abbrev pub run_of : ℕ → ℕ → List ℕ
run_of value count = 32 ∷ (decimal value ++ (120 ∷ decimal count))

-- the runs of cells that come behind so many of a value
unfoldable pub runs_from : ℕ → ℕ → List ℕ → List ℕ
runs_from value count [] = run_of value count
runs_from value count (cell ∷ cells) = cond (nat_eq value cell) (runs_from value (suc count) cells) (run_of value count ++ runs_from cell 1 cells)

-- the runs of the cells, in order
unfoldable pub runs : List ℕ → List ℕ
runs [] = []
runs (cell ∷ cells) = runs_from cell 1 cells

-- a buffer: its name and its runs
abbrev pub named : List ℕ → List ℕ → List ℕ
named name cells = name ++ runs cells

-- an answer line
abbrev pub answer_line : Outcome → List ℕ → List ℕ → List ℕ → List ℕ
answer_line o work sort_list errors =
    decimal o.number
    ++ spaced (o.passes ∷ o.term ∷ o.place ∷ [])
    ++ named (codes " | work") work
    ++ named (codes " | sorts") sort_list
    ++ named (codes " | errors") errors
    ++ (10 ∷ [])
