-- The output: rows one after another, each a line or nothing.
use Rattle.std.specs.Prelude.{ℕ, zero, suc, ◌+◌, ◌-◌, ◌*◌, cond, List, [], ◌∷◌, ◌++◌, eqb, length, get_or}
use Rattle.definition.specs.Sizes.{entry_cells}
use Rattle.definition.specs.Lists.{from, joined}
use Rattle.definition.specs.Buffers.{Exit}
use Rattle.text_words.specs.Bytes.{line_feed, hash}
use Rattle.text_words.specs.Put.{decimal}
use Rattle.text_grammar.specs.Bytes.{bytes, Word}
use Rattle.text_definition.specs.Decls.{Decls}
use Rattle.text_definition.specs.Run.{End, refused_at, solved, text_end}

abbrev newline : List ℕ
newline = line_feed ∷ []

abbrev blank : List ℕ
blank = bytes " "

-- a fresh term prints as `#` and its number
unfoldable pub term_text : ℕ → Word → List ℕ
term_text t [] = hash ∷ decimal t
term_text t (b ∷ bs) = b ∷ bs

abbrev pub printed : Decls → ℕ → List ℕ
printed d t = term_text t (get_or d.term_names t [])

abbrev pub sort_text : Decls → ℕ → List ℕ
sort_text d s = get_or d.sort_names s []

-- `refused NUMBER line L`
abbrev pub refused_row : ℕ → ℕ → List ℕ
refused_row n place = bytes "refused " ++ decimal n ++ bytes " line " ++ decimal place ++ newline

-- how many cells hold a sort
unfoldable pub sorted : List ℕ → ℕ
sorted [] = 0
sorted (zero ∷ cs) = sorted cs
sorted (suc s ∷ cs) = suc (sorted cs)

-- `TERM SORT`, nothing for a term without a sort
unfoldable pub term_row : Decls → ℕ → ℕ → List ℕ
term_row d t zero = []
term_row d t (suc s) = printed d t ++ blank ++ sort_text d s ++ newline

-- `ok N passes P`, then a row for each term
unfoldable pub ok_row : Decls → Exit → ℕ → List ℕ
ok_row d e zero = bytes "ok " ++ decimal (sorted e.sort_list) ++ bytes " passes " ++ decimal e.outcome.passes ++ newline
ok_row d e (suc t) = term_row d t (get_or e.sort_list t 0)

-- `open P`, then `unsorted LINE TERM`
unfoldable pub open_row : Decls → Exit → ℕ → List ℕ
open_row d e zero = bytes "open " ++ decimal e.outcome.passes ++ newline
open_row d e (suc zero) = bytes "unsorted " ++ decimal e.outcome.place ++ blank ++ printed d e.outcome.term ++ newline
open_row d e (suc (suc k)) = []

-- An error entry by its number.
pub data Told : Type 0 where
  mismatch none arity nothing : Told

abbrev pub told : ℕ → Told
told n = cond (eqb n 30) mismatch (cond (eqb n 32) none (cond (eqb n 33) arity nothing))

-- cell k of entry i
abbrev pub entry_cell : Exit → ℕ → ℕ → ℕ
entry_cell e i k = get_or e.errors (i * entry_cells + k) 0

-- `mismatch LINE TERM EXPECTED ACTUAL`, `none COUNT`, `arity LINE HEAD COUNT`
unfoldable pub entry_row : Told → Decls → Exit → ℕ → List ℕ
entry_row mismatch d e i =
    bytes "mismatch " ++ decimal (entry_cell e i 2) ++ blank ++ printed d (entry_cell e i 3) ++ blank ++ sort_text d (entry_cell e i 4) ++ blank ++ sort_text d (entry_cell e i 5) ++ newline
entry_row none d e i = bytes "none " ++ decimal (entry_cell e i 3) ++ newline
entry_row arity d e i =
    bytes "arity " ++ decimal (entry_cell e i 2) ++ blank ++ get_or d.head_names (entry_cell e i 3) [] ++ blank ++ decimal (entry_cell e i 4 - 1) ++ newline
entry_row nothing d e i = []

-- `conflict P`, then a row for each entry
unfoldable pub conflict_row : Decls → Exit → ℕ → List ℕ
conflict_row d e zero = bytes "conflict " ++ decimal e.outcome.passes ++ newline
conflict_row d e (suc i) = entry_row (told (get_or e.errors (i * entry_cells) 0)) d e i

-- The outcome by its number. The last case is there so that the definition is total: solve refusing what the lines made.
pub data Ending : Type 0 where
  answered unsorted conflict refusing : Ending

abbrev pub ending_of : ℕ → Ending
ending_of n = cond (eqb n 0) answered (cond (eqb n 31) unsorted (cond (eqb n 30) conflict (cond (eqb n 32) conflict (cond (eqb n 33) conflict refusing))))

unfoldable pub only_first : List ℕ → ℕ → List ℕ
only_first row zero = row
only_first row (suc k) = []

unfoldable pub solved_row : Ending → Decls → Exit → ℕ → List ℕ
solved_row answered d e k = ok_row d e k
solved_row unsorted d e k = open_row d e k
solved_row conflict d e k = conflict_row d e k
solved_row refusing d e k = only_first (refused_row e.outcome.number 0) k

unfoldable pub row_of : End → ℕ → List ℕ
row_of (refused_at n place) k = only_first (refused_row n place) k
row_of (solved d e) k = solved_row (ending_of e.outcome.number) d e k

-- how many rows there are at most: two, and one for each term and each record; what is behind the last printed one is empty
unfoldable pub row_count : End → ℕ
row_count (refused_at n place) = 1
row_count (solved d e) = length d.term_names + d.problem.counts.records + 2

-- the whole output
abbrev pub output_of : End → List ℕ
output_of e = joined (row_of e) (from 0 (row_count e))

unfoldable pub sorts_text : List ℕ → List ℕ
sorts_text s = output_of (text_end s)
