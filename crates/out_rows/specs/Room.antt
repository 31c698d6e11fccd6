-- The room that a row takes: a row has three names at most, and each is part of the text.
use Rattle.std.specs.Prelude.{ℕ, ◌+◌, ◌*◌, ◌&&◌, cond, List, [], leb, eqb, length}
use Rattle.definition.specs.Sizes.{max_terms, max_records}
use Rattle.text_definition.specs.declared.Ended.{Ended}
use Rattle.text_definition.specs.Run.{End, refused_at, solved, max_bytes}
use Rattle.text_definition.specs.Rows.{row_of}

-- bytes beside the names
abbrev pub besides : ℕ
besides = 100

unfoldable pub room_of : List ℕ → End → ℕ
room_of s (refused_at n place) = besides
room_of s (solved d e) = 3 * length s + besides

-- row k where the line has room for every row, nothing where it has not
unfoldable pub fitted : List ℕ → ℕ → End → ℕ → List ℕ
fitted s room e k = cond (leb (room_of s e) room) (row_of e k) []

-- a line that suffices for every text
abbrev pub line_bytes : ℕ
line_bytes = 3 * max_bytes + besides

-- how many rows there are, by the numbers; none where a number is past its largest size
unfoldable pub counted_rows : Ended → ℕ
counted_rows r =
    cond (eqb r.refused 0) (cond (leb r.numbers.terms max_terms && leb r.numbers.problem.records max_records) (r.numbers.terms + r.numbers.problem.records + 2) 0) 1
