-- Bytes put into a buffer all or not at all.
use Rattle.std.specs.Prelude.{cond, List, ◌++◌, ℕ, leb, length, drop}

-- where the bytes fit they stand at the front and the rest is as it was; where they don't, all is as it was
abbrev pub at_front : List ℕ → List ℕ → List ℕ
at_front bytes out = cond (leb (length bytes) (length out)) (bytes ++ drop (length bytes) out) out
