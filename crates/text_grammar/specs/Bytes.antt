-- Quoted text as bytes.
use Rattle.std.specs.Prelude.{ℕ, List, [], ◌∷◌}
use Prim.Native.Char.{code}
use Prim.Native.String.{String}

-- the bytes of a text whose characters are all below 128
abbrev pub bytes : String → List ℕ
bytes String.[] = []
bytes (String.◌∷◌ c cs) = code c ∷ bytes cs

-- a word is a list of bytes, a line a list of words
abbrev pub Word : Type 0
Word = List ℕ
