-- Rows by what they tell, and an error entry's row.
use Rattle.std.specs.Prelude.{ℕ, List, [], ◌∷◌, ◌++◌, Option, None, Some, get_or}
use Rattle.text_words.specs.Bytes.{line_feed}
use Rattle.text_words.specs.Put.{decimal}
use Rattle.text_grammar.specs.Bytes.{bytes}
use Rattle.text_definition.specs.Decls.{Decls}
use Rattle.text_definition.specs.Rows.{printed, sort_text}
use Rattle.out_rows.specs.Row.{one_number}
use Rattle.out_rows.specs.declared.pieces.Entry.{Entry}
use Rattle.out_rows.specs.declared.pieces.Entry.TheVariants.{Mismatch, AllFailed, Arity}

abbrev pub sorted_row : Decls → ℕ → ℕ → List ℕ
sorted_row d t sort = printed d t ++ bytes " " ++ sort_text d sort ++ line_feed ∷ []

abbrev pub unsorted_row : Decls → ℕ → ℕ → List ℕ
unsorted_row d place t = bytes "unsorted " ++ decimal place ++ bytes " " ++ printed d t ++ line_feed ∷ []

abbrev pub mismatch_row : Decls → ℕ → ℕ → ℕ → ℕ → List ℕ
mismatch_row d place t expected actual =
    bytes "mismatch " ++ decimal place ++ bytes " " ++ printed d t ++ bytes " " ++ sort_text d expected ++ bytes " " ++ sort_text d actual ++ line_feed ∷ []

abbrev pub arity_row : Decls → ℕ → ℕ → ℕ → List ℕ
arity_row d place head count = bytes "arity " ++ decimal place ++ bytes " " ++ get_or d.head_names head [] ++ bytes " " ++ decimal count ++ line_feed ∷ []

abbrev pub entry_text : Decls → Option Entry → List ℕ
entry_text d None = []
entry_text d (Some (Mismatch place term expected actual)) = mismatch_row d place term expected actual
entry_text d (Some (AllFailed count)) = one_number (bytes "none ") count
entry_text d (Some (Arity place head count)) = arity_row d place head count
