-- A word's test over the tables of names, as the code is lent them.
use Rattle.std.specs.Prelude.{◌*◌, ◌≤◌, Bool, length}
use Rattle.rule_signatures.specs.Tables.{signature_cells}
use Rattle.text_words.specs.Parts.{Whole, all_of}
use Rattle.text_grammar.specs.Bytes.{Word}
use Rattle.text_grammar.specs.declared.Kind.{Kind}
use Rattle.text_definition.specs.Decls.{known_in}
use Rattle.text_known.specs.declared.Declared.{Declared}

-- the tables are long enough for what is declared
abbrev pub Room : Declared → Type 0
Room d = Whole d.sorts × (Whole d.globals × (Whole d.heads × (d.heads.count * signature_cells ≤ length d.signatures.now)))

abbrev pub known_by : Declared → Kind → Word → Bool
known_by d = known_in (all_of d.sorts) (all_of d.globals) (all_of d.heads) d.signatures.now
