-- What is shown, as what was declared, what solving left, and how the text ended.
use Rattle.std.specs.Prelude.{◌+◌, ◌*◌, ◌≤◌, length}
use Rattle.definition.specs.Buffers.{Exit}
use Rattle.text_definition.specs.Decls.{Decls}
use Rattle.text_definition.specs.Run.{End}
use Rattle.out_rows.specs.declared.Shown.{Shown}
use Rattle.out_rows.specs.declared.row.Row.{Row}
use Rattle.out_rows.specs.Room.{besides}
use Rattle.out_rows.specs.Rows.{named, left, ended}

abbrev pub decls : Shown → Decls
decls w = named w.text.now w.sort_names.now w.head_names.now w.term_names.now w.ended

abbrev pub exit : Shown → Exit
exit w = left w.sort_list.now w.errors.now w.ended

abbrev pub shown : Shown → End
shown w = ended w.text.now w.sort_names.now w.head_names.now w.term_names.now w.sort_list.now w.errors.now w.ended

-- room for three names and what is beside them, behind what was put
abbrev pub HasRoom : Shown → Row → Type 0
HasRoom w row = row.at + (3 * length w.text.now + besides) ≤ length row.line.now
