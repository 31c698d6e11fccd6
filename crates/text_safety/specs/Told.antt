-- The numbers that a text's refusals show.
use Rattle.std.specs.Prelude.{ℕ, ◌+◌, ◌*◌, [], ◌∷◌, length, replicate}
use Rattle.definition.specs.Sizes.{max_records, max_terms, entry_cells, room_frames}
use Rattle.definition.specs.Lists.{Among}
use Rattle.definition.specs.Refusal.{refusal}
use Rattle.text_definition.specs.Decls.{Decls, counted}

-- of a line: no arguments, an empty signature, no room, no such function, a constructor that is set, a line that is not well
-- formed, a name that is not known or not new
abbrev pub Told : ℕ → Type 0
Told n = Among n (7 ∷ 8 ∷ 10 ∷ 20 ∷ 21 ∷ 50 ∷ 51 ∷ [])

-- solve's refusal of what a text has said, in the room and the lists that the text's solving lends
abbrev pub work_room : ℕ
work_room = room_frames * (max_terms + max_records)

abbrev pub refusal_of : Decls → ℕ
refusal_of d = refusal (counted d (length d.term_names)) (replicate work_room 0) (replicate max_terms 0) (replicate (max_records * entry_cells) 0)
