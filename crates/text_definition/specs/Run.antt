-- A line, all lines in order, and how the text ends.
use Rattle.std.specs.Prelude.{ℕ, suc, ◌+◌, ◌-◌, ◌*◌, Bool, true, false, List, [], ◌∷◌, ltb, length, take, drop, get_or, replicate}
use Rattle.definition.specs.Sizes.{max_records, max_terms, entry_cells, room_frames}
use Rattle.definition.specs.Buffers.{Exit, exit}
use Rattle.text_words.specs.Bytes.{line_feed, space}
use Rattle.text_words.specs.Names.{number_below}
use Rattle.text_words.specs.Parts.{split}
use Rattle.text_grammar.specs.declared.Form.{Form}
use Rattle.text_grammar.specs.declared.Form.TheVariants.{Sort, Fun, Ctor, Simple, Equal, Global, Context, Atom, Set, Change, Eq, Union, Let, Bind, Panic, Local, Malformed}
use Rattle.text_grammar.specs.Bytes.{Word}
use Rattle.text_grammar.specs.Grammar.{form_of, mask_bound, context_bound}
use Rattle.text_definition.specs.Decls.{Decls, start, all_known, counted}
use Rattle.text_definition.specs.Declare.{Next, refused, next, add_sort, add_global, add_signature, set_context, simple, all_equal}
use Rattle.text_definition.specs.Say.{Said, say, say_local}

-- word i of a line
abbrev pub at : List Word → ℕ → Word
at ws i = get_or ws i []

-- what the lines of terms say
abbrev pub query : ℕ → Bool → Word → List Word → Said
query kind headed head args =
    record { query = true; kind = kind; headed = headed; head = head; named = args; args = args; others = [] }

abbrev pub action : ℕ → Word → List Word → List Word → List Word → Said
action kind head named args others =
    record { query = false; kind = kind; headed = true; head = head; named = named; args = args; others = others }

abbrev pub plain : ℕ → List Word → Said
plain kind others =
    record { query = false; kind = kind; headed = false; head = []; named = others; args = []; others = others }

-- `set` ends in its right side
abbrev pub all_but_last : List Word → List Word
all_but_last ws = take (length ws - 1) ws

abbrev pub last_of : List Word → Word
last_of ws = get_or ws (length ws - 1) []

-- a line that is well formed and whose names are known, by its form
unfoldable pub line_of : Form → Decls → List Word → ℕ → Next
line_of Sort d ws place = add_sort d (at ws 1)
line_of Fun d ws place = add_signature d (at ws 1) (simple 0 0 (drop 2 ws))
line_of Ctor d ws place = add_signature d (at ws 1) (simple 1 0 (drop 2 ws))
line_of Simple d ws place = add_signature d (at ws 1) (simple 2 (number_below mask_bound (at ws 2)) (drop 4 ws))
line_of Equal d ws place = add_signature d (at ws 1) (all_equal d (number_below mask_bound (at ws 2)) (at ws 4) (at ws 5) (at ws 6))
line_of Global d ws place = add_global d (at ws 1) (at ws 2)
line_of Context d ws place = set_context d (number_below context_bound (at ws 1))
line_of Atom d ws place = say d (query 0 true (at ws 1) (drop 2 ws)) (length (drop 2 ws)) place
line_of Eq d ws place = say d (query 1 false [] (drop 1 ws)) 2 place
line_of Let d ws place = say d (action 0 (at ws 2) (at ws 1 ∷ drop 3 ws) (drop 3 ws) (at ws 1 ∷ [])) (length (drop 3 ws)) place
line_of Set d ws place = say d (action 1 (at ws 1) (drop 2 ws) (all_but_last (drop 2 ws)) (last_of (drop 2 ws) ∷ [])) (length (drop 2 ws)) place
line_of Change d ws place = say d (action 2 (at ws 1) (drop 2 ws) (drop 2 ws) []) (length (drop 2 ws)) place
line_of Union d ws place = say d (plain 3 (drop 1 ws)) 2 place
line_of Bind d ws place = say d (plain 4 (drop 1 ws)) 1 place
line_of Panic d ws place = say d (plain 5 []) 0 place
line_of Local d ws place = say_local d (at ws 1) (at ws 2) place
line_of Malformed d ws place = refused 50

-- 50 comes first, then 51, then what the line's form gives
unfoldable pub if_known : Bool → Form → Decls → List Word → ℕ → Next
if_known true f d ws place = line_of f d ws place
if_known false f d ws place = refused 51

unfoldable pub line_on : Form → Decls → List Word → ℕ → Next
line_on f d ws place = if_known (all_known d f ws) f d ws place

abbrev pub line : Decls → List Word → ℕ → Next
line d ws place = line_on (form_of ws) d ws place

-- How the lines end: all were taken, or the first that was refused, with its number and its line.
pub data Run : Type 0 where
  going : Decls → Run
  stopped : ℕ → ℕ → Run

unfoldable pub after : ℕ → Next → Run
after place (next d) = going d
after place (refused n) = stopped n place

-- an empty line is skipped
unfoldable pub on_line : Run → ℕ → List ℕ → Run
on_line (stopped n place) at bs = stopped n place
on_line (going d) place [] = going d
on_line (going d) place (b ∷ bs) = after place (line d (split space (b ∷ bs)) place)

-- the lines in order, numbered from `place` on
unfoldable pub on_lines : Run → ℕ → List (List ℕ) → Run
on_lines r place [] = r
on_lines r place (l ∷ ls) = on_lines (on_line r place l) (suc place) ls

-- How the text ends: refused, or solved, with what solve leaves.
pub data End : Type 0 where
  refused_at : ℕ → ℕ → End
  solved : Decls → Exit → End

abbrev pub solving : Decls → Exit
solving d =
    exit (counted d (length d.term_names)) (replicate (room_frames * (max_terms + max_records)) 0) (replicate max_terms 0) (replicate (max_records * entry_cells) 0)

unfoldable pub end_of : Run → End
end_of (stopped n place) = refused_at n place
end_of (going d) = solved d (solving d)

-- the longest input
abbrev pub max_bytes : ℕ
max_bytes = 32768

-- 52 comes before all
unfoldable pub unless_long : Bool → List ℕ → End
unless_long true s = refused_at 52 0
unless_long false s = end_of (on_lines (going start) 1 (split line_feed s))

abbrev pub text_end : List ℕ → End
text_end s = unless_long (ltb max_bytes (length s)) s
