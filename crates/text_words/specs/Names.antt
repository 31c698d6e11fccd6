-- What a name, a term and a number are. Everything else of the text rests on these tests alone.
use Rattle.std.specs.Prelude.{ℕ, suc, ◌+◌, ◌-◌, ◌*◌, min, Bool, false, not, ◌&&◌, ◌||◌, cond, List, [], ◌∷◌, leb, ltb, eqb, length, drop, Option}
use Rattle.std.specs.Bool.{then_some}
use Rattle.definition.specs.Lists.{all}
use Rattle.text_words.specs.Bytes.{colon, at_sign, equals, hyphen, underscore, within, is_digit, non_empty, up_to, same}

-- a letter, a digit, `_` or `-`
unfoldable pub is_name_byte : ℕ → Bool
is_name_byte b = within 97 122 b || (within 65 90 b || (is_digit b || (eqb b underscore || eqb b hyphen)))

-- a lone `-`: a field that is absent
unfoldable pub is_absent : List ℕ → Bool
is_absent w = same w (hyphen ∷ [])

-- one or more such bytes, but not a lone `-`
unfoldable pub is_name : List ℕ → Bool
is_name w = non_empty w && (not (is_absent w) && all is_name_byte w)

-- a variable is a name
unfoldable pub is_variable : List ℕ → Bool
is_variable w = is_name w

-- what stands before and behind the first `:`; without one there is nothing behind
abbrev pub sort_part : List ℕ → List ℕ
sort_part w = up_to colon w

abbrev pub name_part : List ℕ → List ℕ
name_part w = drop (suc (length (up_to colon w))) w

-- behind `=`: a sort's name, `:`, a name
unfoldable pub is_literal : List ℕ → Bool
is_literal w = is_name (sort_part w) && is_name (name_part w)

-- a variable, `@` and a name, or `=` and a literal
unfoldable pub is_term : List ℕ → Bool
is_term [] = false
is_term (b ∷ bs) = cond (eqb b at_sign) (is_name bs) (cond (eqb b equals) (is_literal bs) (is_variable (b ∷ bs)))

-- the value of decimal digits, behind those that are worth v
unfoldable pub digits_from : ℕ → List ℕ → ℕ
digits_from v [] = v
digits_from v (d ∷ ds) = digits_from (v * 10 + (d - 48)) ds

-- a number has one to four digits
abbrev pub most_digits : ℕ
most_digits = 4

unfoldable pub is_number : List ℕ → Bool
is_number w = non_empty w && (leb (length w) most_digits && all is_digit w)

-- the number that the word spells if that is below the bound, else the bound
unfoldable pub number_below : ℕ → List ℕ → ℕ
number_below bound w = cond (is_number w) (min (digits_from 0 w) bound) bound

-- the same as an `Option`: the number where it is below the bound
abbrev pub if_below : ℕ → List ℕ → Option ℕ
if_below bound w = then_some (ltb (number_below bound w) bound) (number_below bound w)
