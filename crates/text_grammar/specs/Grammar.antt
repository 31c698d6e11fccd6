-- The grammar: for each form of a line what its words are, one after another. Refusal 50.
use Rattle.std.specs.Prelude.{ℕ, zero, suc, Bool, true, false, ◌&&◌, ◌||◌, cond, List, [], ◌∷◌, ltb, leb, length}
use Rattle.text_words.specs.Bytes.{same}
use Rattle.text_words.specs.Names.{is_absent, is_name, is_variable, is_term, number_below}
use Rattle.text_grammar.specs.declared.Form.{Form}
use Rattle.text_grammar.specs.declared.Form.TheVariants.{Sort, Fun, Ctor, Simple, Equal, Global, Context, Atom, Set, Change, Eq, Union, Let, Bind, Panic, Local, Malformed}
use Rattle.text_grammar.specs.declared.Kind.{Kind}
use Rattle.text_grammar.specs.declared.Kind.TheVariants.{Keyword, SimpleWord, EqualWord, NewSort, NewFunction, NewGlobal, KnownSort, MaybeSort, MaybeLength, Mask, Number, Head, Variable, Term, Extra}
use Rattle.text_grammar.specs.declared.Pattern.{Pattern}
use Rattle.text_grammar.specs.Bytes.{bytes, Word}

-- the keyword of a form
unfoldable pub keyword_of : Form → Word
keyword_of Sort = bytes "sort"
keyword_of Fun = bytes "fun"
keyword_of Ctor = bytes "ctor"
keyword_of Simple = bytes "prim"
keyword_of Equal = bytes "prim"
keyword_of Global = bytes "global"
keyword_of Context = bytes "ctx"
keyword_of Atom = bytes "atom"
keyword_of Set = bytes "set"
keyword_of Change = bytes "change"
keyword_of Eq = bytes "eq"
keyword_of Union = bytes "union"
keyword_of Let = bytes "let"
keyword_of Bind = bytes "bind"
keyword_of Panic = bytes "panic"
keyword_of Local = bytes "local"
keyword_of Malformed = []

abbrev pub pattern_of_six : ℕ → Kind → Kind → Kind → Kind → Kind → Kind → Kind → Pattern
pattern_of_six fewest first second third fourth fifth sixth further =
    record { fewest = fewest; first = first; second = second; third = third; fourth = fourth; fifth = fifth; sixth = sixth; further = further }

-- the words behind the second are all of one kind
abbrev pub pattern : ℕ → Kind → Kind → Kind → Pattern
pattern fewest first second further = pattern_of_six fewest first second further further further further further

-- The table: how many words at least, the kinds of the words behind the keyword, the kind of any further ones. `Extra`:
-- there is no such word.
unfoldable pub pattern_of : Form → Pattern
pattern_of Sort = pattern 2 NewSort Extra Extra
pattern_of Fun = pattern 3 NewFunction KnownSort KnownSort
pattern_of Ctor = pattern 3 NewFunction KnownSort KnownSort
pattern_of Simple = pattern_of_six 4 Head Mask SimpleWord KnownSort KnownSort KnownSort KnownSort
pattern_of Equal = pattern_of_six 7 Head Mask EqualWord MaybeSort MaybeLength MaybeSort Extra
pattern_of Global = pattern 3 NewGlobal KnownSort Extra
pattern_of Context = pattern 2 Number Extra Extra
pattern_of Atom = pattern 2 Head Term Term
pattern_of Set = pattern 3 Head Term Term
pattern_of Change = pattern 2 Head Term Term
pattern_of Eq = pattern 3 Term Term Extra
pattern_of Union = pattern 3 Term Term Extra
pattern_of Let = pattern 3 Variable Head Term
pattern_of Bind = pattern 3 Variable Term Extra
pattern_of Panic = pattern 1 Extra Extra Extra
pattern_of Local = pattern 3 Variable KnownSort Extra
pattern_of Malformed = pattern 0 Extra Extra Extra

-- the kind of word i
unfoldable pub kind_at : Pattern → ℕ → Kind
kind_at r zero = Keyword
kind_at r (suc zero) = r.first
kind_at r (suc (suc zero)) = r.second
kind_at r (suc (suc (suc zero))) = r.third
kind_at r (suc (suc (suc (suc zero)))) = r.fourth
kind_at r (suc (suc (suc (suc (suc zero))))) = r.fifth
kind_at r (suc (suc (suc (suc (suc (suc zero)))))) = r.sixth
kind_at r (suc (suc (suc (suc (suc (suc (suc i))))))) = r.further

-- the forms in the order in which they are tried
abbrev pub forms : List Form
forms = Sort ∷ Fun ∷ Ctor ∷ Simple ∷ Equal ∷ Global ∷ Context ∷ Atom ∷ Set ∷ Change ∷ Eq ∷ Union ∷ Let ∷ Bind ∷ Panic ∷ Local ∷ []

-- a mask is below 256, a context below 8, a length has at most four digits
abbrev pub mask_bound : ℕ
mask_bound = 256

abbrev pub context_bound : ℕ
context_bound = 8

abbrev pub length_bound : ℕ
length_bound = 10000

-- the word is spelt as its kind asks
unfoldable pub spelt : Form → Kind → Word → Bool
spelt f Keyword w = same w (keyword_of f)
spelt f SimpleWord w = same w (bytes "simple")
spelt f EqualWord w = same w (bytes "equal")
spelt f NewSort w = is_name w
spelt f NewFunction w = is_name w
spelt f NewGlobal w = is_name w
spelt f KnownSort w = is_name w
spelt f MaybeSort w = is_absent w || is_name w
spelt f MaybeLength w = is_absent w || ltb (number_below length_bound w) length_bound
spelt f Mask w = ltb (number_below mask_bound w) mask_bound
spelt f Number w = ltb (number_below context_bound w) context_bound
spelt f Head w = is_name w
spelt f Variable w = is_variable w
spelt f Term w = is_term w
spelt f Extra w = false

-- every word from word i on passes the test of its kind
unfoldable pub pass_from : (Kind → Word → Bool) → Pattern → ℕ → List Word → Bool
pass_from t r i [] = true
pass_from t r i (w ∷ ws) = t (kind_at r i) w && pass_from t r (suc i) ws

-- no word is missing, every word is spelt as it should be
abbrev pub fits : Form → List Word → Bool
fits f ws = leb (pattern_of f).fewest (length ws) && pass_from (spelt f) (pattern_of f) 0 ws

-- the first form that the words fit; Malformed where there is none: 50
unfoldable pub first_form : List Word → List Form → Form
first_form ws [] = Malformed
first_form ws (f ∷ fs) = cond (fits f ws) f (first_form ws fs)

abbrev pub form_of : List Word → Form
form_of ws = first_form ws forms
