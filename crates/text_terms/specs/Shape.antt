-- Where the words of a line of terms stand, and what the line says by that.
use Rattle.std.specs.Prelude.{ℕ, ◌-◌, ◌≤◌, ◌<◌, ◌≡◌, ◌⊎◌, Bool, true, false, ◌&&◌, Option, Some, None, is_some, List, [], ◌++◌, leb, take, drop}
use Rattle.definition.specs.Sizes.{max_terms}
use Rattle.rule_lent.specs.Fit.{max_arguments}
use Rattle.text_grammar.specs.declared.Form.{Form}
use Rattle.text_grammar.specs.declared.Form.TheVariants.{Sort, Fun, Ctor, Simple, Equal, Global, Context, Atom, Set, Change, Eq, Union, Let, Bind, Panic, Local as LocalLine, Malformed}
use Rattle.text_grammar.specs.Bytes.{Word}
use Rattle.text_definition.specs.Say.{Said}
use Rattle.text_definition.specs.Run.{at}
use Rattle.text_terms.specs.declared.shape.Shape.{Shape}
use Rattle.text_terms.specs.declared.shape.Words.{Words}
use Rattle.text_terms.specs.declared.shape.Way.{Way}
use Rattle.text_terms.specs.declared.shape.Way.TheVariants.{Silent, Query, Action, Local}

-- words of a line
abbrev pub words : ℕ → ℕ → Words
words start end = record { start = start; end = end }

abbrev pub silent : ℕ → Shape
silent n = record { way = Silent; kind = 0; head = None; bound = words 0 0; args = words n n; others = words 0 0 }

-- a head, then terms
abbrev pub applied : Way → ℕ → ℕ → Words → Shape
applied way kind end others = record { way = way; kind = kind; head = Some 1; bound = words 0 0; args = words 2 end; others = others }

-- terms alone
abbrev pub plain : Way → ℕ → ℕ → Words → Shape
plain way kind end others = record { way = way; kind = kind; head = None; bound = words 0 0; args = words 1 end; others = others }

-- a variable, which is word 1, then what it is bound to
abbrev pub binding : Way → Option ℕ → Words → Shape
binding way head args = record { way = way; kind = 0; head = head; bound = words 1 2; args = args; others = words 1 2 }

-- of a line of n words
unfoldable pub shape_of : Form → ℕ → Shape
shape_of Atom n = applied Query 0 n (words 0 0)
shape_of Eq n = plain Query 1 n (words 0 0)
shape_of Let n = binding Action (Some 2) (words 3 n)
shape_of Set n = applied Action 1 (n - 1) (words (n - 1) n)
shape_of Change n = applied Action 2 n (words 0 0)
shape_of Union n = plain Action 3 1 (words 1 n)
shape_of Bind n = plain Action 4 1 (words 1 n)
shape_of Panic n = plain Action 5 1 (words 0 0)
shape_of LocalLine n = binding Local None (words n n)
shape_of Sort n = silent n
shape_of Fun n = silent n
shape_of Ctor n = silent n
shape_of Simple n = silent n
shape_of Equal n = silent n
shape_of Global n = silent n
shape_of Context n = silent n
shape_of Malformed n = silent n

-- what a line of this shape says
abbrev pub is_query : Way → Bool
is_query Query = true
is_query Silent = false
is_query Action = false
is_query Local = false

abbrev pub is_silent : Way → Bool
is_silent Silent = true
is_silent Query = false
is_silent Action = false
is_silent Local = false

abbrev pub is_local : Way → Bool
is_local Local = true
is_local Silent = false
is_local Query = false
is_local Action = false

abbrev pub part : Words → List Word → List Word
part r ws = take (r.end - r.start) (drop r.start ws)

abbrev pub named : Shape → List Word → List Word
named h ws = part h.bound ws ++ drop h.args.start ws

-- the word of a typed local's sort
abbrev pub sort_word : Way → Option ℕ
sort_word Local = Some 2
sort_word Silent = None
sort_word Query = None
sort_word Action = None

-- a line without a head has the empty word for it
abbrev pub head_word : Option ℕ → List Word → Word
head_word None ws = []
head_word (Some i) ws = at ws i

abbrev pub said_by : Shape → List Word → Said
said_by h ws = record {
  query = is_query h.way;
  kind = h.kind;
  headed = is_some h.head;
  head = head_word h.head ws;
  named = named h ws;
  args = part h.args ws;
  others = part h.others ws;
}

-- the terms are not too many, nor the words for them
abbrev pub fitting : ℕ → ℕ → Bool
fitting term_names listed = leb term_names max_terms && leb listed max_arguments

-- Where the words stand, of a line of n: the words named first lie before the others; x and y are named; no more than three
-- words stand before the terms.
pub record Shaped (h : Shape) (n : ℕ) : Type 0 where
  pub bound≤ : h.bound.start ≤ h.bound.end
  pub ends≤ : h.bound.end ≤ h.args.start
  pub rest≤ : h.args.start ≤ n
  pub args≥ : h.args.start ≤ h.args.end
  pub args≤ : h.args.end ≤ n
  pub other≤ : h.others.start ≤ n
  pub others≤ : h.others.end ≤ n
  pub within : (j : ℕ) → h.others.start ≤ j → j < h.others.end → (h.bound.start ≤ j × j < h.bound.end) ⊎ (h.args.start ≤ j × j < n)
  pub three : is_silent h.way ≡ false → h.args.start ≤ 3
