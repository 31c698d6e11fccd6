-- The forms of a line by their order in the grammar.
use Rattle.std.specs.Prelude.{ℕ}
use Rattle.text_grammar.specs.declared.Form.{Form}
use Rattle.text_grammar.specs.declared.Form.TheVariants.{Sort, Fun, Ctor, Simple, Equal, Global, Context, Atom, Set, Change, Eq, Union, Let, Bind, Panic, Local, Malformed}

abbrev pub order_of : Form → ℕ
order_of Sort = 0
order_of Fun = 1
order_of Ctor = 2
order_of Simple = 3
order_of Equal = 4
order_of Global = 5
order_of Context = 6
order_of Atom = 7
order_of Set = 8
order_of Change = 9
order_of Eq = 10
order_of Union = 11
order_of Let = 12
order_of Bind = 13
order_of Panic = 14
order_of Local = 15
order_of Malformed = 16
