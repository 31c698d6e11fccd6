-- What a line says, by its form and by its shape.
use Rattle.std.specs.Prelude.{ℕ, ◌-◌, Bool, true, not, cond, List, leb, eqb, length, get_or}
use Rattle.rule_steps.specs.Given.{Verdict, added}
use Rattle.rule_calls.specs.Exit.{state_of, call_verdict, local_verdict}
use Rattle.text_words.specs.Parts.{find}
use Rattle.text_grammar.specs.declared.Form.{Form}
use Rattle.text_grammar.specs.declared.Form.TheVariants.{Sort, Fun, Ctor, Simple, Equal, Global, Context, Atom, Set, Change, Eq, Union, Let, Bind, Panic, Local as LocalLine, Malformed}
use Rattle.text_grammar.specs.Bytes.{Word}
use Rattle.text_definition.specs.Decls.{Decls, counted}
use Rattle.text_definition.specs.Declare.{Next, refused, next}
use Rattle.text_definition.specs.Say.{with_terms, cells_with, numbers, lending, after_call, too_many}
use Rattle.text_definition.specs.Run.{at, line_of}
use Rattle.text_terms.specs.declared.shape.Shape.{Shape}
use Rattle.text_terms.specs.declared.shape.Way.{Way}
use Rattle.text_terms.specs.declared.shape.Way.TheVariants.{Silent, Query, Action, Local}
use Rattle.text_terms.specs.Shape.{shape_of, is_silent, said_by, named, fitting}

-- the words that a line of terms has, by the grammar
unfoldable pub words_fit : Form → ℕ → Bool
words_fit Atom n = leb 2 n
words_fit Eq n = eqb n 3
words_fit Let n = leb 3 n
words_fit Set n = leb 3 n
words_fit Change n = leb 2 n
words_fit Union n = eqb n 3
words_fit Bind n = eqb n 3
words_fit Panic n = eqb n 1
words_fit LocalLine n = eqb n 3
words_fit Sort n = true
words_fit Fun n = true
words_fit Ctor n = true
words_fit Simple n = true
words_fit Equal n = true
words_fit Global n = true
words_fit Context n = true
words_fit Malformed n = true

-- the lines that say something of terms, by their shape, whatever their words; any other leaves everything as it is
abbrev pub says : Form → Bool
says f = not (is_silent (shape_of f 0).way)

abbrev pub say_of : Form → Decls → List Word → ℕ → Next
say_of f d ws place = cond (says f) (line_of f d ws place) (next d)

-- the call's verdict, with these names; a typed local has its variable as x, its sort is word 2
unfoldable pub verdict_of : Way → Shape → Decls → List Word → List Word → ℕ → Verdict
verdict_of Silent h d ws names place = added (state_of (counted d (length names)))
verdict_of Query h d ws names place = call_verdict (lending d names (said_by h ws) place)
verdict_of Action h d ws names place = call_verdict (lending d names (said_by h ws) place)
verdict_of Local h d ws names place =
    local_verdict (counted d (length names)) (cells_with d names) (get_or (numbers names (said_by h ws).others) 0 0) (find (at ws 2) d.sort_names) place

abbrev pub say_named_by : Way → Shape → Decls → List Word → ℕ → List Word → Next
say_named_by way h d ws place names =
    cond (fitting (length names) (length ws - h.args.start)) (after_call d names (verdict_of way h d ws names place)) (refused (too_many d (said_by h ws)))

unfoldable pub say_by : Way → Shape → Decls → List Word → ℕ → Next
say_by Silent h d ws place = next d
say_by Query h d ws place = say_named_by Query h d ws place (with_terms d.term_names (named h ws))
say_by Action h d ws place = say_named_by Action h d ws place (with_terms d.term_names (named h ws))
say_by Local h d ws place = say_named_by Local h d ws place (with_terms d.term_names (named h ws))
