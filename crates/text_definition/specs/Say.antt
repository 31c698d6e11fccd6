-- Lines that say something of terms: each is one call of a generator, of one atom, action or typed local.
use Rattle.std.specs.Prelude.{ℕ, ◌-◌, ◌*◌, Bool, ◌&&◌, cond, List, [], ◌∷◌, ◌++◌, map, leb, eqb, length, drop, get_or, replicate}
use Rattle.std.proofs.lemmas.List.Edits.{sets}
use Rattle.definition.specs.Sizes.{max_terms}
use Rattle.definition.specs.Refusal.{first_given}
use Rattle.definition.specs.Problem.{Problem}
use Rattle.rule_signatures.specs.Tables.{term_cells}
use Rattle.rule_heads.specs.Alternatives.{function_of, is_constructor, alternatives, head_refusal}
use Rattle.rule_lent.specs.Fit.{Lending, max_arguments}
use Rattle.rule_lent.specs.Lend.{lending as lending_of}
use Rattle.rule_steps.specs.Given.{Verdict, refused, added}
use Rattle.rule_calls.specs.Exit.{call_verdict, local_verdict, problem_after, terms_after}
use Rattle.text_words.specs.Bytes.{at_sign, equals}
use Rattle.text_words.specs.Names.{sort_part}
use Rattle.text_words.specs.Parts.{find}
use Rattle.text_grammar.specs.Bytes.{Word}
use Rattle.text_definition.specs.Decls.{Decls, is_in, counted}
use Rattle.text_definition.specs.Declare.{Next, refused as refusing, next}

-- the names of the terms with these words among them, by first appearance
unfoldable pub with_terms : List Word → List Word → List Word
with_terms names [] = names
with_terms names (w ∷ ws) = with_terms (cond (is_in w names) names (names ++ w ∷ [])) ws

-- a term's two cells: a variable, a global with its number, a literal with its sort
unfoldable pub cells_of : Decls → Word → List ℕ
cells_of d [] = 0 ∷ 0 ∷ []
cells_of d (b ∷ bs) =
    cond (eqb b at_sign) (1 ∷ find bs d.global_names ∷ [])
    (cond (eqb b equals) (2 ∷ find (sort_part bs) d.sort_names ∷ []) (0 ∷ 0 ∷ []))

unfoldable pub cells_of_all : Decls → List Word → List ℕ
cells_of_all d [] = []
cells_of_all d (w ∷ ws) = cells_of d w ++ cells_of_all d ws

-- the cells with those of the terms that are new
abbrev pub cells_with : Decls → List Word → List ℕ
cells_with d names = sets d.terms (length d.term_names * term_cells) (cells_of_all d (drop (length d.term_names) names))

-- What a line says: an atom (of a query) or an action, its kind as a call has it, its head if it has one, the words of its
-- terms in the order in which they are numbered, those that are its arguments, those that are its x and y.
pub record Said : Type 0 where
  pub query : Bool
  pub kind : ℕ
  pub headed : Bool
  pub head : Word
  pub named : List Word
  pub args : List Word
  pub others : List Word

abbrev pub numbers : List Word → List Word → List ℕ
numbers names ws = map (λ w. find w names) ws

-- the call's eight cells, at this place
abbrev pub cells_of_call : Decls → List Word → Said → ℕ → List ℕ
cells_of_call d names s place =
    s.kind ∷ cond s.headed (find s.head d.head_names) 0 ∷ 0 ∷ length s.args ∷ get_or (numbers names s.others) 0 0 ∷ get_or (numbers names s.others) 1 0 ∷ place ∷ 0 ∷ []

abbrev pub lending : Decls → List Word → Said → ℕ → Lending
lending d names s place =
    lending_of
    s.query
    (record { signatures = length d.head_names; signature_sorts = d.used; globals = length d.global_names; context = d.context; calls = 1; arguments = length s.args })
    (counted d (length names))
    d.signatures d.signature_sorts d.globals (cells_with d names) (cells_of_call d names s place) (numbers names s.args)

-- what there is after a call: the problem, the names of the terms and of the fresh ones, the cells of both
unfoldable pub with_problem : Decls → List Word → List ℕ → Problem → Decls
with_problem d names cells p = record {
  sort_names = d.sort_names;
  global_names = d.global_names;
  head_names = d.head_names;
  term_names = names ++ replicate (p.counts.terms - length names) [];
  signatures = d.signatures;
  used = d.used;
  signature_sorts = d.signature_sorts;
  globals = d.globals;
  terms = cells;
  context = d.context;
  problem = p;
}

unfoldable pub after_call : Decls → List Word → Verdict → Next
after_call d names (refused n h p) = refusing n
after_call d names (added s) =
    next (with_problem d names (terms_after (length names) (cells_with d names) (added s)) (problem_after (counted d (length names)) (added s)))

-- more terms than there may be, or more words for terms on the line: 21, 20 and 8 come first, which the head decides. 7 and 9
-- can't be: such a line has terms, and every global of a text has a sort
unfoldable pub too_many : Decls → Said → ℕ
too_many d s =
    let number = find s.head d.head_names in
    cond s.headed
    (cond (eqb s.kind 1 && is_constructor d.signatures (function_of d.signatures (length d.head_names) number)) 21
    (first_given (head_refusal d.signatures (alternatives d.signatures (length d.head_names) number d.context)) 10))
    10

-- the line's words for terms, of which `listed` count against the largest number of arguments
unfoldable pub say_named : Decls → Said → ℕ → ℕ → List Word → Next
say_named d s listed place names =
    cond (leb (length names) max_terms && leb listed max_arguments)
    (after_call d names (call_verdict (lending d names s place)))
    (refusing (too_many d s))

abbrev pub say : Decls → Said → ℕ → ℕ → Next
say d s listed place = say_named d s listed place (with_terms d.term_names s.named)

-- a typed local
unfoldable pub say_local_named : Decls → Word → Word → ℕ → List Word → Next
say_local_named d name sort place names =
    cond (leb (length names) max_terms)
    (after_call d names (local_verdict (counted d (length names)) (cells_with d names) (find name names) (find sort d.sort_names) place))
    (refusing 10)

abbrev pub say_local : Decls → Word → Word → ℕ → Next
say_local d name sort place = say_local_named d name sort place (with_terms d.term_names (name ∷ []))
