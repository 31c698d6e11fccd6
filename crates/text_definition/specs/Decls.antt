-- What the lines so far have declared and said: names, the tables that a call is lent, and the problem. Refusal 51.
use Rattle.std.specs.Prelude.{ℕ, ◌*◌, Bool, true, not, ◌||◌, cond, List, [], ◌∷◌, ltb, eqb, length, replicate}
use Rattle.definition.specs.Sizes.{max_records, max_side, max_tops, max_range, max_terms, record_cells, range_cells}
use Rattle.definition.specs.Problem.{Problem}
use Rattle.solve_records.specs.Lent.{lent}
use Rattle.rule_signatures.specs.Tables.{signature_cells, term_cells}
use Rattle.rule_heads.specs.Alternatives.{function_of}
use Rattle.rule_lent.specs.Fit.{max_signatures, max_signature_sorts, max_globals}
use Rattle.text_words.specs.Bytes.{at_sign, equals, non_empty}
use Rattle.text_words.specs.Names.{is_absent, sort_part}
use Rattle.text_words.specs.Parts.{find}
use Rattle.text_grammar.specs.declared.Form.{Form}
use Rattle.text_grammar.specs.Bytes.{Word}
use Rattle.text_grammar.specs.Grammar.{pattern_of, pass_from}
use Rattle.text_grammar.specs.declared.Kind.{Kind}
use Rattle.text_grammar.specs.declared.Kind.TheVariants.{Keyword, SimpleWord, EqualWord, NewSort, NewFunction, NewGlobal, KnownSort, MaybeSort, MaybeLength, Mask, Number, Head, Variable, Term, Extra}

-- The number of a name is its place in its list. A head has a name for each signature, and its number is that of the first;
-- an unknown head's is that of none. A fresh term's name is empty, which no word is.
pub record Decls : Type 0 where
  pub sort_names : List Word
  pub global_names : List Word
  pub head_names : List Word
  pub term_names : List Word
  pub signatures : List ℕ
  pub used : ℕ
  pub signature_sorts : List ℕ
  pub globals : List ℕ
  pub terms : List ℕ
  pub context : ℕ
  pub problem : Problem

-- every list has room for its largest size
unfoldable pub start : Decls
start = record {
  sort_names = [];
  global_names = [];
  head_names = [];
  term_names = [];
  signatures = replicate (max_signatures * signature_cells) 0;
  used = 0;
  signature_sorts = replicate max_signature_sorts 0;
  globals = replicate max_globals 0;
  terms = replicate (max_terms * term_cells) 0;
  context = 0;
  problem = record {
    counts = record { records = 0; side = 0; tops = 0; range = 0; terms = 0; sorts = 0 };
    records = replicate (max_records * record_cells) 0;
    side = replicate max_side 0;
    tops = replicate max_tops 0;
    range = replicate (max_range * range_cells) 0;
  };
}

-- the problem with the counts of terms and sorts as they are
abbrev pub counted : Decls → ℕ → Problem
counted d terms =
    lent (record {
      records = d.problem.counts.records;
      side = d.problem.counts.side;
      tops = d.problem.counts.tops;
      range = d.problem.counts.range;
      terms = terms;
      sorts = length d.sort_names;
    })
    d.problem.records d.problem.side d.problem.tops d.problem.range

abbrev pub is_in : Word → List Word → Bool
is_in w names = ltb (find w names) (length names)

-- signature i is a function with this head, for some i below n
abbrev pub has_function : List ℕ → ℕ → ℕ → Bool
has_function signatures n head = non_empty (function_of signatures n head)

-- behind `@` a global that is declared, behind `=` a sort that is
unfoldable pub known_term : List Word → List Word → Word → Bool
known_term sort_names global_names [] = true
known_term sort_names global_names (b ∷ bs) = cond (eqb b at_sign) (is_in bs global_names) (cond (eqb b equals) (is_in (sort_part bs) sort_names) true)

-- 51: a name that is declared is new, one that is used is known
unfoldable pub known_in : List Word → List Word → List Word → List ℕ → Kind → Word → Bool
known_in sort_names global_names head_names signatures NewSort w = not (is_in w sort_names)
known_in sort_names global_names head_names signatures NewFunction w = not (has_function signatures (length head_names) (find w head_names))
known_in sort_names global_names head_names signatures NewGlobal w = not (is_in w global_names)
known_in sort_names global_names head_names signatures KnownSort w = is_in w sort_names
known_in sort_names global_names head_names signatures MaybeSort w = is_absent w || is_in w sort_names
known_in sort_names global_names head_names signatures Term w = known_term sort_names global_names w
known_in sort_names global_names head_names signatures Keyword w = true
known_in sort_names global_names head_names signatures SimpleWord w = true
known_in sort_names global_names head_names signatures EqualWord w = true
known_in sort_names global_names head_names signatures MaybeLength w = true
known_in sort_names global_names head_names signatures Mask w = true
known_in sort_names global_names head_names signatures Number w = true
known_in sort_names global_names head_names signatures Head w = true
known_in sort_names global_names head_names signatures Variable w = true
known_in sort_names global_names head_names signatures Extra w = true

abbrev pub known : Decls → Kind → Word → Bool
known d k w = known_in d.sort_names d.global_names d.head_names d.signatures k w

-- of a line that has no form nothing is asked: every kind of its words is `Extra`, or that of a keyword
abbrev pub all_known : Decls → Form → List Word → Bool
all_known d f ws = pass_from (known d) (pattern_of f) 0 ws
