-- What the lines that declare a sort, a global or the context leave. A form is its number in the order of the grammar.
use Rattle.std.specs.Prelude.{ℕ, suc, ◌+◌, ◌*◌, Bool, cond, List, [], ◌∷◌, eqb, ltb, get_or}
use Rattle.std.proofs.lemmas.List.Edits.{sets}
use Rattle.definition.specs.Sizes.{max_sorts}
use Rattle.rule_lent.specs.Fit.{max_globals}
use Rattle.text_words.specs.Names.{number_below}
use Rattle.text_words.specs.Parts.{part_at, parts_of, part_cells, find}
use Rattle.text_grammar.specs.Grammar.{context_bound}
use Rattle.text_definition.specs.declared.Numbers.{Numbers}
use Rattle.text_declare.specs.declared.Step.{Step}

-- a bound far below what a number holds, so that sums and places of cells are exact
abbrev pub small : ℕ
small = 100000

abbrev pub taken : Numbers → Step
taken n = record { refused = 0; numbers = n }

-- 10: a table is full
abbrev pub full : Numbers → Step
full n = record { refused = 10; numbers = n }

abbrev pub with_numbers : ℕ → ℕ → ℕ → ℕ → ℕ → Numbers → Numbers
with_numbers sort_names global_names head_names used context n =
    record { sorts = sort_names; globals = global_names; heads = head_names; terms = n.terms; used = used; context = context; problem = n.problem }

abbrev pub more_sorts : Numbers → Numbers
more_sorts n = with_numbers (n.sorts + 1) n.globals n.heads n.used n.context n

abbrev pub more_globals : Numbers → Numbers
more_globals n = with_numbers n.sorts (n.globals + 1) n.heads n.used n.context n

abbrev pub in_context : Numbers → ℕ → Numbers
in_context n context = with_numbers n.sorts n.globals n.heads n.used context n

-- the cells of word 1, the name that a line declares
abbrev pub name_cells : List ℕ → List ℕ
name_cells words = get_or words 2 0 ∷ get_or words 3 0 ∷ []

-- a sort
abbrev pub sort_form : ℕ
sort_form = 0

abbrev pub sort_fits : Step → Bool
sort_fits step = ltb step.numbers.sorts max_sorts

abbrev pub sort_step : ℕ → Step → Step
sort_step form step = cond (eqb form sort_form) (cond (sort_fits step) (taken (more_sorts step.numbers)) (full step.numbers)) step

abbrev pub sort_names_after : ℕ → Step → List ℕ → List ℕ → List ℕ
sort_names_after form step words sort_names =
    cond (eqb form sort_form) (cond (sort_fits step) (sets sort_names (step.numbers.sorts * part_cells) (name_cells words)) sort_names) sort_names

-- a global
abbrev pub global_form : ℕ
global_form = 5

abbrev pub global_fits : Step → Bool
global_fits step = ltb step.numbers.globals max_globals

abbrev pub global_step : ℕ → Step → Step
global_step form step =
    cond (eqb form global_form) (cond (global_fits step) (taken (more_globals step.numbers)) (full step.numbers)) step

abbrev pub global_names_after : ℕ → Step → List ℕ → List ℕ → List ℕ
global_names_after form step words global_names =
    cond (eqb form global_form) (cond (global_fits step) (sets global_names (step.numbers.globals * part_cells) (name_cells words)) global_names) global_names

abbrev pub globals_after : ℕ → Step → List ℕ → List ℕ → List ℕ → List ℕ → List ℕ
globals_after form step s words sort_names cells =
    cond (eqb form global_form)
    (cond (global_fits step) (sets cells step.numbers.globals (suc (find (part_at s words 2) (parts_of s sort_names step.numbers.sorts)) ∷ [])) cells)
    cells

-- the context
abbrev pub context_form : ℕ
context_form = 6

abbrev pub context_step : ℕ → Step → List ℕ → List ℕ → Step
context_step form step s words =
    cond (eqb form context_form) (taken (in_context step.numbers (number_below context_bound (part_at s words 1)))) step
