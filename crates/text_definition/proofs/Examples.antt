-- Example texts with their outputs, as one table under one theorem that the checker computes.
use Prim.Native.String.{String}
use Rattle.std.specs.Prelude.{◌≡◌, refl}
use mathlib.Core.List.{List, [], ◌∷◌, map, zip_with}
use Rattle.text_grammar.specs.Bytes.{bytes}
use Rattle.text_definition.specs.Rows.{sorts_text}
use Rattle.definition.specs.Buffers as definition-Buffers
use Rattle.definition.specs.Lists as definition-Lists
use Rattle.definition.specs.Problem as definition-Problem
use Rattle.definition.specs.Refusal as definition-Refusal
use Rattle.definition.specs.Solve as definition-Solve
use Rattle.definition.specs.Update as definition-Update
use Rattle.rule_cells.specs.Put as cells-Put
use Rattle.rule_signatures.specs.Gives as signatures-Gives
use Rattle.rule_signatures.specs.Tables as signatures-Tables
use Rattle.rule_heads.specs.Alternatives as heads-Alternatives
use Rattle.rule_heads.specs.Layout as heads-Layout
use Rattle.rule_ranges.specs.Enter as ranges-Enter
use Rattle.rule_lent.specs.Fit as lent-Fit
use Rattle.rule_steps.specs.Ask as steps-Ask
use Rattle.rule_calls.specs.Exit as calls-Exit
use Rattle.rule_steps.specs.Given as steps-Given
use Rattle.text_words.specs.Bytes as words-Bytes
use Rattle.text_words.specs.Names as words-Names
use Rattle.text_words.specs.Parts as words-Parts
use Rattle.text_words.specs.Put as words-Put
use Rattle.text_definition.specs.Declare as text-Declare
use Rattle.text_definition.specs.Decls as text-Decls
use Rattle.text_grammar.specs.Grammar as grammar-Grammar
use Rattle.text_definition.specs.Rows as text-Rows
use Rattle.text_definition.specs.Run as text-Run
use Rattle.text_definition.specs.Say as text-Say

record Example : Type 0 where
  reads : String
  writes : String

-- document 01's own
abbrev distance : Example
distance = record {
  reads = "sort Reading\nsort Metre\nfun dist Reading Metre\natom dist t d\n";
  writes = "ok 2 passes 2\nt Reading\nd Metre\n";
}

-- a head that takes a Reading or a Setpoint: nothing decides which, so the form is open
abbrev brake : Example
brake = record {
  reads = "sort Reading\nsort Setpoint\nsort Metre\nprim stop 1 simple Reading Metre\nprim stop 1 simple Setpoint Metre\natom stop x d\n";
  writes = "open 1\nunsorted 6 x\n";
}

-- the same, with the statement that decides it
abbrev decided : Example
decided = record {
  reads = "sort Reading\nsort Setpoint\nsort Metre\nprim stop 1 simple Reading Metre\nprim stop 1 simple Setpoint Metre\natom stop x d\nlocal x Setpoint";
  writes = "ok 2 passes 3\nx Setpoint\nd Metre\n";
}

-- two sorts for one term; a literal and a global are terms
abbrev clash : Example
clash = record {
  reads = "sort A\nsort B\nglobal g A\n\neq x @g\neq x =B:7\n";
  writes = "conflict 1\nmismatch 6 x A B\n";
}

-- too few arguments, in each of two alternatives and in one alone
abbrev arities : Example
arities = record {
  reads = "sort A\nfun f A A A\nprim f 255 equal - 4 -\natom f x y\n";
  writes = "conflict 1\nnone 2\narity 4 f 2\narity 4 f 3\n";
}

abbrev arity : Example
arity = record {
  reads = "sort A\nfun f A A A\natom f x y\n";
  writes = "conflict 1\narity 3 f 2\n";
}

-- let, change and union; the fresh term is term 3
abbrev actions : Example
actions = record {
  reads = "sort A\nsort B\nfun f A B\nctor c A\natom f x y\nlet z f x\nchange f x\nunion y z\npanic\nbind u y\n";
  writes = "ok 5 passes 2\nx A\ny B\nz B\n#3 B\nu B\n";
}

-- nothing at all
abbrev nothing : Example
nothing = record { reads = ""; writes = "ok 0 passes 1\n" }

-- refusals, each at the first line that is bad
abbrev malformed : Example
malformed = record { reads = "sort A\n\nsort  B\nsort A\n"; writes = "refused 50 line 3\n" }

abbrev twice : Example
twice = record { reads = "sort A\nsort A\n"; writes = "refused 51 line 2\n" }

abbrev unknown : Example
unknown = record { reads = "sort A\natom f =B:x @g\n"; writes = "refused 51 line 2\n" }

abbrev undeclared : Example
undeclared = record { reads = "sort A\natom f x\nfun f A\n"; writes = "refused 20 line 2\n" }

abbrev masked : Example
masked = record { reads = "sort A\nprim f 2 simple A\nctx 1\natom f x\nctx 0\natom f x\n"; writes = "refused 20 line 6\n" }

abbrev set_constructor : Example
set_constructor = record { reads = "sort A\nctor c A\nset c x\n"; writes = "refused 21 line 3\n" }

abbrev no_arguments : Example
no_arguments = record { reads = "sort A\natom f"; writes = "refused 7 line 2\n" }

abbrev no_sorts : Example
no_sorts = record { reads = "prim p 1 simple\natom p x\n"; writes = "refused 8 line 2\n" }

examples : List Example
examples =
    distance ∷ brake ∷ decided ∷ clash ∷ arities ∷ arity ∷ actions ∷ nothing ∷ malformed ∷ twice ∷ unknown ∷ undeclared ∷ masked ∷ set_constructor
    ∷ no_arguments ∷ no_sorts ∷ []

example_texts : map (λ (e : Example). sorts_text (bytes e.reads)) examples ≡ map (λ (e : Example). bytes e.writes) examples
unfolding
    examples zip_with
    definition-Buffers.entries_cells definition-Buffers.sorts_after definition-Buffers.entries_of definition-Buffers.exit_on definition-Buffers.exit
    definition-Lists.from definition-Lists.all definition-Lists.count definition-Lists.largest definition-Lists.joined
    definition-Problem.node_of definition-Problem.node
    definition-Refusal.counts_fit definition-Refusal.values_fit definition-Refusal.record_fits definition-Refusal.range_fits definition-Refusal.cells_fit definition-Refusal.children_below definition-Refusal.named definition-Refusal.named_once definition-Refusal.trees_fit definition-Refusal.depth_within definition-Refusal.depth_fits definition-Refusal.records_refusal definition-Refusal.room_refusal definition-Refusal.first_given definition-Refusal.refusal
    definition-Solve.after_pass definition-Solve.run definition-Solve.implies_among definition-Solve.open_if definition-Solve.first_open definition-Solve.with_open definition-Solve.at_end definition-Solve.solve definition-Solve.outcome_of
    definition-Update.or_changed definition-Update.and_then definition-Update.eq_on definition-Update.assign_on definition-Update.each definition-Update.seen definition-Update.trials definition-Update.settle definition-Update.remaining definition-Update.xor_on definition-Update.is_sorted definition-Update.implies_on definition-Update.step definition-Update.upd
    cells-Put.cells cells-Put.lay
    signatures-Gives.assign_if signatures-Gives.fixed signatures-Gives.simple_gives signatures-Gives.alike signatures-Gives.output signatures-Gives.exact signatures-Gives.gives signatures-Gives.is_zero signatures-Gives.empty signatures-Gives.any
    signatures-Tables.maybe signatures-Tables.signature_on signatures-Tables.signature_at signatures-Tables.sort_on signatures-Tables.known_sort signatures-Tables.unbound
    heads-Alternatives.keep heads-Alternatives.function_of heads-Alternatives.alternatives heads-Alternatives.is_constructor heads-Alternatives.head_gives heads-Alternatives.head_refusal
    heads-Layout.and_records heads-Layout.and_side heads-Layout.and_numbers heads-Layout.records_of heads-Layout.side_of heads-Layout.tops_of
    ranges-Enter.new_if ranges-Enter.new ranges-Enter.marked ranges-Enter.entries ranges-Enter.terms_in
    lent-Fit.tables_counted lent-Fit.signature_fits_on lent-Fit.signature_fits lent-Fit.term_fits_on lent-Fit.term_cells_fit lent-Fit.atom_fits lent-Fit.action_fits lent-Fit.call_fits lent-Fit.terms_fit lent-Fit.tables_fit lent-Fit.lent_refusal
    steps-Ask.atom_ask steps-Ask.action_ask steps-Ask.ask
    calls-Exit.answer_of calls-Exit.problem_after calls-Exit.terms_after calls-Exit.local_refusal
    steps-Given.given_on steps-Given.counts_after steps-Given.after steps-Given.room_for steps-Given.form_refusal steps-Given.early_refusal steps-Given.ask_refusal steps-Given.unless_refused steps-Given.run
    words-Bytes.up_to words-Bytes.same
    words-Names.is_name_byte words-Names.is_absent words-Names.is_name words-Names.is_variable words-Names.is_literal words-Names.is_term words-Names.digits_from words-Names.is_number words-Names.number_below
    words-Parts.to_first words-Parts.split words-Parts.cuts_from words-Parts.parts_from words-Parts.find
    words-Put.decimal_within
    text-Declare.add_sort text-Declare.add_global text-Declare.add_signature text-Declare.set_context
    text-Decls.start text-Decls.known_term text-Decls.known_in
    grammar-Grammar.keyword_of grammar-Grammar.pattern_of grammar-Grammar.kind_at grammar-Grammar.spelt grammar-Grammar.pass_from grammar-Grammar.first_form
    text-Rows.term_text text-Rows.sorted text-Rows.term_row text-Rows.ok_row text-Rows.open_row text-Rows.entry_row text-Rows.conflict_row text-Rows.only_first text-Rows.solved_row text-Rows.row_of text-Rows.row_count text-Rows.sorts_text
    text-Run.line_of text-Run.if_known text-Run.line_on text-Run.after text-Run.on_line text-Run.on_lines text-Run.end_of text-Run.unless_long
    text-Say.with_terms text-Say.cells_of text-Say.cells_of_all text-Say.with_problem text-Say.after_call text-Say.too_many text-Say.say_named text-Say.say_local_named
example_texts = refl
