-- Small calls, computed: what each adds to an empty problem of eight terms, at place 9. Terms 0 to 3 are variables, 4 is a
-- literal of sort 0, 5 the global 0 (sort 1), 6 the global 1 (no sort), 7 a variable.
use Rattle.std.specs.Prelude.{ℕ, ◌+◌, ◌*◌, Bool, true, false, ◌≡◌, refl, length, take, drop, replicate}
use mathlib.Core.List.{List, [], ◌∷◌, ◌++◌, map, zip_with}
use Rattle.definition.specs.Lists.{from, all}
use Rattle.definition.specs.Refusal.{counts_fit, cells_fit, record_fits, values_fit, range_fits, first_given}
use Rattle.rule_cells.specs.Put.{Record, eq, assign, and, xor, impossible, cells, lay}
use Rattle.rule_signatures.specs.Tables.{maybe, signature_on, signature_at, sort_on, known_sort, unbound}
use Rattle.rule_signatures.specs.Gives.{assign_if, fixed, simple_gives, alike, output, exact, gives, is_zero, empty, any}
use Rattle.rule_heads.specs.Alternatives.{keep, function_of, alternatives, is_constructor, head_gives, head_refusal}
use Rattle.rule_heads.specs.Layout.{and_records, and_side, and_numbers, records_of, side_of, tops_of}
use Rattle.rule_ranges.specs.Enter.{new_if, new, marked, entries, terms_in}
use Rattle.rule_calls.specs.declared.Added.{Added}
use Rattle.rule_steps.specs.Ask.{atom_ask, action_ask, ask}
use Rattle.rule_steps.specs.Given.{Verdict, given_on, counts_after, after, room_for, form_refusal, early_refusal, ask_refusal, unless_refused, run}
use Rattle.rule_lent.specs.Fit.{Lending, tables_counted, signature_fits_on, signature_fits, term_fits_on, term_cells_fit, atom_fits, action_fits, call_fits, terms_fit, tables_fit, lent_refusal}
use Rattle.rule_calls.specs.Exit.{call_verdict, answer_of, problem_after, terms_after}

-- signatures: head 7 is a function from sort 0 to sort 1, a simple primitive over sort 2 alone, permitted in context 0, and
-- an all-equal primitive, permitted in contexts 0 and 1; head 8 is a constructor of sort 1; heads 10 to 13 are all-equal
-- primitives: bare; with a common sort 2; with an output sort 1; of exactly three arguments
abbrev signatures : List ℕ
signatures =
    (0 ∷ 7 ∷ 0 ∷ 0 ∷ 2 ∷ 0 ∷ 0 ∷ 0 ∷ 0 ∷ 0 ∷ [])
    ++ (2 ∷ 7 ∷ 1 ∷ 2 ∷ 1 ∷ 0 ∷ 0 ∷ 0 ∷ 0 ∷ 0 ∷ [])
    ++ (3 ∷ 7 ∷ 3 ∷ 0 ∷ 0 ∷ 0 ∷ 0 ∷ 0 ∷ 0 ∷ 0 ∷ [])
    ++ (1 ∷ 8 ∷ 0 ∷ 1 ∷ 1 ∷ 0 ∷ 0 ∷ 0 ∷ 0 ∷ 0 ∷ [])
    ++ (3 ∷ 10 ∷ 1 ∷ 0 ∷ 0 ∷ 0 ∷ 0 ∷ 0 ∷ 0 ∷ 0 ∷ [])
    ++ (3 ∷ 11 ∷ 1 ∷ 0 ∷ 0 ∷ 3 ∷ 0 ∷ 0 ∷ 0 ∷ 0 ∷ [])
    ++ (3 ∷ 12 ∷ 1 ∷ 0 ∷ 0 ∷ 0 ∷ 0 ∷ 2 ∷ 0 ∷ 0 ∷ [])
    ++ (3 ∷ 13 ∷ 1 ∷ 0 ∷ 0 ∷ 0 ∷ 4 ∷ 0 ∷ 0 ∷ 0 ∷ [])

-- so many atoms or actions are lent, with these arguments, in this context. Past the count of terms stands a global
lending : Bool → ℕ → List ℕ → List ℕ → ℕ → Lending
lending query calls call arguments context = record {
  query = query;
  lent = record { signatures = 8; signature_sorts = 3; globals = 2; context = context; calls = calls; arguments = length arguments };
  problem = record {
    counts = record { records = 0; side = 0; tops = 0; range = 0; terms = 8; sorts = 3 };
    records = replicate 80 0;
    side = replicate 12 0;
    tops = replicate 12 0;
    range = replicate 12 0;
  };
  signatures = signatures;
  signature_sorts = 0 ∷ 1 ∷ 2 ∷ [];
  globals = 2 ∷ 0 ∷ [];
  terms = (0 ∷ 0 ∷ 0 ∷ 0 ∷ 0 ∷ 0 ∷ 0 ∷ 0 ∷ []) ++ (2 ∷ 0 ∷ 1 ∷ 0 ∷ 1 ∷ 1 ∷ 0 ∷ 0 ∷ []) ++ (1 ∷ 0 ∷ 1 ∷ 0 ∷ []);
  calls = call;
  arguments = arguments;
}

-- a call's cells: kind, head, the number of arguments, x, y
abbrev one_call : ℕ → ℕ → ℕ → ℕ → ℕ → List ℕ
one_call kind head count x y = kind ∷ head ∷ 0 ∷ count ∷ x ∷ y ∷ 9 ∷ 0 ∷ []

-- what there is after a call
record Left : Type 0 where
  answer : Added
  records : List ℕ
  side : List ℕ
  tops : List ℕ
  range : List ℕ
  terms : List ℕ

left_by : Lending → Verdict → Left
left_by d v = record {
  answer = answer_of d.problem.counts v;
  records = (problem_after d.problem v).records;
  side = (problem_after d.problem v).side;
  tops = (problem_after d.problem v).tops;
  range = (problem_after d.problem v).range;
  terms = terms_after d.problem.counts.terms d.terms v;
}

leaves : Lending → Left
unfolding left_by
leaves d = left_by d (call_verdict d)

-- these records, side-list cells, top-level entries and range terms, each behind zeroes up to the list's end
records_at : List Record → List ℕ
records_at rs = lay (record { place = 9 }) (replicate 80 0) 0 rs

after_call : ℕ → List Record → List ℕ → List ℕ → List ℕ → Left
after_call fresh given side tops bound = record {
  answer = record { number = 0; head = 0; place = 0; counts = record { records = length given; side = length side; tops = length tops; range = length bound; terms = 8 + fresh; sorts = 3 } };
  records = records_at given;
  side = take 12 (side ++ replicate 12 0);
  tops = take 12 (tops ++ replicate 12 0);
  range = take 12 (entries 9 bound ++ replicate 12 0);
  terms = (0 ∷ 0 ∷ 0 ∷ 0 ∷ 0 ∷ 0 ∷ 0 ∷ 0 ∷ []) ++ (2 ∷ 0 ∷ 1 ∷ 0 ∷ 1 ∷ 1 ∷ 0 ∷ 0 ∷ []) ++ take 4 (replicate (fresh * 2) 0 ++ drop (fresh * 2) (1 ∷ 0 ∷ 1 ∷ 0 ∷ []));
}

refusing : Lending → ℕ → ℕ → ℕ → Left
refusing d number head place = record {
  answer = record { number = number; head = head; place = place; counts = d.problem.counts };
  records = d.problem.records;
  side = d.problem.side;
  tops = d.problem.tops;
  range = d.problem.range;
  terms = d.terms;
}

record Line : Type 0 where
  lends : Lending
  left : Left

abbrev adds : Lending → ℕ → List Record → List ℕ → List ℕ → List ℕ → Line
adds d fresh given side tops bound = record { lends = d; left = after_call fresh given side tops bound }

abbrev refuses : Lending → ℕ → ℕ → ℕ → Line
refuses d number head place = record { lends = d; left = refusing d number head place }

-- an overloaded head with a function and two primitives: an Xor of Ands; a term enters the range once
abbrev overloaded : Line
overloaded =
    adds (lending true 1 (one_call 0 7 2 0 0) (0 ∷ 0 ∷ []) 0) 0
    (assign 0 0 ∷ assign 0 1 ∷ and 0 2 ∷ impossible 7 1 ∷ and 2 1 ∷ eq 0 0 ∷ and 3 1 ∷ xor 4 3 ∷ [])
    (0 ∷ 1 ∷ 3 ∷ 5 ∷ 2 ∷ 4 ∷ 6 ∷ []) (7 ∷ []) (0 ∷ [])

-- in context 1 the simple primitive is not permitted
abbrev masked : Line
masked =
    adds (lending true 1 (one_call 0 7 2 0 0) (0 ∷ 1 ∷ []) 1) 0
    (assign 0 0 ∷ assign 1 1 ∷ and 0 2 ∷ eq 1 0 ∷ and 2 1 ∷ xor 3 2 ∷ [])
    (0 ∷ 1 ∷ 3 ∷ 2 ∷ 4 ∷ []) (5 ∷ []) (0 ∷ 1 ∷ [])

-- one alternative stands unwrapped, after the literal's and the global's Assign
abbrev bare : Line
bare =
    adds (lending true 1 (one_call 0 10 3 0 0) (0 ∷ 4 ∷ 5 ∷ []) 0) 0
    (assign 4 0 ∷ assign 5 1 ∷ eq 4 0 ∷ eq 5 0 ∷ []) [] (0 ∷ 1 ∷ 2 ∷ 3 ∷ []) (0 ∷ 4 ∷ 5 ∷ [])

abbrev common : Line
common = adds (lending true 1 (one_call 0 11 2 0 0) (0 ∷ 1 ∷ []) 0) 0 (assign 0 2 ∷ assign 1 2 ∷ []) [] (0 ∷ 1 ∷ []) (0 ∷ 1 ∷ [])

abbrev outputs : Line
outputs =
    adds (lending true 1 (one_call 0 12 3 0 0) (0 ∷ 1 ∷ 2 ∷ []) 0) 0
    (assign 2 1 ∷ eq 1 0 ∷ []) [] (0 ∷ 1 ∷ []) (0 ∷ 1 ∷ 2 ∷ [])

abbrev inexact : Line
inexact = adds (lending true 1 (one_call 0 13 2 0 0) (0 ∷ 1 ∷ []) 0) 0 (impossible 13 3 ∷ []) [] (0 ∷ []) (0 ∷ 1 ∷ [])

-- Union with a global: its Assign, then Eq(left, right)
abbrev union : Line
union = adds (lending false 1 (one_call 3 0 0 5 1) [] 0) 0 (assign 5 1 ∷ eq 5 1 ∷ []) [] (0 ∷ 1 ∷ []) []

-- LetAtomTerm: the right side's Assign, then Eq(variable, right side); the variable enters the range
abbrev let_atom : Line
let_atom = adds (lending false 1 (one_call 4 0 0 1 4) [] 0) 0 (assign 4 0 ∷ eq 1 4 ∷ []) [] (0 ∷ 1 ∷ []) (1 ∷ [])

-- Let appends its variable, which enters the range
abbrev let_head : Line
let_head = adds (lending false 1 (one_call 0 10 1 1 0) (0 ∷ []) 0) 0 (eq 1 0 ∷ []) [] (0 ∷ []) (1 ∷ [])

-- Change appends a fresh term, which does not, and is a variable whatever stands in its cells
abbrev change : Line
change =
    adds (lending false 2 (one_call 2 10 1 0 0 ++ one_call 2 10 1 0 0) (0 ∷ []) 0) 2 (eq 8 0 ∷ eq 9 0 ∷ []) [] (0 ∷ 1 ∷ []) []

abbrev panic : Line
panic = adds (lending false 1 (one_call 5 0 0 0 0) [] 0) 0 [] [] [] []

abbrev set_constructor : Line
set_constructor = refuses (lending false 1 (one_call 1 8 0 0 0) [] 0) 21 8 9

abbrev no_arguments : Line
no_arguments = refuses (lending true 1 (one_call 0 99 0 0 0) [] 0) 7 0 0

abbrev unknown_head : Line
unknown_head = refuses (lending true 1 (one_call 0 99 1 0 0) (6 ∷ []) 0) 20 99 9

abbrev unbound_global : Line
unbound_global = refuses (lending true 1 (one_call 0 10 1 0 0) (6 ∷ []) 0) 9 0 0

abbrev no_variable : Line
no_variable = refuses (lending false 1 (one_call 4 0 0 4 1) [] 0) 2 0 0

-- each call leaves what its line says
Holds : List Line → Type 0
Holds ls = map (λ (l : Line). leaves l.lends) ls ≡ map (λ (l : Line). l.left) ls

-- an overloaded head, a mask, one alternative
heads_of_a_query : Holds (overloaded ∷ masked ∷ bare ∷ [])
unfolding
    Holds lending left_by leaves records_at after_call refusing zip_with from all counts_fit cells_fit record_fits values_fit range_fits first_given cells lay maybe signature_on signature_at sort_on
    known_sort unbound assign_if fixed simple_gives alike output exact gives is_zero empty any keep function_of alternatives is_constructor head_gives head_refusal
    and_records and_side and_numbers records_of side_of tops_of new_if new marked entries terms_in atom_ask action_ask ask given_on counts_after after room_for
    form_refusal early_refusal ask_refusal unless_refused run tables_counted signature_fits_on signature_fits term_fits_on term_cells_fit atom_fits action_fits call_fits terms_fit tables_fit
    lent_refusal answer_of problem_after terms_after
heads_of_a_query = refl

-- every all-equal shape
all_equal_lem : Holds (common ∷ outputs ∷ inexact ∷ [])
unfolding
    Holds lending left_by leaves records_at after_call refusing zip_with from all counts_fit cells_fit record_fits values_fit range_fits first_given cells lay maybe signature_on signature_at sort_on
    known_sort unbound assign_if fixed simple_gives alike output exact gives is_zero empty any keep function_of alternatives is_constructor head_gives head_refusal
    and_records and_side and_numbers records_of side_of tops_of new_if new marked entries terms_in atom_ask action_ask ask given_on counts_after after room_for
    form_refusal early_refusal ask_refusal unless_refused run tables_counted signature_fits_on signature_fits term_fits_on term_cells_fit atom_fits action_fits call_fits terms_fit tables_fit
    lent_refusal answer_of problem_after terms_after
all_equal_lem = refl

-- the actions
actions : Holds (union ∷ let_atom ∷ let_head ∷ change ∷ panic ∷ [])
unfolding
    Holds lending left_by leaves records_at after_call refusing zip_with from all counts_fit cells_fit record_fits values_fit range_fits first_given cells lay maybe signature_on signature_at sort_on
    known_sort unbound assign_if fixed simple_gives alike output exact gives is_zero empty any keep function_of alternatives is_constructor head_gives head_refusal
    and_records and_side and_numbers records_of side_of tops_of new_if new marked entries terms_in atom_ask action_ask ask given_on counts_after after room_for
    form_refusal early_refusal ask_refusal unless_refused run tables_counted signature_fits_on signature_fits term_fits_on term_cells_fit atom_fits action_fits call_fits terms_fit tables_fit
    lent_refusal answer_of problem_after terms_after
actions = refl

-- refusals
refusals : Holds (set_constructor ∷ no_arguments ∷ unknown_head ∷ unbound_global ∷ no_variable ∷ [])
unfolding
    Holds lending left_by leaves records_at after_call refusing zip_with from all counts_fit cells_fit record_fits values_fit range_fits first_given cells lay maybe signature_on signature_at sort_on
    known_sort unbound assign_if fixed simple_gives alike output exact gives is_zero empty any keep function_of alternatives is_constructor head_gives head_refusal
    and_records and_side and_numbers records_of side_of tops_of new_if new marked entries terms_in atom_ask action_ask ask given_on counts_after after room_for
    form_refusal early_refusal ask_refusal unless_refused run tables_counted signature_fits_on signature_fits term_fits_on term_cells_fit atom_fits action_fits call_fits terms_fit tables_fit
    lent_refusal answer_of problem_after terms_after
refusals = refl
