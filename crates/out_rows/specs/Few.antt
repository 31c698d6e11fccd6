-- That no text leaves more terms or records than the largest sizes: 10 comes first.
use Rattle.std.specs.Prelude.{ℕ, zero, suc, ◌+◌, ◌-◌, ◌≤◌, ◌≡◌, refl, Bool, true, false, ◌&&◌, cond, List, [], ◌∷◌, leb, ltb, length, replicate}
use Rattle.std.proofs.Common.{arith, leb-true, length-append}
use Rattle.std.proofs.lemmas.List.{length-replicate}
use Rattle.definition.specs.Sizes.{max_terms, max_sorts, max_records}
use Rattle.definition.specs.Lists.{from}
use Rattle.definition.specs.Problem.{Problem}
use Rattle.definition.proofs.Laws.Lists.{and_true}
use Rattle.definition.proofs.Laws.Refused.{unless_none, first_none}
use Rattle.rule_lent.specs.Fit.{lent_refusal, source_of, max_arguments, max_globals, max_signatures, max_signature_sorts, local_tested}
use Rattle.rule_steps.specs.declared.Lengths.{Lengths}
use Rattle.rule_steps.specs.Ask.{Tables, Source, ask, head_of, place_of}
use Rattle.rule_steps.specs.Step.{Few as FewCounts}
use Rattle.rule_steps.specs.Given.{State, Verdict, refused, added, unless_refused, counts_after, after, given, room_for, ask_refusal, stepped, run}
use Rattle.rule_calls.specs.Exit.{call_verdict, local_verdict, local_refusal, local_given, lengths_of, marks_of, state_of, tables_of, problem_after}
use Rattle.rule_steps.specs.Laws.Room.{room_few}
use Rattle.rule_calls.specs.Laws.Run.{ask_room}
use Rattle.text_words.specs.Bytes.{line_feed, space}
use Rattle.text_words.specs.Parts.{split, find}
use Rattle.text_grammar.specs.declared.Form.{Form}
use Rattle.text_grammar.specs.declared.Form.TheVariants.{Sort, Fun, Ctor, Simple, Equal, Global, Context, Atom, Set, Change, Eq, Union, Let, Bind, Panic, Local, Malformed}
use Rattle.text_grammar.specs.Bytes.{Word}
use Rattle.text_grammar.specs.Grammar.{form_of}
use Rattle.text_definition.specs.Decls.{Decls, start, counted, all_known}
use Rattle.text_definition.specs.Declare.{Says, Next, refused as refusing, next, add_sort, add_global, add_signature, set_context}
use Rattle.text_definition.specs.Say.{Said, lending, cells_with, with_problem, after_call, say_named, say_local_named, too_many}
use Rattle.text_definition.specs.Run.{at, Run, going, stopped, End, refused_at, solved, line_of, if_known, line_on, after as after_line, on_line, on_lines, end_of, unless_long, text_end, max_bytes}

pub record Few (d : Decls) : Type 0 where
  pub terms≤ : length d.term_names ≤ max_terms
  pub records≤ : d.problem.counts.records ≤ max_records

abbrev FewNext : Next → Type 0
FewNext (refusing n) = Unit {0}
FewNext (next d) = Few d

abbrev FewRun : Run → Type 0
FewRun (going d) = Few d
FewRun (stopped n place) = Unit {0}

abbrev pub FewEnd : End → Type 0
FewEnd (refused_at n place) = Unit {0}
FewEnd (solved d e) = Few d

-- a call's counts, where it adds
abbrev RoomyVerdict : Verdict → Type 0
RoomyVerdict (refused n h p) = Unit {0}
RoomyVerdict (added s) = FewCounts s.counts

unless_roomy : (n h p : ℕ) (v : Verdict) → (n ≡ 0 → RoomyVerdict v) → RoomyVerdict (unless_refused n h p v)
unfolding unless_refused
unless_roomy zero h p v k = k refl
unless_roomy (suc n) h p v k = tt

one_roomy : (T : Tables) (l : Lengths) (c : Source) (s : State) → RoomyVerdict (run T l c s (0 ∷ []))
unfolding run after
one_roomy T l c s =
    let a = ask T s.counts.terms c 0 in
    unless_roomy (ask_refusal T l s.counts s.marks a) (head_of c 0) (place_of c 0) (added (stepped T c s 0 a))
    (λ h. room_few l (counts_after s.counts s.marks (given T a) a.bound a.fresh) (ask_room T l s.counts s.marks a h))

local_room : (p : Problem) (term_names : List ℕ) (term sort : ℕ) → local_refusal p term_names term sort ≡ 0
    → room_for (lengths_of p term_names) (counts_after p.counts (marks_of p.range p.counts.range) (local_given term sort) (term ∷ []) 0) ≡ true
unfolding local_refusal
local_room p term_names term sort h = (unless_none _ 9 0 (first_none (local_tested p term_names term sort) _ h).1).0

-- what there is after a call
called_few : (d : Decls) (names : List Word) (v : Verdict) → length names ≤ max_terms → RoomyVerdict v → FewNext (after_call d names v)
unfolding after_call with_problem problem_after
called_few d names (refused n h p) few k = tt
called_few d names (added s) few k = record {
  terms≤ = omega (arith, length-append names (replicate (s.counts.terms - length names) []), length-replicate (s.counts.terms - length names) (let e : Word = [] in e), k.terms);
  records≤ = k.records;
}

said_few : (d : Decls) (s : Said) (listed place : ℕ) (names : List Word) → FewNext (say_named d s listed place names)
unfolding say_named from
said_few d s listed place names = by (leb (length names) max_terms && leb listed max_arguments) refl
  where
    by : (t : Bool) → (leb (length names) max_terms && leb listed max_arguments) ≡ t
        → FewNext (cond t (after_call d names (call_verdict (lending d names s place))) (refusing (too_many d s)))
    by false h = tt
    by true h =
        let l = lending d names s place in
        called_few d names (call_verdict l) (leb-true (length names) max_terms (and_true _ _ h).0)
        (unless_roomy (lent_refusal l) 0 0 (run (tables_of l) (lengths_of l.problem l.terms) (source_of l) (state_of l.problem) (0 ∷ []))
        (λ _. one_roomy (tables_of l) (lengths_of l.problem l.terms) (source_of l) (state_of l.problem)))

local_few : (d : Decls) (name sort : Word) (place : ℕ) (names : List Word) → FewNext (say_local_named d name sort place names)
unfolding say_local_named after
local_few d name sort place names = by (leb (length names) max_terms) refl
  where
    by : (t : Bool) → leb (length names) max_terms ≡ t
        → FewNext (cond t (after_call d names (local_verdict (counted d (length names)) (cells_with d names) (find name names) (find sort d.sort_names) place)) (refusing 10))
    by false h = tt
    by true h =
        let p = counted d (length names) in
        let term = find name names in
        let of = find sort d.sort_names in
        called_few d names (local_verdict p (cells_with d names) term of place) (leb-true (length names) max_terms h)
        (unless_roomy (local_refusal p (cells_with d names) term of) 0 0 (added (after (state_of p) (record { place = place }) (local_given term of) (term ∷ []) 0))
        (λ z. room_few (lengths_of p (cells_with d names)) (counts_after p.counts (marks_of p.range p.counts.range) (local_given term of) (term ∷ []) 0) (local_room p (cells_with d names) term of z)))

-- a line that declares leaves terms and records as they were
sort_few : (d : Decls) (name : Word) → Few d → FewNext (add_sort d name)
unfolding add_sort
sort_few d name h = by (ltb (length d.sort_names) max_sorts) refl
  where
    by : (t : Bool) → ltb (length d.sort_names) max_sorts ≡ t → FewNext (add_sort d name)
    by true e = rw e (record { terms≤ = h.terms≤; records≤ = h.records≤ })
    by false e = rw e tt

global_few : (d : Decls) (name sort : Word) → Few d → FewNext (add_global d name sort)
unfolding add_global
global_few d name sort h = by (ltb (length d.global_names) max_globals) refl
  where
    by : (t : Bool) → ltb (length d.global_names) max_globals ≡ t → FewNext (add_global d name sort)
    by true e = rw e (record { terms≤ = h.terms≤; records≤ = h.records≤ })
    by false e = rw e tt

signature_few : (d : Decls) (name : Word) (s : Says) → Few d → FewNext (add_signature d name s)
unfolding add_signature
signature_few d name s h = by (ltb (length d.head_names) max_signatures && leb (d.used + length s.sorts) max_signature_sorts) refl
  where
    by : (t : Bool) → (ltb (length d.head_names) max_signatures && leb (d.used + length s.sorts) max_signature_sorts) ≡ t → FewNext (add_signature d name s)
    by true e = rw e (record { terms≤ = h.terms≤; records≤ = h.records≤ })
    by false e = rw e tt

line_few : (f : Form) (d : Decls) (ws : List Word) (place : ℕ) → Few d → FewNext (line_of f d ws place)
unfolding line_of set_context
line_few Sort d ws place h = sort_few d (at ws 1) h
line_few Fun d ws place h = signature_few d (at ws 1) _ h
line_few Ctor d ws place h = signature_few d (at ws 1) _ h
line_few Simple d ws place h = signature_few d (at ws 1) _ h
line_few Equal d ws place h = signature_few d (at ws 1) _ h
line_few Global d ws place h = global_few d (at ws 1) (at ws 2) h
line_few Context d ws place h = record { terms≤ = h.terms≤; records≤ = h.records≤ }
line_few Atom d ws place h = said_few d _ _ place _
line_few Eq d ws place h = said_few d _ _ place _
line_few Let d ws place h = said_few d _ _ place _
line_few Set d ws place h = said_few d _ _ place _
line_few Change d ws place h = said_few d _ _ place _
line_few Union d ws place h = said_few d _ _ place _
line_few Bind d ws place h = said_few d _ _ place _
line_few Panic d ws place h = said_few d _ _ place _
line_few Local d ws place h = local_few d _ _ place _
line_few Malformed d ws place h = tt

known_few : (t : Bool) (f : Form) (d : Decls) (ws : List Word) (place : ℕ) → Few d → FewNext (if_known t f d ws place)
unfolding if_known
known_few true f d ws place h = line_few f d ws place h
known_few false f d ws place h = tt

after_few : (place : ℕ) (n : Next) → FewNext n → FewRun (after_line place n)
unfolding after_line
after_few place (next d) h = h
after_few place (refusing n) h = tt

on_line_few : (r : Run) (place : ℕ) (l : List ℕ) → FewRun r → FewRun (on_line r place l)
unfolding on_line line_on
on_line_few (stopped n at) place l h = tt
on_line_few (going d) place [] h = h
on_line_few (going d) place (b ∷ bs) h =
    let ws = split space (b ∷ bs) in
    after_few place (if_known (all_known d (form_of ws) ws) (form_of ws) d ws place) (known_few (all_known d (form_of ws) ws) (form_of ws) d ws place h)

on_lines_few : (r : Run) (place : ℕ) (ls : List (List ℕ)) → FewRun r → FewRun (on_lines r place ls)
unfolding on_lines
on_lines_few r place [] h = h
on_lines_few r place (l ∷ ls) h = on_lines_few (on_line r place l) (suc place) ls (on_line_few r place l h)

pub text_few : (s : List ℕ) → FewEnd (text_end s)
unfolding unless_long start end_of
text_few s = by (ltb max_bytes (length s))
  where
    ends : (r : Run) → FewRun r → FewEnd (end_of r)
    ends (going d) h = h
    ends (stopped n place) h = tt

    by : (t : Bool) → FewEnd (unless_long t s)
    by true = tt
    by false = ends (on_lines (going start) 1 (split line_feed s)) (on_lines_few (going start) 1 (split line_feed s) (record { terms≤ = omega arith; records≤ = omega arith }))
