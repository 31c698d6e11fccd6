-- The check as a whole: past its own refusals solving refuses nothing and never fails; the sorted terms are the grounded ones.
use Rattle.std.specs.Prelude.{ℕ, ◌+◌, ◌*◌, ◌<◌, ◌≤◌, ◌≡◌, true, length, get_or, replicate}
use Rattle.std.proofs.Math.Path.{refl}
use Rattle.std.proofs.Common.{sym, ap, ◌∙◌, subst, arith, take_all}
use mathlib.Core.List.{List, [], ◌∷◌}
use borrow.Author.Tests.{le-leb, lt-ltb}
use Rattle.definition.specs.Sizes.{max_records, max_side, max_terms}
use Rattle.definition.specs.Lists.{Among, from, all}
use Rattle.definition.specs.Problem.{Problem, top_level, range_term}
use Rattle.definition.specs.Frame.{Frame, sort_of}
use Rattle.definition.specs.Solve.{settled, running, Answer, answered, unconstrained, conflict, solve, outcome_of}
use Rattle.definition.specs.Refusal.{counts_fit, record_fits, range_fits, cells_fit, records_refusal, refusal, first_given, room_refusal}
use Rattle.definition.specs.Buffers.{exit, exit_on}
use Rattle.definition.proofs.Laws.Lists.{member_at, at_member, true_and, from_all, from_member, member_from, member_joined, joined_member}
use Rattle.definition.proofs.Laws.Refused.{not_refused, sound, first_none, unless_none, Roomy, roomy, room_taken}
use Rattle.rule_ranges.specs.Laws.{entries_length, entry_term}
use Rattle.meaning.proofs.Answers.{answered_from, open_from, conflict_from, range_sorted, OpenAt, opening_at}
use Rattle.rule_ranges.specs.Enter.{entries}
use Rattle.grounded_body.specs.Body.{Body, arguments_at, Constraint, assigned, same, follows, mentioned}
use Rattle.grounded_body.specs.Layout.{records_of, records_in, side_in, cells_in, tops_in, elem, constraints, range, asked, grounded_problem}
use Rattle.grounded_body.specs.Check.{sizes_fit, body_fits, atoms_refusal, grounded_refusal, named}
use Rattle.grounded_body.specs.Parts.{Accepted}
use Rattle.grounded_body.specs.Demand.{Grounded, BodyVariable, Verdict, all_grounded, one_is_not}
use Rattle.grounded_body.proofs.Laws.Standing.{Is, Along, Standing, Cells, cells_is, cells_count, celled, along_map}
use Rattle.grounded_body.proofs.Laws.Least.{Sorted, Solves, solves}
use Rattle.grounded_body.proofs.Laws.Trees.{all_records, values_fit_lem, depths_fit, trees_fit_lem}
use Rattle.grounded_body.proofs.Laws.Variables.{once, from_list, to_list, few, entry_place}
use Rattle.grounded_body.proofs.Laws.Bodies.{AllBelow, below_given, Taken, taken, sized, arguments_below, grounded_in, grounded_respects}

-- no more top-level entries than records
pub tops_few : (n : ℕ) (gs : List Constraint) → length (tops_in n gs) ≤ records_in gs
unfolding tops_in records_in
tops_few n [] = omega arith
tops_few n (assigned t ∷ gs) = omega (arith, tops_few (n + 1) gs)
tops_few n (same x y ∷ gs) = omega (arith, tops_few (n + 1) gs)
tops_few n (follows ws t ∷ gs) = omega (arith, tops_few (n + 2) gs)

-- the range has the body's variables, and no others
range_from : (b : Body) (t : ℕ) → Among t (range b) → BodyVariable b t
unfolding range
range_from b t m =
    let (i, v') = from_list b.terms t [] (mentioned b (from 0 b.atom_count)) m in
    let (a, j, k) = joined_member (arguments_at b) t (from 0 b.atom_count) i in
    let (low, high) = from_member 0 b.atom_count a j in
    record { atom = a; within = omega arith; among = k; variable = v' }

range_to : (b : Body) (t : ℕ) → BodyVariable b t → Among t (range b)
unfolding range elem
range_to b t w =
    to_list b.terms t [] (mentioned b (from 0 b.atom_count))
    (member_joined (arguments_at b) w.atom t (from 0 b.atom_count) (member_from 0 b.atom_count w.atom (omega arith) (omega (arith, w.within))) w.among)
    w.variable refl

-- what the refusals tell of the buffers too
pub record Fine (b : Body) (work sort_list errors : List ℕ) : Type 0 where
  pub accepted : Accepted b
  pub room : room_refusal b.term_count max_records (length work) (length sort_list) (length errors) ≡ 0

pub fine : (b : Body) (work sort_list errors : List ℕ) → grounded_refusal b (length work) (length sort_list) (length errors) ≡ 0 → Fine b work sort_list errors
unfolding grounded_refusal
fine b work sort_list errors e =
    let (a, e1) = unless_none (sizes_fit b) 0 _ e in
    let (c, e2) = unless_none (body_fits b) 1 _ e1 in
    let (d, f) = first_none (room_refusal b.term_count max_records (length work) (length sort_list) (length errors)) (atoms_refusal b 0 0 (from 0 b.atom_count)) e2 in
    record { accepted = record { sizes = a; fits = c; atoms = f }; room = d }

module _ (b : Body) where
  abbrev gs : List Constraint
  gs = constraints b

  abbrev vs : List ℕ
  vs = range b

  abbrev p : Problem
  p = asked b gs vs

  module _ (ok : Accepted b) where
    took : Taken b 0 0 (from 0 b.atom_count)
    took = taken b 0 0 (from 0 b.atom_count) (omega arith) (omega arith) ok.atoms

    low : (a : ℕ) → Among a (from 0 b.atom_count) → (t : ℕ) → Among t (arguments_at b a) → t < b.term_count
    low a m = let (i, j) = from_member 0 b.atom_count a m in arguments_below b ok.sizes ok.fits a (omega arith)

    all_low : AllBelow b.term_count gs
    unfolding constraints
    all_low = below_given b b.term_count (from 0 b.atom_count) took.shapes low

    pub records_most : records_in gs ≤ max_records
    unfolding constraints
    records_most = omega (arith, took.records)

    pub side_most : length (side_in gs) ≤ max_side
    unfolding constraints
    side_most = omega (arith, took.side)

    range_low : (t : ℕ) → Among t vs → t < b.term_count
    range_low t m = let w = range_from b t m in arguments_below b ok.sizes ok.fits w.atom w.within t w.among

    pub range_most : length vs ≤ b.term_count
    unfolding range
    range_most = few vs b.term_count range_low (λ k. once b.terms k [] (mentioned b (from 0 b.atom_count)))

    whole : top_level p ≡ tops_in 0 gs
    whole = take_all (length (tops_in 0 gs)) (tops_in 0 gs) (omega arith)

    cells : Along (Cells p) 0 gs
    cells = celled p b.place 0 0 gs [] [] refl refl refl refl

    stands : Standing p 0 gs
    stands = along_map (Cells p) (Is p) (cells_is p) 0 gs cells

    counts_fit_lem : counts_fit p ≡ true
    unfolding counts_fit
    counts_fit_lem =
        let t : b.term_count ≤ max_terms = (sized b ok.sizes).terms_at_most in
        rw (
          le-leb (records_in gs) 512 records_most,
          le-leb (records_in gs * 8) (length (cells_in b.place 0 0 gs)) (omega (arith, cells_count b.place 0 0 gs)),
          le-leb (length (side_in gs)) 2048 side_most,
          le-leb (length (side_in gs)) (length (side_in gs)) (omega arith),
          le-leb (length (tops_in 0 gs)) 512 (omega (arith, tops_few 0 gs, records_most)),
          le-leb (length (tops_in 0 gs)) (length (tops_in 0 gs)) (omega arith),
          le-leb (length vs) 256 (omega (arith, range_most)),
          le-leb (length vs * 2) (length (entries b.place vs)) (omega (arith, entries_length b.place vs)),
          le-leb b.term_count 256 t,
        )

    along_fits : (n : ℕ) (hs : List Constraint) → AllBelow b.term_count hs → Along (Cells p) n hs → Along (λ n g. all (record_fits p) (from n (records_of g)) ≡ true) n hs
    along_fits n [] l c = tt
    along_fits n (g ∷ hs) l c = (values_fit_lem p refl refl n g l.0 c.0, along_fits (n + records_of g) hs l.1 c.1)

    range_fits_lem : (i : ℕ) → i < length vs → range_fits p i ≡ true
    unfolding range_fits
    range_fits_lem i h = lt-ltb (range_term p i) b.term_count (rw (entry_term b.place vs i) (range_low (get_or vs i 0) (member_at vs i h)))

    cells_fit_lem : cells_fit p ≡ true
    unfolding cells_fit
    cells_fit_lem =
        true_and (all (record_fits p) (from 0 (records_in gs))) (all (range_fits p) (from 0 (length vs)))
        (all_records (record_fits p) 0 gs (along_fits 0 gs all_low cells)) (from_all (range_fits p) 0 (length vs) (λ i k l. range_fits_lem i (omega arith)))

    -- 1 to 4 are not given
    pub records_taken : records_refusal p ≡ 0
    records_taken = not_refused p (record { counts = counts_fit_lem; cells = cells_fit_lem; trees = trees_fit_lem p gs refl whole stands; depths = depths_fit p gs whole stands })

  module _ (work sort_list errors : List ℕ) (fit : Fine b work sort_list errors) where
    -- nor 5 and 6
    room_told : Roomy b.term_count max_records (length work) (length sort_list) (length errors)
    room_told = roomy _ _ _ _ _ fit.room

    pub errors_lent : 4096 ≤ length errors
    errors_lent = room_told.error_cells

    room_here : room_refusal p.counts.terms p.counts.records (length work) (length sort_list) (length errors) ≡ 0
    room_here = room_taken _ _ _ _ _ (record {
      room = omega (arith, room_told.room, records_most fit.accepted);
      sort_cells = room_told.sort_cells;
      error_cells = omega (arith, room_told.error_cells, records_most fit.accepted);
    })

    pub nothing_refused : refusal p work sort_list errors ≡ 0
    unfolding refusal first_given
    nothing_refused = rw (records_taken fit.accepted, room_here)

    solved : Solves p (Grounded b) gs (running p)
    unfolding constraints
    solved = solves p (Grounded b) gs (sound p (records_taken fit.accepted)).fits (whole fit.accepted) (stands fit.accepted) (grounded_respects b)

    -- the sorted terms are the grounded ones
    pub sorted_grounded : (n : ℕ) (f : Frame) → running p ≡ settled n f → (t : ℕ) → Sorted f.sorts t → Grounded b t
    sorted_grounded n f e = (subst (Solves p (Grounded b) gs) e solved).0

    pub grounded_sorted : (n : ℕ) (f : Frame) → running p ≡ settled n f → (t : ℕ) → Grounded b t → Sorted f.sorts t
    unfolding constraints
    grounded_sorted n f e = grounded_in (Sorted f.sorts) b (subst (Solves p (Grounded b) gs) e solved).1

    -- the three endings of solving, of which the last does not come
    abbrev Ends : Answer → Type 0
    Ends (answered n f) = (t : ℕ) → BodyVariable b t → Grounded b t
    Ends (unconstrained n t place) = BodyVariable b t × (Grounded b t → ⊥) × (place ≡ b.place)
    Ends (conflict n e es) = ⊥

    at_term : (i : ℕ) → range_term p i ≡ get_or vs i 0
    at_term i = entry_term b.place vs i

    pub ends : (a : Answer) → solve p ≡ a → Ends a
    ends (answered n f) e =
        let (r, o) = answered_from p n f e in
        λ t w.
        let (i, h, k) = at_member t vs (range_to b t w) in
        let (s, q) = range_sorted p f o i h in
        sorted_grounded n f r t (s, ap (sort_of f) (sym (at_term i ∙ k)) ∙ q)
    ends (unconstrained n t place) e =
        let (f, r, o) = open_from p n t place e in
        let w : OpenAt p f 0 t place = opening_at p f t place o in
        let m : Among t vs = subst (λ (x : ℕ). Among x vs) (sym (at_term w.entry) ∙ w.term) (member_at vs w.entry w.below) in (
          range_from b t m,
          λ g. let (s, q) = grounded_sorted n f r t g in omega (arith, q, w.unsorted),
          sym w.at ∙ entry_place b.place vs w.entry w.below,
        )
    ends (conflict n x xs) e = subst (Solves p (Grounded b) gs) (conflict_from p n x xs e) solved

    -- what the check answers, by what solving does
    on_answer : (a : Answer) → Ends a → Verdict b (named (outcome_of a))
    unfolding named outcome_of
    on_answer (answered n f) e = all_grounded refl e
    on_answer (unconstrained n t place) e = one_is_not refl e.2 e.0 e.1
    on_answer (conflict n x xs) e = absurd e

    pub verdict_past : Verdict b (named (exit (grounded_problem b) work sort_list errors).outcome)
    unfolding grounded_problem exit exit_on
    verdict_past = rw nothing_refused (on_answer (solve p) (ends (solve p) refl))

    -- and leaves
    pub work_past : (exit (grounded_problem b) work sort_list errors).work ≡ replicate (length work) 0
    unfolding grounded_problem exit exit_on
    work_past = rw nothing_refused
