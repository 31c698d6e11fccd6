-- What the functions of the check ask and promise.
use Rattle.std.specs.Prelude.{ℕ, zero, suc, ◌+◌, ◌*◌, ◌≤◌, ◌<◌, ◌≡◌, Bool, true, not, List, length, get_or, set, take}
use Rattle.definition.specs.declared.Counts.{Counts}
use Rattle.definition.specs.Problem.{Problem}
use Rattle.definition.specs.Sizes.{max_terms, max_side, max_records, record_cells, range_cells}
use Rattle.definition.specs.Lists.{Among, from}
use Rattle.grounded_body.specs.declared.BodyCounts.{BodyCounts}
use Rattle.grounded_body.specs.declared.Body.{Body as Lent}
use Rattle.grounded_body.specs.declared.lay.Laid.{Laid}
use Rattle.rule_cells.specs.Put.{puts}
use Rattle.rule_ranges.specs.Enter.{new, marked, entries}
use Rattle.grounded_body.specs.Body.{Body, atom_cells, term_kind, arguments_at, is_variable, Constraint, constants, given_by}
use Rattle.grounded_body.specs.Layout.{as_cells, records_in, side_in, cells_in, tops_in, range, grounded_problem}
use Rattle.grounded_body.specs.Check.{shape_fits, sizes_fit, body_fits, atoms_refusal}

-- the body that the counts, the rule's place and the three lists make
abbrev pub body : BodyCounts → ℕ → List ℕ → List ℕ → List ℕ → Body
body n place atoms arguments terms = record {
  atom_count = n.atoms;
  argument_count = n.arguments;
  term_count = n.terms;
  place = place;
  atoms = atoms;
  arguments = arguments;
  terms = terms;
}

-- the same of the code's struct
abbrev pub seen : Lent → Body
seen b = body b.counts b.place b.atoms.now b.arguments.now b.terms.now

-- what the refusals tell of the body
pub record Accepted (b : Body) : Type 0 where
  pub sizes : sizes_fit b ≡ true
  pub fits : body_fits b ≡ true
  pub atoms : atoms_refusal b 0 0 (from 0 b.atom_count) ≡ 0

-- every term is small
abbrev pub Small : List ℕ → Type 0
Small ts = (t : ℕ) → Among t ts → t < max_terms

-- every atom is lent, and has few arguments and small ones
pub record Modest (b : Body) : Type 0 where
  pub lent : b.atom_count * atom_cells ≤ length b.atoms
  pub small : (a : ℕ) → a < b.atom_count → Small (arguments_at b a)
  pub few : (a : ℕ) → a < b.atom_count → length (arguments_at b a) ≤ max_side

-- the cells of the side list that an atom adds, whatever its terms are
abbrev pub SideAdded : ℕ → List ℕ → ℕ → Type 0
SideAdded kind args n = (terms : List ℕ) → n ≡ length (side_in (given_by terms kind args))

-- an argument of an atom that is assigned: any of a function's, a constant of the others; and all of these
abbrev pub is_assigned : ℕ → List ℕ → ℕ → Bool
is_assigned zero terms t = true
is_assigned (suc kind) terms t = not (is_variable terms t)

abbrev pub assigned_by : ℕ → List ℕ → List ℕ → List ℕ
assigned_by zero terms args = args
assigned_by (suc kind) terms args = constants terms args

-- What is laid for constraints behind what stands there: counts and lists after, from those before. t top-level entries
pub record Lays (place : ℕ) (at : Laid) (gs : List Constraint) (R S T : List ℕ) (r : Laid) (R' S' T' : List ℕ) : Type 0 where
  pub record_count : r.records ≡ at.records + records_in gs
  pub side_count : r.side ≡ at.side + length (side_in gs)
  pub top_count : r.tops ≡ at.tops + length gs
  pub records : R' ≡ puts R (at.records * 8) (cells_in place at.records at.side gs)
  pub cells : S' ≡ puts S at.side (side_in gs)
  pub entries : T' ≡ puts T at.tops (tops_in at.records gs)

-- with no cell of the side list
abbrev pub LaysFlat : ℕ → Laid → List Constraint → List ℕ → List ℕ → Laid → List ℕ → List ℕ → Type 0
LaysFlat place at gs records tops r records' tops' = (side : List ℕ) → Lays place at gs records side tops r records' side tops'

-- One record behind what stands there, and its top-level entry
pub record PutsTop (place : ℕ) (at : Laid) (kind first second : ℕ) (R T : List ℕ) (r : Laid) (R' T' : List ℕ) : Type 0 where
  pub record_count : r.records ≡ at.records + 1
  pub side_count : r.side ≡ at.side
  pub top_count : r.tops ≡ at.tops + 1
  pub records : R' ≡ puts R (at.records * 8) (as_cells place kind first second 0)
  pub entries : T' ≡ set T at.tops at.records

-- there is room for k more in numbers
pub record Room (at : Laid) (k : ℕ) : Type 0 where
  pub records : at.records + k ≤ 10000
  pub sides : at.side + k ≤ 10000
  pub tops : at.tops + k ≤ 10000

-- an atom that is not refused, and room for it
pub record AtomFits (at : Laid) (kind : ℕ) (args : List ℕ) : Type 0 where
  pub room : Room at (2 * length args + 2)
  pub shape : shape_fits kind (length args) ≡ true

-- nothing is laid yet
abbrev pub none_laid : Laid
none_laid = record { records = 0; side = 0; tops = 0 }

-- What enters the range for these terms behind n entries: those without a mark; and the marks after
pub record Enters (place : ℕ) (ts : List ℕ) (n : ℕ) (R M : List ℕ) (n' : ℕ) (R' M' : List ℕ) : Type 0 where
  pub count : n' ≡ n + length (new M ts)
  pub cells : R' ≡ puts R (n * range_cells) (entries place (new M ts))
  pub marks : M' ≡ marked M ts

-- What fills the range: the body's, from its start on
pub record Filled (b : Body) (R : List ℕ) (n : ℕ) (R' : List ℕ) : Type 0 where
  pub count : n ≡ length (range b)
  pub cells : R' ≡ puts R 0 (entries b.place (range b))

-- each term's mark is its kind: a variable has none
abbrev pub KindMarks : List ℕ → List ℕ → Type 0
KindMarks terms marks = (t : ℕ) → t < length marks → get_or marks t 0 ≡ term_kind terms t

-- Lists for a body's problem, each at the largest size
pub record Buffers (records side tops range : List ℕ) : Type 0 where
  pub record_room : max_records * record_cells ≤ length records
  pub side_room : max_side ≤ length side
  pub top_room : max_records ≤ length tops
  pub range_room : max_terms * range_cells ≤ length range

-- the problem that these counts and the cells used of these lists make
abbrev pub used : Counts → List ℕ → List ℕ → List ℕ → List ℕ → Problem
used n records side tops range = record {
  counts = n;
  records = take (n.records * record_cells) records;
  side = take n.side side;
  tops = take n.tops tops;
  range = take (n.range * range_cells) range;
}

-- and what is known of it: it is the body's, and the cells used are there
pub record Built (b : Body) (n : Counts) (records side tops range : List ℕ) : Type 0 where
  pub problem : used n records side tops range ≡ grounded_problem b
  pub records_used : n.records ≤ max_records
  pub side_used : n.side ≤ max_side
  pub tops_used : n.tops ≤ max_records
  pub range_used : n.range ≤ max_terms
