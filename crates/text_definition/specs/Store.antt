-- How the code's numbers and lists stand for what the lines have declared and said.
use Rattle.std.specs.Prelude.{ℕ, ◌≤◌, ◌+◌, ◌*◌, ◌≡◌, cond, List, eqb, length}
use Rattle.definition.specs.Sizes.{max_records, max_side, max_tops, max_range, max_terms, max_sorts, record_cells, range_cells}
use Rattle.rule_signatures.specs.Tables.{signature_cells, term_cells}
use Rattle.rule_lent.specs.Fit.{max_signatures, max_signature_sorts, max_globals}
use Rattle.text_words.specs.Parts.{parts_of, part_cells}
use Rattle.definition.specs.Buffers.{Exit}
use Rattle.text_definition.specs.declared.Numbers.{Numbers}
use Rattle.text_definition.specs.declared.Ended.{Ended}
use Rattle.text_definition.specs.Decls.{Decls}
use Rattle.text_definition.specs.Run.{End, refused_at, solved, max_bytes}

-- The lists: the four tables of names, the tables that a call is lent, the problem's lists.
pub record Store : Type 0 where
  pub sort_names : List ℕ
  pub global_names : List ℕ
  pub head_names : List ℕ
  pub term_names : List ℕ
  pub signatures : List ℕ
  pub signature_sorts : List ℕ
  pub globals : List ℕ
  pub terms : List ℕ
  pub records : List ℕ
  pub side : List ℕ
  pub tops : List ℕ
  pub range : List ℕ

abbrev pub store : (sort_names global_names head_names term_names signatures signature_sorts globals terms records side tops range : List ℕ) → Store
store sort_names global_names head_names term_names signatures signature_sorts globals terms records side tops range = record {
  sort_names = sort_names;
  global_names = global_names;
  head_names = head_names;
  term_names = term_names;
  signatures = signatures;
  signature_sorts = signature_sorts;
  globals = globals;
  terms = terms;
  records = records;
  side = side;
  tops = tops;
  range = range;
}

-- the names are parts of the input
abbrev pub decls_of : List ℕ → Numbers → Store → Decls
decls_of s n t = record {
  sort_names = parts_of s t.sort_names n.sorts;
  global_names = parts_of s t.global_names n.globals;
  head_names = parts_of s t.head_names n.heads;
  term_names = parts_of s t.term_names n.terms;
  signatures = t.signatures;
  used = n.used;
  signature_sorts = t.signature_sorts;
  globals = t.globals;
  terms = t.terms;
  context = n.context;
  problem = record { counts = n.problem; records = t.records; side = t.side; tops = t.tops; range = t.range };
}

-- room for the words of the longest line, of which there is one more than it has bytes
abbrev pub word_cells : ℕ
word_cells = max_bytes * part_cells + part_cells

-- every list has room for its largest size: those by which a line is known
pub record Tabled (sort_names global_names head_names signatures : List ℕ) : Type 0 where
  pub sort_names' : length sort_names ≡ max_sorts * part_cells
  pub global_names' : length global_names ≡ max_globals * part_cells
  pub head_names' : length head_names ≡ max_signatures * part_cells
  pub signatures' : length signatures ≡ max_signatures * signature_cells

-- and all others
pub record Sized (t : Store) : Type 0 where
  pub tabled : Tabled t.sort_names t.global_names t.head_names t.signatures
  pub term_names' : length t.term_names ≡ max_terms * part_cells
  pub signature_sorts' : length t.signature_sorts ≡ max_signature_sorts
  pub globals' : length t.globals ≡ max_globals
  pub terms' : length t.terms ≡ max_terms * term_cells
  pub records' : length t.records ≡ max_records * record_cells
  pub side' : length t.side ≡ max_side
  pub tops' : length t.tops ≡ max_tops
  pub range' : length t.range ≡ max_range * range_cells

-- no number passes its largest size
pub record Within (n : Numbers) : Type 0 where
  pub sorts≤ : n.sorts ≤ max_sorts
  pub globals≤ : n.globals ≤ max_globals
  pub heads≤ : n.heads ≤ max_signatures
  pub terms≤ : n.terms ≤ max_terms
  pub used≤ : n.used ≤ max_signature_sorts

-- what solve left in the work room, the sort list and the error list
abbrev pub exit_of : Ended → List ℕ → List ℕ → List ℕ → Exit
exit_of r work sort_list errors = record { outcome = r.outcome; work = work; sort_list = sort_list; errors = errors }

-- how the text ended
abbrev pub end_from : List ℕ → Ended → Store → Exit → End
end_from s r t e = cond (eqb r.refused 0) (solved (decls_of s r.numbers t) e) (refused_at r.refused r.place)
