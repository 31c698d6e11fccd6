-- Lines that declare: each adds to a table, or is refused with 10 where that is full.
use Rattle.std.specs.Prelude.{ℕ, suc, ◌+◌, ◌*◌, Bool, ◌&&◌, cond, List, [], ◌∷◌, ◌++◌, map, leb, ltb, length}
use Rattle.std.proofs.lemmas.List.Edits.{sets}
use Rattle.definition.specs.Sizes.{max_sorts}
use Rattle.rule_signatures.specs.Tables.{signature_cells}
use Rattle.rule_lent.specs.Fit.{max_signatures, max_signature_sorts, max_globals}
use Rattle.text_words.specs.Names.{is_absent, number_below}
use Rattle.text_words.specs.Parts.{find}
use Rattle.text_grammar.specs.Bytes.{Word}
use Rattle.text_grammar.specs.Grammar.{length_bound}
use Rattle.text_definition.specs.Decls.{Decls}

-- How a line ends: refused with a number, or what there is after it.
pub data Next : Type 0 where
  refused : ℕ → Next
  next : Decls → Next

-- 10: a table is full
abbrev pub unless_full : Bool → Decls → Next
unless_full fits d = cond fits (next d) (refused 10)

-- with these sorts, globals, signatures and context; what the lines have said of terms is as it was
abbrev pub declaring : Decls → (sort_names global_names head_names : List Word) (signatures : List ℕ) (used : ℕ) (signature_sorts globals : List ℕ) (context : ℕ) → Decls
declaring d sort_names global_names head_names signatures used signature_sorts globals context = record {
  sort_names = sort_names;
  global_names = global_names;
  head_names = head_names;
  term_names = d.term_names;
  signatures = signatures;
  used = used;
  signature_sorts = signature_sorts;
  globals = globals;
  terms = d.terms;
  context = context;
  problem = d.problem;
}

abbrev pub with_sorts : Decls → List Word → Decls
with_sorts d sort_names = declaring d sort_names d.global_names d.head_names d.signatures d.used d.signature_sorts d.globals d.context

abbrev pub with_globals : Decls → List Word → List ℕ → Decls
with_globals d global_names globals = declaring d d.sort_names global_names d.head_names d.signatures d.used d.signature_sorts globals d.context

abbrev pub with_signatures : Decls → List Word → List ℕ → ℕ → List ℕ → Decls
with_signatures d head_names signatures used signature_sorts = declaring d d.sort_names d.global_names head_names signatures used signature_sorts d.globals d.context

abbrev pub with_context : Decls → ℕ → Decls
with_context d context = declaring d d.sort_names d.global_names d.head_names d.signatures d.used d.signature_sorts d.globals context

unfoldable pub add_sort : Decls → Word → Next
add_sort d name = unless_full (ltb (length d.sort_names) max_sorts) (with_sorts d (d.sort_names ++ name ∷ []))

-- a global's cell is its sort + 1
unfoldable pub add_global : Decls → Word → Word → Next
add_global d name sort =
    unless_full (ltb (length d.global_names) max_globals)
    (with_globals d (d.global_names ++ name ∷ []) (sets d.globals (length d.global_names) (suc (find sort d.sort_names) ∷ [])))

-- What a signature says besides its head: its kind and mask; its sorts, of a function or a simple primitive; the common
-- sort, the exact length and the output sort of an all-equal primitive, each 0 for absent, else the value + 1.
pub record Says : Type 0 where
  pub kind : ℕ
  pub mask : ℕ
  pub sorts : List Word
  pub common : ℕ
  pub exact : ℕ
  pub output : ℕ

-- a function is kind 0, a constructor 1, a simple primitive 2, an all-equal one 3
abbrev pub simple : ℕ → ℕ → List Word → Says
simple kind mask sort_names = record { kind = kind; mask = mask; sorts = sort_names; common = 0; exact = 0; output = 0 }

abbrev pub sort_cell : Decls → Word → ℕ
sort_cell d w = cond (is_absent w) 0 (suc (find w d.sort_names))

abbrev pub length_cell : Word → ℕ
length_cell w = cond (is_absent w) 0 (suc (number_below length_bound w))

abbrev pub all_equal : Decls → ℕ → Word → Word → Word → Says
all_equal d mask common exact output =
    record { kind = 3; mask = mask; sorts = []; common = sort_cell d common; exact = length_cell exact; output = sort_cell d output }

-- its ten cells
abbrev pub cells_of_signature : Decls → Word → Says → List ℕ
cells_of_signature d name s =
    s.kind ∷ find name (d.head_names ++ name ∷ []) ∷ s.mask ∷ d.used ∷ length s.sorts ∷ s.common ∷ s.exact ∷ s.output ∷ 0 ∷ 0 ∷ []

unfoldable pub add_signature : Decls → Word → Says → Next
add_signature d name s =
    unless_full (ltb (length d.head_names) max_signatures && leb (d.used + length s.sorts) max_signature_sorts)
    (with_signatures d
    (d.head_names ++ name ∷ [])
    (sets d.signatures (length d.head_names * signature_cells) (cells_of_signature d name s))
    (d.used + length s.sorts)
    (sets d.signature_sorts d.used (map (λ w. find w d.sort_names) s.sorts)))

unfoldable pub set_context : Decls → ℕ → Next
set_context d n = next (with_context d n)
