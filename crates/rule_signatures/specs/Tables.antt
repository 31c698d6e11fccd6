-- The lent tables, cell by cell: signatures, their sorts, terms, globals.
use Rattle.std.specs.Prelude.{ℕ, zero, suc, ◌+◌, ◌*◌, Bool, true, false, ◌&&◌, List, Option, None, Some, eqb, get_or}
use Rattle.rule_signatures.specs.declared.SignatureKind.{SignatureKind}
use Rattle.rule_signatures.specs.declared.SignatureKind.TheVariants.{Function, Constructor, SimplePrimitive, AllEqualPrimitive}
use Rattle.rule_signatures.specs.declared.TermKind.{TermKind}
use Rattle.rule_signatures.specs.declared.TermKind.TheVariants.{Variable, Global, Literal}
use Rattle.rule_signatures.specs.declared.Signature.{Signature}
use Rattle.rule_signatures.specs.declared.Signature.TheVariants.{Simple, AllEqual}
pub use Rattle.rule_cells.specs.Terms.{term_cells, term_kind, term_value}

-- a signature is 10 cells
abbrev pub signature_cells : ℕ
signature_cells = 10

-- kind: 0 a function, 1 a constructor, which is a function too, 2 a simple primitive, 3 an all-equal primitive
abbrev pub kind_at : List ℕ → ℕ → ℕ
kind_at signatures i = get_or signatures (i * signature_cells) 0

abbrev pub signature_kind : ℕ → SignatureKind
signature_kind zero = Function
signature_kind (suc zero) = Constructor
signature_kind (suc (suc zero)) = SimplePrimitive
signature_kind (suc (suc (suc k))) = AllEqualPrimitive

abbrev pub is_function_kind : SignatureKind → Bool
is_function_kind Function = true
is_function_kind Constructor = true
is_function_kind SimplePrimitive = false
is_function_kind AllEqualPrimitive = false

abbrev pub head_at : List ℕ → ℕ → ℕ
head_at signatures i = get_or signatures (i * signature_cells + 1) 0

-- the contexts that a primitive permits, a bit for each
abbrev pub mask_at : List ℕ → ℕ → ℕ
mask_at signatures i = get_or signatures (i * signature_cells + 2) 0

-- of functions and simple primitives: a part of the signature sorts, the inputs and then the output
abbrev pub start_at : List ℕ → ℕ → ℕ
start_at signatures i = get_or signatures (i * signature_cells + 3) 0

abbrev pub count_at : List ℕ → ℕ → ℕ
count_at signatures i = get_or signatures (i * signature_cells + 4) 0

-- of all-equal primitives, as the table has them: 0 for absent, else the value + 1
abbrev pub common_at : List ℕ → ℕ → ℕ
common_at signatures i = get_or signatures (i * signature_cells + 5) 0

abbrev pub length_at : List ℕ → ℕ → ℕ
length_at signatures i = get_or signatures (i * signature_cells + 6) 0

abbrev pub output_at : List ℕ → ℕ → ℕ
output_at signatures i = get_or signatures (i * signature_cells + 7) 0

unfoldable pub maybe : ℕ → Option ℕ
maybe zero = None
maybe (suc v) = Some v

-- signature i of the table, on its kind
abbrev simple_at : List ℕ → ℕ → Signature
simple_at signatures i = Simple (record { head = head_at signatures i; start = start_at signatures i; count = count_at signatures i })

unfoldable pub signature_on : List ℕ → ℕ → ℕ → Signature
signature_on signatures i zero = simple_at signatures i
signature_on signatures i (suc zero) = simple_at signatures i
signature_on signatures i (suc (suc zero)) = simple_at signatures i
signature_on signatures i (suc (suc (suc k))) = AllEqual (record {
  head = head_at signatures i;
  common = maybe (common_at signatures i);
  length = maybe (length_at signatures i);
  output = maybe (output_at signatures i);
})

unfoldable pub signature_at : List ℕ → ℕ → Signature
signature_at signatures i = signature_on signatures i (kind_at signatures i)

-- the kind of a term by its number
abbrev pub kind_of_term : ℕ → TermKind
kind_of_term zero = Variable
kind_of_term (suc zero) = Global
kind_of_term (suc (suc k)) = Literal

-- the sort of a literal or a global
unfoldable pub sort_on : List ℕ → ℕ → ℕ → Option ℕ
sort_on globals value zero = None
sort_on globals value (suc zero) = maybe (get_or globals value 0)
sort_on globals value (suc (suc k)) = Some value

unfoldable pub known_sort : List ℕ → List ℕ → ℕ → Option ℕ
known_sort terms globals t = sort_on globals (term_value terms t) (term_kind terms t)

-- 9: a global without a sort, or past the table
unfoldable pub unbound : List ℕ → List ℕ → ℕ → Bool
unbound terms globals t = eqb (term_kind terms t) 1 && eqb (get_or globals (term_value terms t) 0) 0
