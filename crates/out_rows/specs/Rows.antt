-- The text's rows over what is lent for them: the three tables of names that are printed, the sort list, the error list.
use Rattle.std.specs.Prelude.{ℕ, List, []}
use Rattle.definition.specs.Buffers.{Exit}
use Rattle.text_definition.specs.declared.Ended.{Ended}
use Rattle.text_definition.specs.Decls.{Decls}
use Rattle.text_definition.specs.Run.{End}
use Rattle.text_definition.specs.Store.{Store, decls_of, exit_of, end_from}

-- the tables of names that are printed; no row reads the other lists
abbrev pub printing : List ℕ → List ℕ → List ℕ → Store
printing sort_names head_names term_names = record {
  sort_names = sort_names;
  global_names = [];
  head_names = head_names;
  term_names = term_names;
  signatures = [];
  signature_sorts = [];
  globals = [];
  terms = [];
  records = [];
  side = [];
  tops = [];
  range = [];
}

abbrev pub named : List ℕ → List ℕ → List ℕ → List ℕ → Ended → Decls
named s sort_names head_names term_names r = decls_of s r.numbers (printing sort_names head_names term_names)

abbrev pub left : List ℕ → List ℕ → Ended → Exit
left sort_list errors r = exit_of r [] sort_list errors

-- how the text ended, as far as its rows show it
abbrev pub ended : List ℕ → List ℕ → List ℕ → List ℕ → List ℕ → List ℕ → Ended → End
ended s sort_names head_names term_names sort_list errors r = end_from s r (printing sort_names head_names term_names) (left sort_list errors r)
