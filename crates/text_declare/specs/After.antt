-- What a line that declares leaves, of all its lists; a line of another form leaves everything.
use Rattle.std.specs.Prelude.{ℕ, ◌≤◌, cond, List, [], eqb}
use Rattle.text_definition.specs.Declare.{Next, refused, next}
use Rattle.text_definition.specs.Store.{Store, store, Within, Tabled, decls_of}
use Rattle.text_declare.specs.declared.Step.{Step}
use Rattle.text_declare.specs.Steps.{small, sort_step, sort_names_after, global_step, global_names_after, globals_after, context_step}
use Rattle.text_declare.specs.Signatures.{signature_step, head_names_after, signatures_after, signature_sorts_after}

-- how a line ends
abbrev pub next_from : List ℕ → Step → Store → Next
next_from s r t = cond (eqb r.refused 0) (next (decls_of s r.numbers t)) (refused r.refused)

-- one after another: a sort, a global, a signature, the context
module _ (form : ℕ) (step : Step) (s words : List ℕ) (count : ℕ) (t : Store) where
  abbrev pub sorts_now : List ℕ
  sorts_now = sort_names_after form step words t.sort_names

  abbrev pub after_sort : Step
  after_sort = sort_step form step

  abbrev pub after_global : Step
  after_global = global_step form after_sort

  abbrev pub step_after : Step
  step_after = context_step form (signature_step form after_global s words count sorts_now) s words

  abbrev pub store_after : Store
  store_after = record {
    sort_names = sorts_now;
    global_names = global_names_after form after_sort words t.global_names;
    head_names = head_names_after form after_global s words count sorts_now t.head_names;
    term_names = t.term_names;
    signatures = signatures_after form after_global s words count sorts_now t.head_names t.signatures;
    signature_sorts = signature_sorts_after form after_global s words count sorts_now t.signature_sorts;
    globals = globals_after form after_sort s words sorts_now t.globals;
    terms = t.terms;
    records = t.records;
    side = t.side;
    tops = t.tops;
    range = t.range;
  }

-- what is asked of a line's numbers and lists
pub record Ready (step : Step) (count : ℕ) (sort_names global_names head_names signatures : List ℕ) : Type 0 where
  pub within : Within step.numbers
  pub count≤ : count ≤ small
  pub tabled : Tabled sort_names global_names head_names signatures

-- the lists that lines declare in, with none for the others
abbrev pub tables : List ℕ → List ℕ → List ℕ → List ℕ → List ℕ → List ℕ → Store
tables sort_names global_names head_names signatures signature_sorts globals = store sort_names global_names head_names [] signatures signature_sorts globals [] [] [] [] []
