-- The lists that reading a text is lent.
use Rattle.text_definition.specs.Store.{Store, store}
use Rattle.text_lines.specs.declared.Printed.{Printed}
use Rattle.text_lines.specs.declared.Lists.{Lists}

-- as the definition has them
abbrev pub store_in : Printed → Lists → Store
store_in p l = store p.sort_names l.global_names p.head_names p.term_names l.signatures l.signature_sorts l.globals l.terms l.records l.side l.tops l.range
