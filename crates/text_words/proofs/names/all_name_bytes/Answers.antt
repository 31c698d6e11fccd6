-- `all_name_bytes` meets its contract: what the chain makes.
use Rattle.std.proofs.Common.{◌∙◌, rules, tests}
use Rattle.std.proofs.lemmas.Iterator.{YieldsList-from_slice}
use Rattle.std.proofs.lemmas.Iterator.Search.{all_from_yields_List}
use Rattle.definition.proofs.Laws.Chains.{all_made}
use Rattle.text_words.specs.Names.{is_name_byte}
use Rattle.text_words.proofs.names.all_name_bytes.Goals as goal

pub returns : goal.returns
returns c =
    all_from_yields_List is_name_byte _ _ _ c.all.ensures.ran (YieldsList-from_slice c.args.w.now (cc)) (λ x b q k. search (rules, tests))
    ∙ all_made _ _
