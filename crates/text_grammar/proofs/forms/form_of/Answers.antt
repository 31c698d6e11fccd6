-- `form_of` meets its contract: what the chain makes.
use Rattle.std.proofs.Common.{◌≡◌, ap, ◌∙◌, rules, tests}
use Rattle.std.specs.List.{find}
use Rattle.std.specs.Option.{unwrap_or, option_map}
use Rattle.std.proofs.lemmas.Iterator.{YieldsList-from_slice}
use Rattle.std.proofs.lemmas.Iterator.Search.{find_from_yields_List}
use Rattle.text_grammar.specs.declared.Form.TheVariants.{Malformed}
use Rattle.text_words.specs.Parts.{all_of}
use Rattle.text_grammar.specs.Grammar.{fits, forms}
use Rattle.text_grammar.specs.Laws.{first_made}
use Rattle.text_grammar.proofs.forms.form_of.Goals as goal

pub returns : goal.returns
returns c =
    let ws = all_of c.args.line in
    let found : option_map (λ f. f.now) c.find.result ≡ find (λ f. fits f ws) forms =
    find_from_yields_List (λ f. fits f ws) _ _ c.find.result c.find.ensures.ran (YieldsList-from_slice forms (cc)) (λ x b q k. search (rules, tests)) in
    c.unwrap_or.ensures ∙ ap (λ o. unwrap_or o Malformed) (c.copied.ensures ∙ found) ∙ first_made ws forms
