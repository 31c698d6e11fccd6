-- Each watched term is tested.
use Rattle.std.proofs.Common.{ℕ, List, ◌<◌, ◌≡◌, length, get_or, rules, tests, arith, sym, subst, ◌∙◌}
use Rattle.std.proofs.lemmas.List.{get_or_default}
use Rattle.std.proofs.lemmas.Iterator.{YieldsList-from_slice}
use Rattle.std.proofs.lemmas.Iterator.Adapters.{serves_from_places}
use Rattle.std.proofs.lemmas.Iterator.Search.{all_from_yields_List}
use Rattle.definition.specs.Lists.{Among}
use Rattle.definition.specs.Update.{is_sorted}
use Rattle.definition.proofs.Laws.Chains.{all_made}
use Rattle.definition.proofs.Laws.Lists.{member_at}
use Rattle.solve_leaves.proofs.frame.all_sorted.Goals as goal

-- what is read at an index is in the list
among : (xs : List ℕ) (x k : ℕ) → k < length xs → x ≡ get_or xs k x → Among x xs
among xs x k l e = subst (λ (y : ℕ). Among y xs) (sym (e ∙ get_or_default xs k x 0 l)) (member_at xs k l)

pub all-requires-clause-callable : goal.all-requires-clause-callable
all-requires-clause-callable c =
    serves_from_places (YieldsList-from_slice c.args.watched.now cc) (λ x q e. search rules)
    (λ x k l e. let w : x.now < length c.args.work.now = c.requires x.now (among _ _ _ l e) in grind (arith, w))

pub returns : goal.returns
unfolding is_sorted
returns c =
    all_from_yields_List _ _ _ _ c.all.ensures.ran (YieldsList-from_slice c.args.watched.now cc) (λ x b q k. search (rules, tests))
    ∙ all_made _ _
