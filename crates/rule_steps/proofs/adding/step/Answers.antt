-- `step` meets its contract: once all is read, the buffers hold what is asked and the alternatives of its head.
use Rattle.std.proofs.Common.{◌≡◌, ◌≤◌, refl, sym, arith, length, take, replicate, length-take-le}
use Rattle.rule_steps.specs.Step.{found_for, Asked, seen_tables, seen_source}
use Rattle.rule_steps.specs.Ask.{ask}
use Rattle.rule_steps.specs.Laws.Reading.{found_is, found_few_lem, asked_is}
use Rattle.rule_steps.proofs.adding.step.Goals.{After-place_of-place}
use Rattle.rule_steps.proofs.adding.step.Goals as goal

found_held : (c : After-place_of-place) → c.find_for-alternatives.result ≤ length c.find_for-alternatives.new.found
found_held c =
    let t = c.args.tables in
    let f = found_few_lem t.signatures.now t.lent.signatures t.lent.context c.ask-work.result.form c.requires.declared_few in
    let l : length c.find_for-alternatives.new.found ≡ 257 = c.find_for-alternatives.auto.found in
    omega (arith, c.find_for-alternatives.ensures.1)

found_at : (c : After-place_of-place) → let t = c.args.tables in
    take c.find_for-alternatives.result c.find_for-alternatives.new.found ≡ found_for t.signatures.now t.lent.signatures t.lent.context c.ask-work.result.form
found_at c =
    let t = c.args.tables in
    found_is t.signatures.now t.lent.signatures t.lent.context c.ask-work.result.form (replicate 257 0) _ _ _ c.requires.declared_few refl c.find_for-alternatives.ensures refl

asked_at : (c : After-place_of-place) → let a = c.args in let k = c.ask-work in
    Asked (ask (seen_tables a.tables a.terms.now) a.counts.terms (seen_source a.listed a.tables) a.i) k.new.args k.new.bound k.result
asked_at c = c.ask-work.ensures c.args.terms.now

args_held : (c : After-place_of-place) → c.ask-work.result.args ≤ length c.ask-work.new.args
args_held c = let l : length c.ask-work.new.args ≡ 2049 = c.ask-work.auto.args in omega (arith, (asked_at c).args_held)

bound_held : (c : After-place_of-place) → c.ask-work.result.bound ≤ length c.ask-work.new.bound
bound_held c = let l : length c.ask-work.new.bound ≡ 2049 = c.ask-work.auto.bound in omega (arith, (asked_at c).bound_held)

pub slice_bounds-found-end : goal.slice_bounds-found-end
slice_bounds-found-end c = found_held c

pub slice_bounds-asking-end : goal.slice_bounds-asking-end
slice_bounds-asking-end c = sym (length-take-le _ _ (found_held (goal.at.slice_bounds-asking-end c).After-place_of-place))

pub slice_bounds-args-end : goal.slice_bounds-args-end
slice_bounds-args-end c = args_held (goal.at.slice_bounds-args-end c).After-place_of-place

pub slice_bounds-asking-end-2 : goal.slice_bounds-asking-end-2
slice_bounds-asking-end-2 c = sym (length-take-le _ _ (args_held (goal.at.slice_bounds-asking-end-2 c).After-place_of-place))

pub slice_bounds-bound-end : goal.slice_bounds-bound-end
slice_bounds-bound-end c = bound_held (goal.at.slice_bounds-bound-end c).After-place_of-place

pub slice_bounds-asking-end-3 : goal.slice_bounds-asking-end-3
slice_bounds-asking-end-3 c = sym (length-take-le _ _ (bound_held (goal.at.slice_bounds-asking-end-3 c).After-place_of-place))

pub add-requires : goal.add-requires
add-requires c =
    let t = c.args.tables in
    let A = asked_at (goal.at.add-requires c).After-place_of-place in
    let f = found_few_lem t.signatures.now t.lent.signatures t.lent.context c.ask-work.result.form c.requires.declared_few in
    record { few = c.requires.few; fresh_few = A.fresh_few; found_few = rw (found_at (goal.at.add-requires c).After-place_of-place) f; args_few = rw A.args' A.few }

pub returns : goal.returns
returns c =
    c.add.ensures c.args.i _ (found_at (goal.at.returns c).After-place_of-place) (asked_is _ _ _ _ _ _ (asked_at (goal.at.returns c).After-place_of-place) refl refl) (λ i. record { place = c.place_of-place.ensures i })
