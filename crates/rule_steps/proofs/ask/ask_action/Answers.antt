-- `ask_action` meets its contract, by the kind that was read.
use Rattle.std.proofs.Common.{◌∷◌, [], false, set, refl, ap, arith, rules, ◌∙◌}
use Rattle.rule_cells.specs.Laws.{front}
use Rattle.rule_steps.specs.declared.Work.{Work}
use Rattle.rule_steps.specs.Laws.Reading.{action_asked, asked_applied, asked_equal, asked_nothing}
use Rattle.rule_steps.proofs.ask.ask_action.Goals as goal

pub returns-in-Let : goal.returns-in-Let
returns-in-Let c =
    λ fixed.
    let a = c.args in
    rw (action_asked _ _ _ _ _ _ _ _ _ c.action_at.ensures c.unwrap_or.ensures, c.in-Let.is, ← c.call_cell-x.ensures, ← c.head_of-head.ensures)
    (asked_applied a.args.now a.bound.now _ _ a.own.now c.requires.buffers _ _ _ _ 1 0 _ false (omega arith) (omega arith) c.put_with-n.ensures.0 c.put_with-n.ensures.1 (front a.bound.now _ (_ ∷ []) 1 c.put.ensures refl (omega (arith, c.requires.buffers))) c.applied.ensures)

pub returns-in-Set : goal.returns-in-Set
returns-in-Set c =
    λ fixed.
    let a = c.args in
    rw (action_asked _ _ _ _ _ _ _ _ _ c.action_at.ensures c.unwrap_or.ensures, c.in-Set.is, ← c.call_cell-x.ensures, ← c.head_of-head.ensures, ← c.is_constructor.ensures)
    (asked_applied a.args.now a.bound.now _ _ a.own.now c.requires.buffers _ _ _ _ 0 0 [] c.is_constructor.result (omega arith) (omega arith) c.put_with-n-in-Set.ensures.0 c.put_with-n-in-Set.ensures.1 refl (ap (λ (w : Work). record w { forbidden = c.is_constructor.result }) c.applied-in-Set.ensures))

pub returns-in-Change : goal.returns-in-Change
returns-in-Change c =
    λ fixed.
    let a = c.args in
    rw (action_asked _ _ _ _ _ _ _ _ _ c.action_at.ensures c.unwrap_or.ensures, c.in-Change.is, ← c.fresh-fresh.ensures.0, ← c.head_of-head.ensures)
    (asked_applied a.args.now a.bound.now _ _ a.own.now c.requires.buffers _ _ _ _ 0 1 [] false (omega arith) (omega arith) c.put_with-n-in-Change.ensures.0 c.put_with-n-in-Change.ensures.1 refl (rw c.applied-in-Change.ensures))

pub returns-in-Union : goal.returns-in-Union
returns-in-Union c =
    λ fixed.
    let a = c.args in
    let x = c.call_cell-x.result in
    let y = c.call_cell-y.result in
    rw (action_asked _ _ _ _ _ _ _ _ _ c.action_at.ensures c.unwrap_or.ensures, c.in-Union.is, ← c.call_cell-x.ensures, ← c.call_cell-y.ensures)
    (asked_equal a.args.now a.bound.now _ _ a.own.now c.requires.buffers _ x y 2 0 (x ∷ y ∷ []) [] false (omega arith) (omega arith) (front a.args.now _ (x ∷ y ∷ []) 2 (c.put-in-Union-2.ensures ∙ ap (λ l. set l 1 y) c.put-in-Union.ensures) refl (omega (arith, c.requires.buffers))) (omega arith) refl c.equal.ensures)

pub returns-in-LetAtomTerm : goal.returns-in-LetAtomTerm
returns-in-LetAtomTerm c =
    λ fixed.
    let a = c.args in
    let x = c.call_cell-x.result in
    let y = c.call_cell-y.result in
    rw (action_asked _ _ _ _ _ _ _ _ _ c.action_at.ensures c.unwrap_or.ensures, c.in-LetAtomTerm.is, ← c.call_cell-x.ensures, ← c.call_cell-y.ensures)
    (asked_equal a.args.now a.bound.now _ _ a.own.now c.requires.buffers _ x y 1 1 (y ∷ []) (x ∷ []) false (omega arith) (omega arith) (front a.args.now _ (y ∷ []) 1 c.put-in-LetAtomTerm.ensures refl (omega (arith, c.requires.buffers))) (omega arith) (front a.bound.now _ (x ∷ []) 1 c.put-in-LetAtomTerm-2.ensures refl (omega (arith, c.requires.buffers))) c.equal-in-LetAtomTerm.ensures)

pub returns-in-Panic : goal.returns-in-Panic
returns-in-Panic c = λ fixed. rw (action_asked _ _ _ _ _ _ _ _ _ c.action_at.ensures c.unwrap_or.ensures, c.in-Panic.is) (asked_nothing _ _ _ (search rules))
