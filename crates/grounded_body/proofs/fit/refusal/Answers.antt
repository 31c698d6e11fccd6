-- The tests in order: what has passed at a place is what the next callee asks.
use Rattle.std.proofs.Common.{sym, ◌∙◌, ◌≡◌, true, rules}
use Rattle.grounded_body.specs.Check.{sizes_fit, body_fits, grounded_refusal}
use Rattle.grounded_body.specs.Parts.{seen}
use Rattle.grounded_body.proofs.Fitting.{fits_not, room_given, atoms_given}
use Rattle.grounded_body.proofs.Laws.Bodies.{sized, modest}
use Rattle.grounded_body.proofs.fit.refusal.Goals.{Else-not-sizes_fit, Else-not-body_fits}
use Rattle.grounded_body.proofs.fit.refusal.Goals as goal

-- what has passed at each place
sizes : (c : Else-not-sizes_fit) → sizes_fit (seen c.args.body) ≡ true
sizes c = sym c.sizes_fit.ensures ∙ c.if-not-sizes_fit.false

fits : (c : Else-not-body_fits) → body_fits (seen c.args.body) ≡ true
fits c = sym c.body_fits.ensures ∙ c.if-not-body_fits.false

pub returns-then-not-sizes_fit : goal.returns-then-not-sizes_fit
unfolding grounded_refusal
returns-then-not-sizes_fit c = rw (sym c.sizes_fit.ensures ∙ c.if-not-sizes_fit.true)

pub returns-then-not-body_fits : goal.returns-then-not-body_fits
returns-then-not-body_fits c =
    fits_not _ _ _ _ (sizes (goal.at.returns-then-not-body_fits c).Else-not-sizes_fit) (sym c.body_fits.ensures ∙ c.if-not-body_fits.true)

pub room_refusal-requires : goal.room_refusal-requires
room_refusal-requires c = ((sized _ (sizes (goal.at.room_refusal-requires c).Else-not-sizes_fit)).terms_at_most, search rules)

pub returns-in_err-room_refusal : goal.returns-in_err-room_refusal
returns-in_err-room_refusal c =
    let at = goal.at.returns-in_err-room_refusal c in
    let e = room_given (seen c.args.body) c.args.work c.args.sort_list c.args.errors (sizes at.Else-not-sizes_fit) (fits at.Else-not-body_fits)
    c.in_err-room_refusal.field-0.0 c.in_err-room_refusal.ensures in
    search (rules, e)

pub atoms_refusal-requires : goal.atoms_refusal-requires
atoms_refusal-requires c = let at = goal.at.atoms_refusal-requires c in modest _ (sizes at.Else-not-sizes_fit) (fits at.Else-not-body_fits)

pub returns : goal.returns
returns c =
    let at = goal.at.returns c in
    atoms_given _ _ _ _ (sizes at.Else-not-sizes_fit) (fits at.Else-not-body_fits) _ c.in_ok-room_refusal.ensures c.atoms_refusal.ensures
