-- No second outcome: what a public function's contract says of the result and of the flat list settles both, for the same arguments. And nothing is asked of a caller.
use mathlib.Core.Path.{◌≡◌, refl, sym, ◌∙◌, ap}
use Prim.Native.Nat.{ℕ, ◌+◌, ◌*◌}
use mathlib.Core.List.{List}
use lib.ListN.{get_or}
use seplogic.Ra.Ura.{Ura}
use base.Logic.{SProp, emp}
use prog.Memory.{Memory}
use prog.Routine.{Routine}
use types.Logic.{Logic}
use contract.Lifetimes.{Lfts}
use contract.Monad.{Fun, fact}
use denote.Triple.Clauses.{Lasts, at_exit}
use denote.Triple.Entry.{Args}
use Rattle.std.specs.Prelude.{Result}
use Rattle.definition.specs.declared.Counts.{Counts}
use Rattle.definition.specs.declared.Refusal.{Refusal}
use Rattle.definition.specs.Numbers.{refused}
use Rattle.definition.specs.Sizes.{record_cells}
use Rattle.definition.proofs.Laws.Once.{one}
use Rattle.definition.proofs.Laws.Numbers.{one_refusal}
use Rattle.form_records.specs.declared.Record.{Record}
use Rattle.form_records.specs.Cells.{flat}
use Rattle.form_records.specs.Left.{left_on, Checked}
use Rattle.form_records.specs.contracts as k

pub checked_once : (c : Counts) (records : List Record) (side tops range old : List ℕ) (o o' : Result Unit Refusal × List ℕ)
    → Checked c records side tops range old (refused o.0) o.1 → Checked c records side tops range old (refused o'.0) o'.1 → o ≡ o'
checked_once c records side tops range old o o' p q i =
    let same : refused o.0 ≡ refused o'.0 = one p.number q.number in
    (one_refusal p.number q.number i, (p.cells ∙ ap (λ (r : ℕ). left_on r c.records (flat records) old) same ∙ sym q.cells) i)

module _ {M : Type 1} {𝓤 : Ura M} (𝓛 : Logic 𝓤) (mem : Memory → SProp 𝓤) (run : Routine → Fun 𝓤) where
  pub check_records_says : (κs : Lfts 5) (a : Args k.check_records.signature κs) (r : Result Unit Refusal) (last : Lasts k.check_records.ended κs a)
      → (k.check_records.clauses 𝓛 mem run κs a).ensures tt r (at_exit k.check_records.ended κs a last)
      ≡ fact 𝓤 (Checked a.0 a.1.0.now a.1.1.0.now a.1.1.1.0.now a.1.1.1.1.0.now a.1.1.1.1.1.0.now (refused r) last.1.1.1.1.1.0)
  check_records_says κs a r last = refl

  pub check_records_asks_nothing : (κs : Lfts 5) (a : Args k.check_records.signature κs) → (k.check_records.clauses 𝓛 mem run κs a).requires tt ≡ emp 𝓤
  check_records_asks_nothing κs a = refl

  -- a reader's result is one cell of the records' flat list
  pub kind_at_says : (κs : Lfts 1) (a : Args k.kind_at.signature κs) (r : ℕ) (last : Lasts k.kind_at.ended κs a)
      → (k.kind_at.clauses 𝓛 mem run κs a).ensures tt r (at_exit k.kind_at.ended κs a last) ≡ fact 𝓤 (r ≡ get_or (flat a.0.now) (a.1.0 * record_cells) 0)
  kind_at_says κs a r last = refl

  pub kind_at_asks_nothing : (κs : Lfts 1) (a : Args k.kind_at.signature κs) → (k.kind_at.clauses 𝓛 mem run κs a).requires tt ≡ emp 𝓤
  kind_at_asks_nothing κs a = refl

  pub place_at_says : (κs : Lfts 1) (a : Args k.place_at.signature κs) (r : ℕ) (last : Lasts k.place_at.ended κs a)
      → (k.place_at.clauses 𝓛 mem run κs a).ensures tt r (at_exit k.place_at.ended κs a last) ≡ fact 𝓤 (r ≡ get_or (flat a.0.now) (a.1.0 * record_cells + 6) 0)
  place_at_says κs a r last = refl

  pub place_at_asks_nothing : (κs : Lfts 1) (a : Args k.place_at.signature κs) → (k.place_at.clauses 𝓛 mem run κs a).requires tt ≡ emp 𝓤
  place_at_asks_nothing κs a = refl
