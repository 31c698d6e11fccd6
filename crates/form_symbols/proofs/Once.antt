-- No second outcome: what a contract says of the result and of the counter lent settles both, for the same arguments. And nothing is asked of a caller.
use mathlib.Core.Path.{◌≡◌, refl}
use Prim.Native.Nat.{ℕ}
use seplogic.Ra.Ura.{Ura}
use base.Logic.{SProp, emp}
use prog.Memory.{Memory}
use prog.Routine.{Routine}
use types.Logic.{Logic}
use contract.Lifetimes.{Lfts}
use contract.Monad.{Fun, fact}
use borrow.Fn.Kinds.{Dens}
use denote.Triple.Clauses.{Lasts, at_exit}
use denote.Triple.Entry.{Args}
use Rattle.definition.proofs.Laws.Once.{Once, one}
use Rattle.form_symbols.specs.declared.SymbolGen.{SymbolGen}
use Rattle.form_symbols.specs.declared.Fresh.{Fresh}
use Rattle.form_symbols.specs.Step.{after}
use Rattle.form_symbols.specs.contracts as k
use Rattle.form_symbols.proofs as f

pub fresh_once : Once 0 f.SymbolGen.fresh.Kinds.ps f.SymbolGen.fresh.Kinds.r f.SymbolGen.fresh.Reads.Post
fresh_once κs a o o' p q i = (record { taken = one p.0 q.0 i; left = record { next = one p.1 q.1 i } }, _)

pub fresh_told : f.SymbolGen.fresh.Reads.Learnt ≡ f.SymbolGen.fresh.Reads.Post
fresh_told = refl

pub fresh_asks_nothing : (κs : Lfts 0) (a : Dens κs f.SymbolGen.fresh.Kinds.ps) → f.SymbolGen.fresh.Reads.Asked κs a
fresh_asks_nothing κs a = tt

-- the two functions over a lent counter: what settles an outcome, and that it is what the contract says
-- what the step says of a counter that stands at n
abbrev pub Said : ℕ → Fresh → Type 0
Said n r = (r.taken ≡ n) × (r.left.next ≡ after n)

-- what `take_fresh` says of its result and of the counter's last value
abbrev pub Took : ℕ → ℕ → SymbolGen → Type 0
Took n r h = (r ≡ n) × (h.next ≡ after n)

pub took_once : (n : ℕ) (o o' : ℕ × SymbolGen) → Took n o.0 o.1 → Took n o'.0 o'.1 → o ≡ o'
took_once n o o' p q i = (one p.0 q.0 i, record { next = one p.1 q.1 i })

pub said_once : (n : ℕ) (r r' : Fresh) → Said n r → Said n r' → r ≡ r'
said_once n r r' p q i = record { taken = one p.0 q.0 i; left = record { next = one p.1 q.1 i } }

module _ {M : Type 1} {𝓤 : Ura M} (𝓛 : Logic 𝓤) (mem : Memory → SProp 𝓤) (run : Routine → Fun 𝓤) where
  pub take_fresh_says : (κs : Lfts 1) (a : Args k.take_fresh.signature κs) (r : ℕ) (last : Lasts k.take_fresh.ended κs a)
      → (k.take_fresh.clauses 𝓛 mem run κs a).ensures tt r (at_exit k.take_fresh.ended κs a last) ≡ fact 𝓤 (Took a.0.now.next r last.0)
  take_fresh_says κs a r last = refl

  pub take_fresh_asks_nothing : (κs : Lfts 1) (a : Args k.take_fresh.signature κs) → (k.take_fresh.clauses 𝓛 mem run κs a).requires tt ≡ emp 𝓤
  take_fresh_asks_nothing κs a = refl

  pub fresh_after_says : (κs : Lfts 0) (a : Args k.fresh_after.signature κs) (r : Fresh) (last : Lasts k.fresh_after.ended κs a)
      → (k.fresh_after.clauses 𝓛 mem run κs a).ensures tt r (at_exit k.fresh_after.ended κs a last) ≡ fact 𝓤 (Said a.0 r)
  fresh_after_says κs a r last = refl

  pub fresh_after_asks_nothing : (κs : Lfts 0) (a : Args k.fresh_after.signature κs) → (k.fresh_after.clauses 𝓛 mem run κs a).requires tt ≡ emp 𝓤
  fresh_after_asks_nothing κs a = refl
