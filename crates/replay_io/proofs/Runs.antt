-- The runs of cells that begin with a run are that one, and then the runs of what is left.
use Rattle.std.specs.Prelude.{ℕ, suc, ◌+◌, ◌<◌, ◌≡◌, refl, true, false, List, [], ◌∷◌, ◌++◌, length, nat_eq, get_or, decimal}
use Rattle.std.specs.List.{IsChunkByPrefix}
use Rattle.std.proofs.Common.{arith, subst, add-zero, add-suc, suc-add, sym, ap, ◌∙◌, append_assoc, length-append}
use native.Mathlib.Numerals.{unary_clauses}
use Rattle.std.proofs.lemmas.Bool.{eqb-true}
use Rattle.std.proofs.lemmas.List.{append-nil}
use Rattle.replay_io.specs.declared.output.Output.{Output}
use Rattle.replay_io.specs.Waits.{Puts, run_of, runs_from, runs}

-- as many cells as n are like the one before, of which the first is v, and not the next
abbrev Alike : ℕ → List ℕ → ℕ → Type 0
Alike v cells n = ((k : ℕ) → k < n → nat_eq (get_or (v ∷ cells) k 0) (get_or cells k 0) ≡ true)
    × (n < length cells → nat_eq (get_or (v ∷ cells) n 0) (get_or cells n 0) ≡ false)

next : (v x : ℕ) (cells : List ℕ) (n : ℕ) → Alike v (x ∷ cells) (suc n) → v ≡ x → Alike v cells n
next v x cells n p e = subst (λ (y : ℕ). Alike y cells n) (sym e) (λ k h. p.0 (suc k) (omega arith), λ h. p.1 (omega arith))

from : (v n : ℕ) (run rest : List ℕ) → Alike v (run ++ rest) (length run) → runs_from v n (run ++ rest) ≡ run_of v (n + length run) ++ runs rest
unfolding runs_from runs
from v n [] [] p = rw (add-zero n) (sym (append-nil (run_of v n)))
from v n [] (x ∷ rest) p = rw (p.1 (omega arith), add-zero n) refl
from v n (x ∷ run) rest p =
    let same : nat_eq v x ≡ true = p.0 0 (omega arith) in
    rw (same, add-suc, ← suc-add) (from v (suc n) run rest (next v x (run ++ rest) (length run) p (eqb-true v x same)))

pub front : (run rest : List ℕ) → 0 < length run → IsChunkByPrefix nat_eq (run ++ rest) (length run) → runs (run ++ rest) ≡ run_of (get_or run 0 0) (length run) ++ runs rest
unfolding runs
front [] rest h p = elim h [ ]
front (v ∷ run) rest h p = from v 1 run rest (λ k l. simp unary_clauses at (p.0 k 0 (omega arith)), λ l. simp unary_clauses at (p.1 (omega arith) 0))
    ∙ ap (λ (n : ℕ). run_of v n ++ runs rest) counted
  where
    counted : 1 + length run ≡ suc (length run)
    counted = omega arith

-- one text and then another
pub puts_then : (a b c : Output) (s t : List ℕ) → Puts a s b → Puts b t c → Puts a (s ++ t) c
puts_then a b c s t p q h =
    let is : b.waiting.items ≡ a.waiting.items ++ s = p (omega (arith, length-append s t)) in
    q (omega (arith, ap length is, length-append a.waiting.items s, length-append s t)) ∙ ap (λ (l : List ℕ). l ++ t) is ∙ append_assoc a.waiting.items s t

-- a run, piece by piece
pub puts_run : (a b c d e : Output) (value count : ℕ) → Puts a (32 ∷ []) b → Puts b (decimal value) c → Puts c (120 ∷ []) d → Puts d (decimal count) e → Puts a (run_of value count) e
puts_run a b c d e value count p q r s = puts_then a b e (32 ∷ []) (decimal value ++ (120 ∷ decimal count)) p (puts_then b c e (decimal value) (120 ∷ decimal count) q (puts_then c d e (120 ∷ []) (decimal count) r s))

-- a run is put, and the runs of what is left are still to come
pub run_put : (text run rest all shown : List ℕ) (value : ℕ) → all ≡ run ++ rest → 0 < length run → IsChunkByPrefix nat_eq all (length run) → value ≡ get_or run 0 0 → text ++ runs all ≡ shown → (text ++ run_of value (length run)) ++ runs rest ≡ shown
run_put text run rest all shown value e h p is q =
    let alike : IsChunkByPrefix nat_eq (run ++ rest) (length run) = subst (λ (l : List ℕ). IsChunkByPrefix nat_eq l (length run)) e p in
    append_assoc text (run_of value (length run)) (runs rest)
    ∙ ap (λ (l : List ℕ). text ++ l) (ap (λ (v : ℕ). run_of v (length run) ++ runs rest) is ∙ sym (front run rest h alike) ∙ ap runs (sym e))
    ∙ q

-- nothing is left
pub all_put : (a b : Output) (text rest shown : List ℕ) → length rest ≡ 0 → Puts a text b → text ++ runs rest ≡ shown → Puts a shown b
unfolding runs
all_put a b text [] shown e p q = subst (λ (l : List ℕ). Puts a l b) (sym (append-nil text) ∙ q) p
all_put a b text (x ∷ rest) shown e p q = let none : ⊥ = omega arith in elim none [ ]
