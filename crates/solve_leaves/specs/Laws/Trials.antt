-- An Xor's trials.
use Rattle.std.specs.Prelude.{ℕ, ◌+◌, ◌*◌, ◌≤◌, ◌≡◌, Ok, Err, List, [], ◌∷◌, length}
use Rattle.std.proofs.Common.{sym, ap, subst, ◌∙◌, arith}
use Rattle.definition.specs.declared.Counts.{Counts}
use Rattle.definition.specs.Sizes.{entry_cells}
use Rattle.definition.specs.Frame.{Frame}
use Rattle.definition.specs.Update.{Out, nothing, seen}
use Rattle.solve_leaves.specs.declared.answer.Tried.{Tried}
use Rattle.solve_leaves.specs.declared.answer.Tried.TheVariants.{Nothing, Single, Several}
use Rattle.solve_leaves.specs.Says.{Answer, Says, Shows, NoneFitted}
use Rattle.solve_leaves.specs.Trial.{seen_by, trial_frame, entries_of, entries_in}

pub same_seen : {t t' : Tried} {a a' : Answer} → t ≡ t' → (c : ℕ) → a ≡ a' → seen_by t' c a' ≡ seen_by t c a
same_seen {t} {t'} {a} e c e' = sym (ap (λ (x : Tried). seen_by x c a) e ∙ ap (seen_by t' c) e')

pub trial_least : (t : Tried) (k : ℕ) → k ≤ trial_frame t k
trial_least (Nothing n) k = omega arith
trial_least (Single c b) k = omega arith
trial_least Several k = omega arith

pub trial_most : (t : Tried) (k : ℕ) → trial_frame t k ≤ k + k
trial_most (Nothing n) k = omega arith
trial_most (Single c b) k = omega arith
trial_most Several k = omega arith

pub seen_few : (t : Tried) (c : ℕ) (a : Answer) → entries_of (seen_by t c a) ≤ entries_of t + entries_in a
seen_few (Nothing k) c (Ok b) = omega arith
seen_few (Nothing k) c (Err m) = omega arith
seen_few (Single d b) c (Ok b') = omega arith
seen_few (Single d b) c (Err m) = omega arith
seen_few Several c a = omega arith

-- an answer's entries stand in the list of errors
pub entries_fit : (a : Answer) (o : Out) (n : Counts) (work errors : List ℕ) → Says a o n work errors → entries_in a * entry_cells ≤ length errors
entries_fit (Ok b) o n work errors s = omega arith
entries_fit (Err e) o n work errors s = s.holds.within

-- the only child
pub only_shows : (t : Tried) (c : ℕ) (a : Answer) (o : Out) (f : Frame) (n : Counts) (work errors : List ℕ) → t ≡ seen_by (Nothing 0) c a → Says a o n work errors → Shows t (seen (nothing []) c o) f n work errors
unfolding seen
only_shows t c a o f n work errors e s = subst (λ (x : Tried). Shows x (seen (nothing []) c o) f n work errors) (sym e) (only a s)
  where
    none : (k : ℕ) → k ≡ 0 + k
    none k = omega arith

    only : (a : Answer) → Says a o n work errors → Shows (seen_by (Nothing 0) c a) (seen (nothing []) c o) f n work errors
    only (Ok b) s = ap (seen (nothing []) c) s
    only (Err e) s = subst (λ (j : ℕ). NoneFitted (seen (nothing []) c o) j errors) (none e.entries) (record { entries = s.entry ∷ s.below; found = ap (seen (nothing []) c) s.out; holds = s.holds })
