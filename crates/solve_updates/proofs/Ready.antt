-- What is asked of a record holds of its children.
use Prim.Native.Nat.{ℕ, zero, suc, ◌+◌, ◌-◌, ◌*◌, ◌≤◌}
use mathlib.Core.Path.{◌≡◌, refl, sym, subst}
use mathlib.Core.List.Memᴰ
use mathlib.Core.List.{List, [], ◌∷◌}
use native.Mathlib.Omega.{arith}
use lib.ListN.{length}
use Rattle.definition.specs.Sizes.{entry_cells}
use Rattle.definition.specs.Lists.{Among}
use Rattle.definition.specs.Problem.{Problem, children, node}
use Rattle.definition.specs.Fits.{Fits, Framed, total, size}
use Rattle.definition.proofs.Laws.Entries.{member_total}
use Rattle.solve_leaves.specs.Room.{frame_cells, frame_of, room}
use Rattle.solve_leaves.specs.Says.{Ready}

-- a frame fits the room at any depth
pub room_frame : (k d : ℕ) → k ≤ room k d
unfolding room
room_frame k zero = omega arith
room_frame k (suc d) = omega arith

pub fits_deep : (p : Problem) (d r : ℕ) → Fits p d r → d ≡ suc (d - 1)
fits_deep p zero r h = absurd h
fits_deep p (suc d) r h = omega arith

-- one of the records, with the frame and the errors where they are now
pub ready_one : (p : Problem) (d : ℕ) (cs : List ℕ) (c : ℕ) (work errors work' errors' : List ℕ) → Ready p d cs work errors → Among c cs
    → Framed p (frame_of p.counts work') → room (frame_cells p.counts) d ≤ length work' → size p d c * entry_cells ≤ length errors' → Ready p d (c ∷ []) work' errors'
unfolding total
ready_one p d cs c work errors work' errors' h m framed space entries = record {
  fits = at_child;
  records = h.records;
  side = h.side;
  framed = framed;
  space = space;
  entries = omega arith;
}
  where
    at_child : (x : ℕ) → Among x (c ∷ []) → Fits p d x
    at_child x k = subst (Fits p d) (sym (Memᴰ.eq_of_singleton k)) (h.fits c m)

-- the same where the lists have the lengths that they had
pub ready_child : (p : Problem) (d : ℕ) (cs : List ℕ) (c : ℕ) (work errors work' errors' : List ℕ) → Ready p d cs work errors → Among c cs
    → Framed p (frame_of p.counts work') → length work' ≡ length work → length errors' ≡ length errors → Ready p d (c ∷ []) work' errors'
ready_child p d cs c work errors work' errors' h m framed lw le =
    ready_one p d cs c work errors work' errors' h m framed (omega (arith, h.space)) (omega (arith, member_total (size p d) c cs m, h.entries))

-- what is asked of a record at depth d + 1, of the record itself
module _ (p : Problem) (d r : ℕ) (work errors : List ℕ) (h : Ready p (suc d) (r ∷ []) work errors) where
  pub own : Fits p (suc d) r
  own = h.fits r (Memᴰ.head refl)

  pub entries_own : suc (total (size p d) (children (node p r))) * entry_cells ≤ length errors
  unfolding size total
  entries_own = omega (arith, h.entries)

  pub space_own : frame_cells p.counts + (frame_cells p.counts + room (frame_cells p.counts) d) ≤ length work
  unfolding room
  space_own = h.space

  -- and of its children
  pub ready_kids : (cs : List ℕ) → children (node p r) ≡ cs → Ready p d cs work errors
  ready_kids cs e = record {
    fits = λ c m. own.kids c (subst (Among c) (sym e) m);
    records = h.records;
    side = h.side;
    framed = h.framed;
    space = omega (arith, space_own);
    entries = subst (λ (l : List ℕ). total (size p d) l * entry_cells ≤ length errors) e (omega (arith, entries_own));
  }
