-- Two relations that every update respects: a term keeps the sort that it has, and an update that answers unchanged
-- leaves every sort as it was.
use Rattle.std.specs.Prelude.{ℕ, suc, ◌≡◌, refl, Bool, false, List, get_or, set}
use Rattle.std.proofs.Common.{◌∙◌, ⊎_elim, true≢false, arith}
use Rattle.definition.specs.Problem.{Problem}
use Rattle.definition.specs.Frame.{Frame, sort_of}
use Rattle.definition.specs.Update.{ok, each, upd}
use Rattle.definition.specs.Fits.{Framed}
use Rattle.definition.proofs.Laws.Lists.{neither}
use Rattle.definition.proofs.Laws.Kept.{Respects, cell_after_set, upd_keeps, each_keeps}

-- of a record nothing has to be known
abbrev Any : ℕ → Type 0
Any r = Unit {0}

abbrev Stay : Bool → Frame → Frame → Type 0
Stay b f g = (t s : ℕ) → sort_of f t ≡ suc s → sort_of g t ≡ suc s

abbrev Same : Bool → Frame → Frame → Type 0
Same b f g = b ≡ false → g.sorts ≡ f.sorts

-- a store where 0 stands leaves what is not 0
stays_set : (l : List ℕ) (t v : ℕ) → get_or l t 0 ≡ 0 → (x s : ℕ) → get_or l x 0 ≡ suc s → get_or (set l t v) x 0 ≡ suc s
stays_set l t v z x s h = ⊎_elim (λ w. absurd (hit w.0)) (λ w. w ∙ h) (cell_after_set l t v x)
  where
    hit : x ≡ t → ⊥
    hit e = let k : ◌≡◌ {A = ℕ} 0 (suc s) = cc in omega arith

stays : (p : Problem) → Respects p Any Stay
stays p = record {
  same = λ f t s h. h;
  next = λ a b f g h k l t s e. l t s (k t s e);
  down = λ r c γ m. tt;
  sorting = λ r t s f γ F w z. stays_set f.sorts t (suc s) z;
  narrowing = λ r c cs f γ F e m t s h. h;
  firing = λ r c ws f γ F e z a t s h. h;
}

sames : (p : Problem) → Respects p Any Same
sames p = record {
  same = λ f h. refl;
  next = λ a b f g h k l e. l (neither a b e).1 ∙ k (neither a b e).0;
  down = λ r c γ m. tt;
  sorting = λ r t s f γ F w z h. absurd (true≢false h);
  narrowing = λ r c cs f γ F e m h. refl;
  firing = λ r c ws f γ F e z a h. absurd (true≢false h);
}

pub upd_stays : (p : Problem) (d r : ℕ) (f g : Frame) (b : Bool) → Framed p f → upd p d r f ≡ ok b g → (t s : ℕ) →
    sort_of f t ≡ suc s → sort_of g t ≡ suc s
upd_stays p d r f g b F e = (upd_keeps p Any Stay (stays p) d r f g b tt F e).1

pub each_stays : (p : Problem) (d : ℕ) (cs : List ℕ) (f g : Frame) (b : Bool) → Framed p f → each (upd p d) cs f ≡ ok b g →
    (t s : ℕ) → sort_of f t ≡ suc s → sort_of g t ≡ suc s
each_stays p d cs f g b F e = (each_keeps p Any Stay (stays p) d cs f g b (λ c m. tt) F e).1

pub upd_unchanged : (p : Problem) (d r : ℕ) (f g : Frame) → Framed p f → upd p d r f ≡ ok false g → g.sorts ≡ f.sorts
upd_unchanged p d r f g F e = (upd_keeps p Any Same (sames p) d r f g false tt F e).1 refl

pub each_unchanged : (p : Problem) (d : ℕ) (cs : List ℕ) (f g : Frame) → Framed p f → each (upd p d) cs f ≡ ok false g →
    g.sorts ≡ f.sorts
each_unchanged p d cs f g F e = (each_keeps p Any Same (sames p) d cs f g false (λ c m. tt) F e).1 refl
