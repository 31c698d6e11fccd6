-- A record one level above its children: what Implies and Xor ask of them and say of them, in the lists as the code lends them.
use Prim.Native.Nat.{ℕ, suc, ◌+◌, ◌-◌, ◌*◌, ◌<◌, ◌≤◌}
use mathlib.Core.Path.{◌≡◌, refl, sym, ap, subst, ◌∙◌}
use mathlib.Core.Bool.{true, false}
use mathlib.Core.List.Memᴰ
use mathlib.Core.List.{List, [], ◌∷◌}
use native.Mathlib.Omega.{arith}
use lib.ListN.{length, drop, get_or, set, length-set}
use Rattle.definition.specs.declared.Counts.{Counts}
use Rattle.definition.specs.Sizes.{entry_cells}
use Rattle.definition.specs.Lists.{Among}
use Rattle.definition.specs.Problem.{Problem, xor, implies, node, children, place_of}
use Rattle.definition.specs.Frame.{Frame, state_of}
use Rattle.definition.specs.Update.{Out, ok, or_changed, nothing, seen, trials, step, upd}
use Rattle.definition.specs.Fits.{Framed, total, size}
use Rattle.definition.proofs.Laws.Kept.{framed_fire}
use Rattle.definition.proofs.Laws.Entries.{member_total}
use Rattle.definition.proofs.Laws.Sentences.{implies_fired, implies_waits, implies_fires, xor_tried, xor_narrowed}
use Rattle.definition.proofs.Laws.Passes.{fits_below}
use Rattle.std.specs.Prelude.{Ok, Err}
use Rattle.solve_leaves.specs.declared.answer.Firing.{Firing}
use Rattle.solve_leaves.specs.declared.answer.Firing.TheVariants.{Waits, Fires, Fired}
use Rattle.solve_leaves.specs.declared.answer.Tried.{Tried}
use Rattle.solve_leaves.specs.declared.answer.Tried.TheVariants.{Nothing}
use Rattle.solve_leaves.specs.Room.{frame_of}
use Rattle.solve_leaves.specs.Says.{Answer, Says, Shows, Ready}
use Rattle.solve_leaves.specs.Trial.{seen_by, entries_in, OneMore, Settled}
use Rattle.solve_leaves.specs.Firing.{FiringSays, is_waiting, after_firing}
use Rattle.solve_leaves.specs.Laws.Frames.{state_at, state_put}
use Rattle.solve_leaves.specs.Laws.Answers.{pos}
use Rattle.solve_leaves.specs.Laws.Trials.{only_shows, entries_fit}
use Rattle.solve_updates.proofs.Lends.{lent_from, back, lent_length, back_length, back_part}
use Rattle.solve_updates.proofs.Ready.{own, entries_own, space_own, ready_kids, ready_one}
use Rattle.solve_updates.proofs.Steps.{watched_sorted, more_tried, more_only}

-- the errors behind the first entry, as they are lent, and the whole list when they are back
abbrev pub behind : List ℕ → List ℕ
behind errors = lent_from 8 errors

abbrev pub rejoined : List ℕ → List ℕ → List ℕ
rejoined errors l = back 8 errors l

-- to fire is a change
changed_too : (a : Answer) (o : Out) (n : Counts) (work errors : List ℕ) → Says a o n work errors → Says (after_firing Fires a) (or_changed true o) n work errors
unfolding or_changed
changed_too (Ok b) o n work errors s = ap (or_changed true) s
changed_too (Err e) o n work errors s = record { entry = s.entry; below = s.below; out = ap (or_changed true) s.out; holds = s.holds }

module _ {p : Problem} {d r : ℕ} {work errors : List ℕ} (h : Ready p (suc d) (r ∷ []) work errors) where
  pub below_own : r < p.counts.records
  below_own = (own p d r work errors h).below

  -- the state of the record, by its cell
  state : state_of (frame_of p.counts work) r ≡ get_or work (p.counts.terms + r) 0
  state = state_at p.counts work r below_own

  marked : (get_or work (p.counts.terms + r) 0 ≡ 0 → ⊥) → state_of (frame_of p.counts work) r ≡ suc (get_or work (p.counts.terms + r) 0 - 1)
  marked n = state ∙ pos (get_or work (p.counts.terms + r) 0) n

  -- the cells of the record's state and of the terms
  pub frame_in : p.counts.terms + p.counts.records ≤ length work
  frame_in = omega (arith, space_own p d r work errors h)

  pub cell_in : p.counts.terms + r < length work
  cell_in = omega (arith, frame_in, below_own)

  pub term_in : {t : ℕ} → t < p.counts.terms → t < length work
  term_in l = omega (arith, frame_in)

  pub entry_in : 8 ≤ length errors
  entry_in = omega (arith, entries_own p d r work errors h)

  -- Implies
  implies_ready : {ws : List ℕ} {c : ℕ} → node p r ≡ implies ws c → Ready p d (c ∷ []) work errors
  implies_ready {ws} {c} e = ready_kids p d r work errors h (c ∷ []) (ap children e)

  implies_ready_fired : {ws : List ℕ} {c : ℕ} → node p r ≡ implies ws c → Ready p d (c ∷ []) (set work (p.counts.terms + r) 1) errors
  implies_ready_fired {ws} {c} e =
      let k : Ready p d (c ∷ []) work errors = implies_ready e in
      record {
        fits = k.fits;
        records = k.records;
        side = k.side;
        framed = subst (Framed p) (state_put p.counts work r 1 below_own) (framed_fire p (frame_of p.counts work) r c ws e k.framed);
        space = simp length-set k.space;
        entries = k.entries;
      }

  pub firing_ready : (f : Firing) {ws : List ℕ} {c : ℕ} (work' : List ℕ) → node p r ≡ implies ws c → FiringSays f ws (p.counts.terms + r) work work' → Ready p d (c ∷ []) work' errors
  firing_ready Waits {ws} {c} work' e s = subst (λ (l : List ℕ). Ready p d (c ∷ []) l errors) (sym s.2) (implies_ready e)
  firing_ready Fires {ws} {c} work' e s = subst (λ (l : List ℕ). Ready p d (c ∷ []) l errors) (sym s.2) (implies_ready_fired e)
  firing_ready Fired {ws} {c} work' e s = subst (λ (l : List ℕ). Ready p d (c ∷ []) l errors) (sym s.1) (implies_ready e)

  pub says_waits : (f : Firing) (ws : List ℕ) (c : ℕ) (work' : List ℕ) → is_waiting f ≡ true → ((t : ℕ) → Among t ws → t < p.counts.terms) → FiringSays f ws (p.counts.terms + r) work work'
      → step (upd p d) p r (implies ws c) (frame_of p.counts work) ≡ ok false (frame_of p.counts work')
  says_waits Waits ws c work' w within s = implies_waits (upd p d) p r (frame_of p.counts work) ws c (state ∙ s.0) (watched_sorted p.counts ws work within ∙ sym s.1) ∙ ap (λ (l : List ℕ). ok false (frame_of p.counts l)) (sym s.2)
  says_waits Fires ws c work' w within s = absurd (let z : ◌≡◌ {A = ℕ} 0 1 = cc in omega arith)
  says_waits Fired ws c work' w within s = absurd (let z : ◌≡◌ {A = ℕ} 0 1 = cc in omega arith)

  pub says_fires : (f : Firing) (a a' : Answer) (ws : List ℕ) (c : ℕ) (work' work'' errors'' : List ℕ) → is_waiting f ≡ false → ((t : ℕ) → Among t ws → t < p.counts.terms) → FiringSays f ws (p.counts.terms + r) work work'
      → a' ≡ after_firing f a → Says a (upd p d c (frame_of p.counts work')) p.counts work'' errors'' → Says a' (step (upd p d) p r (implies ws c) (frame_of p.counts work)) p.counts work'' errors''
  says_fires Waits a a' ws c work' work'' errors'' w within s e said = absurd (let z : ◌≡◌ {A = ℕ} 0 1 = cc in omega arith)
  says_fires Fires a a' ws c work' work'' errors'' w within s e said =
      subst (λ (x : Answer). Says x (step (upd p d) p r (implies ws c) (frame_of p.counts work)) p.counts work'' errors'') (sym e)
      (subst (λ (o : Out). Says (after_firing Fires a) o p.counts work'' errors'') (ap (λ (l : List ℕ). or_changed true (upd p d c (frame_of p.counts l))) s.2 ∙ ap (λ (f : Frame). or_changed true (upd p d c f)) (sym (state_put p.counts work r 1 below_own))
      ∙ sym (implies_fires (upd p d) p r (frame_of p.counts work) ws c (state ∙ s.0) (watched_sorted p.counts ws work within ∙ sym s.1)))
      (changed_too a (upd p d c (frame_of p.counts work')) p.counts work'' errors'' said))
  says_fires Fired a a' ws c work' work'' errors'' w within s e said =
      subst (λ (x : Answer). Says x (step (upd p d) p r (implies ws c) (frame_of p.counts work)) p.counts work'' errors'') (sym e)
      (subst (λ (o : Out). Says a o p.counts work'' errors'') (ap (λ (l : List ℕ). upd p d c (frame_of p.counts l)) s.1 ∙ sym (implies_fired (upd p d) p r (frame_of p.counts work) ws c (get_or work (p.counts.terms + r) 0 - 1) (marked s.0))) said)

  -- Xor
  pub xor_ready : {cs : List ℕ} → node p r ≡ xor cs → Ready p d cs work (behind errors)
  xor_ready {cs} e =
      let k : Ready p d cs work errors = ready_kids p d r work errors h cs (ap children e) in
      record {
        fits = k.fits;
        records = k.records;
        side = k.side;
        framed = k.framed;
        space = k.space;
        entries = subst (λ (l : List ℕ). total (size p d) l * entry_cells ≤ length (behind errors)) (ap children e) (omega (arith, entries_own p d r work errors h, lent_length 8 errors));
      }

  pub narrowed_ready : {cs : List ℕ} → node p r ≡ xor cs → (get_or work (p.counts.terms + r) 0 ≡ 0 → ⊥) → Ready p d ((get_or work (p.counts.terms + r) 0 - 1) ∷ []) work (behind errors)
  narrowed_ready {cs} e n =
      let k : Ready p d cs work (behind errors) = xor_ready e in
      let c : ℕ = get_or work (p.counts.terms + r) 0 - 1 in
      let m : Among c cs = h.framed.narrowed r c cs e (marked n) in
      ready_one p d cs c work (behind errors) work (behind errors) k m k.framed k.space (omega (arith, k.entries, member_total (size p d) c cs m))

  -- what `settle` asks, after the trials and after a single child
  abbrev Asked : Tried → List ℕ → List ℕ → Type 0
  Asked tried work' l = (OneMore tried work' (rejoined errors l)) × (8 ≤ length (rejoined errors l)) × (p.counts.terms + r < length work')

  settle_asks : (tried : Tried) (work' l : List ℕ) → length work' ≡ length work → length l ≡ length (behind errors) → (8 ≤ length (rejoined errors l) → OneMore tried work' (rejoined errors l)) → Asked tried work' l
  settle_asks tried work' l lw ll more =
      let room : 8 ≤ length (rejoined errors l) = omega (arith, back_length 8 errors l entry_in ll, entry_in) in
      (more room, room, omega (arith, cell_in))

  pub tried_asks : (tried : Tried) {cs : List ℕ} (work' l : List ℕ) → node p r ≡ xor cs → length work' ≡ length work → length l ≡ length (behind errors)
      → Shows tried (trials (upd p d) (frame_of p.counts work) (nothing []) cs) (frame_of p.counts work) p.counts work' l → Asked tried work' l
  tried_asks tried {cs} work' l e lw ll s =
      settle_asks tried work' l lw ll λ room.
      more_tried tried (upd p d) (frame_of p.counts work) cs p.counts work' (rejoined errors l) room
      (λ c m. let b : c < p.counts.records = fits_below p d c ((xor_ready e).fits c m) in omega (arith, frame_in))
      (subst (Shows tried (trials (upd p d) (frame_of p.counts work) (nothing []) cs) (frame_of p.counts work) p.counts work') (sym (back_part 8 errors l entry_in)) s)

  -- the child that is left, its answer, and what is seen of it
  abbrev last : ℕ
  last = get_or work (p.counts.terms + r) 0 - 1

  only : (tried : Tried) (a : Answer) (work' l : List ℕ) → tried ≡ seen_by (Nothing 0) last a → Says a (upd p d last (frame_of p.counts work)) p.counts work' l
      → Shows tried (seen (nothing []) last (upd p d last (frame_of p.counts work))) (frame_of p.counts work) p.counts work' (drop 8 (rejoined errors l))
  only tried a work' l e s =
      subst (Shows tried (seen (nothing []) last (upd p d last (frame_of p.counts work))) (frame_of p.counts work) p.counts work') (sym (back_part 8 errors l entry_in))
      (only_shows tried last a (upd p d last (frame_of p.counts work)) (frame_of p.counts work) p.counts work' l e s)

  pub only_fits : (a : Answer) (work' l : List ℕ) → length l ≡ length (behind errors) → Says a (upd p d last (frame_of p.counts work)) p.counts work' l → entries_in a ≤ length errors
  only_fits a work' l ll s = omega (arith, entries_fit a (upd p d last (frame_of p.counts work)) p.counts work' l s, lent_length 8 errors)

  pub only_asks : (tried : Tried) (a : Answer) {cs : List ℕ} (work' l : List ℕ) → node p r ≡ xor cs → (get_or work (p.counts.terms + r) 0 ≡ 0 → ⊥) → length work' ≡ length work → length l ≡ length (behind errors)
      → tried ≡ seen_by (Nothing 0) last a → Says a (upd p d last (frame_of p.counts work)) p.counts work' l → Asked tried work' l
  only_asks tried a {cs} work' l e n lw ll t s =
      settle_asks tried work' l lw ll λ room.
      more_only tried (upd p d) (frame_of p.counts work) last p.counts work' (rejoined errors l) room
      (let b : last < p.counts.records = fits_below p d last ((narrowed_ready e n).fits last (Memᴰ.head refl)) in omega (arith, frame_in))
      (only tried a work' l t s)

  -- what the Xor says, undecided and narrowed
  pub says_open : (a : Answer) (tried : Tried) (cs work' l work'' errors'' : List ℕ) {place : ℕ} → place_of p r ≡ place → get_or work (p.counts.terms + r) 0 ≡ 0
      → Shows tried (trials (upd p d) (frame_of p.counts work) (nothing []) cs) (frame_of p.counts work) p.counts work' l
      → Settled a tried p.counts.terms r place (length cs) work' (rejoined errors l) work'' errors''
      → Says a (step (upd p d) p r (xor cs) (frame_of p.counts work)) p.counts work'' errors''
  says_open a tried cs work' l work'' errors'' here z s settled =
      subst (λ (o : Out). Says a o p.counts work'' errors'') (sym (xor_tried (upd p d) p r (frame_of p.counts work) cs (state ∙ z)))
      (settled p.counts p (frame_of p.counts work) (trials (upd p d) (frame_of p.counts work) (nothing []) cs) refl below_own here
      (subst (Shows tried (trials (upd p d) (frame_of p.counts work) (nothing []) cs) (frame_of p.counts work) p.counts work') (sym (back_part 8 errors l entry_in)) s))

  pub says_narrowed : (a : Answer) (tried : Tried) (b : Answer) (cs work' l work'' errors'' : List ℕ) {place : ℕ} → place_of p r ≡ place → (get_or work (p.counts.terms + r) 0 ≡ 0 → ⊥)
      → tried ≡ seen_by (Nothing 0) last b → Says b (upd p d last (frame_of p.counts work)) p.counts work' l → Settled a tried p.counts.terms r place 1 work' (rejoined errors l) work'' errors''
      → Says a (step (upd p d) p r (xor cs) (frame_of p.counts work)) p.counts work'' errors''
  says_narrowed a tried b cs work' l work'' errors'' here n t s settled =
      subst (λ (o : Out). Says a o p.counts work'' errors'') (sym (xor_narrowed (upd p d) p r (frame_of p.counts work) last cs (marked n)))
      (settled p.counts p (frame_of p.counts work) (seen (nothing []) last (upd p d last (frame_of p.counts work))) refl below_own here (only tried b work' l t s))
