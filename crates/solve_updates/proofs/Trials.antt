-- The trials of an Xor: the frame at entry stays at the front of the room, and behind it a child is tried until one
-- succeeds; that one stays there, and the others are tried behind it. What has been found so far, with the children that
-- are left, gives what all give.
use Prim.Native.Nat.{ℕ, suc, ◌+◌, ◌*◌, ◌<◌, ◌≤◌}
use mathlib.Core.Path.{◌≡◌, refl, sym, ap, subst, ◌∙◌}
use mathlib.Core.Logic.{◌⊎◌, inl, inr, ⊎_elim}
use mathlib.Core.Bool.{Bool}
use mathlib.Core.List.{List, [], ◌∷◌, ◌++◌}
use native.Mathlib.Omega.{arith}
use native.Mathlib.Nat.{eq-or-lt_of_le}
use native.Mathlib.Numerals.{add-one}
use lib.ListN.{length, take, drop, get_or, length-append, length-drop, drop_of_length-le}
use lib.Seq.{paste, length-paste, drop-cons, take-append-add, length-take-le}
use Rattle.definition.specs.declared.Counts.{Counts}
use Rattle.definition.specs.Sizes.{entry_cells}
use Rattle.definition.specs.Problem.{Problem}
use Rattle.definition.specs.Frame.{Frame}
use Rattle.definition.specs.Update.{Entry, Out, Found, nothing, single, several, seen, trials, upd}
use Rattle.definition.specs.Buffers.{cells_of, entries_cells}
use Rattle.definition.specs.Fits.{Framed, total, size}
use Rattle.definition.proofs.Laws.Entries.{upd_few}
use Rattle.definition.proofs.Laws.Sentences.{several_stays}
use Rattle.definition.proofs.Laws.Lists.{member_at}
use Rattle.std.specs.Prelude.{Ok, Err}
use Rattle.solve_leaves.specs.declared.answer.Tried.{Tried}
use Rattle.solve_leaves.specs.declared.answer.Tried.TheVariants.{Nothing, Single, Several}
use Rattle.solve_leaves.specs.Room.{frame_cells, frame_of, room, Apart}
use Rattle.solve_leaves.specs.Says.{Answer, Says, Shows, Holds, NoneFitted, Ready}
use Rattle.solve_leaves.specs.Trial.{seen_by, successes_of, trial_frame, entries_of, entries_in}
use Rattle.solve_leaves.specs.Laws.Cells.{mid_end, put_end, paste_before, paste_there}
use Rattle.solve_leaves.specs.Laws.Frames.{take_drop, same_frame}
use Rattle.solve_leaves.specs.Laws.Trials.{trial_least, trial_most, seen_few}
use Rattle.solve_updates.proofs.Lends.{lent_from, back, lent_length, back_length, back_before, back_part}
use Rattle.solve_updates.proofs.Ready.{ready_one, room_frame}

-- a child is left
pub child_left : {i n : ℕ} → i ≤ n → (i ≡ n → ⊥) → i < n
child_left h k = ⊎_elim (λ e. absurd (k e)) (λ l. l) (eq-or-lt_of_le h)

-- the cells of two lists of entries
entries_append : (es fs : List Entry) → entries_cells (es ++ fs) ≡ entries_cells es ++ entries_cells fs
unfolding entries_cells
entries_append [] fs = refl
entries_append (e ∷ es) fs = ap (λ (l : List ℕ). cells_of e ++ l) (entries_append es fs)

-- more entries behind those that are there
holds_more : (es fs : List Entry) (j k : ℕ) (errors part : List ℕ) → Holds es j errors → Holds fs k part → length part ≡ length (lent_from (j * entry_cells) errors) → Holds (es ++ fs) (j + k) (back (j * entry_cells) errors part)
holds_more es fs j k errors part h g e = record {
  count = sums h.count g.count ∙ sym (length-append es fs);
  within = omega (arith, back_length (j * entry_cells) errors part h.within e, lent_length (j * entry_cells) errors, g.within, h.within);
  cells =
      ap (take ((j + k) * entry_cells)) (put_end (j * entry_cells) errors part)
      ∙ ap (λ (n : ℕ). take n (take (j * entry_cells) errors ++ part)) (lengths (length (take (j * entry_cells) errors)) (length-take-le (j * entry_cells) errors h.within))
      ∙ take-append-add (take (j * entry_cells) errors) part (k * entry_cells)
      ∙ ap (λ (l : List ℕ). l ++ take (k * entry_cells) part) h.cells
      ∙ ap (λ (l : List ℕ). entries_cells es ++ l) g.cells
      ∙ sym (entries_append es fs);
}
  where
    sums : j ≡ length es → k ≡ length fs → j + k ≡ length es + length fs
    sums p q = omega arith

    lengths : (n : ℕ) → n ≡ j * 8 → (j + k) * 8 ≡ n + k * 8
    lengths n p = omega arith

-- the kept frame is its cells too
kept_frame : (n : Counts) (a b : List ℕ) → take (frame_cells n + frame_cells n) a ≡ take (frame_cells n + frame_cells n) b → frame_of n (drop (frame_cells n) a) ≡ frame_of n (drop (frame_cells n) b)
kept_frame n a b e =
    same_frame n (drop (frame_cells n) a) (drop (frame_cells n) b)
    (take_drop (frame_cells n) (frame_cells n) a ∙ ap (drop (frame_cells n)) e ∙ sym (take_drop (frame_cells n) (frame_cells n) b))

-- what has been found stands in the code's value, the first success in the frame g behind the entry's
abbrev Stands : Tried → Found → Frame → List ℕ → Type 0
Stands (Nothing k) s g errors = NoneFitted s k errors
Stands (Single c b) s g errors = s ≡ single c b g
Stands Several s g errors = s ≡ several

-- The trials after i children, from the lists at entry
pub record Trying (p : Problem) (d : ℕ) (cs work₀ errors₀ work errors : List ℕ) (tried : Tried) (found i : ℕ) : Type 0 where
  pub within : i ≤ length cs
  pub count : found ≡ successes_of tried
  pub works : length work ≡ length work₀
  pub lists : length errors ≡ length errors₀
  pub entry : take (frame_cells p.counts) work ≡ take (frame_cells p.counts) work₀
  pub few : entries_of tried + total (size p d) (drop i cs) ≤ total (size p d) cs
  pub sofar : Found
  pub stands : Stands tried sofar (frame_of p.counts (drop (frame_cells p.counts) work)) errors
  pub rest : trials (upd p d) (frame_of p.counts work₀) sofar (drop i cs) ≡ trials (upd p d) (frame_of p.counts work₀) (nothing []) cs

pub trying_start : {p : Problem} {d : ℕ} {cs work errors : List ℕ} → Trying p d cs work errors work errors (Nothing 0) 0 0
unfolding entries_cells
trying_start {p} {d} {cs} {work} {errors} = record {
  within = omega arith;
  count = refl;
  works = refl;
  lists = refl;
  entry = refl;
  few = omega arith;
  sofar = nothing [];
  stands = record { entries = []; found = refl; holds = record { count = refl; within = omega arith; cells = refl } };
  rest = refl;
}

-- one child further
module _ (u : ℕ → Frame → Out) (f : Frame) (cs : List ℕ) (i : ℕ) (l : i < length cs) where
  trials_next : (s : Found) (o : Out) (whole : Found) → trials u f s (drop i cs) ≡ whole → u (get_or cs i 0) f ≡ o → trials u f (seen s (get_or cs i 0) o) (drop (i + 1) cs) ≡ whole
  unfolding trials
  trials_next s o whole h e = rw (← e, add-one) (ap (trials u f s) (sym (drop-cons cs i 0 l)) ∙ h)

  total_next : (m : ℕ → ℕ) → total m (drop i cs) ≡ m (get_or cs i 0) + total m (drop (i + 1) cs)
  unfolding total
  total_next m = rw (add-one) (ap (total m) (drop-cons cs i 0 l))

-- what stands once a child has been tried behind what must stay: the answer's frame is g' if it is the first success,
-- and the kept frame is the same if there was one
stands_next : (t : Tried) (a : Answer) (s : Found) (c : ℕ) (o : Out) (n : Counts) (g g' : Frame) (errors tried part : List ℕ)
    → ((k : ℕ) → t ≡ Nothing k → g' ≡ frame_of n tried) → ((d : ℕ) (b : Bool) → t ≡ Single d b → g ≡ g') → length part ≡ length (lent_from (entries_of t * entry_cells) errors)
    → Stands t s g errors → Says a o n tried part → Stands (seen_by t c a) (seen s c o) g' (back (entries_of t * entry_cells) errors part)
unfolding seen
stands_next (Nothing k) (Ok b) s c o n g g' errors tried part new kept l st said =
    ap (λ (x : Found). seen x c o) st.found ∙ ap (seen (nothing st.entries) c) said ∙ ap (single c b) (sym (new k refl))
stands_next (Nothing k) (Err m) s c o n g g' errors tried part new kept l st said = record {
  entries = st.entries ++ (said.entry ∷ said.below);
  found = ap (λ (x : Found). seen x c o) st.found ∙ ap (seen (nothing st.entries) c) said.out;
  holds = holds_more st.entries (said.entry ∷ said.below) k m.entries errors part st.holds said.holds l;
}
stands_next (Single d b) (Ok b') s c o n g g' errors tried part new kept l st said =
    ap (λ (x : Found). seen x c o) st ∙ ap (seen (single d b g) c) said
stands_next (Single d b) (Err m) s c o n g g' errors tried part new kept l st said =
    ap (λ (x : Found). seen x c o) st ∙ ap (seen (single d b g) c) said.out ∙ ap (single d b) (kept d b refl)
stands_next Several a s c o n g g' errors tried part new kept l st said = ap (λ (x : Found). seen x c o) st

module _ {p : Problem} {d : ℕ} {cs work₀ errors₀ work errors : List ℕ} {tried : Tried} {found i : ℕ}
    (r : Ready p d cs work₀ errors₀) (space : room (frame_cells p.counts) (suc d) ≤ length work₀) (h : Trying p d cs work₀ errors₀ work errors tried found i) where
  -- a frame's cells
  abbrev cells : ℕ
  cells = p.counts.terms + p.counts.records

  pub two_in : cells + cells ≤ length work
  unfolding room
  two_in = omega (arith, space, h.works)

  pub apart_stand : Apart cells 0 cells work
  apart_stand = record { source_in = omega (arith, two_in); target_in = omega (arith, two_in); apart = inr (omega arith) }

  -- where the next child is tried, and how many entries stay
  module _ {trial entries : ℕ} (at : trial ≡ trial_frame tried cells) (es : entries ≡ entries_of tried) where
    trial_in : trial + room cells d ≤ length work
    unfolding room
    trial_in = omega (arith, space, h.works, trial_most tried cells)

    pub cells_in : trial + cells ≤ length work
    cells_in = omega (arith, trial_in, room_frame cells d)

    pub used_in : entries * entry_cells + total (size p d) (drop i cs) * entry_cells ≤ length errors
    used_in = omega (arith, h.few, r.entries, h.lists)

    behind_entry : cells ≤ trial
    behind_entry = omega (arith, trial_least tried cells)

    pub apart_trial : Apart 0 trial cells work
    apart_trial = record { source_in = omega (arith, cells_in); target_in = omega (arith, cells_in); apart = inl (omega (arith, behind_entry)) }

    module _ (l : i < length cs) (work₁ : List ℕ) (copied : work₁ ≡ paste work trial (drop 0 work) cells) where
      abbrev child : ℕ
      child = get_or cs i 0

      length_copied : length work₁ ≡ length work
      length_copied = ap length copied ∙ length-paste work trial (drop 0 work) cells (omega (arith, cells_in)) (omega (arith, cells_in))

      -- a trial begins with the frame at entry
      trial_frame_lem : frame_of p.counts (lent_from trial work₁) ≡ frame_of p.counts work₀
      trial_frame_lem =
          same_frame p.counts (lent_from trial work₁) work₀
          (ap (take cells) (mid_end trial work₁ ∙ ap (drop trial) copied) ∙ paste_there work trial (drop 0 work) cells (omega (arith, cells_in)) (omega (arith, cells_in)) ∙ h.entry)

      pub trial_ready : Ready p d (child ∷ []) (lent_from trial work₁) (lent_from (entries * entry_cells) errors)
      trial_ready =
          ready_one p d cs child work₀ errors₀ (lent_from trial work₁) (lent_from (entries * entry_cells) errors) r (member_at cs i l)
          (subst (Framed p) (sym trial_frame_lem) r.framed)
          (omega (arith, trial_in, length_copied, lent_length trial work₁))
          (omega (arith, used_in, total_next (upd p d) (frame_of p.counts work₀) cs i l (size p d), lent_length (entries * entry_cells) errors))

      -- the child has answered, leaving `left` and `part`
      module _ (a : Answer) (left part : List ℕ) (lw : length left ≡ length (lent_from trial work₁)) (le : length part ≡ length (lent_from (entries * entry_cells) errors))
          (said : Says a (upd p d child (frame_of p.counts (lent_from trial work₁))) p.counts left part) where
        abbrev now_work : List ℕ
        now_work = back trial work₁ left

        says : Says a (upd p d child (frame_of p.counts work₀)) p.counts left part
        says = subst (λ (f : Frame). Says a (upd p d child f) p.counts left part) trial_frame_lem said

        -- what stands before the trial is as it was
        frames_kept : (m : ℕ) → m ≤ trial → take m now_work ≡ take m work
        frames_kept m k =
            back_before trial m work₁ left k (omega (arith, length_copied, cells_in)) ∙ ap (take m) copied
            ∙ paste_before work trial (drop 0 work) cells m k (omega (arith, cells_in))

        few_in : (a : Answer) → Says a (upd p d child (frame_of p.counts work₀)) p.counts left part → entries_in a ≤ size p d child
        few_in (Ok b) s = omega arith
        few_in (Err k) s = omega (arith, s.holds.count, (upd_few p d child (frame_of p.counts work₀) s.entry s.below r.framed s.out).few)

        pub seen_fits : (entries_of tried + entries_in a) * entry_cells ≤ length errors
        seen_fits = omega (arith, few_in a says, h.few, total_next (upd p d) (frame_of p.counts work₀) cs i l (size p d), r.entries, h.lists)

        pub trying_next : (t : Tried) (found' : ℕ) → t ≡ seen_by tried child a → found' ≡ successes_of t → Trying p d cs work₀ errors₀ now_work (back (entries * entry_cells) errors part) t found' (i + 1)
        trying_next t found' e n = subst (λ (x : Tried). Trying p d cs work₀ errors₀ now_work (back (entries * entry_cells) errors part) x found' (i + 1)) (sym e) (record {
          within = omega arith;
          count = n ∙ ap successes_of e;
          works = back_length trial work₁ left (omega (arith, length_copied, cells_in)) lw ∙ length_copied ∙ h.works;
          lists = back_length (entries * entry_cells) errors part (omega (arith, used_in)) le ∙ h.lists;
          entry = frames_kept cells behind_entry ∙ h.entry;
          few = omega (arith, seen_few tried child a, few_in a says, h.few, total_next (upd p d) (frame_of p.counts work₀) cs i l (size p d));
          sofar = seen h.sofar child (upd p d child (frame_of p.counts work₀));
          stands = subst (λ (j : ℕ). Stands (seen_by tried child a) (seen h.sofar child (upd p d child (frame_of p.counts work₀))) (frame_of p.counts (drop cells now_work)) (back (j * entry_cells) errors part)) (sym es) (stands_next tried a h.sofar child (upd p d child (frame_of p.counts work₀)) p.counts (frame_of p.counts (drop cells work)) (frame_of p.counts (drop cells now_work)) errors left part new kept (subst (λ (j : ℕ). length part ≡ length (lent_from (j * entry_cells) errors)) es le) h.stands says);
          rest = trials_next (upd p d) (frame_of p.counts work₀) cs i l h.sofar (upd p d child (frame_of p.counts work₀)) (trials (upd p d) (frame_of p.counts work₀) (nothing []) cs) h.rest refl;
        })
          where
            new : (k : ℕ) → tried ≡ Nothing k → frame_of p.counts (drop cells now_work) ≡ frame_of p.counts left
            new k e' =
                ap (λ (j : ℕ). frame_of p.counts (drop j now_work)) (sym (at ∙ ap (λ (x : Tried). trial_frame x cells) e'))
                ∙ ap (frame_of p.counts) (back_part trial work₁ left (omega (arith, length_copied, cells_in)))

            kept : (k : ℕ) (b : Bool) → tried ≡ Single k b → frame_of p.counts (drop cells work) ≡ frame_of p.counts (drop cells now_work)
            kept k b e' = sym (kept_frame p.counts now_work work (frames_kept (cells + cells) (omega (arith, ap (λ (x : Tried). trial_frame x cells) e'))))

  abbrev all_tried : Found
  all_tried = trials (upd p d) (frame_of p.counts work₀) (nothing []) cs

  -- the trying has ended
  module _ (ends : (found ≡ 2) ⊎ (i ≡ length cs)) where
    done : (found ≡ 2 → ⊥) → all_tried ≡ h.sofar
    unfolding trials
    done n = ⊎_elim (λ z. absurd (n z)) (λ e. sym h.rest ∙ ap (trials (upd p d) (frame_of p.counts work₀) h.sofar) (drop_of_length-le cs {i = i} (omega arith))) ends

    pub tried_one : (work' : List ℕ) → found ≡ 1 → work' ≡ paste work 0 (drop cells work) cells → Shows tried all_tried (frame_of p.counts work₀) p.counts work' errors
    tried_one work' one put = go tried h.count h.stands
      where
        stood : frame_of p.counts work' ≡ frame_of p.counts (drop cells work)
        stood =
            same_frame p.counts work' (drop cells work)
            (ap (take cells) put ∙ paste_there work 0 (drop cells work) cells (omega arith) (simp length-drop (omega (arith, two_in))))

        go : (t : Tried) → found ≡ successes_of t → Stands t h.sofar (frame_of p.counts (drop cells work)) errors → Shows t all_tried (frame_of p.counts work₀) p.counts work' errors
        go (Nothing k) c st = absurd (omega (arith, c, one))
        go (Single k b) c st = done (λ z. omega (arith, one, z)) ∙ st ∙ ap (single k b) (sym stood)
        go Several c st = absurd (omega (arith, c, one))

    pub tried_rest : (found ≡ 1 → ⊥) → Shows tried all_tried (frame_of p.counts work₀) p.counts work errors
    tried_rest n = go tried h.count h.stands
      where
        go : (t : Tried) → found ≡ successes_of t → Stands t h.sofar (frame_of p.counts (drop cells work)) errors → Shows t all_tried (frame_of p.counts work₀) p.counts work errors
        go (Nothing k) c st = record { entries = st.entries; found = done (λ z. omega (arith, c, z)) ∙ st.found; holds = st.holds }
        go (Single k b) c st = absurd (n c)
        go Several c st = record {
          found = sym h.rest ∙ ap (λ (s : Found). trials (upd p d) (frame_of p.counts work₀) s (drop i cs)) st ∙ several_stays (upd p d) (frame_of p.counts work₀) (drop i cs);
          restored = same_frame p.counts work work₀ h.entry;
        }
