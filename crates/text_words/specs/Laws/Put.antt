-- Laws about putting bytes and numbers.
use Prim.Native.Nat.{ℕ, zero, suc, ◌+◌, ◌-◌, ◌/◌, ◌%◌, ◌<◌, ◌≤◌}
use borrow.Rule.Slice.PartMut.{put_mid}
use Rattle.std.proofs.Common.{add-zero, drop-drop, ap, sym, ◌∙◌, append_assoc, lt-ltb, le-ltb, length-append, length-drop, drop_of_length-le, take_all}
use Rattle.std.specs.Prelude.{◌≡◌, Bool, true, false, cond, List, [], ◌∷◌, ◌++◌, length, take, get_or, set, ltb}
use Rattle.std.proofs.Math.Path.{refl}
use native.Mathlib.Omega.{arith}
use Rattle.std.proofs.Math.ListN.{drop}
use Rattle.std.proofs.lemmas.List.Edits.{sets, sets-eq}
use Rattle.text_words.specs.Put.{decimal_within, Put}
use Rattle.definition.proofs.Laws.Left.{drop_step}

-- a copy, a turn at a time
module _ (out : List ℕ) (at : ℕ) (bytes : List ℕ) (i : ℕ) where
  pub put_next : i < length bytes → sets out (at + i) (drop i bytes) ≡ sets (set out (at + i) (get_or bytes i 0)) (at + (i + 1)) (drop (i + 1) bytes)
  put_next h =
      rw (drop_step bytes i h)
      (ap (λ (k : ℕ). sets (set out (at + i) (get_or bytes i 0)) k (drop (i + 1) bytes)) (let e : suc (at + i) ≡ at + (i + 1) = omega arith in e))

  pub put_end : length bytes ≤ i → sets out (at + i) (drop i bytes) ≡ out
  put_end h = rw (drop_of_length-le bytes h)

-- a part of the buffer that becomes the bytes
pub put_whole : (out bytes : List ℕ) (at k : ℕ) → k ≡ length bytes → at + length bytes ≤ length out → put_mid at k out bytes ≡ sets out at bytes
put_whole out bytes at k e h =
    ap (λ (l : List ℕ). take at out ++ (bytes ++ l)) (drop-drop k at out ∙ ap (λ (n : ℕ). drop (at + n) out) e)
    ∙ sym (append_assoc (take at out) bytes (drop (at + length bytes) out)) ∙ sym (sets-eq bytes out at h)

-- what a store leaves from its place on
drop_stored : (l : List ℕ) (j d : ℕ) → j < length l → drop j (set l j d) ≡ d ∷ drop (suc j) l
drop_stored [] j d h = absurd (omega arith)
drop_stored (x ∷ xs) zero d h = refl
drop_stored (x ∷ xs) (suc j) d h = drop_stored xs j d (omega arith)

-- the digits, the last one first
module _ (digits : List ℕ) (j left : ℕ) (h : j < length digits) where
  last_digit : left / 10 ≡ 0 → drop j (set digits j (48 + left % 10)) ≡ decimal_within (suc j) left ++ drop (suc j) digits
  unfolding decimal_within
  last_digit e =
      drop_stored digits j (48 + left % 10) h
      ∙ rw (lt-ltb left 10 (omega arith)) (ap (λ (d : ℕ). d ∷ drop (suc j) digits) (let q : 48 + left % 10 ≡ 48 + left = omega arith in q))

  next_digit : (left / 10 ≡ 0 → ⊥) → decimal_within j (left / 10) ++ drop j (set digits j (48 + left % 10)) ≡ decimal_within (suc j) left ++ drop (suc j) digits
  unfolding decimal_within
  next_digit ne =
      rw (le-ltb left 10 (omega arith), drop_stored digits j (48 + left % 10) h)
      (sym (append_assoc (decimal_within j (left / 10)) ((48 + left % 10) ∷ []) (drop (suc j) digits)))

-- the same where i digits are still to be written, and the place before it takes the next
module _ (digits : List ℕ) (left : ℕ) where
  pub digit_last : (i : ℕ) → 0 < i → i ≤ length digits → left / 10 ≡ 0
      → drop (i - 1) (set digits (i - 1) (48 + left % 10)) ≡ decimal_within i left ++ drop i digits
  digit_last zero p h e = absurd (omega arith)
  digit_last (suc j) p h e =
      ap (λ (k : ℕ). drop k (set digits k (48 + left % 10))) (let q : suc j - 1 ≡ j = omega arith in q) ∙ last_digit digits j left h e

  pub digit_next : (i : ℕ) → 0 < i → i ≤ length digits → (left / 10 ≡ 0 → ⊥)
      → decimal_within (i - 1) (left / 10) ++ drop (i - 1) (set digits (i - 1) (48 + left % 10)) ≡ decimal_within i left ++ drop i digits
  digit_next zero p h ne = absurd (omega arith)
  digit_next (suc j) p h ne =
      ap (λ (k : ℕ). decimal_within k (left / 10) ++ drop k (set digits k (48 + left % 10))) (let q : suc j - 1 ≡ j = omega arith in q)
      ∙ next_digit digits j left h ne

  pub digits_done : (i : ℕ) → i ≤ 0 → drop i digits ≡ decimal_within i left ++ drop i digits
  unfolding decimal_within
  digits_done zero h = refl
  digits_done (suc j) h = absurd (omega arith)

-- a number has at most k digits
pub decimal_most : (k n : ℕ) → length (decimal_within k n) ≤ k
unfolding decimal_within
decimal_most zero n = omega arith
decimal_most (suc k) n = by (ltb n 10) (decimal_most k (n / 10))
  where
    by : (t : Bool) → length (decimal_within k (n / 10)) ≤ k → length (cond t ((48 + n) ∷ []) (decimal_within k (n / 10) ++ (48 + n % 10) ∷ [])) ≤ suc k
    by true h = omega arith
    by false h = omega (arith, length-append (decimal_within k (n / 10)) ((48 + n % 10) ∷ []))

-- a part that goes on to the end of a list of k
pub rest_is : (k r : ℕ) (l x : List ℕ) → length l ≡ k → drop r l ≡ x → take (k - r) (drop r l) ≡ x
rest_is k r l x h e = take_all (k - r) (drop r l) (omega (arith, length-drop r l)) ∙ e

-- what is put one behind the other is put at once
pub sets_append : (out : List ℕ) (at : ℕ) (a b : List ℕ) → sets out at (a ++ b) ≡ sets (sets out at a) (at + length a) b
sets_append out at [] b = rw (add-zero)
sets_append out at (x ∷ a) b =
    sets_append (set out at x) (suc at) a b
    ∙ ap (λ (k : ℕ). sets (sets (set out at x) (suc at) a) k b) (let e : suc at + length a ≡ at + suc (length a) = omega arith in e)

pub put_both : {out : List ℕ} {at : ℕ} {a b : List ℕ} {m e : ℕ} {mid out' : List ℕ} → Put out at a m mid → Put mid m b e out' → Put out at (a ++ b) e out'
put_both {out} {at} {a} {b} {m} {e} {mid} {out'} p q = record {
  ends = omega (arith, p.ends, q.ends, length-append a b);
  holds = q.holds ∙ ap (λ (l : List ℕ). sets l m b) p.holds ∙ ap (λ (k : ℕ). sets (sets out at a) k b) p.ends ∙ sym (sets_append out at a b);
}

pub put_nothing : (out : List ℕ) (at : ℕ) → Put out at [] at out
put_nothing out at = record { ends = omega arith; holds = refl }

-- where there is room: the text before, what was put, the rest
pub put_reads : {out : List ℕ} {at : ℕ} {bytes : List ℕ} {end : ℕ} {out' : List ℕ} → Put out at bytes end out' → end ≤ length out → out' ≡ take at out ++ bytes ++ drop end out
put_reads {out} {at} {bytes} {end} p h =
    p.holds ∙ sets-eq bytes out at (omega (arith, p.ends)) ∙ ap (λ (k : ℕ). take at out ++ bytes ++ drop k out) (sym p.ends)
