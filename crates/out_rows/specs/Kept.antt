-- Laws that the code's older form cited; they still hold.
use Prim.Native.Nat.{ℕ, zero, suc, ◌+◌, ◌<◌, ◌≤◌}
use Rattle.std.proofs.Common.{arith, subst, ◌∙◌, drop_of_length-le}
use Rattle.std.specs.Prelude.{◌≡◌, eqb, get_or}
use Rattle.std.proofs.Math.Path.{refl, ap, sym}
use mathlib.Core.List.{List, [], ◌∷◌, ◌++◌, append_assoc}
use borrow.Author.Tests.{ne_eqb}
use Rattle.std.proofs.Math.ListN.{length, drop}
use Rattle.text_words.specs.Bytes.{hash}
use Rattle.text_words.specs.Put.{decimal, Put}
use Rattle.text_words.specs.Laws.Put.{put_both}
use Rattle.definition.proofs.Laws.Left.{drop_step}
use Rattle.text_grammar.specs.Bytes.{bytes}
use Rattle.text_definition.specs.Rows.{term_text, sorted}
use Rattle.out_rows.specs.Pieces.{term_room}
use Rattle.out_rows.specs.Laws.{is_conflict, fresh_term}

-- so many bytes were put at most
pub record PutAtMost (room : ℕ) (out : List ℕ) (at : ℕ) (bytes : List ℕ) (end : ℕ) (out' : List ℕ) : Type 0 where
  pub put : Put out at bytes end out'
  pub most : end ≤ at + room

-- what was put takes so many bytes at most
pub put_most : {room : ℕ} {out : List ℕ} {at : ℕ} {bytes : List ℕ} {end : ℕ} {out' : List ℕ} → Put out at bytes end out' → length bytes ≤ room → PutAtMost room out at bytes end out'
put_most p h = record { put = p; most = omega (arith, p.ends) }

-- two pieces, each of so many bytes at most
pub most_both : {p q : ℕ} {out : List ℕ} {at : ℕ} {a b : List ℕ} {m end : ℕ} {mid out' : List ℕ}
    → PutAtMost p out at a m mid → PutAtMost q mid m b end out' → PutAtMost (p + q) out at (a ++ b) end out'
most_both x y = record { put = put_both x.put y.put; most = omega (arith, x.most, y.most) }

pub put_fresh : (s : List ℕ) (t : ℕ) (w : List ℕ) {out : List ℕ} {at m : ℕ} {mid : List ℕ} {end : ℕ} {out' : List ℕ}
    → length w ≡ 0 → Put out at (hash ∷ []) m mid → PutAtMost 20 mid m (decimal t) end out' → PutAtMost (term_room s) out at (term_text t w) end out'
put_fresh s t w {out} {at} {end = end} {out' = out'} e p q =
    rw (← (fresh_term t w e)) (record { put = put_both p q.put; most = omega (arith, p.ends, q.most) })

-- one piece behind another, as many bytes as both take at most
pub put_then : {room : ℕ} {out : List ℕ} {at : ℕ} {a b : List ℕ} {m end : ℕ} {mid out' : List ℕ} → Put out at a m mid → PutAtMost room mid m b end out' → PutAtMost (length a + room) out at (a ++ b) end out'
put_then p q = record { put = put_both p q.put; most = omega (arith, p.ends, q.most) }

pub put_as : {out : List ℕ} {at : ℕ} {a b : List ℕ} {end : ℕ} {out' : List ℕ} → a ≡ b → Put out at a end out' → Put out at b end out'
put_as {out} {at} {end = end} {out'} h p = subst (λ (l : List ℕ). Put out at l end out') h p

-- a space and a name behind what was put
pub put_next : {out : List ℕ} {at : ℕ} {a b : List ℕ} {m end : ℕ} {mid out' : List ℕ} → Put out at a m mid → Put mid m (bytes " " ++ b) end out' → Put out at (a ++ bytes " " ++ b) end out'
put_next {a = a} {b = b} p q = put_as (sym (append_assoc a (bytes " ") b)) (put_both p q)

-- counting cells that hold a sort, a turn at a time
module _ (sort_list : List ℕ) (i : ℕ) where
  pub sorted_more : i < length sort_list → 0 < get_or sort_list i 0 → sorted (drop i sort_list) ≡ suc (sorted (drop (i + 1) sort_list))
  unfolding sorted
  sorted_more h k = ap sorted (drop_step sort_list i h) ∙ by (get_or sort_list i 0) k
    where
      by : (x : ℕ) → 0 < x → sorted (x ∷ drop (i + 1) sort_list) ≡ suc (sorted (drop (i + 1) sort_list))
      by zero k = absurd (omega arith)
      by (suc x) k = refl

  pub sorted_same : i < length sort_list → get_or sort_list i 0 ≤ 0 → sorted (drop i sort_list) ≡ sorted (drop (i + 1) sort_list)
  unfolding sorted
  sorted_same h k = ap sorted (drop_step sort_list i h) ∙ by (get_or sort_list i 0) k
    where
      by : (x : ℕ) → x ≤ 0 → sorted (x ∷ drop (i + 1) sort_list) ≡ sorted (drop (i + 1) sort_list)
      by zero k = refl
      by (suc x) k = absurd (omega arith)

  pub sorted_end : length sort_list ≤ i → sorted (drop i sort_list) ≡ 0
  unfolding sorted
  sorted_end h = ap sorted (drop_of_length-le sort_list h)

pub last_conflict : (n : ℕ) → (n ≡ 30 → ⊥) → (n ≡ 32 → ⊥) → eqb n 33 ≡ is_conflict n
last_conflict n x y = rw (ne_eqb n 30 x, ne_eqb n 32 y) refl
