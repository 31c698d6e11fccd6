-- Laws that the code's older form cited; they still hold.
use Rattle.std.specs.Prelude.{ℕ, ◌-◌, ◌≤◌, ◌≡◌, List, [], ◌++◌, length, take, drop, replicate}
use Rattle.std.proofs.Common.{arith, append-nil, length-drop, drop_of_length-le, take_all}
use Rattle.std.proofs.Math.Seq.{take-nil}

-- a loop that clears has ended
pub cleared : (i : ℕ) (l xs : List ℕ) → xs ≡ replicate i 0 ++ drop i l → i ≡ length l → xs ≡ replicate (length l) 0
cleared i l xs e q = rw (e, q, drop_of_length-le l {i = length l} (omega arith)) (append-nil (replicate (length l) 0))

-- a part that starts past the end, and one that reaches the end
pub part_past : (l : List ℕ) (start n : ℕ) → length l ≤ start → take n (drop start l) ≡ []
part_past l start n h = rw (drop_of_length-le l h, take-nil n)

pub part_rest : (l : List ℕ) (start n : ℕ) → length l - start ≤ n → take n (drop start l) ≡ drop start l
part_rest l start n h = take_all n (drop start l) (rw length-drop h)
