-- The counter's step: one further, but for the largest number, where it stays.
use Rattle.std.specs.Prelude.{ℕ, ◌+◌, ◌<◌, ◌≤◌, ◌≡◌, cond, ltb}
use Rattle.std.proofs.Common.{lt-ltb, le-ltb}

-- the largest number, which is never a fresh term
abbrev pub limit : ℕ
limit = 18446744073709551615

unfoldable pub after : ℕ → ℕ
after n = cond (ltb n limit) (n + 1) n

pub after_below : (n : ℕ) → n < limit → after n ≡ n + 1
unfolding after
after_below n h = rw (lt-ltb n limit h)

pub after_limit : (n : ℕ) → limit ≤ n → after n ≡ n
unfolding after
after_limit n h = rw (le-ltb n limit h)
