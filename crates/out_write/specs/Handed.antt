-- What reading and writing may come to. No contract can say which bytes are read, or what the system does with those that it takes.
use Rattle.std.specs.Prelude.{ℕ, ◌<◌, ◌≤◌, true, ◌≡◌, min, Option, None, Some, Result, Ok, Err, is_err, IsOkAnd}
use Rattle.out_write.specs.declared.system.Reading.{Reading}
use Rattle.out_write.specs.declared.system.Reading.TheVariants.{End, Full}
use Rattle.out_write.specs.declared.system.Broken.{Broken}

-- What came of a call that answered this: it failed where that is an error; else that is how many bytes came, and none are the end.
abbrev pub Came : {E E' : Type 0} → Result ℕ E → ℕ → Result (Option ℕ) E' → Type 0
Came answer room (Err e) = is_err answer ≡ true
Came answer room (Ok None) = IsOkAnd answer (λ k. min k room ≡ 0)
Came answer room (Ok (Some n)) = IsOkAnd answer (λ k. min k room ≡ n)

-- some bytes, and at most so many; or none
abbrev pub AtMost : {E : Type 0} → ℕ → Result (Option ℕ) E → Type 0
AtMost room (Err e) = Unit {0}
AtMost room (Ok None) = Unit {0}
AtMost room (Ok (Some n)) = (1 ≤ n) × (n ≤ room)

-- what was read fits; where the last read gave bytes, the room is full
abbrev pub Stopped : ℕ → Result Reading Broken → Type 0
Stopped room (Err b) = b.bytes < room
Stopped room (Ok (End n)) = n < room
Stopped room (Ok (Full n)) = n ≡ room

-- Of n bytes the system took so many, and writing failed exactly where these are not all.
abbrev pub Handed : ℕ → Result ℕ Broken → Type 0
Handed n (Ok k) = k ≡ n
Handed n (Err b) = b.bytes < n

-- how many bytes the system took
abbrev pub taken : Result ℕ Broken → ℕ
taken (Ok k) = k
taken (Err b) = b.bytes
