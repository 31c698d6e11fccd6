-- Laws that the code's older form cited, over today's words; they still hold.
use Rattle.std.specs.Prelude.{ℕ, ◌≤◌, ◌<◌, ◌≡◌, Bool, true, false, Option, None, Some, Result, Ok, Err}
use Rattle.std.proofs.Common.{arith, subst, sym}
use Rattle.out_write.specs.declared.system.Reading.{Reading}
use Rattle.out_write.specs.declared.system.Reading.TheVariants.{End, Full}
use Rattle.out_write.specs.declared.system.Broken.{Broken}
use Rattle.out_write.specs.Handed.{AtMost, Stopped, Handed}

abbrev pub is_failed : {E : Type 0} → Result (Option ℕ) E → Bool
is_failed (Err e) = true
is_failed (Ok None) = false
is_failed (Ok (Some n)) = false

-- what was read fits; where the last read gave bytes, the room is full
abbrev pub StoppedAt : {E : Type 0} → ℕ → ℕ → Result (Option ℕ) E → Type 0
StoppedAt room n (Err e) = n ≤ room
StoppedAt room n (Ok None) = n ≤ room
StoppedAt room n (Ok (Some k)) = n ≡ room

-- how many bytes were read, and what the last read gave
abbrev pub read : Result Reading Broken → ℕ
read (Err b) = b.bytes
read (Ok (End n)) = n
read (Ok (Full n)) = n

abbrev pub last_read : Result Reading Broken → Result (Option ℕ) Broken
last_read (Err b) = Err b
last_read (Ok (End n)) = Ok None
last_read (Ok (Full n)) = Ok (Some n)

pub stopped_at : (room : ℕ) (r : Result Reading Broken) → Stopped room r → StoppedAt room (read r) (last_read r)
stopped_at room (Err b) h = omega arith
stopped_at room (Ok (End n)) h = omega arith
stopped_at room (Ok (Full n)) h = h

pub at_most_within : {E : Type 0} (room room' : ℕ) (last : Result (Option ℕ) E) → room ≤ room' → AtMost room last → AtMost room' last
at_most_within room room' (Err e) h p = tt
at_most_within room room' (Ok None) h p = tt
at_most_within room room' (Ok (Some n)) h p = (p.0, omega arith)

pub at_most_bytes : {E : Type 0} (room n : ℕ) (last : Result (Option ℕ) E) → last ≡ Ok (Some n) → AtMost room last → (1 ≤ n) × (n ≤ room)
at_most_bytes {E} room n last e h = subst (λ (g : Result (Option ℕ) E). AtMost room g) e h

pub stopped_failed : {E : Type 0} (room n : ℕ) (last : Result (Option ℕ) E) (why : E) → last ≡ Err why → n ≤ room → StoppedAt room n last
stopped_failed {E} room n last why e h = subst (λ (g : Result (Option ℕ) E). StoppedAt room n g) (sym e) h

pub stopped_end : {E : Type 0} (room n : ℕ) (last : Result (Option ℕ) E) → last ≡ Ok None → n ≤ room → StoppedAt room n last
stopped_end {E} room n last e h = subst (λ (g : Result (Option ℕ) E). StoppedAt room n g) (sym e) h

-- what was read fits, whatever the last read gave
pub stopped_fits : {E : Type 0} (room n : ℕ) (last : Result (Option ℕ) E) → StoppedAt room n last → n ≤ room
stopped_fits room n (Err e) h = h
stopped_fits room n (Ok None) h = h
stopped_fits room n (Ok (Some k)) h = omega arith

pub handed_part : (n : ℕ) (b : Broken) → b.bytes < n → Handed n (Err b)
handed_part n b h = h

pub handed_all : (k n : ℕ) → k ≡ n → Handed n (Ok k)
handed_all k n h = h
