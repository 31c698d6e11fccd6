-- Which refusals a text can show, for every text. The arguments stand in Laws.
use Rattle.std.specs.Prelude.{ℕ, ◌≡◌, ◌⊎◌, List}
use Rattle.std.proofs.Common.{subst}
use Rattle.definition.specs.Buffers.{Exit}
use Rattle.text_definition.specs.Decls.{Decls}
use Rattle.text_definition.specs.Run.{refused_at, solved, text_end}
use Rattle.text_definition.specs.Rows.{ending_of, refusing}
use Rattle.text_safety.specs.Told.{Told, refusal_of}
use Rattle.text_safety.proofs.Laws.Texts.{Ends, text_ends, all_taken, not_refusing}

-- a text that is refused is too long, or a line is refused with one of its numbers. So no call that a line makes is refused
-- with 1 or 2, and no global is unbound, 9
pub refused_told : (s : List ℕ) (n place : ℕ) → text_end s ≡ refused_at n place → (n ≡ 52) ⊎ Told n
refused_told s n place e = subst Ends e (text_ends s)

-- solve never refuses what a text has said, with any of 1 to 6
pub solved_taken : (s : List ℕ) (d : Decls) (x : Exit) → text_end s ≡ solved d x → refusal_of d ≡ 0
solved_taken s d x e = let (o, same) = subst Ends e (text_ends s) in all_taken d o

-- so that the last case of the output never shows
pub never_refusing : (s : List ℕ) (d : Decls) (x : Exit) → text_end s ≡ solved d x → ending_of x.outcome.number ≡ refusing → ⊥
never_refusing s d x e r = let (o, same) = subst Ends e (text_ends s) in not_refusing d o (rw same at r)
