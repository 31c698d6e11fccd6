-- All lines, as they are read: where the next begins, and what the lines so far have left.
use Rattle.std.specs.Prelude.{ℕ, suc, ◌+◌, ◌≤◌, ◌<◌, ◌≡◌, cond, List, [], eqb, leb, length, drop, Result, Ok, Err}
use Rattle.text_words.specs.Bytes.{line_feed}
use Rattle.text_words.specs.Parts.{split}
use Rattle.text_definition.specs.declared.Numbers.{Numbers}
use Rattle.text_definition.specs.Declare.{Next}
use Rattle.text_definition.specs.Run.{Run, going, stopped, on_lines}
use Rattle.text_definition.specs.Store.{Store, Within, decls_of}
use Rattle.text_lines.specs.Line.{Taken}
use Rattle.text_lines.specs.declared.run.Refused.{Refused}

-- nothing is declared
abbrev pub none : Numbers
none = record {
  sorts = 0;
  globals = 0;
  heads = 0;
  terms = 0;
  used = 0;
  context = 0;
  problem = record { records = 0; side = 0; tops = 0; range = 0; terms = 0; sorts = 0 };
}

-- the lines from a place on; behind the text's end there is none
abbrev pub rest : List ℕ → ℕ → List (List ℕ)
rest s at = cond (leb at (length s)) (split line_feed (drop at s)) []

-- what is left of a line, and of a refusal its line
abbrev pub Told : List ℕ → Next → ℕ → Result Numbers Refused → Store → Type 0
Told s x place (Ok n) t = Taken s x (Ok n) t
Told s x place (Err e) t = Taken s x (Err e.number) t × (e.place ≡ place)

-- where the next line begins: behind the line feed, and behind all where the line was refused
abbrev pub behind : ℕ → ℕ → ℕ → ℕ
behind length end refused = cond (eqb refused 0) (end + 1) (length + 1)

-- `place` lines are read, the next begins at `at`
pub record Reading (s : List ℕ) (t₀ : Store) (at place : ℕ) (n : Numbers) (t : Store) : Type 0 where
  pub run : on_lines (going (decls_of s n t)) (suc place) (rest s at) ≡ on_lines (going (decls_of s none t₀)) 1 (split line_feed s)
  pub place≤ : place ≤ at
  pub at≤ : at ≤ length s + 1
  pub within : Within n
  pub context< : n.context < 8

-- how the lines end
abbrev pub run_of : List ℕ → Result Numbers Refused → Store → Run
run_of s (Ok n) t = going (decls_of s n t)
run_of s (Err e) t = stopped e.number e.place

-- numbers within their sizes; no refusal is 0
abbrev pub Ends : Result Numbers Refused → Type 0
Ends (Ok n) = Within n
Ends (Err e) = e.number ≡ 0 → ⊥

pub record LinesRead (s : List ℕ) (t₀ : Store) (r : Result Numbers Refused) (t : Store) : Type 0 where
  pub run : run_of s r t ≡ on_lines (going (decls_of s none t₀)) 1 (split line_feed s)
  pub ends : Ends r
