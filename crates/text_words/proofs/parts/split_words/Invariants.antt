-- `split_words` meets its contract: what is left from byte i on, cut and written behind the n parts that are there, gives what
-- all gives from the start.
use Rattle.std.proofs.Common.{◌≡◌, ◌+◌, ◌*◌, ◌≤◌, length, drop}
use Rattle.std.proofs.lemmas.List.Edits.{sets}
use Rattle.text_words.specs.Parts.{split, cuts_from, cuts}
use Rattle.text_words.proofs.parts.split_words.Given as goal

abbrev pub invariant-loop-i : goal.invariant-loop-i
invariant-loop-i l = record {
  few : l.n ≤ l.i;
  cut : sets l.table (l.n * 2) (cuts_from 32 l.start (l.base + l.i) (drop l.i l.line)) ≡ sets l.initial.table 0 (cuts 32 l.base l.line);
  counted : l.n + length (split 32 (drop l.i l.line)) ≡ length (split 32 l.line);
}
