-- How a text ends, once its lines are read.
use Rattle.std.specs.Prelude.{ℕ, ◌+◌, ◌*◌, ◌≡◌, cond, List, eqb, length, replicate, Result, Ok, Err}
use Rattle.definition.specs.declared.Counts.{Counts}
use Rattle.definition.specs.Sizes.{max_records, max_terms, entry_cells, room_frames}
use Rattle.definition.specs.Problem.{Problem}
use Rattle.definition.specs.Buffers.{Exit, exit}
use Rattle.text_definition.specs.declared.Numbers.{Numbers}
use Rattle.text_definition.specs.declared.Ended.{Ended}
use Rattle.text_lines.specs.declared.Printed.{Printed}
use Rattle.text_lines.specs.declared.Lists.{Lists}
use Rattle.text_lines.specs.declared.run.Refused.{Refused}
use Rattle.text_lines.specs.Lists.{store_in}
use Rattle.text_lines.specs.Run.{none}

abbrev pub counts_of : Numbers → Counts
counts_of n = record {
  records = n.problem.records;
  side = n.problem.side;
  tops = n.problem.tops;
  range = n.problem.range;
  terms = n.terms;
  sorts = n.sorts;
}

-- what has no meaning is 0
abbrev pub refused_at : ℕ → ℕ → Ended
refused_at n place = record { refused = n; place = place; outcome = record { number = 0; passes = 0; term = 0; place = 0 }; numbers = none }

abbrev pub refused_by : Refused → Ended
refused_by e = refused_at e.number e.place

abbrev pub problem_of : Numbers → List ℕ → List ℕ → List ℕ → List ℕ → Problem
problem_of n records side tops range = record { counts = counts_of n; records = records; side = side; tops = tops; range = range }

-- what solve leaves, of lists of zeroes of these lengths
abbrev pub exit_from : Numbers → Printed → Lists → Exit
exit_from n p l =
    exit (problem_of n l.records l.side l.tops l.range) (replicate (length l.work) 0) (replicate (length p.sort_list) 0) (replicate (length p.errors) 0)

-- what solve leaves, if no line was refused; zeroes where one was, since nothing is solved then
abbrev pub exit_after : Result Numbers Refused → Printed → Lists → Exit
exit_after (Ok n) p l = exit_from n p l
exit_after (Err e) p l = record {
  outcome = record { number = 0; passes = 0; term = 0; place = 0 };
  work = replicate (length l.work) 0;
  sort_list = replicate (length p.sort_list) 0;
  errors = replicate (length p.errors) 0;
}

-- the lists of all that solve is lent besides have their lengths
pub record Long (p : Printed) (l : Lists) : Type 0 where
  pub work' : length l.work ≡ room_frames * (max_terms + max_records)
  pub sort_list' : length p.sort_list ≡ max_terms
  pub errors' : length p.errors ≡ max_records * entry_cells

-- What solving leaves: the lists that the lines have left are as they were.
pub record Solving (n : Numbers) (p : Printed) (l : Lists) (r : Ended) (p' : Printed) (l' : Lists) : Type 0 where
  pub ended : r ≡ record { refused = 0; place = 0; outcome = (exit_from n p l).outcome; numbers = n }
  pub left : record { outcome = r.outcome; work = l'.work; sort_list = p'.sort_list; errors = p'.errors } ≡ exit_from n p l
  pub kept : store_in p' l' ≡ store_in p l
  pub scratch : (l'.words ≡ l.words) × (l'.numbers ≡ l.numbers)
  pub long : Long p l

-- What a refusal leaves: the lists that the lines have left are as they were, those that solve would be lent are zeroes.
pub record Refusing (e : Refused) (p : Printed) (l : Lists) (r : Ended) (p' : Printed) (l' : Lists) : Type 0 where
  pub ended : r ≡ refused_by e
  pub left : record { outcome = r.outcome; work = l'.work; sort_list = p'.sort_list; errors = p'.errors } ≡ exit_after (Err e) p l
  pub kept : store_in p' l' ≡ store_in p l
  pub scratch : (l'.words ≡ l.words) × (l'.numbers ≡ l.numbers)

-- by whether a line was refused
abbrev pub Finished : Result Numbers Refused → Printed → Lists → Ended → Printed → Lists → Type 0
Finished (Ok n) p l r p' l' = Solving n p l r p' l'
Finished (Err e) p l r p' l' = Refusing e p l r p' l'

-- the answer says how the text ended and nothing else: what has no meaning is 0
abbrev pub whole : Ended → Ended
whole r =
    cond (eqb r.refused 0) (record { refused = 0; place = 0; outcome = r.outcome; numbers = r.numbers }) (refused_at r.refused r.place)
