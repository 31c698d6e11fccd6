-- What is put so far is followed by the runs of the cells that are left.
use Rattle.std.proofs.Common.{◌≡◌, ◌++◌, List, ℕ}
use Rattle.std.specs.Slice.Iter.{chunk_by_rest}
use Rattle.replay_io.specs.Waits.{Puts, runs}
use Rattle.replay_io.proofs.output.Output.put_runs.Given as goal

abbrev pub invariant-loop-run : goal.invariant-loop-run
invariant-loop-run l = (text : List ℕ) × Puts l.initial.self text l.self × (text ++ runs (chunk_by_rest l.run-iterator) ≡ runs l.cells)
