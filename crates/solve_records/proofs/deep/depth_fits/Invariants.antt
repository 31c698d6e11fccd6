-- What is left of the top-level entries has the same test as all of them.
use Rattle.std.specs.Prelude.{ℕ, ◌≡◌, Bool, List, leb, drop}
use Rattle.definition.specs.Sizes.{max_depth}
use Rattle.definition.specs.Lists.{all}
use Rattle.definition.specs.Refusal.{depth, depth_fits}
use Rattle.solve_records.specs.Lent.{seen, lists}
use Rattle.solve_records.proofs.deep.depth_fits.Given as goal

-- the test of one entry
abbrev pub test : List ℕ → List ℕ → ℕ → Bool
test records side r = leb (depth (lists records side) r) max_depth

abbrev pub invariant-loop-top : goal.invariant-loop-top
invariant-loop-top l = all (test l.problem.records.now l.problem.side.now) (drop l.top-index l.top-items) ≡ depth_fits (seen l.problem)
