-- `put_fitting` meets its contract.
use Prim.Native.Nat.{◌+◌}
use native.Mathlib.Omega.{arith}
use lib.ListN.{length}
use Rattle.out_text.specs.Shows.{put_fits, put_past}
use Rattle.out_text.proofs.put_fitting.Goals as goal

pub returns-then-end-out : goal.returns-then-end-out
returns-then-end-out c = put_fits c.put.ensures

pub returns : goal.returns
returns c = let a = c.args in put_past a.out.now a.at a.bytes.now (a.at + length a.bytes.now) (omega arith) (omega arith)
