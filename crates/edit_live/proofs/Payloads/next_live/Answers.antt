-- The nearest of all is the next.
use native.Mathlib.Omega.{arith}
use Rattle.edit_live.specs.Payloads.{spans}
use Rattle.edit_live.proofs.Walks.{seek-done}
use Rattle.edit_live.proofs.Payloads.next_live.Goals as goal

pub returns : goal.returns
returns c = let p = c.args.self.now in seek-done p.size p.count (spans p) c.args.from c.loop-i.invariant (omega arith)
