-- Each turn sees a payload that follows, or lowers the fence to one that does not.
use Rattle.edit_live.specs.Payloads.{spans}
use Rattle.edit_pack.specs.Fence.{Fencing}
use Rattle.edit_pack.proofs.fence_at.Given as goal

abbrev pub invariant-loop-i : goal.invariant-loop-i
invariant-loop-i l = Fencing l.payloads.count (spans l.payloads) l.from l.at l.fence l.last l.i
