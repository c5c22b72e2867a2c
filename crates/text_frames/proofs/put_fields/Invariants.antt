-- `text_frames::put_fields` meets its contract.
use Prim.Native.Nat.{◌-◌}
use Rattle.text_frames.proofs.Fields.{Listing}
use Rattle.text_frames.proofs.put_fields.Given as goal

abbrev pub invariant-loop-i : goal.invariant-loop-i
invariant-loop-i l = Listing l.initial.out l.at l.head l.message l.table l.count l.out l.p l.i

abbrev pub decreases-loop-i : goal.decreases-loop-i
decreases-loop-i l = l.count - l.i
