-- Each turn packs the next payload in order of place.
use Prim.Native.Nat.{◌-◌}
use lib.ListN.{length}
use Rattle.edit_pack.proofs.Turns.{Turning}
use Rattle.edit_pack.proofs.pack.Given as goal

abbrev pub invariant-loop-pick : goal.invariant-loop-pick
invariant-loop-pick l = Turning l.count l.skip l.initial.room l.initial.table l.room l.table l.from l.to l.pick.next l.pick.fence

abbrev pub decreases-loop-pick : goal.decreases-loop-pick
decreases-loop-pick l = length l.initial.room - l.from
