-- A varint that is known to be good is read without a test.
use mathlib.Core.Path.{◌≡◌}
use Rattle.wire.specs.Reading.{varint_at}
use Rattle.varint_read.proofs.Reading.{Passed, stands}
use Rattle.message_table.proofs.known_long.Given as goal

abbrev pub invariant-loop-left : goal.invariant-loop-left
invariant-loop-left l = Passed l.value l.scale l.left × (varint_at l.s l.at ≡ stands l.s l.p l.value l.scale l.left)

abbrev pub decreases-loop-left : goal.decreases-loop-left
decreases-loop-left l = l.left
