-- `varint_write::decode_long` meets its contract.
use Prim.Native.Nat.{◌<◌}
use mathlib.Core.Path.{◌≡◌, ◌∙◌, refl, sym}
use mathlib.Core.Logic.{inl}
use native.Mathlib.Omega.{arith}
use lib.ListN.{get_or}
use Rattle.wire.specs.Reading.{varint_at}
use Rattle.varint_read.proofs.Reading.{Passed, stands, two_bytes, stop, step, last, ninth, ninth-over, sum-small, scale_small, scale-last, passed-more}
use Rattle.varint_read.proofs.decode_long.Given as goal

abbrev pub invariant-loop-left : goal.invariant-loop-left
invariant-loop-left l = Passed l.value l.scale l.left × (varint_at l.s l.at ≡ stands l.s l.p l.value l.scale l.left)

abbrev pub decreases-loop-left : goal.decreases-loop-left
decreases-loop-left l = l.left
