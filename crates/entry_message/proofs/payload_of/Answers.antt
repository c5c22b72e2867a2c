-- The part lies inside the message.
use mathlib.Core.Path.{◌≡◌, ap}
use native.Mathlib.Omega.{arith}
use Prim.Native.Nat.{◌+◌, ◌-◌, ◌≤◌}
use lib.ListN.{length}
use Rattle.message_payload.specs.Payload.{span-within}
use Rattle.entry_message.specs.Messages.{part_at, payload_part}
use Rattle.entry_message.proofs.payload_of.Goals as goal

pub overflow_add-end : goal.overflow_add-end
overflow_add-end c =
    let within : c.payload_span-p.result.start + c.payload_span-p.result.length ≤ length c.args.message.now =
    let a = c.args in rw c.payload_span-p.ensures (span-within (length a.message.now) a.r) in
    omega (arith, within, c.well_formed.0.0)

pub slice_bounds-result-end : goal.slice_bounds-result-end
slice_bounds-result-end c =
    let within : c.payload_span-p.result.start + c.payload_span-p.result.length ≤ length c.args.message.now =
    let a = c.args in rw c.payload_span-p.ensures (span-within (length a.message.now) a.r) in
    omega (arith, within)

pub returns : goal.returns
unfolding payload_part
returns c =
    let p = c.payload_span-p.result in
    let m = c.args.message in
    let e : (p.start + p.length) - p.start ≡ p.length = omega arith in
    let f : p.start + m.ref_ptr.1 ≡ m.ref_ptr.1 + p.start = omega arith in
    rw (e, f) (ap (part_at m) c.payload_span-p.ensures)
