-- `write_message::put_short` meets its contract.
use Prim.Native.Nat.{◌+◌, ◌*◌, ◌≤◌, ◌<◌}
use native.Mathlib.Omega.{arith}
use lib.ListN.{length, length-set}
use Rattle.write_message.proofs.Parts.{over-bounds, short-length, short-put}
use Rattle.write_message.proofs.put_short.Goals as goal

pub overflow_sub-y : goal.overflow_sub-y
overflow_sub-y c =
    let a-is : (c.args.a ≤ 1) × (0x80 * c.args.a ≤ c.args.v) × (c.args.v < 0x80 + 0x20_4080 * c.args.a) =
    over-bounds c.args.v 0x80 c.args.a c.requires.0 c.requires.2.0 c.requires.2.1 in
    omega (arith, a-is.1)

pub overflow_sub-z : goal.overflow_sub-z
overflow_sub-z c =
    let a-is : (c.args.a ≤ 1) × (0x80 * c.args.a ≤ c.args.v) × (c.args.v < 0x80 + 0x20_4080 * c.args.a) =
    over-bounds c.args.v 0x80 c.args.a c.requires.0 c.requires.2.0 c.requires.2.1 in
    let b-is : (c.args.b ≤ 1) × (0x4080 * c.args.b ≤ c.args.v) × (c.args.v < 0x4080 + 0x20_4080 * c.args.b) =
    over-bounds c.args.v 0x4080 c.args.b c.requires.0 c.requires.3.0 c.requires.3.1 in
    omega (arith, a-is.0, a-is.2, b-is.0, b-is.1)

pub overflow_add-last : goal.overflow_add-last
overflow_add-last c =
    let a-is : (c.args.a ≤ 1) × (0x80 * c.args.a ≤ c.args.v) × (c.args.v < 0x80 + 0x20_4080 * c.args.a) =
    over-bounds c.args.v 0x80 c.args.a c.requires.0 c.requires.2.0 c.requires.2.1 in
    let b-is : (c.args.b ≤ 1) × (0x4080 * c.args.b ≤ c.args.v) × (c.args.v < 0x4080 + 0x20_4080 * c.args.b) =
    over-bounds c.args.v 0x4080 c.args.b c.requires.0 c.requires.3.0 c.requires.3.1 in
    omega (arith, a-is.0, b-is.0)

pub overflow_add-last-2 : goal.overflow_add-last-2
overflow_add-last-2 c =
    let a-is : (c.args.a ≤ 1) × (0x80 * c.args.a ≤ c.args.v) × (c.args.v < 0x80 + 0x20_4080 * c.args.a) =
    over-bounds c.args.v 0x80 c.args.a c.requires.0 c.requires.2.0 c.requires.2.1 in
    let b-is : (c.args.b ≤ 1) × (0x4080 * c.args.b ≤ c.args.v) × (c.args.v < 0x4080 + 0x20_4080 * c.args.b) =
    over-bounds c.args.v 0x4080 c.args.b c.requires.0 c.requires.3.0 c.requires.3.1 in
    let roomy : c.args.at + (1 + (c.args.a + c.args.b)) ≤ length c.args.buf.now =
    omega (arith, c.requires.1, short-length c.args.v c.args.a c.args.b c.requires.0 a-is b-is) in
    omega (arith, roomy)

pub overflow_add-middle : goal.overflow_add-middle
overflow_add-middle c =
    let a-is : (c.args.a ≤ 1) × (0x80 * c.args.a ≤ c.args.v) × (c.args.v < 0x80 + 0x20_4080 * c.args.a) =
    over-bounds c.args.v 0x80 c.args.a c.requires.0 c.requires.2.0 c.requires.2.1 in
    let b-is : (c.args.b ≤ 1) × (0x4080 * c.args.b ≤ c.args.v) × (c.args.v < 0x4080 + 0x20_4080 * c.args.b) =
    over-bounds c.args.v 0x4080 c.args.b c.requires.0 c.requires.3.0 c.requires.3.1 in
    let roomy : c.args.at + (1 + (c.args.a + c.args.b)) ≤ length c.args.buf.now =
    omega (arith, c.requires.1, short-length c.args.v c.args.a c.args.b c.requires.0 a-is b-is) in
    omega (arith, roomy)

pub overflow_cast-buf : goal.overflow_cast-buf
overflow_cast-buf c = omega (arith, c.requires.0)

pub bounds-buf-last : goal.bounds-buf-last
bounds-buf-last c =
    let a-is : (c.args.a ≤ 1) × (0x80 * c.args.a ≤ c.args.v) × (c.args.v < 0x80 + 0x20_4080 * c.args.a) =
    over-bounds c.args.v 0x80 c.args.a c.requires.0 c.requires.2.0 c.requires.2.1 in
    let b-is : (c.args.b ≤ 1) × (0x4080 * c.args.b ≤ c.args.v) × (c.args.v < 0x4080 + 0x20_4080 * c.args.b) =
    over-bounds c.args.v 0x4080 c.args.b c.requires.0 c.requires.3.0 c.requires.3.1 in
    let roomy : c.args.at + (1 + (c.args.a + c.args.b)) ≤ length c.args.buf.now =
    omega (arith, c.requires.1, short-length c.args.v c.args.a c.args.b c.requires.0 a-is b-is) in
    omega (arith, roomy)

pub bounds-buf-middle : goal.bounds-buf-middle
bounds-buf-middle c =
    let a-is : (c.args.a ≤ 1) × (0x80 * c.args.a ≤ c.args.v) × (c.args.v < 0x80 + 0x20_4080 * c.args.a) =
    over-bounds c.args.v 0x80 c.args.a c.requires.0 c.requires.2.0 c.requires.2.1 in
    let b-is : (c.args.b ≤ 1) × (0x4080 * c.args.b ≤ c.args.v) × (c.args.v < 0x4080 + 0x20_4080 * c.args.b) =
    over-bounds c.args.v 0x4080 c.args.b c.requires.0 c.requires.3.0 c.requires.3.1 in
    let roomy : c.args.at + (1 + (c.args.a + c.args.b)) ≤ length c.args.buf.now =
    omega (arith, c.requires.1, short-length c.args.v c.args.a c.args.b c.requires.0 a-is b-is) in
    simp length-set (omega (arith, roomy))

pub bounds-buf-at : goal.bounds-buf-at
bounds-buf-at c =
    let a-is : (c.args.a ≤ 1) × (0x80 * c.args.a ≤ c.args.v) × (c.args.v < 0x80 + 0x20_4080 * c.args.a) =
    over-bounds c.args.v 0x80 c.args.a c.requires.0 c.requires.2.0 c.requires.2.1 in
    let b-is : (c.args.b ≤ 1) × (0x4080 * c.args.b ≤ c.args.v) × (c.args.v < 0x4080 + 0x20_4080 * c.args.b) =
    over-bounds c.args.v 0x4080 c.args.b c.requires.0 c.requires.3.0 c.requires.3.1 in
    let roomy : c.args.at + (1 + (c.args.a + c.args.b)) ≤ length c.args.buf.now =
    omega (arith, c.requires.1, short-length c.args.v c.args.a c.args.b c.requires.0 a-is b-is) in
    simp length-set (omega (arith, roomy))

pub returns : goal.returns
returns c =
    let a-is : (c.args.a ≤ 1) × (0x80 * c.args.a ≤ c.args.v) × (c.args.v < 0x80 + 0x20_4080 * c.args.a) =
    over-bounds c.args.v 0x80 c.args.a c.requires.0 c.requires.2.0 c.requires.2.1 in
    let b-is : (c.args.b ≤ 1) × (0x4080 * c.args.b ≤ c.args.v) × (c.args.v < 0x4080 + 0x20_4080 * c.args.b) =
    over-bounds c.args.v 0x4080 c.args.b c.requires.0 c.requires.3.0 c.requires.3.1 in
    short-put c.args.v c.args.a c.args.b c.requires.0 a-is b-is _ _
