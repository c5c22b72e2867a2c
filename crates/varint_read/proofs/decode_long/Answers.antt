-- `varint_write::decode_long` meets its contract.
use Prim.Native.Nat.{◌<◌}
use mathlib.Core.Path.{◌≡◌, ◌∙◌, refl, sym}
use mathlib.Core.Logic.{inl}
use native.Mathlib.Omega.{arith}
use lib.ListN.{get_or}
use Rattle.wire.specs.Reading.{varint_at}
use Rattle.varint_read.proofs.Reading.{Passed, stands, two_bytes, stop, step, last, ninth, ninth-over, sum-small, scale_small, scale-last, passed-more}
use Rattle.varint_read.proofs.decode_long.Goals as goal

pub bounds-s-at : goal.bounds-s-at
bounds-s-at c = omega arith

pub overflow_cast-value : goal.overflow_cast-value
overflow_cast-value c = omega (arith, c.shared_slice_known-1.given c.args.at)

pub overflow_add-p : goal.overflow_add-p
overflow_add-p c = omega arith

pub loop-left-init : goal.loop-left-init
loop-left-init c = (
  record { small = omega (arith, c.shared_slice_known-1.given c.args.at); weight = refl },
  two_bytes c.args.s.now c.args.at c.requires.0 c.requires.1,
)

pub returns-then-s-p : goal.returns-then-s-p
returns-then-s-p c =
    let l = c.loop-left in
    sym (l.invariant.1 ∙ stop _ l.p l.value l.scale l.left c.if-s-p.true)

pub bounds-s-p : goal.bounds-s-p
bounds-s-p c = omega arith

pub overflow_cast-b : goal.overflow_cast-b
overflow_cast-b c = omega (arith, c.shared_slice_known-in-loop-left-1.given c.loop-left.p)

pub overflow_mul-value : goal.overflow_mul-value
overflow_mul-value c =
    let l = c.loop-left in
    let b = get_or c.args.s.now l.p 0 in
    let h : b < 256 = omega (arith, c.shared_slice_known-in-loop-left-1.given l.p) in
    omega (arith, sum-small _ _ _ b l.invariant.0 h c.loop-left-test.true)

pub overflow_add-value : goal.overflow_add-value
overflow_add-value c =
    let l = c.loop-left in
    let b = get_or c.args.s.now l.p 0 in
    let h : b < 256 = omega (arith, c.shared_slice_known-in-loop-left-1.given l.p) in
    omega (arith, sum-small _ _ _ b l.invariant.0 h c.loop-left-test.true)

pub overflow_add-p-in-loop-left : goal.overflow_add-p-in-loop-left
overflow_add-p-in-loop-left c = omega arith

pub returns-then-b-lt128 : goal.returns-then-b-lt128
returns-then-b-lt128 c =
    let l = c.loop-left in
    let s = c.args.s.now in
    let h : get_or s l.p 0 < 256 = omega (arith, c.shared_slice_known-in-loop-left-1.given l.p) in
    sym
    (l.invariant.1
    ∙ last s l.p l.value l.scale l.left c.if-s-p.false (inl c.if-b-lt128.true)
    (sum-small _ _ _ _ l.invariant.0 h c.loop-left-test.true))

pub overflow_mul-scale : goal.overflow_mul-scale
overflow_mul-scale c = omega (arith, scale_small _ _ _ c.loop-left.invariant.0 c.loop-left-test.true)

pub overflow_sub-left : goal.overflow_sub-left
overflow_sub-left c = omega arith

pub loop-left-smaller : goal.loop-left-smaller
loop-left-smaller c = omega arith

pub loop-left-preserved : goal.loop-left-preserved
loop-left-preserved c =
    let l = c.loop-left in
    let s = c.args.s.now in
    let t = c.loop-left-test.true in
    let h : get_or s l.p 0 < 256 = omega (arith, c.shared_slice_known-in-loop-left-1.given l.p) in (
      passed-more l.value l.scale l.left (get_or s l.p 0) l.invariant.0 h t,
      l.invariant.1 ∙ step s l.p l.value l.scale l.left c.if-s-p.false c.if-b-lt128.false t,
    )

pub returns-then-s-p-2 : goal.returns-then-s-p-2
returns-then-s-p-2 c =
    let l = c.loop-left in
    sym (l.invariant.1 ∙ stop _ l.p l.value l.scale l.left c.if-s-p-2.true)

pub bounds-s-p-2 : goal.bounds-s-p-2
bounds-s-p-2 c = omega arith

pub overflow_cast-b-2 : goal.overflow_cast-b-2
overflow_cast-b-2 c = omega (arith, c.shared_slice_known-2-1.given c.loop-left.p)

pub overflow_add-value-2 : goal.overflow_add-value-2
overflow_add-value-2 c =
    let l = c.loop-left in
    omega (arith, c.shared_slice_known-2-1.given l.p, scale-last l.value l.scale l.left l.invariant.0 (omega arith))

pub returns-then-value-b-gt255 : goal.returns-then-value-b-gt255
returns-then-value-b-gt255 c =
    let l = c.loop-left in
    sym (l.invariant.1 ∙ ninth-over _ l.p l.value l.scale l.left l.invariant.0 (omega arith) c.if-s-p-2.false c.if-value-b-gt255.true)

pub overflow_mul-result : goal.overflow_mul-result
overflow_mul-result c = omega (arith, c.shared_slice_known-2-1.given c.loop-left.p)

pub overflow_add-result : goal.overflow_add-result
overflow_add-result c = omega arith

pub overflow_add-result-2 : goal.overflow_add-result-2
overflow_add-result-2 c = omega arith

pub returns : goal.returns
returns c =
    let l = c.loop-left in
    sym (l.invariant.1 ∙ ninth _ l.p l.value l.scale l.left l.invariant.0 (omega arith) c.if-s-p-2.false c.if-value-b-gt255.false)
