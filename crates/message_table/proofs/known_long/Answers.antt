-- A varint that is known to be good is read without a test.
use mathlib.Core.Path.{◌≡◌, ◌∙◌, sym, refl}
use native.Mathlib.Omega.{arith}
use Prim.Native.Nat.{◌+◌, ◌*◌, ◌/◌, ◌^◌, ◌≤◌, ◌<◌}
use mathlib.Core.Logic.{inl}
use lib.ListN.{length, get_or}
use Rattle.wire.specs.declared.VarintFound.TheVariants.{Got}
use Rattle.varint_read.proofs.Reading.{stands, start, step, last, ninth, sum-small, scale_small, passed-more}
use Rattle.message_table.proofs.Present.{alive, ninth-fits}
use Rattle.message_table.proofs.known_long.Goals as goal

pub loop-left-init : goal.loop-left-init
loop-left-init c = (record { small = omega arith; weight = refl }, start c.args.s.now c.args.at)

pub bounds-s-p : goal.bounds-s-p
bounds-s-p c =
    let ends : stands c.args.s.now c.loop-left.p c.loop-left.value c.loop-left.scale c.loop-left.left ≡ Got c.requires.value c.requires.next =
    sym c.loop-left.invariant.1 ∙ c.requires.read in
    let lives : c.loop-left.p < length c.args.s.now = let l = c.loop-left in alive c.args.s.now l.p l.value l.scale l.left _ _ ends in
    lives

pub overflow_cast-b : goal.overflow_cast-b
overflow_cast-b c =
    let byte : get_or c.args.s.now c.loop-left.p 0 < 256 = omega (arith, c.type_inv.s c.loop-left.p) in
    omega (arith, byte)

pub overflow_mul-value : goal.overflow_mul-value
overflow_mul-value c =
    let byte : get_or c.args.s.now c.loop-left.p 0 < 256 = omega (arith, c.type_inv.s c.loop-left.p) in
    let sums : c.loop-left.value + get_or c.args.s.now c.loop-left.p 0 * c.loop-left.scale < 2 ^ 64 =
    sum-small _ _ _ _ c.loop-left.invariant.0 byte c.loop-left-test.true in
    omega (arith, sums)

pub overflow_add-value : goal.overflow_add-value
overflow_add-value c =
    let byte : get_or c.args.s.now c.loop-left.p 0 < 256 = omega (arith, c.type_inv.s c.loop-left.p) in
    let sums : c.loop-left.value + get_or c.args.s.now c.loop-left.p 0 * c.loop-left.scale < 2 ^ 64 =
    sum-small _ _ _ _ c.loop-left.invariant.0 byte c.loop-left-test.true in
    omega (arith, sums)

pub overflow_add-p : goal.overflow_add-p
overflow_add-p c =
    let ends : stands c.args.s.now c.loop-left.p c.loop-left.value c.loop-left.scale c.loop-left.left ≡ Got c.requires.value c.requires.next =
    sym c.loop-left.invariant.1 ∙ c.requires.read in
    let lives : c.loop-left.p < length c.args.s.now = let l = c.loop-left in alive c.args.s.now l.p l.value l.scale l.left _ _ ends in
    omega (arith, lives, c.well_formed.0.0)

pub returns-then-b-lt128 : goal.returns-then-b-lt128
returns-then-b-lt128 c =
    let ends : stands c.args.s.now c.loop-left.p c.loop-left.value c.loop-left.scale c.loop-left.left ≡ Got c.requires.value c.requires.next =
    sym c.loop-left.invariant.1 ∙ c.requires.read in
    let lives : c.loop-left.p < length c.args.s.now = let l = c.loop-left in alive c.args.s.now l.p l.value l.scale l.left _ _ ends in
    let byte : get_or c.args.s.now c.loop-left.p 0 < 256 = omega (arith, c.type_inv.s c.loop-left.p) in
    let sums : c.loop-left.value + get_or c.args.s.now c.loop-left.p 0 * c.loop-left.scale < 2 ^ 64 =
    sum-small _ _ _ _ c.loop-left.invariant.0 byte c.loop-left-test.true in
    let l = c.loop-left in
    l.invariant.1
    ∙ last c.args.s.now l.p l.value l.scale l.left lives
    (inl c.if-b-lt128.true) sums

pub overflow_mul-scale : goal.overflow_mul-scale
overflow_mul-scale c = omega (arith, scale_small _ _ _ c.loop-left.invariant.0 c.loop-left-test.true)

pub overflow_sub-left : goal.overflow_sub-left
overflow_sub-left c = omega arith

pub loop-left-smaller : goal.loop-left-smaller
loop-left-smaller c = omega arith

pub loop-left-preserved : goal.loop-left-preserved
loop-left-preserved c =
    let ends : stands c.args.s.now c.loop-left.p c.loop-left.value c.loop-left.scale c.loop-left.left ≡ Got c.requires.value c.requires.next =
    sym c.loop-left.invariant.1 ∙ c.requires.read in
    let lives : c.loop-left.p < length c.args.s.now = let l = c.loop-left in alive c.args.s.now l.p l.value l.scale l.left _ _ ends in
    let byte : get_or c.args.s.now c.loop-left.p 0 < 256 = omega (arith, c.type_inv.s c.loop-left.p) in
    let l = c.loop-left in
    let t = c.loop-left-test.true in (
      passed-more _ _ _ _ l.invariant.0 byte t,
      l.invariant.1
          ∙ step c.args.s.now l.p l.value l.scale l.left lives c.if-b-lt128.false t,
    )

pub bounds-s-p-2 : goal.bounds-s-p-2
bounds-s-p-2 c =
    let ends : stands c.args.s.now c.loop-left.p c.loop-left.value c.loop-left.scale c.loop-left.left ≡ Got c.requires.value c.requires.next =
    sym c.loop-left.invariant.1 ∙ c.requires.read in
    let lives : c.loop-left.p < length c.args.s.now = let l = c.loop-left in alive c.args.s.now l.p l.value l.scale l.left _ _ ends in
    lives

pub overflow_cast-b-2 : goal.overflow_cast-b-2
overflow_cast-b-2 c = omega (arith, c.type_inv.s c.loop-left.p)

pub overflow_mul-result : goal.overflow_mul-result
overflow_mul-result c =
    let ends : stands c.args.s.now c.loop-left.p c.loop-left.value c.loop-left.scale c.loop-left.left ≡ Got c.requires.value c.requires.next =
    sym c.loop-left.invariant.1 ∙ c.requires.read in
    let fits : c.loop-left.value / 2 ^ 56 + get_or c.args.s.now c.loop-left.p 0 ≤ 255 = let l = c.loop-left in
    ninth-fits c.args.s.now l.p l.value l.scale l.left _ _ l.invariant.0 (omega arith) ends in
    omega (arith, fits)

pub overflow_add-result : goal.overflow_add-result
overflow_add-result c =
    let ends : stands c.args.s.now c.loop-left.p c.loop-left.value c.loop-left.scale c.loop-left.left ≡ Got c.requires.value c.requires.next =
    sym c.loop-left.invariant.1 ∙ c.requires.read in
    let fits : c.loop-left.value / 2 ^ 56 + get_or c.args.s.now c.loop-left.p 0 ≤ 255 = let l = c.loop-left in
    ninth-fits c.args.s.now l.p l.value l.scale l.left _ _ l.invariant.0 (omega arith) ends in
    omega (arith, fits)

pub overflow_add-result-2 : goal.overflow_add-result-2
overflow_add-result-2 c =
    let ends : stands c.args.s.now c.loop-left.p c.loop-left.value c.loop-left.scale c.loop-left.left ≡ Got c.requires.value c.requires.next =
    sym c.loop-left.invariant.1 ∙ c.requires.read in
    let lives : c.loop-left.p < length c.args.s.now = let l = c.loop-left in alive c.args.s.now l.p l.value l.scale l.left _ _ ends in
    omega (arith, lives, c.well_formed.0.0)

pub returns : goal.returns
returns c =
    let ends : stands c.args.s.now c.loop-left.p c.loop-left.value c.loop-left.scale c.loop-left.left ≡ Got c.requires.value c.requires.next =
    sym c.loop-left.invariant.1 ∙ c.requires.read in
    let lives : c.loop-left.p < length c.args.s.now = let l = c.loop-left in alive c.args.s.now l.p l.value l.scale l.left _ _ ends in
    let fits : c.loop-left.value / 2 ^ 56 + get_or c.args.s.now c.loop-left.p 0 ≤ 255 = let l = c.loop-left in
    ninth-fits c.args.s.now l.p l.value l.scale l.left _ _ l.invariant.0 (omega arith) ends in
    let l = c.loop-left in
    l.invariant.1
    ∙ ninth c.args.s.now l.p l.value l.scale l.left l.invariant.0 (omega arith) lives fits
