-- One byte, two and three are read off; a refusal is renamed where the nine bytes pass the end.
use mathlib.Core.Path.{◌≡◌, refl, ◌∙◌, ap, sym}
use mathlib.Core.Bool.{Bool, true, false}
use native.Mathlib.Omega.{arith}
use Prim.Native.Nat.{ℕ, ◌+◌, ◌<◌}
use borrow.Author.Tests.{lt-ltb, le-ltb}
use lib.Dec.{ltb}
use lib.ListN.{get_or}
use Rattle.varint_read.proofs.Reading.{none_left, one_byte, two-byte, three-byte}
use Rattle.wire.specs.Reading.{renamed}
use Rattle.wire.specs.declared.Refusal.TheVariants.{Truncated}
use Rattle.wire.specs.declared.VarintFound.TheVariants.{Refused}
use borrow.Author.Rules.{rules}
use Rattle.varint_read.proofs.decode_varint_capped.Goals as goal

-- Truncated is renamed to itself
truncated-stays : (end at : ℕ) → renamed end at (Refused Truncated) ≡ Refused Truncated
truncated-stays end at = go (ltb end (at + 9)) refl
  where
    go : (t : Bool) → ltb end (at + 9) ≡ t → renamed end at (Refused Truncated) ≡ Refused Truncated
    go true e = simp e
    go false e = simp e

pub returns-then-s-at : goal.returns-then-s-at
returns-then-s-at c =
    let a = c.args in
    sym (ap (renamed a.end a.at) (none_left a.s.now a.at c.if-s-at.true) ∙ truncated-stays a.end a.at)

pub overflow_cast-b : goal.overflow_cast-b
overflow_cast-b c = omega (arith, c.shared_slice_known-2-1.given c.args.at)

pub returns-then-b-lt128 : goal.returns-then-b-lt128
returns-then-b-lt128 c =
    let a = c.args in
    sym (ap (renamed a.end a.at) (one_byte a.s.now a.at c.if-s-at.false c.if-b-lt128.true))

pub overflow_cast-second : goal.overflow_cast-second
overflow_cast-second c = omega (arith, c.shared_slice_known-then-s-at-gt2-1.given (c.args.at + 1))

pub overflow_add-result-then-second-lt128 : goal.overflow_add-result-then-second-lt128
overflow_add-result-then-second-lt128 c = omega (arith, c.shared_slice_known-then-s-at-gt2-1.given c.args.at)

pub returns-then-second-lt128 : goal.returns-then-second-lt128
returns-then-second-lt128 c =
    let a = c.args in
    let h : get_or a.s.now a.at 0 < 256 = omega (arith, c.shared_slice_known-then-s-at-gt2-1.given a.at) in
    sym (ap (renamed a.end a.at) (two-byte a.s.now a.at (omega arith) c.if-b-lt128.false h c.if-second-lt128.true))

pub overflow_cast-third : goal.overflow_cast-third
overflow_cast-third c = omega (arith, c.shared_slice_known-then-s-at-gt2-2-1.given (c.args.at + 2))

pub overflow_mul-result-then-third-lt128 : goal.overflow_mul-result-then-third-lt128
overflow_mul-result-then-third-lt128 c = omega (arith, c.shared_slice_known-then-s-at-gt2-2-1.given (c.args.at + 1))

pub overflow_add-result-then-third-lt128 : goal.overflow_add-result-then-third-lt128
overflow_add-result-then-third-lt128 c =
    let f = c.shared_slice_known-then-s-at-gt2-2-1.given in
    let a = c.args in
    omega (arith, f a.at, f (a.at + 1))

pub overflow_add-result-then-third-lt128-2 : goal.overflow_add-result-then-third-lt128-2
overflow_add-result-then-third-lt128-2 c =
    let f = c.shared_slice_known-then-s-at-gt2-2-1.given in
    let a = c.args in
    omega (arith, f a.at, f (a.at + 1))

pub returns-then-third-lt128 : goal.returns-then-third-lt128
returns-then-third-lt128 c =
    let f = c.shared_slice_known-then-s-at-gt2-2-1.given in
    let a = c.args in
    let h : get_or a.s.now a.at 0 < 256 = omega (arith, f a.at) in
    let g : get_or a.s.now (a.at + 1) 0 < 256 = omega (arith, f (a.at + 1)) in
    let r = three-byte a.s.now a.at (omega arith) (omega arith) h (omega arith) g c.if-third-lt128.true in
    sym (ap (renamed a.end a.at) r)

pub returns-then-end-at : goal.returns-then-end-at
returns-then-end-at c =
    let a = c.args in
    let e = sym c.decode_long.ensures ∙ c.in-Refused.is in
    sym (ap (renamed a.end a.at) e ∙ simp (lt-ltb a.end (a.at + 9) (omega arith)))

pub returns-then-end-at-lt9 : goal.returns-then-end-at-lt9
returns-then-end-at-lt9 c =
    let a = c.args in
    let e = sym c.decode_long.ensures ∙ c.in-Refused.is in
    sym (ap (renamed a.end a.at) e ∙ simp (lt-ltb a.end (a.at + 9) (omega arith)))

pub returns-in-Got : goal.returns-in-Got
returns-in-Got c =
    let a = c.args in
    sym (ap (renamed a.end a.at) (sym c.decode_long.ensures ∙ c.in-Got.is))

pub returns-else-end-at-lt9 : goal.returns-else-end-at-lt9
returns-else-end-at-lt9 c =
    let a = c.args in
    let e = sym c.decode_long.ensures ∙ c.in-Refused.is in
    sym (ap (renamed a.end a.at) e ∙ simp (le-ltb a.end (a.at + 9) (omega arith)))
