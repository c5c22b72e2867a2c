-- Both messages, the length, the room; then the result is put.
use Prim.Native.Nat.{◌+◌, ◌≤◌}
use mathlib.Core.Path.{refl, ◌∙◌, sym}
use native.Mathlib.Omega.{arith}
use lib.ListN.{length}
use Rattle.wire.specs.Limits.{message_limit}
use Rattle.wire.specs.VarintLaws.{Bytes}
use Rattle.correct_write.specs.Corrected.{write-original, write-correction}
use Rattle.correct_write.specs.Turning.{result_bytes, Both}
use Rattle.correct_write.specs.Accepting.{taken-shut, Entered, entered}
use Rattle.correct_write.proofs.Stretches.{ample, whole-short, whole_long, whole-none, whole-done}
use Rattle.correct_write.proofs.write_corrected.Goals as goal

pub returns-in-Shut : goal.returns-in-Shut
returns-in-Shut c = sym (write-original _ _ _ _ (taken-shut _ _ (sym c.accept.ensures ∙ c.in-Shut.is)))

pub returns-in-Shut-accept : goal.returns-in-Shut-accept
returns-in-Shut-accept c =
    let old : Entered c.args.original.now = entered _ (sym c.accept.ensures ∙ c.in_default.is) in
    sym
    (write-correction _ _ _ _ old.items _
    (taken-shut _ _ (sym c.accept-2.ensures ∙ c.in-Shut-accept.is)))

pub overflow_add-original : goal.overflow_add-original
overflow_add-original c =
    let old : Entered c.args.original.now = entered _ (sym c.accept.ensures ∙ c.in_default.is) in
    let new : Entered c.args.correction.now = entered _ (sym c.accept-2.ensures ∙ c.in_default-accept.is) in
    omega (arith, old.short, new.short)

pub put_all-requires : goal.put_all-requires
put_all-requires c =
    let old : Entered c.args.original.now = entered _ (sym c.accept.ensures ∙ c.in_default.is) in
    let new : Entered c.args.correction.now = entered _ (sym c.accept-2.ensures ∙ c.in_default-accept.is) in
    let both : Both c.args.original.now c.args.correction.now = let o = old in
    let n = new in
    record { original = o.rest; correction = n.rest; short = o.short; brief = n.short } in
    let old-bytes : Bytes c.args.original.now = λ i. omega (arith, c.type_inv.original i) in
    let new-bytes : Bytes c.args.correction.now = λ i. omega (arith, c.type_inv.correction i) in
    let short : length (result_bytes c.args.original.now c.args.correction.now) ≤ length c.args.original.now + length c.args.correction.now =
    whole-short old new old-bytes new-bytes in
    let roomy : let n = length c.args.original.now + length c.args.correction.now in (n ≤ message_limit) × (n ≤ length c.args.buf.now) =
    ample _ _ (sym c.is_ample.ensures ∙ c.if-is_ample.true) in
    (both, omega (arith, short, roomy.1))

pub returns-then-is_ample : goal.returns-then-is_ample
returns-then-is_ample c =
    let old : Entered c.args.original.now = entered _ (sym c.accept.ensures ∙ c.in_default.is) in
    let new : Entered c.args.correction.now = entered _ (sym c.accept-2.ensures ∙ c.in_default-accept.is) in
    let old-bytes : Bytes c.args.original.now = λ i. omega (arith, c.type_inv.original i) in
    let new-bytes : Bytes c.args.correction.now = λ i. omega (arith, c.type_inv.correction i) in
    let short : length (result_bytes c.args.original.now c.args.correction.now) ≤ length c.args.original.now + length c.args.correction.now =
    whole-short old new old-bytes new-bytes in
    let roomy : let n = length c.args.original.now + length c.args.correction.now in (n ≤ message_limit) × (n ≤ length c.args.buf.now) =
    ample _ _ (sym c.is_ample.ensures ∙ c.if-is_ample.true) in
    whole-done old new _ refl (omega (arith, short, roomy.0)) (omega (arith, short, roomy.1)) c.put_all.ensures

pub measure-n-requires : goal.measure-n-requires
measure-n-requires c =
    let old : Entered c.args.original.now = entered _ (sym c.accept.ensures ∙ c.in_default.is) in
    let new : Entered c.args.correction.now = entered _ (sym c.accept-2.ensures ∙ c.in_default-accept.is) in
    let both : Both c.args.original.now c.args.correction.now = let o = old in
    let n = new in
    record { original = o.rest; correction = n.rest; short = o.short; brief = n.short } in
    both

pub returns-then-n-gt-MESSAGE_LIMIT : goal.returns-then-n-gt-MESSAGE_LIMIT
returns-then-n-gt-MESSAGE_LIMIT c =
    let old : Entered c.args.original.now = entered _ (sym c.accept.ensures ∙ c.in_default.is) in
    let new : Entered c.args.correction.now = entered _ (sym c.accept-2.ensures ∙ c.in_default-accept.is) in
    whole_long old new _ c.measure-n.ensures c.if-n-gt-MESSAGE_LIMIT.true

pub returns-then-buf-n : goal.returns-then-buf-n
returns-then-buf-n c =
    let old : Entered c.args.original.now = entered _ (sym c.accept.ensures ∙ c.in_default.is) in
    let new : Entered c.args.correction.now = entered _ (sym c.accept-2.ensures ∙ c.in_default-accept.is) in
    whole-none old new _ c.measure-n.ensures c.if-n-gt-MESSAGE_LIMIT.false c.if-buf-n.true

pub put_all-requires-2 : goal.put_all-requires-2
put_all-requires-2 c =
    let old : Entered c.args.original.now = entered _ (sym c.accept.ensures ∙ c.in_default.is) in
    let new : Entered c.args.correction.now = entered _ (sym c.accept-2.ensures ∙ c.in_default-accept.is) in
    let both : Both c.args.original.now c.args.correction.now = let o = old in
    let n = new in
    record { original = o.rest; correction = n.rest; short = o.short; brief = n.short } in
    (both, omega (arith, c.measure-n.ensures, c.if-buf-n.false))

pub returns : goal.returns
returns c =
    let old : Entered c.args.original.now = entered _ (sym c.accept.ensures ∙ c.in_default.is) in
    let new : Entered c.args.correction.now = entered _ (sym c.accept-2.ensures ∙ c.in_default-accept.is) in
    whole-done old new _ c.measure-n.ensures c.if-n-gt-MESSAGE_LIMIT.false c.if-buf-n.false c.put_all-2.ensures
