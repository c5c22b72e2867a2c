-- The digits of the bytes that are left, put after those that are there, are what was asked for.
use Rattle.std.proofs.Common.{sym, arith}
use Rattle.text_digits.proofs.Turns.{hex-none, hex-start, hex-inside, hex-next, hex-more, hex-done}
use Rattle.text_digits.proofs.put_hex_bytes.Goals as goal

pub returns-then-buf-at : goal.returns-then-buf-at
returns-then-buf-at c = sym (hex-none _ _ _ (omega arith))

pub returns-then-buf-at-2 : goal.returns-then-buf-at-2
returns-then-buf-at-2 c = sym (hex-none _ _ _ (omega arith))

pub loop-b-init : goal.loop-b-init
loop-b-init c = hex-start _ _ _ (omega arith)

pub bounds-buf-p : goal.bounds-buf-p
bounds-buf-p c = hex-inside c.loop-b.invariant c.loop-b-test.true (c.type_inv.bytes c.loop-b.b-index).fits

pub bounds-buf-p-in-loop-b : goal.bounds-buf-p-in-loop-b
bounds-buf-p-in-loop-b c = hex-next c.loop-b.invariant c.loop-b-test.true (c.type_inv.bytes c.loop-b.b-index).fits _

pub loop-b-preserved : goal.loop-b-preserved
loop-b-preserved c =
    hex-more c.loop-b.invariant c.loop-b-test.true (c.type_inv.bytes c.loop-b.b-index).fits c.glyph.ensures c.glyph-in-loop-b.ensures

pub returns : goal.returns
returns c = hex-done c.loop-b.invariant c.loop-b-test.false
