-- Each turn passes a record with no key.
use native.Mathlib.Omega.{arith}
use Rattle.edit_live.specs.SpanLaws.{found-there, found-nowhere}
use Rattle.edit_live.proofs.Walks.{key-start, key_more, key-found, key-done}
use Rattle.edit_live.proofs.first_keyed.Goals as goal

pub loop-i-init : goal.loop-i-init
loop-i-init c = key-start _

pub returns-then-record_at : goal.returns-then-record_at
returns-then-record_at c =
    found-there _ c.loop-i-test.true (key-found c.loop-i.invariant c.record_at.ensures c.loop-i-test.true c.if-record_at.true)

pub loop-i-preserved : goal.loop-i-preserved
loop-i-preserved c = key_more c.loop-i.invariant c.record_at.ensures c.if-record_at.false

pub returns : goal.returns
returns c = found-nowhere _ (key-done c.loop-i.invariant (omega arith))
