-- `write_message::weigh` meets its contract.
use Rattle.write_message.proofs.Turns.{source-long, count-above, weigh-start, turn-bad, turn_more, weigh-done}
use Rattle.write_message.proofs.weigh.Goals as goal

pub returns-then-most-source : goal.returns-then-most-source
returns-then-most-source c = source-long _ _ _ _ c.if-most-source.true

pub returns-then-records-count : goal.returns-then-records-count
returns-then-records-count c = count-above _ _ _ _ c.if-most-source.false c.if-records-count.true

pub loop-i-init : goal.loop-i-init
loop-i-init c = weigh-start _ _ _ _ c.if-most-source.false c.if-records-count.false

pub returns-in-Bad : goal.returns-in-Bad
returns-in-Bad c =
    turn-bad c.loop-i.invariant c.loop-i-test.true
    c.record_at-r.ensures c.weigh_record.ensures _ c.in-Bad.is

pub loop-i-preserved : goal.loop-i-preserved
loop-i-preserved c =
    turn_more c.loop-i.invariant
    c.loop-i-test.true c.record_at-r.ensures
    c.weigh_record.ensures _ c.in-Bytes.is c.spend-left.ensures

pub returns : goal.returns
returns c = weigh-done c.loop-i.invariant c.loop-i-test.false
