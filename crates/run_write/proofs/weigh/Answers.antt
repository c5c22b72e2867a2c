-- `run_write::weigh` meets its contract.
use Rattle.run_write.proofs.Turns.{source-long, count-above, weigh-start, turn-bad, turn_more, weigh-done}
use Rattle.run_write.proofs.weigh.Goals as goal

pub returns-then-source-gt-MESSAGE_LIMIT : goal.returns-then-source-gt-MESSAGE_LIMIT
returns-then-source-gt-MESSAGE_LIMIT c = source-long _ _ _ _ _ c.if-source-gt-MESSAGE_LIMIT.true

pub returns-then-records-count : goal.returns-then-records-count
returns-then-records-count c = count-above _ _ _ _ _ c.if-source-gt-MESSAGE_LIMIT.false c.if-records-count.true

pub weigh_fixed-requires : goal.weigh_fixed-requires
weigh_fixed-requires c = (c.if-source-gt-MESSAGE_LIMIT.false, c.if-records-count.false)

pub returns-then-kind-eq2 : goal.returns-then-kind-eq2
returns-then-kind-eq2 c = rw c.if-kind-eq2.true c.weigh_fixed.ensures

pub weigh_fixed-requires-then-kind-eq3 : goal.weigh_fixed-requires-then-kind-eq3
weigh_fixed-requires-then-kind-eq3 c = (c.if-source-gt-MESSAGE_LIMIT.false, c.if-records-count.false)

pub returns-then-kind-eq3 : goal.returns-then-kind-eq3
returns-then-kind-eq3 c = rw c.if-kind-eq3.true c.weigh_fixed-then-kind-eq3.ensures

pub loop-i-init : goal.loop-i-init
loop-i-init c = weigh-start _ _ _ _ _ c.if-source-gt-MESSAGE_LIMIT.false c.if-records-count.false

pub returns-in-Bad : goal.returns-in-Bad
returns-in-Bad c =
    turn-bad c.loop-i.invariant c.loop-i-test.true
    c.record_at-r.ensures c.weigh_one.ensures _ c.in-Bad.is

pub loop-i-preserved : goal.loop-i-preserved
loop-i-preserved c =
    turn_more c.loop-i.invariant
    c.loop-i-test.true c.record_at-r.ensures
    c.weigh_one.ensures _ c.in-Bytes.is c.spend-left.ensures

pub returns : goal.returns
returns c = weigh-done c.loop-i.invariant c.loop-i-test.false
