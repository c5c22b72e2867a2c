-- `place::put_many` meets its contract: the rest is put over the first sixteen.
use Prim.Native.Nat.{◌+◌, ◌-◌, ◌%◌, ◌≤◌}
use native.Mathlib.Omega.{arith}
use Rattle.place.proofs.Turns.{Copying, copy_start}
use Rattle.place.proofs.Steps.{step-reads, step-writes, step-more, rest-done, ahead}
use borrow.Author.Rules.{rules}
use Rattle.place.proofs.put_many.Goals as goal

pub returns-then-n-lt160 : goal.returns-then-n-lt160
returns-then-n-lt160 c = c.put_steps.ensures

pub overflow_add-p : goal.overflow_add-p
overflow_add-p c = omega (arith, c.requires.1, c.requires.2)

pub overflow_add-q : goal.overflow_add-q
overflow_add-q c = omega (arith, c.requires.1, c.requires.2)

pub loop-left-init : goal.loop-left-init
loop-left-init c =
    let began : let k = 16 - c.args.at % 16 in
    Copying c.args.buf.now c.args.at c.args.bytes.now c.args.from c.args.n c.put_block-skip.new.buf (c.args.at + k) (c.args.from + k) (c.args.n - k) =
    ahead _ _ _ _ _ _ _ c.put_block-skip.ensures (omega arith) (omega (arith, c.requires.0)) c.requires.1 c.requires.2 in
    let w = began in
    (copy_start _ _ _ _ _ (step-reads w _ (omega arith)) (step-writes w _ (omega arith)), omega (arith, c.if-n-lt160.false))

pub put_steps-requires-in-loop-left : goal.put_steps-requires-in-loop-left
put_steps-requires-in-loop-left c =
    let t = c.loop-left-test.true in
    (omega arith, omega arith, omega arith, step-reads c.loop-left.invariant.0 128 (omega arith), step-writes c.loop-left.invariant.0 128 (omega arith))

pub overflow_add-p-in-loop-left : goal.overflow_add-p-in-loop-left
overflow_add-p-in-loop-left c = omega (arith, step-writes c.loop-left.invariant.0 128 (omega (arith, c.loop-left-test.true)))

pub overflow_add-q-in-loop-left : goal.overflow_add-q-in-loop-left
overflow_add-q-in-loop-left c = omega (arith, step-reads c.loop-left.invariant.0 128 (omega (arith, c.loop-left-test.true)))

pub loop-left-preserved : goal.loop-left-preserved
loop-left-preserved c =
    (step-more c.loop-left.invariant.0 128 (omega (arith, c.loop-left-test.true)) c.put_steps-in-loop-left.ensures, omega (arith, c.loop-left-test.true))

pub put_steps-requires-2 : goal.put_steps-requires-2
put_steps-requires-2 c =
    let i = c.loop-left.invariant in
    (omega arith, omega arith, i.1, step-reads i.0 _ (omega arith), step-writes i.0 _ (omega arith))

pub returns : goal.returns
returns c =
    let began : let k = 16 - c.args.at % 16 in
    Copying c.args.buf.now c.args.at c.args.bytes.now c.args.from c.args.n c.put_block-skip.new.buf (c.args.at + k) (c.args.from + k) (c.args.n - k) =
    ahead _ _ _ _ _ _ _ c.put_block-skip.ensures (omega arith) (omega (arith, c.requires.0)) c.requires.1 c.requires.2 in
    rest-done began (rest-done c.loop-left.invariant.0 c.put_steps-2.ensures)
