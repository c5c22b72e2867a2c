-- Each turn tests an entry.
use mathlib.Core.Path.{◌∙◌, sym}
use native.Mathlib.Omega.{arith}
use Prim.Native.Nat.{◌+◌}
use lib.ListN.{get_or}
use Rattle.index.proofs.Sounding.{Sounding, sound-room, sound-start, sound-end, sound-not, sound-turn, inside}
use Rattle.index.specs.Index.{index_words}
use Rattle.index.proofs.sound.Goals as goal

pub returns-then-index-tags : goal.returns-then-index-tags
returns-then-index-tags c = sound-room _ _ _ _ c.if-index-tags.true

pub loop-n-init : goal.loop-n-init
loop-n-init c = sound-start _ _ _ _ c.if-index-tags.false

pub bounds-index-i : goal.bounds-index-i
bounds-index-i c = omega (arith, inside c.loop-n.invariant c.loop-n-test.true)

pub bounds-index-i-in-loop-n : goal.bounds-index-i-in-loop-n
bounds-index-i-in-loop-n c = omega (arith, inside c.loop-n.invariant c.loop-n-test.true)

pub bounds-index-i-in-loop-n-2 : goal.bounds-index-i-in-loop-n-2
bounds-index-i-in-loop-n-2 c = omega (arith, inside c.loop-n.invariant c.loop-n-test.true)

pub returns-then-not-sound_entry : goal.returns-then-not-sound_entry
returns-then-not-sound_entry c = sound-not c.loop-n.invariant c.loop-n-test.true (sym (c.if-not-sound_entry.true) ∙ c.sound_entry.ensures)

pub overflow_add-least : goal.overflow_add-least
overflow_add-least c =
    let turned : Sounding c.args.index.now c.args.tags c.args.places c.args.counts (c.loop-n.n + 1) (c.loop-n.i + index_words)
    (get_or c.args.index.now c.loop-n.i 0 + 1) =
    sound-turn c.loop-n.invariant c.loop-n-test.true (sym (c.if-not-sound_entry.false) ∙ c.sound_entry.ensures) in
    omega (arith, turned.small)

pub overflow_add-n : goal.overflow_add-n
overflow_add-n c = omega (arith, c.loop-n-test.true, c.ranges)

pub overflow_add-i-in-loop-n-2 : goal.overflow_add-i-in-loop-n-2
overflow_add-i-in-loop-n-2 c = omega (arith, inside c.loop-n.invariant c.loop-n-test.true, c.well_formed)

pub loop-n-smaller : goal.loop-n-smaller
loop-n-smaller c = omega (arith, c.loop-n-test.true)

pub loop-n-preserved : goal.loop-n-preserved
loop-n-preserved c =
    let turned : Sounding c.args.index.now c.args.tags c.args.places c.args.counts (c.loop-n.n + 1) (c.loop-n.i + index_words)
    (get_or c.args.index.now c.loop-n.i 0 + 1) =
    sound-turn c.loop-n.invariant c.loop-n-test.true (sym (c.if-not-sound_entry.false) ∙ c.sound_entry.ensures) in
    turned

pub returns : goal.returns
returns c = sound-end c.loop-n.invariant c.loop-n-test.false
