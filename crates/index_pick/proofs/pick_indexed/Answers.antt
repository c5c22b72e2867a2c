-- The index, the gate, then the entry.
use mathlib.Core.Path.{◌≡◌, ◌∙◌, sym}
use mathlib.Core.Bool.{true}
use Prim.Native.Nat.{◌-◌, ◌^◌}
use lib.ListN.{length}
use Rattle.index.specs.Index.{sound_index}
use Rattle.index.proofs.Sounding.{sound-fits}
use Rattle.index_pick.specs.Looked.{indexed-bad, indexed-shut, indexed-open}
use Rattle.index_pick.proofs.pick_indexed.Goals as goal

pub returns-then-not-sound : goal.returns-then-not-sound
returns-then-not-sound c = sym (indexed-bad _ _ _ _ (sym c.sound.ensures ∙ c.if-not-sound.true))

pub returns-in-Shut : goal.returns-in-Shut
returns-in-Shut c =
    let sounds : sound_index c.args.index.now c.args.tags (length c.args.s.now) (2 ^ 64 - 1) ≡ true = sym c.sound.ensures ∙ c.if-not-sound.false in
    sym (indexed-shut _ _ _ _ sounds _ (sym c.gate.ensures ∙ c.in-Shut.is))

pub find-requires : goal.find-requires
find-requires c =
    let sounds : sound_index c.args.index.now c.args.tags (length c.args.s.now) (2 ^ 64 - 1) ≡ true = sym c.sound.ensures ∙ c.if-not-sound.false in
    sound-fits _ _ _ _ (sym sounds)

pub returns : goal.returns
returns c =
    let sounds : sound_index c.args.index.now c.args.tags (length c.args.s.now) (2 ^ 64 - 1) ≡ true = sym c.sound.ensures ∙ c.if-not-sound.false in
    c.find.ensures ∙ sym (indexed-open _ _ _ _ sounds (sym c.gate.ensures ∙ c.in_default.is))
