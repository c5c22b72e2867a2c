-- What a write takes comes after what was written.
use Rattle.std.specs.Prelude.{Option}
use Rattle.std.proofs.Common.{ℕ, ◌+◌, ◌-◌, ◌≤◌, List, length, take, drop, arith, length-drop}
use Rattle.std.proofs.Math.Seq.{take-add}
use Rattle.std.proofs.lemmas.List.{take_rest}
use Rattle.std.specs.Io.KnownBytes.{Appends}
use Rattle.std.proofs.KnownBytes.{Appends-trans}
use Rattle.stream.proofs.write_all.Goals as goal

appends_more : (a b c : Option (List ℕ)) (text : List ℕ) (at n : ℕ) → at ≤ length text
    → n ≤ length (take (length text - at) (drop at text))
    → Appends a b (take at text) → Appends b c (take n (take (length text - at) (drop at text)))
    → (at + n ≤ length text) × Appends a c (take (at + n) text)
appends_more a b c text at n h k p q =
    let r = take_rest text at in
    let k' : n ≤ length (drop at text) = rw r at k in
    let q' : Appends b c (take n (drop at text)) = rw r at q in
    (omega (arith, length-drop at text), rw (take-add at n text) (Appends-trans a b c _ _ p q'))

pub loop-at-preserved : goal.loop-at-preserved
loop-at-preserved g c =
    let i = c.loop-at.invariant in
    appends_more _ _ _ _ _ _ i.0 c.in-Ok.ensures.inside i.1 c.in-Ok.ensures.bytes
