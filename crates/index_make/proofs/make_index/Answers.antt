-- The gate, the message, the room; then the entries are written.
use Prim.Native.Nat.{ℕ}
use mathlib.Core.Path.{◌≡◌, ◌∙◌, ap, sym}
use mathlib.Core.List.{List}
use native.Mathlib.Omega.{arith}
use lib.ListN.{length}
use Rattle.entry_answer.specs.Gate.{gated}
use Rattle.entry_answer.specs.declared.Gated.TheVariants.{Open}
use Rattle.entry_answer.specs.declared.Indexed.TheVariants.{Tags}
use Rattle.index.specs.Index.{Entry, indexed, outcome}
use Rattle.index_make.specs.Made.{made, Entries, tags-entries, tags-refused, into_index, make-shut, make-refused, make-no-room, make-fits}
use Rattle.index_make.proofs.make_index.Goals as goal

pub returns-in-Shut : goal.returns-in-Shut
returns-in-Shut c = sym (make-shut _ _ _ (sym c.gate.ensures ∙ c.in-Shut.is))

pub returns-then-index-n : goal.returns-then-index-n
returns-then-index-n c =
    let opens : gated (length c.args.s.now) 0 (length c.args.s.now) ≡ Open = sym c.gate.ensures ∙ c.in_default.is in
    let counted : (es : List Entry) × (made c.args.s.now ≡ Entries es) × (length es ≡ c.in-Tags.n) = tags-entries _ _ (sym c.count_tags.ensures ∙ c.in-Tags.is) in
    let x = counted in
    let e = x.2 in
    sym (make-no-room _ _ opens x.0 x.1 (omega (arith, c.if-index-n.true)))

pub fill-requires : goal.fill-requires
fill-requires c =
    let counted : (es : List Entry) × (made c.args.s.now ≡ Entries es) × (length es ≡ c.in-Tags.n) = tags-entries _ _ (sym c.count_tags.ensures ∙ c.in-Tags.is) in
    let x = counted in
    let e = x.2 in
    record { entries = x.0; read = x.1; room = omega (arith, c.if-index-n.false) }

pub returns-in-Refused : goal.returns-in-Refused
returns-in-Refused c =
    let opens : gated (length c.args.s.now) 0 (length c.args.s.now) ≡ Open = sym c.gate.ensures ∙ c.in_default.is in
    let m = tags-refused _ _ (sym c.count_tags.ensures ∙ c.in-Refused.is) in
    sym (make-refused _ _ opens _ m)

pub returns-else-index-n : goal.returns-else-index-n
returns-else-index-n c =
    let opens : gated (length c.args.s.now) 0 (length c.args.s.now) ≡ Open = sym c.gate.ensures ∙ c.in_default.is in
    let counted : (es : List Entry) × (made c.args.s.now ≡ Entries es) × (length es ≡ c.in-Tags.n) = tags-entries _ _ (sym c.count_tags.ensures ∙ c.in-Tags.is) in
    let t = c.args.index.now in
    let x = counted in
    let e = x.2 in
    ap (outcome (Tags c.in-Tags.n)) (c.fill.ensures ∙ ap (into_index t) x.1)
    ∙ ap (λ (j : ℕ). outcome (Tags j) (indexed t x.0)) (sym e)
    ∙ sym (make-fits _ t opens x.0 x.1 (omega (arith, c.if-index-n.false)))
