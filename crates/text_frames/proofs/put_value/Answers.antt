-- `text_frames::put_value` meets its contract.
use mathlib.Core.Path.{◌≡◌, ap, sym, ◌∙◌}
use native.Mathlib.Omega.{arith}
use Rattle.wire.specs.Places.{shown}
use Rattle.wire.specs.Table.{field_in}
use Rattle.entry_message.specs.Messages.{part_bytes}
use Rattle.text_frames.specs.Text.{bytes_text, value_text}
use Rattle.text_frames.proofs.Fields.{text-number, text-payload, text-four, text-eight, payload-inside}
use Rattle.text_frames.proofs.put_value.Goals as goal

pub returns-then-kind-lt1 : goal.returns-then-kind-lt1
returns-then-kind-lt1 c =
    let a = c.args in
    rw (text-number a.message.now a.r.kind a.r.value a.r.length c.if-kind-lt1.true)
    c.put_hex.ensures

pub put_payload-requires : goal.put_payload-requires
put_payload-requires c =
    let part : bytes_text c.payload_of.result.now ≡ value_text (shown c.args.message.now (field_in c.args.r).value) = let a = c.args in
    let s = a.message.now in
    let g = c.if-kind-lt1.false in
    let h = c.if-kind-lt2.true in
    ap bytes_text (part_bytes a.message a.r c.payload_of.result c.payload_of.ensures ∙ payload-inside s a.r c.requires.inside g h)
    ∙ sym (text-payload s a.r.kind a.r.value a.r.length g h) in
    rw part c.requires.room

pub returns-then-kind-lt2 : goal.returns-then-kind-lt2
returns-then-kind-lt2 c =
    let part : bytes_text c.payload_of.result.now ≡ value_text (shown c.args.message.now (field_in c.args.r).value) = let a = c.args in
    let s = a.message.now in
    let g = c.if-kind-lt1.false in
    let h = c.if-kind-lt2.true in
    ap bytes_text (part_bytes a.message a.r c.payload_of.result c.payload_of.ensures ∙ payload-inside s a.r c.requires.inside g h)
    ∙ sym (text-payload s a.r.kind a.r.value a.r.length g h) in
    rw (← part) c.put_payload.ensures

pub put_fixed-requires : goal.put_fixed-requires
put_fixed-requires c =
    let a = c.args in (
      omega arith,
      rw (text-four a.message.now a.r.kind a.r.value a.r.length c.if-kind-lt2.false c.if-kind-lt3.true) at c.requires.room,
    )

pub returns-then-kind-lt3 : goal.returns-then-kind-lt3
returns-then-kind-lt3 c =
    let a = c.args in
    rw
    (text-four a.message.now a.r.kind a.r.value a.r.length c.if-kind-lt2.false
    c.if-kind-lt3.true) c.put_fixed.ensures

pub put_fixed-requires-2 : goal.put_fixed-requires-2
put_fixed-requires-2 c =
    let a = c.args in
    (omega arith, rw (text-eight a.message.now a.r.kind a.r.value a.r.length c.if-kind-lt3.false) at c.requires.room)

pub returns : goal.returns
returns c =
    let a = c.args in
    rw (text-eight a.message.now a.r.kind a.r.value a.r.length c.if-kind-lt3.false)
    c.put_fixed-2.ensures
