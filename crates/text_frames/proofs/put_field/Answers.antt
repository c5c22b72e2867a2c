-- What is put next has room, and what is left after it: the head, the tag, the kind, a space, the value, the line's end.
use Rattle.std.proofs.Common.{◌∙◌, [], ◌∷◌, ◌++◌}
use Rattle.wire.specs.Places.{shown}
use Rattle.wire.specs.Table.{field_in}
use Rattle.text_digits.specs.Digits.{decimal}
use Rattle.text_frames.specs.Text.{spaced, value_text}
use Rattle.text_frames.proofs.Puts.{has_room, put_next, last-room, put_last, whole_part}
use Rattle.text_frames.proofs.Fields.{after_kind, line-start}
use Rattle.text_frames.proofs.put_field.Goals as goal

pub put_number-q-requires : goal.put_number-q-requires
put_number-q-requires c =
    let a = c.args in
    let headed = put_next a.head.now _ (line-start c.requires) (c.put_part-p.ensures ∙ whole_part _ _ a.head.now) in
    has_room (32 ∷ decimal a.r.tag) (spaced (a.r.kind ∷ []) (after_kind a.message.now a.r)) headed

pub put_number-u-requires : goal.put_number-u-requires
put_number-u-requires c =
    let a = c.args in
    let headed = put_next a.head.now _ (line-start c.requires) (c.put_part-p.ensures ∙ whole_part _ _ a.head.now) in
    let tagged = put_next _ _ headed c.put_number-q.ensures in
    has_room (32 ∷ decimal a.r.kind) (after_kind a.message.now a.r) tagged

pub put_char-v-requires : goal.put_char-v-requires
put_char-v-requires c =
    let a = c.args in
    let headed = put_next a.head.now _ (line-start c.requires) (c.put_part-p.ensures ∙ whole_part _ _ a.head.now) in
    let tagged = put_next _ _ headed c.put_number-q.ensures in
    let typed = put_next _ _ tagged c.put_number-u.ensures in
    has_room (32 ∷ []) (value_text (shown a.message.now (field_in a.r).value) ++ 10 ∷ []) typed

pub put_value-w-requires : goal.put_value-w-requires
put_value-w-requires c =
    let a = c.args in
    let headed = put_next a.head.now _ (line-start c.requires) (c.put_part-p.ensures ∙ whole_part _ _ a.head.now) in
    let tagged = put_next _ _ headed c.put_number-q.ensures in
    let typed = put_next _ _ tagged c.put_number-u.ensures in
    let parted = put_next (32 ∷ []) _ typed c.put_char-v.ensures in
    record {
      room = has_room (value_text (shown a.message.now (field_in a.r).value)) (10 ∷ []) parted;
      inside = c.requires.inside;
    }

pub put_char-requires : goal.put_char-requires
put_char-requires c =
    let a = c.args in
    let headed = put_next a.head.now _ (line-start c.requires) (c.put_part-p.ensures ∙ whole_part _ _ a.head.now) in
    let tagged = put_next _ _ headed c.put_number-q.ensures in
    let typed = put_next _ _ tagged c.put_number-u.ensures in
    let parted = put_next (32 ∷ []) _ typed c.put_char-v.ensures in
    last-room (10 ∷ []) (put_next _ (10 ∷ []) parted c.put_value-w.ensures)

pub returns : goal.returns
returns c =
    let a = c.args in
    let headed = put_next a.head.now _ (line-start c.requires) (c.put_part-p.ensures ∙ whole_part _ _ a.head.now) in
    let tagged = put_next _ _ headed c.put_number-q.ensures in
    let typed = put_next _ _ tagged c.put_number-u.ensures in
    let parted = put_next (32 ∷ []) _ typed c.put_char-v.ensures in
    put_last (10 ∷ []) (put_next _ (10 ∷ []) parted c.put_value-w.ensures) c.put_char.ensures
