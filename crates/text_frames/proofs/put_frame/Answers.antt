-- Without room nothing is put; else a line is a word, or its message is read and printed.
use Rattle.std.proofs.Common.{refl, sym, ap, ◌∙◌, arith, Err, length-take-le}
use Rattle.text_hex.specs.declared.FrameError.TheVariants.{TooLong, NotHex}
use Rattle.text_frames.specs.Text.{word_hex, word_long}
use Rattle.text_frames.specs.Print.{print-none}
use Rattle.text_frames.proofs.Frames.{framed-as, word_room, word-put, frame-inside, framable, frame-put}
use Rattle.text_frames.proofs.put_frame.Goals as goal

pub returns-then-out-lt-FRAME_ROOM : goal.returns-then-out-lt-FRAME_ROOM
returns-then-out-lt-FRAME_ROOM c = sym (print-none _ _ _ _ _ _ _ (omega arith))

pub returns-then-out-at : goal.returns-then-out-at
returns-then-out-at c = sym (print-none _ _ _ _ _ _ _ (omega arith))

pub put_word-requires : goal.put_word-requires
put_word-requires c =
    let a = c.args in
    word_room a.out.now a.at a.n a.line.now a.chars a.bytes.now a.table.now (omega arith) word_long (omega arith)

pub put_word-requires-in-Err-NotHex : goal.put_word-requires-in-Err-NotHex
put_word-requires-in-Err-NotHex c =
    let a = c.args in
    word_room a.out.now a.at a.n a.line.now a.chars a.bytes.now a.table.now (omega arith) word_hex (omega arith)

pub slice_bounds-put_message-end : goal.slice_bounds-put_message-end
slice_bounds-put_message-end c =
    let a = c.args in
    frame-inside a.out.now a.at a.n a.line.now a.chars a.bytes.now a.table.now (omega arith) (framed-as c.in-Ok.is c.frame_of.ensures)

pub slice_bounds-put_message-end-in-Ok : goal.slice_bounds-put_message-end-in-Ok
slice_bounds-put_message-end-in-Ok c =
    let a = c.args in
    sym (length-take-le _ _ (frame-inside a.out.now a.at a.n a.line.now a.chars a.bytes.now a.table.now (omega arith) (framed-as c.in-Ok.is c.frame_of.ensures)))

pub put_message-requires : goal.put_message-requires
put_message-requires c =
    let a = c.args in
    framable a.out.now a.at a.n a.line.now a.chars a.bytes.now a.table.now (omega arith) (framed-as c.in-Ok.is c.frame_of.ensures)

pub returns-in-Err-TooLong : goal.returns-in-Err-TooLong
returns-in-Err-TooLong c =
    let a = c.args in
    word-put a.out.now a.at a.n a.line.now a.chars a.bytes.now a.table.now (omega arith) (Err TooLong) word_long (omega arith) refl
    (framed-as (c.in-Err-TooLong.is ∙ ap Err c.in-Err-TooLong.field-0-is) c.frame_of.ensures) c.put_word.ensures

pub returns-in-Err-NotHex : goal.returns-in-Err-NotHex
returns-in-Err-NotHex c =
    let a = c.args in
    word-put a.out.now a.at a.n a.line.now a.chars a.bytes.now a.table.now (omega arith) (Err NotHex) word_hex (omega arith) refl
    (framed-as (c.in-Err-NotHex.is ∙ ap Err c.in-Err-NotHex.field-0-is) c.frame_of.ensures) c.put_word-in-Err-NotHex.ensures

pub returns-in-Ok : goal.returns-in-Ok
returns-in-Ok c =
    let a = c.args in
    frame-put a.out.now a.at a.n a.line.now a.chars a.bytes.now a.table.now (omega arith)
    (framed-as c.in-Ok.is c.frame_of.ensures) c.put_message.ensures
