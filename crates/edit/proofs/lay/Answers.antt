-- After the last payload, or after all of them packed.
use mathlib.Core.Path.{◌∙◌}
use native.Mathlib.Omega.{arith}
use lib.ListN.{length}
use Rattle.edit.specs.EditLaws.{laid-last, laid-packed, put_whole, put-fits, last-inside}
use Rattle.edit.proofs.lay.Goals as goal

pub overflow_sub-room : goal.overflow_sub-room
overflow_sub-room c =
    let a = c.args in
    let last = rw c.in_room.ensures at c.last_end-at.ensures in
    omega (arith, last, last-inside (length a.room.now) a.table.now a.skip a.count)

pub returns-then-bytes-room : goal.returns-then-bytes-room
returns-then-bytes-room c =
    let a = c.args in
    let last = rw c.in_room.ensures at c.last_end-at.ensures in
    let i = last-inside (length a.room.now) a.table.now a.skip a.count in
    laid-last a.count a.skip a.room.now a.table.now a.bytes.now last
    (omega (arith, last, i, c.if-bytes-room.true))
    (put_whole a.room.now c.last_end-at.result a.bytes.now c.put_part.ensures
    ∙ put-fits a.room.now c.last_end-at.result a.bytes.now (omega (arith, last, i, c.if-bytes-room.true)))

pub returns : goal.returns
returns c =
    let a = c.args in
    let last = rw c.in_room.ensures at c.last_end-at.ensures in
    laid-packed a.count a.skip a.room.now a.table.now a.bytes.now last
    (omega (arith, c.if-bytes-room.false))
    c.pack-to.ensures (put_whole _ _ a.bytes.now c.put_part-2.ensures)
