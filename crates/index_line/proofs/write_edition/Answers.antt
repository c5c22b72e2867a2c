-- The tests in their order, then the edition and the entries.
use native.Mathlib.Omega.{arith}
use native.Mathlib.Nat.{one-le-pow}
use Rattle.index_line.proofs.Answers.{answer-unsound, answer-short, answer-no-room, answer-ready, answer-done}
use Rattle.index_line.proofs.write_edition.Goals as goal

pub overflow_sub-places : goal.overflow_sub-places
overflow_sub-places c = rw c.requires.1 (one-le-pow _ _ (omega arith))

pub returns-then-not-sound : goal.returns-then-not-sound
returns-then-not-sound c = answer-unsound _ _ _ _ _ c.requires.1 c.sound.ensures (c.if-not-sound.true)

pub returns-then-line-lt-HEAD_DIGITS : goal.returns-then-line-lt-HEAD_DIGITS
returns-then-line-lt-HEAD_DIGITS c = answer-short _ _ _ _ _ c.requires.1 c.sound.ensures (c.if-not-sound.false) c.if-line-lt-HEAD_DIGITS.true

pub returns-then-line-w : goal.returns-then-line-w
returns-then-line-w c = answer-no-room _ _ _ _ _ c.requires.1 c.sound.ensures (c.if-not-sound.false) c.if-line-w.true

pub put_entries-requires : goal.put_entries-requires
put_entries-requires c =
    answer-ready _ _ _ _ _ c.requires.1 c.sound.ensures (c.if-not-sound.false)
    c.if-line-lt-HEAD_DIGITS.false c.if-line-w.false c.put_hex-at.ensures

pub returns : goal.returns
returns c =
    answer-done _ _ _ _ _ c.requires.1 c.sound.ensures (c.if-not-sound.false)
    c.if-line-lt-HEAD_DIGITS.false c.if-line-w.false c.put_hex-at.ensures
    c.put_entries.ensures
