-- Too many characters, then characters that are no bytes, then bytes.
use Rattle.std.proofs.Common.{sym, ◌∙◌, arith}
use Rattle.text_hex.specs.Frame.{above-limit, above-line, above-out}
use Rattle.text_hex.specs.Faults.{Fitting, odd-frame, bad-frame, good-frame}
use Rattle.text_hex.proofs.frame_of.Goals as goal
use Rattle.text_hex.proofs.frame_of.Goals.{then-chars-gt-LINE_LIMIT-via-then-chars-gt-LINE_LIMIT, then-chars-gt-LINE_LIMIT-via-else-chars-gt-LINE_LIMIT+then-line-chars, then-chars-gt-LINE_LIMIT-via-else-chars-gt-LINE_LIMIT+else-line-chars+then-out-chars}
use Rattle.text_hex.proofs.frame_of.Goals.{then-chars-ne0-via-then-chars-ne0, then-chars-ne0-via-else-chars-ne0+then-not-all_digits}

pub returns-then-chars-gt-LINE_LIMIT : goal.returns-then-chars-gt-LINE_LIMIT
returns-then-chars-gt-LINE_LIMIT c =
    elim c.then-chars-gt-LINE_LIMIT.branch [
      | then-chars-gt-LINE_LIMIT-via-then-chars-gt-LINE_LIMIT w ↦ sym (above-limit _ _ _ w.if-chars-gt-LINE_LIMIT.true)
      | then-chars-gt-LINE_LIMIT-via-else-chars-gt-LINE_LIMIT+then-line-chars w ↦
          sym (above-line _ _ _ w.if-chars-gt-LINE_LIMIT.false w.if-line-chars.true)
      | then-chars-gt-LINE_LIMIT-via-else-chars-gt-LINE_LIMIT+else-line-chars+then-out-chars w ↦
          sym (above-out _ _ _ w.if-chars-gt-LINE_LIMIT.false w.if-line-chars.false w.if-out-chars.true)
    ]

pub returns-then-chars-ne0 : goal.returns-then-chars-ne0
returns-then-chars-ne0 c =
    let fits : Fitting c.args.line.now c.args.chars c.args.out.now = record { limit = c.if-chars-gt-LINE_LIMIT.false; reach = c.if-line-chars.false; room = c.if-out-chars.false } in
    elim c.then-chars-ne0.branch [
      | then-chars-ne0-via-then-chars-ne0 w ↦ sym (odd-frame fits (omega (arith, w.if-chars-ne0.true)))
      | then-chars-ne0-via-else-chars-ne0+then-not-all_digits w ↦ sym (bad-frame fits (sym w.all_digits.ensures ∙ w.if-not-all_digits.true))
    ]

pub returns : goal.returns
returns c =
    let fits : Fitting c.args.line.now c.args.chars c.args.out.now = record { limit = c.if-chars-gt-LINE_LIMIT.false; reach = c.if-line-chars.false; room = c.if-out-chars.false } in
    rw c.decode.ensures (sym (good-frame fits (omega arith) (sym c.all_digits.ensures ∙ c.if-not-all_digits.false)))
