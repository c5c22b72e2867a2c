-- The buffers' room, the reader, then the two writers.
use mathlib.Core.Path.{sym}
use mathlib.Core.Logic.{inl, inr}
use native.Mathlib.Omega.{arith}
use borrow.Author.Rules.{rules}
use Rattle.entry_copy.specs.Copy.{copied-short, copy-refused, copy_done}
use Rattle.entry_copy.proofs.copy_message.Goals as goal

pub returns-then-front-s : goal.returns-then-front-s
returns-then-front-s c = rw c.not_copied.ensures (sym (copied-short _ _ _ _ (inl c.if-front-s.true)))

pub returns-then-back-s : goal.returns-then-back-s
returns-then-back-s c = rw c.not_copied-then-back-s.ensures (sym (copied-short _ _ _ _ (inr c.if-back-s.true)))

pub returns-in-Refused : goal.returns-in-Refused
returns-in-Refused c =
    copy-refused _ _ _ _ (λ i. search rules) (omega (arith, c.if-front-s.false)) (omega (arith, c.if-back-s.false)) _ _
    c.read_message.ensures _ _ _ _ c.in-Refused.is

pub returns-in-Accepted : goal.returns-in-Accepted
returns-in-Accepted c =
    copy_done _ _ _ _ (λ i. search rules) (omega (arith, c.if-front-s.false)) (omega (arith, c.if-back-s.false)) _ _
    c.read_message.ensures _ _ c.in-Accepted.is _ _ c.encode_message.ensures c.prepend_message.ensures
