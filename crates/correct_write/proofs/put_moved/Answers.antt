-- The new key, then a copy of what stands behind the old one.
use mathlib.Core.Path.{◌≡◌, ◌∙◌, sym}
use native.Mathlib.Omega.{arith}
use lib.ListN.{length}
use Rattle.wire.specs.Reading.{key_at}
use Rattle.wire.specs.declared.KeyFound.TheVariants as key_found
use Rattle.place.specs.Spans.{spans-as, spans-none}
use Rattle.correct_write.specs.Moving.{moved_none, moved-keyless, run-key}
use Rattle.correct_write.proofs.Stretches.{put-stretch}
use Rattle.correct_write.proofs.put_moved.Goals as goal

pub returns-then-end-at : goal.returns-then-end-at
returns-then-end-at c = spans-as (moved_none _ _ _ _ _ c.if-end-at.true) (spans-none _ _)

pub overflow_sub-end : goal.overflow_sub-end
overflow_sub-end c =
    let keyed : key_at c.args.s.now (length c.args.s.now) c.args.at c.args.last ≡ key_found.Got c.in-Got.key c.in-Got.q =
    sym c.decode_key.ensures ∙ c.in-Got.is in
    omega (arith, (run-key c.requires.0 c.if-end-at.false _ _ keyed).1)

pub returns-in-Refused : goal.returns-in-Refused
returns-in-Refused c = spans-as (moved-keyless _ _ _ _ _ c.if-end-at.false _ (sym c.decode_key.ensures ∙ c.in-Refused.is)) (spans-none _ _)

pub returns-in-Got : goal.returns-in-Got
returns-in-Got c =
    let keyed : key_at c.args.s.now (length c.args.s.now) c.args.at c.args.last ≡ key_found.Got c.in-Got.key c.in-Got.q =
    sym c.decode_key.ensures ∙ c.in-Got.is in
    put-stretch c.requires.0 _ _ _ c.if-end-at.false _ _ keyed c.requires.1
    c.put_key-next.ensures c.put_bytes.ensures
