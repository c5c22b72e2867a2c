-- What a lookup tells of the message.
use mathlib.Core.Path.{◌≡◌, ◌∙◌, ap, sym}
use Rattle.correct_write.specs.Corrected.{taken}
use Rattle.correct_write.specs.Accepting.{usable, told_of, several-usable}
use Rattle.correct_write.proofs.accept.Goals as goal

pub returns-in-Found : goal.returns-in-Found
returns-in-Found c =
    let told : told_of c.pick_at.result ≡ usable (taken c.args.s.now) = ap told_of c.pick_at.ensures ∙ several-usable c.args.s.now in
    sym (ap told_of c.in-Found.is) ∙ told

pub returns-in-Absent : goal.returns-in-Absent
returns-in-Absent c =
    let told : told_of c.pick_at.result ≡ usable (taken c.args.s.now) = ap told_of c.pick_at.ensures ∙ several-usable c.args.s.now in
    sym (ap told_of c.in-Absent.is) ∙ told

pub returns-in-Refused : goal.returns-in-Refused
returns-in-Refused c =
    let told : told_of c.pick_at.result ≡ usable (taken c.args.s.now) = ap told_of c.pick_at.ensures ∙ several-usable c.args.s.now in
    sym (ap told_of c.in-Refused.is) ∙ told
