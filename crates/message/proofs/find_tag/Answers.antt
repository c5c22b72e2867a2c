-- A walk to the end that counts the fields of the tag.
use mathlib.Core.Path.{◌≡◌, ◌∙◌, ap, sym}
use Rattle.wire.specs.Reading.{read_message}
use lib.ListN.{length}
use Rattle.message.specs.Tags.{sought}
use Rattle.message.proofs.Reaching.{sought_by, walk-sought}
use Rattle.message.proofs.find_tag.Goals as goal

pub returns-in-Refused : goal.returns-in-Refused
returns-in-Refused c =
    let found : sought_by c.walk.result ≡ sought c.args.tag c.args.number (read_message c.args.s.now 0 (length c.args.s.now)) =
    let a = c.args in ap sought_by c.walk.ensures ∙ walk-sought a.s.now a.tag a.number in
    sym (ap sought_by c.in-Refused.is) ∙ found

pub returns-in-End : goal.returns-in-End
returns-in-End c =
    let found : sought_by c.walk.result ≡ sought c.args.tag c.args.number (read_message c.args.s.now 0 (length c.args.s.now)) =
    let a = c.args in ap sought_by c.walk.ensures ∙ walk-sought a.s.now a.tag a.number in
    sym (ap sought_by c.in-End.is) ∙ found

pub returns-in-Field : goal.returns-in-Field
returns-in-Field c =
    let found : sought_by c.walk.result ≡ sought c.args.tag c.args.number (read_message c.args.s.now 0 (length c.args.s.now)) =
    let a = c.args in ap sought_by c.walk.ensures ∙ walk-sought a.s.now a.tag a.number in
    sym (ap sought_by c.in-Field.is) ∙ found
