-- `place::put_bytes` meets its contract.
use mathlib.Core.Path.{◌≡◌, ◌∙◌, sym}
use mathlib.Core.Bool.{true}
use native.Mathlib.Omega.{arith}
use lib.ListN.{length}
use Rattle.place.specs.Place.{roomy, roomy-there, roomy-kept}
use borrow.Author.Rules.{rules}
use Rattle.place.proofs.put_bytes.Goals as goal

pub put_few-requires : goal.put_few-requires
put_few-requires c =
    let there : roomy (length c.args.bytes.now) c.args.from (length c.args.buf.now) c.args.at c.args.n ≡ true = sym c.has_room.ensures ∙ c.if-has_room.true in
    let r = roomy-there _ _ _ _ _ there in (c.if-n-le32.true, r.0, r.1)

pub put_many-requires : goal.put_many-requires
put_many-requires c =
    let there : roomy (length c.args.bytes.now) c.args.from (length c.args.buf.now) c.args.at c.args.n ≡ true = sym c.has_room.ensures ∙ c.if-has_room.true in
    let r = roomy-there _ _ _ _ _ there in (omega (arith, c.if-n-le32.false), r.0, r.1)

pub returns : goal.returns
returns c = sym (roomy-kept _ _ _ _ _ (sym c.has_room.ensures ∙ c.if-has_room.false))
