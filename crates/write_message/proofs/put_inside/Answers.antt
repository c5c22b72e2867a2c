-- `write_message::put_inside` meets its contract.
use Prim.Native.Nat.{◌+◌, ◌-◌}
use native.Mathlib.Omega.{arith}
use Rattle.place.specs.Spans.{spans-part}
use Rattle.write_message.proofs.Parts.{inside_back}
use Rattle.write_message.proofs.put_inside.Goals as goal

pub returns-then-n-gt32 : goal.returns-then-n-gt32
returns-then-n-gt32 c = (spans-part _ _ _ _ _ c.requires.0 c.requires.1 c.put_bytes.ensures).is

pub returns : goal.returns
returns c =
    inside_back c.args.buf.now c.args.at (c.args.at + c.args.n - c.args.at) c.args.source.now c.args.from
    (c.args.from + c.args.n - c.args.from) c.args.n (omega arith) (omega arith) c.requires.0 c.requires.1
    c.put_part.ensures
