-- `place::has_room` meets its contract.
use mathlib.Core.Path.{sym}
use native.Mathlib.Omega.{arith}
use Rattle.place.specs.Place.{roomy-yes, roomy-outside, roomy-none}
use Rattle.place.proofs.has_room.Goals as goal

pub returns-then-len-from : goal.returns-then-len-from
returns-then-len-from c = sym (roomy-outside _ _ _ _ _ (omega arith))

pub returns-then-len-from-2 : goal.returns-then-len-from-2
returns-then-len-from-2 c = sym (roomy-outside _ _ _ _ _ (omega arith))

pub returns-then-room-at : goal.returns-then-room-at
returns-then-room-at c = sym (roomy-none _ _ _ _ _ (omega arith) (omega arith))

pub returns-then-room-at-2 : goal.returns-then-room-at-2
returns-then-room-at-2 c = sym (roomy-none _ _ _ _ _ (omega arith) (omega arith))

pub returns : goal.returns
returns c = sym (roomy-yes _ _ _ _ _ (omega arith) (omega arith))
