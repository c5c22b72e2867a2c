-- Two words of a record.
use native.Mathlib.Omega.{arith}
use native.Mathlib.Numerals.{towards_suc}
use lib.ListN.{length-set}
use Rattle.edit.proofs.set_payload.Goals as goal

pub bounds-table-i-2 : goal.bounds-table-i-2
bounds-table-i-2 c = simp length-set (omega (arith, c.requires))

pub returns : goal.returns
returns c = simp towards_suc
