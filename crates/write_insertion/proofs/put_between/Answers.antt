-- `write_insertion::put_between` meets its contract.
use native.Mathlib.Omega.{arith}
use native.Mathlib.Numerals.{towards_suc}
use lib.ListN.{length-set}
use Rattle.write_insertion.proofs.Turns.{move_start, move-length, move-more, move-done}
use Rattle.write_insertion.proofs.put_between.Goals as goal

pub loop-j-init : goal.loop-j-init
loop-j-init c = move_start _ _ _ c.requires.0 c.requires.1

pub bounds-table-j : goal.bounds-table-j
bounds-table-j c = let w = c.loop-j.invariant in omega (arith, move-length w, w.high, w.roomy)

pub overflow_add-table : goal.overflow_add-table
overflow_add-table c = let w = c.loop-j.invariant in omega (arith, w.high, w.roomy)

pub bounds-table-j-in-loop-j : goal.bounds-table-j-in-loop-j
bounds-table-j-in-loop-j c = let w = c.loop-j.invariant in omega (arith, move-length w, w.high, w.roomy)

pub loop-j-preserved : goal.loop-j-preserved
loop-j-preserved c = move-more c.loop-j.invariant c.loop-j-test.true

pub bounds-table-from : goal.bounds-table-from
bounds-table-from c = let l = move-length c.loop-j.invariant in omega (arith, c.requires.0, c.requires.1)

pub bounds-table-from-2 : goal.bounds-table-from-2
bounds-table-from-2 c = let l = move-length c.loop-j.invariant in simp length-set (omega (arith, c.requires.0, c.requires.1))

pub bounds-table-from-3 : goal.bounds-table-from-3
bounds-table-from-3 c = let l = move-length c.loop-j.invariant in simp length-set (omega (arith, c.requires.0, c.requires.1))

pub bounds-table-from-4 : goal.bounds-table-from-4
bounds-table-from-4 c = let l = move-length c.loop-j.invariant in simp length-set (omega (arith, c.requires.0, c.requires.1))

pub bounds-table-from-5 : goal.bounds-table-from-5
bounds-table-from-5 c = let l = move-length c.loop-j.invariant in simp length-set (omega (arith, c.requires.0, c.requires.1))

pub shape_of-table : goal.shape_of-table
shape_of-table c = simp length-set (move-length c.loop-j.invariant)

pub returns : goal.returns
returns c = simp towards_suc (move-done c.loop-j.invariant c.loop-j-test.false c.args.r)
