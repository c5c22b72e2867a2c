-- A turn takes a line and prints it, or keeps the part that the block ends in.
use Rattle.std.proofs.Common.{arith, rules}
use Rattle.stream_lines.proofs.Going.{taken_as, go-done, go-part, go-less, go-line}
use Rattle.stream_lines.proofs.Lines.print_lines.Goals as goal

pub returns-then-out-s-clause-turns : goal.returns-then-out-s-clause-turns
returns-then-out-s-clause-turns g c = go-done c.loop-s.invariant

pub returns-in-Part-clause-turns : goal.returns-in-Part-clause-turns
returns-in-Part-clause-turns g c = go-part c.loop-s.invariant (taken_as c.in-Part.is c.take_line.ensures) (search rules)

pub loop-s-smaller : goal.loop-s-smaller
loop-s-smaller g c =
    let w = go-less c.loop-s.invariant (taken_as c.in-Line.is c.take_line.ensures) in
    omega (arith, w.0, w.1, c.report-s.ensures.place)

pub loop-s-preserved : goal.loop-s-preserved
loop-s-preserved g c =
    go-line c.loop-s.invariant (omega (arith, c.ROOM.ensures, c.if-out-s.false)) (taken_as c.in-Line.is c.take_line.ensures) (search rules)
    c.report-s.ensures.printed c.report-s.ensures.place

pub returns-clause-turns : goal.returns-clause-turns
returns-clause-turns g c = go-done c.loop-s.invariant
