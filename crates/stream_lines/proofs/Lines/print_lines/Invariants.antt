-- What holds at each turn: what was printed so far.
use Rattle.std.proofs.Common.{length, ◌-◌}
use Rattle.stream_lines.specs.Turns.{memory}
use Rattle.stream_lines.proofs.Going.{Going}
use Rattle.stream_lines.proofs.Lines.print_lines.Given as goal

abbrev pub invariant-loop-s : goal.invariant-loop-s
invariant-loop-s g l =
    Going g.P.Printer.prints g.P.Printer.judges g.P.Printer.ROOM l.block (memory l.initial.self.line l.initial.out l.initial.self.tally l.initial.s)
    (memory l.self.line l.out l.self.tally l.s)

abbrev pub decreases-loop-s : goal.decreases-loop-s
decreases-loop-s g l = length l.block - l.s.at
