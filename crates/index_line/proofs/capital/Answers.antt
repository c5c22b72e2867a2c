-- Four runs of characters.
use mathlib.Core.Path.{sym}
use native.Mathlib.Omega.{arith}
use Rattle.index_line.specs.Chars.{capital-low, capital-figure, capital-between}
use Rattle.index_line.proofs.Turns.{capital-last}
use Rattle.index_line.proofs.capital.Goals as goal

pub returns-then-c-lt48 : goal.returns-then-c-lt48
returns-then-c-lt48 c = sym (capital-low _ c.if-c-lt48.true)

pub returns-then-c-le57 : goal.returns-then-c-le57
returns-then-c-le57 c = sym (capital-figure _ c.if-c-lt48.false (omega (arith, c.if-c-le57.true)))

pub returns-then-c-lt65 : goal.returns-then-c-lt65
returns-then-c-lt65 c = sym (capital-between _ (omega (arith, c.if-c-le57.false)) c.if-c-lt65.true)

pub returns : goal.returns
returns c = capital-last _ c.if-c-lt65.false
