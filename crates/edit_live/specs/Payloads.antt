-- The bytes of each record of a table, as spans by index.
use Rattle.std.specs.Prelude.{ℕ}
use Rattle.edit_live.specs.Spans.{span_in}
use Rattle.edit_live.specs.declared.Payloads.{Payloads}
use Rattle.edit_live.specs.declared.Span.{Span}

abbrev pub spans : Payloads → ℕ → Span
spans p = span_in p.size p.table.now p.skip
