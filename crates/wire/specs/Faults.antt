-- Where a read that failed began, and how many bytes of a varint it looked at (rules F1, F2 and F6). Crate `fault` carries both up, field by field.
use Rattle.std.specs.Prelude.{ℕ, ◌-◌, List, length, drop}
use Rattle.wire.specs.Varint.{Sum, Adds, Stops, sum}
use Rattle.wire.specs.declared.Fault.{Fault}

-- Rule F1: a varint that runs out looked at the bytes up to the slice's end; any other that is refused, at nine
abbrev pub looks_of : ℕ → Sum → ℕ
looks_of left (Adds v n) = 9
looks_of left Stops = left

unfoldable pub looks : List ℕ → ℕ → ℕ
looks s p = looks_of (length s - p) (sum 8 (drop p s))

-- Rule F2: a varint at place p that is refused
abbrev pub varint_fault : List ℕ → ℕ → Fault
varint_fault s p = record { place = p; bytes = looks s p }

-- Rule F2: a read from place p that fails otherwise
abbrev pub plain_fault : ℕ → Fault
plain_fault p = record { place = p; bytes = 0 }

-- Rule F6: no read failed
abbrev pub nowhere : Fault
nowhere = record { place = 0; bytes = 0 }
