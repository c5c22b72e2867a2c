-- Live payloads of a working copy: where each lies in the room, and what is asked of all of them. Over spans by index, the first c of them.
use Rattle.std.specs.Prelude.{ℕ, zero, suc, ◌+◌, max, Bool, true, false, List, Option, None, Some, ltb, leb, eqb}
use Rattle.wire.specs.Choose.{choose}
use Rattle.wire.specs.Limits.{no_key}
use Rattle.write_record.specs.Taken.{record_in}
use Rattle.wire.specs.declared.Record.{Record}
use Rattle.edit_live.specs.declared.Span.{Span}

-- the place behind a span's last byte
abbrev pub end : Span → ℕ
end a = a.start + a.len

-- no bytes, at place 0
abbrev pub no_span : Span
no_span = record { start = 0; len = 0 }

-- Rule H1: the bytes of a record in a room of n bytes, if it is a payload with bytes and lies inside; else none
unfoldable pub span_of : ℕ → Record → Span
span_of n r =
    choose (eqb r.kind 1)
    (choose (eqb r.length 0) no_span (choose (leb (r.value + r.length) n) (record { start = r.value; len = r.length }) no_span))
    no_span

-- those of record i of a table, record k left out
unfoldable pub span_in : ℕ → List ℕ → ℕ → ℕ → Span
span_in n t k i = choose (eqb i k) no_span (span_of n (record_in t i))

-- ---- overlaps

-- some byte is in both
abbrev pub meets : Span → Span → Bool
meets a b = choose (ltb a.start (end b)) (ltb b.start (end a)) false

abbrev pub meets_any : ℕ → (ℕ → Span) → Span → Bool
meets_any zero f a = false
meets_any (suc i) f a = choose (meets_any i f a) true (meets (f i) a)

-- the least index of the first c at which a test says yes; c where it never does
unfoldable pub first_where : ℕ → (ℕ → Bool) → ℕ
first_where zero p = 0
first_where (suc j) p = choose (ltb (first_where j p) j) (first_where j p) (choose (p j) j (suc j))

-- what is answered of such an index: none where it is not below c
abbrev pub found : ℕ → ℕ → Option ℕ
found c i = choose (ltb i c) (Some i) None

-- Rule H2: the least index whose span meets that of an earlier index; c where none does
abbrev pub first_overlap : ℕ → (ℕ → Span) → ℕ
first_overlap c f = first_where c (λ j. meets_any j f (f j))

-- ---- key words

unfoldable pub keyed_at : List ℕ → ℕ → Bool
keyed_at t i = choose (eqb (record_in t i).key no_key) false true

-- Rule H3: the least index whose key word is not all ones; c where there is none
abbrev pub first_keyed : ℕ → List ℕ → ℕ
first_keyed c t = first_where c (keyed_at t)

-- ---- ends and sums

-- the largest end; 0 where there is none
abbrev pub last_end : ℕ → (ℕ → Span) → ℕ
last_end zero f = 0
last_end (suc i) f = max (last_end i f) (end (f i))

-- all bytes
abbrev pub total : ℕ → (ℕ → Span) → ℕ
total zero f = 0
total (suc i) f = total i f + (f i).len

-- ---- in order of place

-- a span with bytes from a place on that starts below another place
abbrev pub nearer : Span → ℕ → ℕ → Bool
nearer a from low = choose (ltb 0 a.len) (choose (leb from a.start) (ltb a.start low) false) false

pub record Nearest : Type 0 where
  pub index : ℕ
  pub start : ℕ

-- the first of those with the least start from a place on; the two numbers given where there is none
abbrev pub seek : ℕ → ℕ → ℕ → (ℕ → Span) → ℕ → Nearest
seek n none zero f from = record { index = none; start = n }
seek n none (suc i) f from =
    choose (nearer (f i) from (seek n none i f from).start) (record { index = i; start = (f i).start }) (seek n none i f from)

-- Rule H5: the index of the first of those with the least start from a place on, in a room of n bytes; c where there is none
unfoldable pub next_live : ℕ → ℕ → (ℕ → Span) → ℕ → ℕ
next_live n c f from = (seek n c c f from).index
