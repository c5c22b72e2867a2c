-- Packing: live payloads moved to the front of the room in order of place, and their starts amended.
use Rattle.std.specs.Prelude.{ℕ, zero, suc, ◌+◌, ◌*◌, Bool, false, List, [], ◌∷◌, ◌++◌, ltb, eqb, length, take, drop, set}
use Rattle.std.proofs.lemmas.List.Edits.{sets}
use Rattle.wire.specs.Choose.{choose}
use Rattle.wire.specs.Limits.{record_words}
use Rattle.write_record.specs.Taken.{record_in}
use Rattle.edit_live.specs.Spans.{end, span_in, next_live}
use Rattle.edit_live.specs.declared.Span.{Span}

-- ---- one payload

-- the bytes of a span
abbrev pub bytes_of : List ℕ → Span → List ℕ
bytes_of s a = take a.len (drop a.start s)

-- record j's payload starts at place p
abbrev pub amended : List ℕ → ℕ → ℕ → List ℕ
amended t j p = set t (record_words * j + 2) p

-- ---- Rule H5: THE LOOP. Over a room s and a table t of c records, record k left out

pub record Packed : Type 0 where
  pub total : ℕ
  pub room : List ℕ
  pub table : List ℕ

-- the index of the next payload from a place on, and its bytes
abbrev pub next_in : ℕ → ℕ → List ℕ → List ℕ → ℕ → ℕ
next_in c k s t from = next_live (length s) c (span_in (length s) t k) from

abbrev pub span_next : ℕ → ℕ → List ℕ → List ℕ → ℕ → Span
span_next c k s t from = span_in (length s) t k (next_in c k s t from)

-- the next from a place on is moved down to another place, then the next behind it, at most m of them
unfoldable pub pack_from : ℕ → ℕ → ℕ → List ℕ → List ℕ → ℕ → ℕ → Packed
pack_from zero c k s t from to = record { total = to; room = s; table = t }
pack_from (suc m) c k s t from to =
    choose (ltb (next_in c k s t from) c)
    (pack_from m c k (sets s to (bytes_of s (span_next c k s t from))) (amended t (next_in c k s t from) to) (end (span_next c k s t from))
    (to + (span_next c k s t from).len))
    (record { total = to; room = s; table = t })

-- a payload with no bytes, of another record than the one left out
unfoldable pub empty_at : List ℕ → ℕ → ℕ → Bool
empty_at t k i = choose (eqb i k) false (choose (eqb (record_in t i).kind 1) (eqb (record_in t i).length 0) false)

-- those of the first records start at 0
abbrev pub cleared : ℕ → ℕ → List ℕ → List ℕ
cleared zero k t = t
cleared (suc i) k t = choose (empty_at (cleared i k t) k i) (amended (cleared i k t) i 0) (cleared i k t)

abbrev pub cleared_of : ℕ → ℕ → Packed → Packed
cleared_of c k p = record { total = p.total; room = p.room; table = cleared c k p.table }

unfoldable pub packed : ℕ → ℕ → List ℕ → List ℕ → Packed
packed c k s t = cleared_of c k (pack_from (length s) c k s t 0 0)

-- ---- THE CLOSED FORMS, over spans by index, the first c of them, in a room of n bytes

-- in order of place from a place on, at most m of them
abbrev pub ordered : ℕ → ℕ → ℕ → (ℕ → Span) → ℕ → List Span
ordered zero n c f from = []
ordered (suc m) n c f from =
    choose (ltb (next_live n c f from) c) (f (next_live n c f from) ∷ ordered m n c f (end (f (next_live n c f from)))) []

-- the bytes of several, behind one another
abbrev pub joined : List ℕ → List Span → List ℕ
joined s [] = []
joined s (a ∷ rest) = bytes_of s a ++ joined s rest

-- how many bytes those have that start before a place
abbrev pub before : ℕ → (ℕ → Span) → ℕ → ℕ
before zero f p = 0
before (suc i) f p = before i f p + choose (ltb (f i).start p) (f i).len 0
