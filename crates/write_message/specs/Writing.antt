-- What a writer does: what is to be written, or why nothing is; what is answered, and what the buffer then holds.
use Rattle.std.specs.Prelude.{ℕ, ◌-◌, List, ◌++◌, leb, length, take, drop}
use Rattle.wire.specs.Choose.{choose}
use Rattle.write_record.specs.Records.{Verdict, AllFine, First, checked, message}
use Rattle.wire.specs.declared.Refusal.{Refusal}
use Rattle.wire.specs.declared.Refusal.TheVariants.{TooLong, NoRoom}
use Rattle.wire.specs.declared.Weighed.{Weighed}
use Rattle.wire.specs.declared.Weighed.TheVariants as weighed
use Rattle.wire.specs.declared.Written.{Written}
use Rattle.wire.specs.declared.Written.TheVariants.{At, Refused}

-- ---- what is to be written, or the first refusal and the number that it carries

pub data Plan : Type 0 where
  Writes : List ℕ → Plan
  Refuses : Refusal → ℕ → Plan

-- Rule R6: the tests of the records, then 4 for the output
abbrev pub passed : ℕ → List ℕ → Verdict → Plan
passed most bs AllFine = choose (leb (length bs) most) (Writes bs) (Refuses TooLong 0)
passed most bs (First r i) = Refuses r i

-- the first c records of a table over a source, where most bytes may be read and may be written
unfoldable pub plan : ℕ → List ℕ → List ℕ → ℕ → Plan
plan most s t c = passed most (message s t c) (checked most s t c)

-- ---- what is answered

-- Rule R7: a refusal that is not 5 answers the number that it carries, and length 0
abbrev pub refused : Refusal → ℕ → Written
refused r i = Refused r i 0

-- Rule R7: bytes that a buffer has no room for: 0, and how many they are
abbrev pub no_room : List ℕ → Written
no_room bs = Refused NoRoom 0 (length bs)

-- how long it is, before a buffer is looked at: 0 and the length
unfoldable pub measured : Plan → Written
measured (Writes bs) = At 0 (length bs)
measured (Refuses r i) = refused r i

-- Rule R6: the same for a buffer of n bytes: 5 behind all else
unfoldable pub fitted : ℕ → Plan → Written
fitted n (Writes bs) = choose (leb (length bs) n) (At 0 (length bs)) (no_room bs)
fitted n (Refuses r i) = refused r i

-- ---- what is left in a buffer: a refusal leaves it as it was (rule R2)

pub record Writing : Type 0 where
  pub answer : Written
  pub buf : List ℕ

abbrev pub into : List ℕ → Plan → (List ℕ → Writing) → Writing
into b (Writes bs) done = choose (leb (length bs) (length b)) (done bs) (record { answer = no_room bs; buf = b })
into b (Refuses r i) done = record { answer = refused r i; buf = b }

-- Rules E2, E3 and E4: the bytes first, or last, and every other byte as it was; where they start, and how many they are
unfoldable pub front : List ℕ → Plan → Writing
front b p = into b p (λ bs. record { answer = At 0 (length bs); buf = bs ++ drop (length bs) b })

unfoldable pub back : List ℕ → Plan → Writing
back b p = into b p (λ bs. record { answer = At (length b - length bs) (length bs); buf = take (length b - length bs) b ++ bs })

-- ---- how the bytes are counted: down from a budget, and not below 0

abbrev pub spent : ℕ → ℕ → Verdict → Weighed
spent budget n AllFine = weighed.Left (budget - n)
spent budget n (First r i) = weighed.First r i
