-- The entries on keys: a refused reader answers the place and the last tag that it was given (rule R5), and where the read failed (rules F2 and F6).
use Rattle.std.specs.Prelude.{ℕ, ◌+◌, ◌-◌, ◌*◌, ◌≤◌, ◌<◌, ◌≡◌, List, leb, length}
use Rattle.std.proofs.Common.{ap, ◌∙◌, sym, le-leb}
use Rattle.std.proofs.lemmas.Bool.{lt-leb}
use Rattle.wire.specs.Choose.{choose}
use Rattle.wire.specs.Numbers.{kind_of}
use Rattle.wire.specs.Varint.{encode}
use Rattle.wire.specs.Faults.{nowhere}
use Rattle.wire.specs.Reading.{key_at}
use Rattle.wire.specs.VarintLaws.{Bytes}
use Rattle.wire.specs.declared.Fault.{Fault}
use Rattle.wire.specs.declared.Refusal.{Refusal}
use Rattle.wire.specs.declared.Refusal.TheVariants.{OutOfOrder}
use Rattle.wire.specs.declared.WireType.{WireType}
use Rattle.wire.specs.declared.KeyFound.{KeyFound}
use Rattle.wire.specs.declared.KeyFound.TheVariants as key_found
use Rattle.fault.specs.Fault.{key_fault}
use Rattle.fault.specs.Short.{key_short, key-short}
use Rattle.entry_answer.specs.Gate.{gated, through}
use Rattle.entry_answer.specs.Stores.{Stored, at_front, at_end}
use Rattle.entry_answer.specs.declared.Put.TheVariants as put
use Rattle.entry_answer.specs.declared.KeyRead.{KeyRead}
use Rattle.entry_answer.specs.declared.KeyRead.TheVariants as key_read
use Rattle.entry_answer.specs.declared.KeyLength.{KeyLength}
use Rattle.entry_answer.specs.declared.KeyLength.TheVariants as measured

-- ---- read

abbrev pub key_answer : List ℕ → ℕ → ℕ → KeyFound → KeyRead
key_answer s at last (key_found.Got k q) = key_read.Got k q
key_answer s at last (key_found.Refused r) = key_read.Refused r at last (key_fault s at)

unfoldable pub decode_key : List ℕ → ℕ → ℕ → ℕ → KeyRead
decode_key s at e last = through (gated (length s) at e) (λ r. key_read.Refused r at last nowhere) (key_answer s at last (key_at s e at last))

-- a refusal, and where it failed by the short way
pub key-refused : (s : List ℕ) (e at last : ℕ) {r : Refusal} {f : Fault} → Bytes s → f ≡ key_short r (length s) at → key_at s e at last ≡ key_found.Refused r
    → key_read.Refused r at last f ≡ key_answer s at last (key_at s e at last)
key-refused s e at last {r} b h o = ap (key_read.Refused r at last) (h ∙ sym (key-short s e at last r o b)) ∙ sym (ap (key_answer s at last) o)

-- ---- written (rule E5): a tag below the last one is OutOfOrder, and the buffer stays (rule R8)

-- Rule K1: a key's bytes
abbrev pub key_bytes : ℕ → ℕ → WireType → List ℕ
key_bytes last tag w = encode (4 * (tag - last) + kind_of w)

unfoldable pub key_at_front : List ℕ → ℕ → ℕ → WireType → Stored
key_at_front b last tag w = choose (leb last tag) (at_front b (key_bytes last tag w)) (record { answer = put.Refused OutOfOrder; buf = b })

unfoldable pub key_at_end : List ℕ → ℕ → ℕ → WireType → Stored
key_at_end b last tag w = choose (leb last tag) (at_end b (key_bytes last tag w)) (record { answer = put.Refused OutOfOrder; buf = b })

-- Rules E6 and K5: measured without its wire type, which never changes the length
unfoldable pub key_len : ℕ → ℕ → KeyLength
key_len last tag = choose (leb last tag) (measured.Length (length (encode (4 * (tag - last))))) (measured.Refused OutOfOrder)

-- the two cases of each: the tag falls, or the order is held
module _ (b : List ℕ) (last tag : ℕ) (w : WireType) where
  pub front-falls : tag < last → key_at_front b last tag w ≡ record { answer = put.Refused OutOfOrder; buf = b }
  unfolding key_at_front
  front-falls h = rw (lt-leb last tag h)

  pub front-order : last ≤ tag → key_at_front b last tag w ≡ at_front b (key_bytes last tag w)
  unfolding key_at_front
  front-order h = rw (le-leb last tag h)

  pub end_falls : tag < last → key_at_end b last tag w ≡ record { answer = put.Refused OutOfOrder; buf = b }
  unfolding key_at_end
  end_falls h = rw (lt-leb last tag h)

  pub end-order : last ≤ tag → key_at_end b last tag w ≡ at_end b (key_bytes last tag w)
  unfolding key_at_end
  end-order h = rw (le-leb last tag h)

pub len-falls : (last tag : ℕ) → tag < last → key_len last tag ≡ measured.Refused OutOfOrder
unfolding key_len
len-falls last tag h = rw (lt-leb last tag h)

pub len-order : (last tag : ℕ) → last ≤ tag → key_len last tag ≡ measured.Length (length (encode (4 * (tag - last))))
unfolding key_len
len-order last tag h = rw (le-leb last tag h)
