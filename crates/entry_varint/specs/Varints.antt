-- The entries that read varints.
use Rattle.std.specs.Prelude.{ℕ, ◌≡◌, List, length}
use Rattle.std.proofs.Common.{ap, ◌∙◌, sym}
use Rattle.wire.specs.Faults.{looks}
use Rattle.wire.specs.Reading.{varint_at, capped_at}
use Rattle.wire.specs.VarintLaws.{Bytes}
use Rattle.wire.specs.declared.Refusal.{Refusal}
use Rattle.wire.specs.declared.VarintFound.{VarintFound}
use Rattle.wire.specs.declared.VarintFound.TheVariants as varint_found
use Rattle.fault.specs.Short.{up_to_nine, looks-min, refused-capped}
use Rattle.entry_answer.specs.Gate.{gated, through}
use Rattle.entry_answer.specs.declared.VarintRead.{VarintRead}
use Rattle.entry_answer.specs.declared.VarintRead.TheVariants.{Got, Refused}

-- Rules R5 and F1: a refusal answers the place given, and how many bytes were looked at
abbrev pub varint_read : List ℕ → ℕ → VarintFound → VarintRead
varint_read s at (varint_found.Got v q) = Got v q
varint_read s at (varint_found.Refused r) = Refused r at (looks s at)

unfoldable pub decode_varint : List ℕ → ℕ → VarintRead
decode_varint s at = through (gated (length s) at (length s)) (λ r. Refused r at 0) (varint_read s at (varint_at s at))

unfoldable pub decode_varint_capped : List ℕ → ℕ → ℕ → VarintRead
decode_varint_capped s at e = through (gated (length s) at e) (λ r. Refused r at 0) (varint_read s at (capped_at s e at))

-- a refusal, and the number of bytes by the short way
module _ (s : List ℕ) (at : ℕ) (b : Bytes s) {r : Refusal} {n : ℕ} (h : n ≡ up_to_nine (length s) at) where
  pub read-refused : varint_at s at ≡ varint_found.Refused r → Refused r at n ≡ varint_read s at (varint_at s at)
  read-refused o = ap (Refused r at) (h ∙ sym (looks-min s at r b o)) ∙ sym (ap (varint_read s at) o)

  pub capped_refused : (e : ℕ) → capped_at s e at ≡ varint_found.Refused r → Refused r at n ≡ varint_read s at (capped_at s e at)
  capped_refused e o =
      let x = refused-capped s at e r o in
      ap (Refused r at) (h ∙ sym (looks-min s at x.0 b x.1)) ∙ sym (ap (varint_read s at) o)
