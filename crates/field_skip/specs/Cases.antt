-- Cases of rule F4, computed: the value that fails is named, not the first one.
use Rattle.std.specs.Prelude.{ℕ, ◌≡◌, refl, [], ◌∷◌}
use Rattle.wire.specs.Faults.{looks}
use Rattle.wire.specs.Reading.{varint_at}
use Rattle.wire.specs.Skipping.{past_at, skip_at}
use Rattle.wire.specs.declared.Refusal.TheVariants.{Truncated}
use Rattle.wire.specs.declared.WireType.TheVariants.{Varint, LengthDelimited, ThirtyTwoBit}
use Rattle.wire.specs.declared.Reached.{Reached}
use Rattle.wire.specs.declared.Reached.TheVariants.{Refused}

abbrev cut : ℕ → ℕ → Reached
cut p n = Refused Truncated (record { place = p; bytes = n })

-- four bytes that are not there
pub four-short : skip_at (0x00 ∷ 0x00 ∷ 0x00 ∷ []) 3 0 ThirtyTwoBit ≡ cut 0 0
unfolding skip_at past_at
four-short = refl

-- a length that is too long, one that is cut, and a later one that is cut
pub length-long : skip_at (0x05 ∷ 0x00 ∷ []) 2 0 LengthDelimited ≡ cut 0 0
unfolding skip_at past_at varint_at
length-long = refl

pub length_cut : skip_at (0x80 ∷ []) 1 0 LengthDelimited ≡ cut 0 1
unfolding skip_at past_at varint_at looks
length_cut = refl

pub later-cut : skip_at (0x00 ∷ 0x01 ∷ 0x80 ∷ []) 3 0 Varint ≡ cut 2 1
unfolding skip_at past_at varint_at looks
later-cut = refl
