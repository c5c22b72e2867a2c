use Prim.Native.Nat.{ℕ, ◌*◌, ◌/◌, ◌%◌, ◌<◌, ◌^◌}
use mathlib.Core.Path.{◌≡◌}
use lib.IntN.{pos, ◌-ℤ◌}
use mir.Syntax.{w64}
use mir.Val.{SFits, to_z, of_z}
use native.Mathlib.Omega.{arith}
use Rattle.varint_signed.proofs.Signed as S
use Rattle.replay.proofs.fields.signed.Goals as goal

-- h is half of its double, of which varint's laws speak
twice : (h : ℕ) → 2 * h / 2 ≡ h
twice h = omega arith

neg : (h : ℕ) → h < 2 ^ 63 → SFits w64 (pos 0 -ℤ to_z w64 h)
neg h f = rw (twice h) at (S.neg-fits (2 * h) (omega arith))

less : (h : ℕ) → h < 2 ^ 63 → SFits w64 (to_z w64 (of_z w64 (pos 0 -ℤ to_z w64 h)) -ℤ pos 1)
less h f = rw (twice h) at (S.less-fits (2 * h) (omega arith))

pub overflow_sub-result : goal.overflow_sub-result
overflow_sub-result c = neg (c.args.size % 0x8000_0000_0000_0000) (omega arith)

pub overflow_sub-result-else-sign-eq0 : goal.overflow_sub-result-else-sign-eq0
overflow_sub-result-else-sign-eq0 c = less (c.args.size % 0x8000_0000_0000_0000) (omega arith)
