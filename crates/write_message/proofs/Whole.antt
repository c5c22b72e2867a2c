-- The whole message: what is known where measuring for a buffer found room, and that the message put there is what was promised.
use Prim.Native.Nat.{ℕ, ◌-◌, ◌≤◌}
use mathlib.Core.Path.{◌≡◌, ap, ◌∙◌, sym}
use mathlib.Core.List.{List}
use native.Mathlib.Omega.{arith}
use lib.ListN.{length}
use Rattle.write_record.specs.Records.{message}
use Rattle.write_message.specs.Writing.{Writes, plan, fitted, Writing, into, front, back}
use Rattle.write_message.specs.WritingLaws.{Ready, plan-writes, into-writes, fitted-at}
use Rattle.wire.specs.declared.Written.{Written}
use Rattle.wire.specs.declared.Written.TheVariants.{At}
use Rattle.place.specs.Place.{put_front, put-end}
use Rattle.place.specs.Spans.{Spans}

module _ (b : List ℕ) (most : ℕ) (s t : List ℕ) (c : ℕ) {w : Written} (e : w ≡ fitted (length b) (plan most s t c)) {z k : ℕ} (f : w ≡ At z k) where
  planned : (bs : List ℕ) × (plan most s t c ≡ Writes bs) × (k ≡ length bs) × (k ≤ length b)
  planned = fitted-at (length b) (plan most s t c) z k e f

  writes : Ready s t c × (planned.0 ≡ message s t c)
  writes = plan-writes most s t c planned.0 planned.1

  size : k ≡ length (message s t c)
  size = planned.2 ∙ ap length writes.1

  pub roomy : Ready s t c × (length (message s t c) ≤ length b)
  roomy = (writes.0, omega (arith, size, planned.3))

  done : (at : List ℕ → Writing) → into b (plan most s t c) at ≡ at (message s t c)
  done at = into-writes b at (planned.1 ∙ ap Writes writes.1) roomy.1

  pub front-done : {n : ℕ} {d : List ℕ} → Spans b 0 n (message s t c) d → record { answer = At 0 n; buf = d } ≡ front b (plan most s t c)
  unfolding front
  front-done {n} {d} v =
      let a : n ≡ length (message s t c) = omega (arith, v.reach) in
      sym (done _ ∙ rw (a, v.is, put_front b (message s t c) roomy.1))

  pub back_done : {n : ℕ} {d : List ℕ} → Spans b n (length b) (message s t c) d → record { answer = At n k; buf = d } ≡ back b (plan most s t c)
  unfolding back
  back_done {n} {d} v =
      let a : n ≡ length b - length (message s t c) = omega (arith, v.reach) in
      sym (done _ ∙ rw (v.is, a, size, put-end b (message s t c) roomy.1))
