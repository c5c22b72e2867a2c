-- The whole run: what is known where measuring for a buffer found room, and that the run put there is what was promised.
use Prim.Native.Nat.{ℕ, ◌≤◌}
use mathlib.Core.Path.{◌≡◌, ap, ◌∙◌, sym}
use mathlib.Core.List.{List}
use native.Mathlib.Omega.{arith}
use lib.ListN.{length}
use Rattle.write_message.specs.Writing.{Writes, fitted, front}
use Rattle.write_message.specs.WritingLaws.{into-writes, fitted-at}
use Rattle.wire.specs.declared.Written.{Written}
use Rattle.wire.specs.declared.Written.TheVariants.{At}
use Rattle.place.specs.Place.{put_front}
use Rattle.place.specs.Spans.{Spans}
use Rattle.run_write.specs.RunPlan.{run_bytes, run_plan}
use Rattle.run_write.specs.RunLaws.{Ready, plan-writes}

module _ (b : List ℕ) (most : ℕ) (s t : List ℕ) (c k : ℕ) {w : Written} (e : w ≡ fitted (length b) (run_plan most s t c k)) {z n : ℕ} (f : w ≡ At z n) where
  planned : (bs : List ℕ) × (run_plan most s t c k ≡ Writes bs) × (n ≡ length bs) × (n ≤ length b)
  planned = fitted-at (length b) (run_plan most s t c k) z n e f

  writes : Ready s t c k × (planned.0 ≡ run_bytes s t c)
  writes = plan-writes most s t c k planned.0 planned.1

  pub roomy : Ready s t c k × (length (run_bytes s t c) ≤ length b)
  roomy = (writes.0, omega (arith, planned.2, ap length writes.1, planned.3))

  pub front-done : {m : ℕ} {d : List ℕ} → Spans b 0 m (run_bytes s t c) d → record { answer = At 0 m; buf = d } ≡ front b (run_plan most s t c k)
  unfolding front
  front-done {m} {d} v =
      let a : m ≡ length (run_bytes s t c) = omega (arith, v.reach) in
      sym (into-writes b _ (planned.1 ∙ ap Writes writes.1) roomy.1 ∙ rw (a, v.is, put_front b (run_bytes s t c) roomy.1))
