-- Fields put behind another tag, and the whole result: what the calls say, joined.
use Prim.Native.Nat.{ℕ, ◌+◌, ◌-◌, ◌*◌, ◌≤◌, ◌<◌}
use mathlib.Core.Path.{◌≡◌, refl, ap, ◌∙◌, sym}
use mathlib.Core.Bool.{Bool, true, false}
use mathlib.Core.List.{List}
use native.Mathlib.Omega.{arith}
use borrow.Author.Tests.{leb-true}
use lib.Dec.{leb}
use lib.ListN.{length, length-append}
use Rattle.wire.specs.Choose.{choose}
use Rattle.wire.specs.Limits.{message_limit}
use Rattle.wire.specs.Numbers.{kind_of}
use Rattle.wire.specs.Varint.{encode}
use Rattle.wire.specs.VarintLaws.{Bytes}
use Rattle.wire.specs.Places.{part}
use Rattle.wire.specs.Reading.{key_at}
use Rattle.wire.specs.declared.Refusal.TheVariants.{TooLong, NoRoom}
use Rattle.wire.specs.declared.Key.{Key}
use Rattle.wire.specs.declared.KeyFound.TheVariants as key_found
use Rattle.place.specs.Place.{Placed, put_at, put_part, put_front}
use Rattle.place.specs.Spans.{Spans, spans-length, spans-as, spans-put, spans-part, spans-behind}
use Rattle.entry_answer.specs.declared.Put.TheVariants as put
use Rattle.correct_write.specs.Corrected.{write_corrected, write-long, write-no-room, write_done}
use Rattle.correct_write.specs.Rests.{items_from}
use Rattle.correct_write.specs.Moving.{moved, Run, moved-key, run-key, length-between}
use Rattle.correct_write.specs.Turning.{left, result_bytes}
use Rattle.correct_write.specs.Accepting.{Entered}
use Rattle.correct_write.specs.Applied.{taken-means, result-short}

-- a key, then what stands behind the old one
module _ {s : List ℕ} {p last end : ℕ} (w : Run s p last end) (b : List ℕ) (to out : ℕ) (a : p < end)
    (k : Key) (q : ℕ) (h : key_at s (length s) p last ≡ key_found.Got k q) (l : to + length (moved s p last end out) ≤ length b) where
  size : length (moved s p last end out) ≡ length (encode (4 * (k.tag - out) + kind_of k.wire)) + (end - q)
  size =
      ap length (moved-key s p last end out a k q h)
      ∙ length-append (encode (4 * (k.tag - out) + kind_of k.wire)) (part s q end)
      ∙ ap (λ (n : ℕ). length (encode (4 * (k.tag - out) + kind_of k.wire)) + n) (length-between s q end w.inside)

  pub put-stretch : {n m : ℕ} {c d : List ℕ}
      → ◌≡◌ {A = Placed} (record { next = n; buf = c }) (put_at b to (encode (4 * (k.tag - out) + kind_of k.wire)))
      → ◌≡◌ {A = Placed} (record { next = m; buf = d }) (put_part c n s q (end - q))
      → Spans b to m (moved s p last end out) d
  put-stretch {n} {m} {c} {d} e f =
      let r = run-key w a k q h in
      let v = spans-put b to (encode (4 * (k.tag - out) + kind_of k.wire)) (omega (arith, l, size)) e in
      let u = spans-part c n s q (end - q) (omega (arith, r.1, w.inside)) (omega (arith, l, size, v.reach, spans-length v)) f in
      spans-as (moved-key s p last end out a k q h) (spans-behind v u)

-- a number of bytes that is within the limit and has room
pub ample : (n m : ℕ) → choose (leb n message_limit) (leb n m) false ≡ true → (n ≤ message_limit) × (n ≤ m)
ample n m h = go (leb n message_limit) refl
  where
    go : (t : Bool) → leb n message_limit ≡ t → (n ≤ message_limit) × (n ≤ m)
    go true t = (leb-true n message_limit t, leb-true n m (rw t at h))
    go false t = let z : false ≡ true = rw t at h in absurd (let y : ◌≡◌ {A = ℕ} 0 1 = cc in omega arith)

-- both messages are accepted: the result is no longer than the two
pub whole-short : {o c : List ℕ} → Entered o → Entered c → Bytes o → Bytes c → length (result_bytes o c) ≤ length o + length c
unfolding left
whole-short {o} {c} w v x y = result-short (taken-means o (items_from o 0 0) x w.items) (taken-means c (items_from c 0 0) y v.items)

-- both messages are accepted, and n is the length of the result
module _ {o c : List ℕ} (w : Entered o) (v : Entered c) (b : List ℕ) {n : ℕ} (e : n ≡ length (result_bytes o c)) where
  pub whole_long : message_limit < n → record { answer = put.Refused TooLong; buf = b } ≡ write_corrected o c b
  unfolding left
  whole_long l = sym (write-long o c b (items_from o 0 0) w.items (items_from c 0 0) v.items (omega (arith, e, l)))

  module _ (l : n ≤ message_limit) where
    pub whole-none : length b < n → record { answer = put.Refused NoRoom; buf = b } ≡ write_corrected o c b
    unfolding left
    whole-none h =
        sym (write-no-room o c b (items_from o 0 0) w.items (items_from c 0 0) v.items (omega (arith, e, l)) (omega (arith, e, h)))

    pub whole-done : n ≤ length b → {m : ℕ} {d : List ℕ} → Spans b 0 m (result_bytes o c) d → record { answer = put.Done m; buf = d } ≡ write_corrected o c b
    unfolding left
    whole-done h {m} {d} x =
        let z : m ≡ length (result_bytes o c) = omega (arith, x.reach) in
        let r : length (result_bytes o c) ≤ length b = omega (arith, e, h) in
        sym
        (write_done o c b (items_from o 0 0) w.items (items_from c 0 0) v.items (omega (arith, e, l)) r
        ∙ rw (z, x.is, put_front b (result_bytes o c) r))
