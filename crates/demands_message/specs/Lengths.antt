-- The second demand, on lengths and the signed mapping, over pairs of outcomes: what is measured is what is put, and a number mapped comes back. And the
-- table of limits in the source.
use Rattle.std.specs.Prelude.{ℕ, ◌-◌, ◌*◌, ◌%◌, ◌≤◌, ◌<◌, ◌≡◌, Bool, List, length}
use Rattle.std.proofs.Math.Path.{refl}
use Rattle.std.proofs.Common.{ap, ◌∙◌, sym, subst, arith, le-leb}
use Rattle.std.proofs.Math.Bool.{true, false}
use Rattle.std.proofs.lemmas.Bool.{lt-leb}
use Rattle.std.proofs.Math.Dec.{leb}
use Rattle.wire.specs.Numbers.{number_of}
use Rattle.wire.specs.Varint.{encode}
use Rattle.wire.specs.VarintLength.{limit, limits, limit-at, limit-four, up_to}
use Rattle.wire.proofs.VarintLength.{length-limits}
use Rattle.wire.specs.Signed.{to_unsigned, to_signed, signed-unsigned, unsigned_signed}
use Rattle.wire.proofs.Types.{key-length}
use Rattle.wire.specs.declared.Refusal.TheVariants.{NoRoom, OutOfOrder}
use Rattle.wire.specs.declared.WireType.{WireType}
use Rattle.entry_answer.specs.Told.{Number, put_told, key_len_told}
use Rattle.entry_answer.specs.Stores.{Stored, room_for, at_front, at_end}
use Rattle.entry_key.specs.Keys.{key_bytes, key_at_front, key_at_end, key_len}
use Rattle.demands_order.specs.Calls.{Every}
use Rattle.varint_write.proofs.varint_limit.Kinds as varint-limit
use Rattle.varint_write.proofs.varint_limit.Reads as varint-limit-reads
use Rattle.varint_write.proofs.encoded_len_varint.Kinds as encoded-len-varint
use Rattle.varint_write.proofs.encoded_len_varint.Reads as encoded-len-varint-reads
use Rattle.varint_signed.proofs.i64_to_unsigned.Kinds as i64-to-unsigned
use Rattle.varint_signed.proofs.i64_to_unsigned.Reads as i64-to-unsigned-reads
use Rattle.varint_signed.proofs.u64_to_signed.Kinds as u64-to-signed
use Rattle.varint_signed.proofs.u64_to_signed.Reads as u64-to-signed-reads
use Rattle.entry_varint.proofs.encode_varint.Kinds as encode-varint
use Rattle.entry_varint.proofs.encode_varint.Reads as encode-varint-reads
use Rattle.entry_varint.proofs.prepend_varint.Kinds as prepend-varint
use Rattle.entry_varint.proofs.prepend_varint.Reads as prepend-varint-reads
use Rattle.entry_key.proofs.encode_key.Kinds as encode-key
use Rattle.entry_key.proofs.encode_key.Reads as encode-key-reads
use Rattle.entry_key.proofs.prepend_key.Kinds as prepend-key
use Rattle.entry_key.proofs.prepend_key.Reads as prepend-key-reads
use Rattle.entry_key.proofs.key_len.Kinds as key-len
use Rattle.entry_key.proofs.key_len.Reads as key-len-reads

-- ---- THE TABLE IN THE SOURCE: entry i is 128 times the one before it and 128 more, entry 0 is 0, and every entry is a multiple of four

pub table-limits : Every 0 varint-limit.ps varint-limit.r varint-limit-reads.Post (λ κs a x s. a.0 < 9 → (x ≡ limit a.0) × (x % 4 ≡ 0))
table-limits κs a x s p h =
    let e : x ≡ limit a.0 = p ∙ limit-at a.0 h in
    (e, ap (λ (n : ℕ). n % 4) e ∙ limit-four a.0)

-- a number is written as so many bytes as there are limits up to it
pub length-by-limits : Every 0 encoded-len-varint.ps encoded-len-varint.r encoded-len-varint-reads.Post (λ κs a x s. x ≡ up_to a.0 limits)
length-by-limits κs a x s p = p ∙ length-limits a.0

-- ---- what is put, by what is measured: n bytes where there is room for them, and else NoRoom

pub record Measures (n room : ℕ) (put : Number) : Type 0 where
  pub fits : n ≤ room → put ≡ record { number = 0; value = n }
  pub none : room < n → put ≡ record { number = number_of NoRoom; value = 0 }

-- a key that is measured; and one that is refused is refused alike
pub record Agrees (measured : Number) (room : ℕ) (put : Number) : Type 0 where
  pub measures : measured.number ≡ 0 → Measures measured.value room put
  pub refused : (measured.number ≡ 0 → ⊥) → put ≡ measured

-- ---- the laws

room-measures : (b xs c : List ℕ) → Measures (length xs) (length b) (put_told (room_for b xs c).answer)
room-measures b xs c = record { fits = λ h. rw (le-leb (length xs) (length b) h); none = λ h. rw (lt-leb (length xs) (length b) h) }

varint-measures : (f : List ℕ → List ℕ → Stored) → ((b xs : List ℕ) → Measures (length xs) (length b) (put_told (f b xs).answer))
    → (v w n : ℕ) (b : List ℕ) {o : Stored} → n ≡ length (encode v) → o ≡ f b (encode w) → w ≡ v → Measures n (length b) (put_told o.answer)
varint-measures f h v w n b {o} q p e =
    subst (λ (k : ℕ). Measures k (length b) (put_told o.answer)) (sym q)
    (subst (λ (x : Stored). Measures (length (encode v)) (length b) (put_told x.answer)) (sym (p ∙ ap (λ (k : ℕ). f b (encode k)) e)) (h b (encode v)))

front-measures : (b xs : List ℕ) → Measures (length xs) (length b) (put_told (at_front b xs).answer)
unfolding at_front
front-measures b xs = room-measures b xs _

end-measures : (b xs : List ℕ) → Measures (length xs) (length b) (put_told (at_end b xs).answer)
unfolding at_end
end-measures b xs = room-measures b xs _

module _ (last tag : ℕ) (w : WireType) (b : List ℕ) where
  key-bytes : {x : Number} → Measures (length (key_bytes last tag w)) (length b) x → Measures (length (encode (4 * (tag - last)))) (length b) x
  key-bytes {x} h = subst (λ (k : ℕ). Measures k (length b) x) (key-length (tag - last) w) h

  measured-agrees : {x : Number} (n : ℕ) → Measures n (length b) x → Agrees (record { number = 0; value = n }) (length b) x
  measured-agrees n h = record { measures = λ z. h; refused = λ z. absurd (z refl) }

  falls-agrees : Agrees (record { number = number_of OutOfOrder; value = 0 }) (length b) (record { number = number_of OutOfOrder; value = 0 })
  falls-agrees = record { measures = λ z. absurd (omega arith); refused = λ z. refl }

  front-agrees : Agrees (key_len_told (key_len last tag)) (length b) (put_told (key_at_front b last tag w).answer)
  unfolding key_len key_at_front
  front-agrees = go (leb last tag) refl
    where
      go : (t : Bool) → leb last tag ≡ t → Agrees (key_len_told (key_len last tag)) (length b) (put_told (key_at_front b last tag w).answer)
      go true t = rw t (measured-agrees _ (key-bytes (front-measures b (key_bytes last tag w))))
      go false t = rw t falls-agrees

  end-agrees : Agrees (key_len_told (key_len last tag)) (length b) (put_told (key_at_end b last tag w).answer)
  unfolding key_len key_at_end
  end-agrees = go (leb last tag) refl
    where
      go : (t : Bool) → leb last tag ≡ t → Agrees (key_len_told (key_len last tag)) (length b) (put_told (key_at_end b last tag w).answer)
      go true t = rw t (measured-agrees _ (key-bytes (end-measures b (key_bytes last tag w))))
      go false t = rw t falls-agrees

-- ---- OVER OUTCOMES

-- `encoded_len_varint` is what `encode_varint` and `prepend_varint` put
pub encode-varint-measured : Every 0 encoded-len-varint.ps encoded-len-varint.r encoded-len-varint-reads.Post
    (λ κs a n s. Every 1 encode-varint.ps encode-varint.r encode-varint-reads.Post (λ ls b x t. b.0 ≡ a.0 → Measures n (length b.1.0.now) (put_told x)))
encode-varint-measured κs a n s q ls b x t p e = varint-measures at_front front-measures a.0 b.0 n b.1.0.now q p e

pub prepend-varint-measured : Every 0 encoded-len-varint.ps encoded-len-varint.r encoded-len-varint-reads.Post
    (λ κs a n s. Every 1 prepend-varint.ps prepend-varint.r prepend-varint-reads.Post
    (λ ls b x t. b.0 ≡ a.0 → Measures n (length b.1.0.now) (put_told x)))
prepend-varint-measured κs a n s q ls b x t p e = varint-measures at_end end-measures a.0 b.0 n b.1.0.now q p e

-- `key_len` is what `encode_key` and `prepend_key` put, whatever the wire type
pub encode-key-measured : Every 0 key-len.ps key-len.r key-len-reads.Post
    (λ κs a y s. Every 1 encode-key.ps encode-key.r encode-key-reads.Post
    (λ ls b x t. b.0 ≡ a.0 → b.1.0 ≡ a.1.0 → Agrees (key_len_told y) (length b.1.1.1.0.now) (put_told x)))
encode-key-measured κs a y s q ls b x t p e f =
    let u = b.1.1.1.0.now in
    let z = p ∙ ap (λ (n : ℕ). key_at_front u n b.1.0 b.1.1.0) e ∙ ap (λ (n : ℕ). key_at_front u a.0 n b.1.1.0) f in
    rw (q, ap (λ (o : Stored). o.answer) z) (front-agrees a.0 a.1.0 b.1.1.0 u)

pub prepend-key-measured : Every 0 key-len.ps key-len.r key-len-reads.Post
    (λ κs a y s. Every 1 prepend-key.ps prepend-key.r prepend-key-reads.Post
    (λ ls b x t. b.0 ≡ a.0 → b.1.0 ≡ a.1.0 → Agrees (key_len_told y) (length b.1.1.1.0.now) (put_told x)))
prepend-key-measured κs a y s q ls b x t p e f =
    let u = b.1.1.1.0.now in
    let z = p ∙ ap (λ (n : ℕ). key_at_end u n b.1.0 b.1.1.0) e ∙ ap (λ (n : ℕ). key_at_end u a.0 n b.1.1.0) f in
    rw (q, ap (λ (o : Stored). o.answer) z) (end-agrees a.0 a.1.0 b.1.1.0 u)

-- the signed mapping, there and back
pub signed_back : Every 0 i64-to-unsigned.ps i64-to-unsigned.r i64-to-unsigned-reads.Post
    (λ κs a u s. Every 0 u64-to-signed.ps u64-to-signed.r u64-to-signed-reads.Post (λ ls b z t. b.0 ≡ u → z ≡ a.0))
signed_back κs a u s q ls b z t p e = p ∙ ap to_signed (e ∙ q) ∙ signed-unsigned a.0

pub unsigned_back : Every 0 u64-to-signed.ps u64-to-signed.r u64-to-signed-reads.Post
    (λ κs a z s. Every 0 i64-to-unsigned.ps i64-to-unsigned.r i64-to-unsigned-reads.Post (λ ls b u t. b.0 ≡ z → u ≡ a.0))
unsigned_back κs a z s q ls b u t p e = p ∙ ap to_unsigned (e ∙ q) ∙ unsigned_signed a.0
