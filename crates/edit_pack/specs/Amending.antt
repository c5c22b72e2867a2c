-- One start amended in a table: that record's value word, and no other word.
use Rattle.std.specs.Prelude.{ℕ, ◌+◌, ◌*◌, ◌≤◌, ◌<◌, ◌≡◌, refl, Bool, true, false, List, ltb, get_or}
use Rattle.std.proofs.Common.{ap, ◌∙◌, sym, arith, ltb-true, ltb-false, length-set, get_or-set_other}
use Rattle.std.proofs.Math.Seq.{get_or-set_same}
use Rattle.wire.specs.Limits.{record_words}
use Rattle.wire.specs.Table.{room, record_at}
use Rattle.write_record.specs.Taken.{record_in, record-there, record-none}
use Rattle.wire.specs.declared.Record.{Record}
use Rattle.edit_live.specs.Spans.{span_of, span_in}
use Rattle.edit_live.specs.SpanLaws.{span-live, span-there, Held}
use Rattle.edit_live.specs.declared.Span.{Span}
use Rattle.edit_pack.specs.Packing.{amended}

-- a record with another value word
abbrev pub with_value : Record → ℕ → Record
with_value r v = record { tag = r.tag; kind = r.kind; value = v; length = r.length; key = r.key }

module _ (t : List ℕ) (j p : ℕ) where
  pub amend-room : room (amended t j p) ≡ room t
  amend-room = rw (length-set t (record_words * j + 2) p)

  word-other : (q : ℕ) → (q ≡ record_words * j + 2 → ⊥) → get_or (amended t j p) q 0 ≡ get_or t q 0
  word-other q h = get_or-set_other t (record_words * j + 2) q p 0 h

  row_here : j < room t → record_at (amended t j p) j ≡ with_value (record_at t j) p
  unfolding record_at
  row_here h =
      rw (
        word-other (record_words * j) (λ e. omega arith),
        word-other (record_words * j + 1) (λ e. omega arith),
        get_or-set_same t (record_words * j + 2) p 0 (omega arith),
        word-other (record_words * j + 3) (λ e. omega arith),
        word-other (record_words * j + 4) (λ e. omega arith),
      )

  row_other : (i : ℕ) → (i ≡ j → ⊥) → record_at (amended t j p) i ≡ record_at t i
  unfolding record_at
  row_other i o =
      rw (
        word-other (record_words * i) (λ e. o (omega arith)),
        word-other (record_words * i + 1) (λ e. o (omega arith)),
        word-other (record_words * i + 2) (λ e. o (omega arith)),
        word-other (record_words * i + 3) (λ e. o (omega arith)),
        word-other (record_words * i + 4) (λ e. o (omega arith)),
      )

  pub amend-here : j < room t → record_in (amended t j p) j ≡ with_value (record_in t j) p
  amend-here h =
      record-there (amended t j p) j (omega (arith, amend-room)) ∙ row_here h
      ∙ ap (λ (r : Record). with_value r p) (sym (record-there t j h))

  pub amend-other : (i : ℕ) → (i ≡ j → ⊥) → record_in (amended t j p) i ≡ record_in t i
  amend-other i o = go (ltb i (room t)) refl
    where
      go : (b : Bool) → ltb i (room t) ≡ b → record_in (amended t j p) i ≡ record_in t i
      go false b =
          let h = ltb-false i (room t) b in
          record-none (amended t j p) i (omega (arith, amend-room)) ∙ sym (record-none t i h)
      go true b =
          let h = ltb-true i (room t) b in
          record-there (amended t j p) i (omega (arith, amend-room)) ∙ row_other i o ∙ sym (record-there t i h)

  -- its span
  pub amend-span : (n k : ℕ) → Held n t k j → p + (span_in n t k j).len ≤ n
      → span_in n (amended t j p) k j ≡ record { start = p; len = (span_in n t k j).len }
  amend-span n k w h =
      let l : (span_in n t k j).len ≡ (record_in t j).length = ap (λ (a : Span). a.len) w.span in
      let r = with_value (record_in t j) p in
      span-there n (amended t j p) k j w.other
      ∙ ap (span_of n) (amend-here w.index)
      ∙ span-live n r w.live.payload (λ e. omega (arith, w.live.bytes)) (omega (arith, l))
      ∙ rw l

  pub amend-spans : (n k i : ℕ) → (i ≡ j → ⊥) → span_in n (amended t j p) k i ≡ span_in n t k i
  unfolding span_in
  amend-spans n k i o = rw (amend-other i o)
