-- What is answered, by the tests in their order.
use Prim.Native.Nat.{ℕ, ◌+◌, ◌-◌, ◌*◌, ◌/◌, ◌^◌, ◌≤◌, ◌<◌}
use mathlib.Core.Path.{◌≡◌, refl, ap, ◌∙◌, sym}
use mathlib.Core.Bool.{Bool, true, false}
use mathlib.Core.List.{List, ◌++◌}
use native.Mathlib.Omega.{arith}
use native.Mathlib.Nat.{mul_comm, div-lt_iff_lt-mul, le-div_iff_mul-le}
use borrow.Author.Tests.{leb-true}
use lib.ListN.{length, drop, get_or}
use lib.Dec.{leb}
use Rattle.wire.specs.Choose.{both}
use Rattle.wire.specs.declared.Refusal.TheVariants.{NoRoom, BadIndex}
use Rattle.place.specs.Place.{Placed, put_at, put_front}
use Rattle.place.specs.Spans.{Spans, spans-put, spans-length, spans-behind}
use Rattle.text_digits.specs.Digits.{digits}
use Rattle.text_digits.specs.DigitLaws.{length_digits}
use Rattle.entry_answer.specs.declared.Put.TheVariants as put
use Rattle.entry_answer.specs.declared.Indexed.TheVariants as indexed_as
use Rattle.index.specs.Index.{index_words, room, indexed, entries_from, sound_index, length_from, outcome}
use Rattle.index_line.specs.Line.{head_digits, width, spelled_all, line_of, sound_entries, write_line, line-unsound, line-no-room, line-done}
use Rattle.index_line.specs.Line.{tags_in, entries_of, spelled_well, accepted, accepted-not, accepted-as}
use Rattle.index_line.specs.Line.{read_line, read-bad, read-no-room, read_done, old_limit, read_either, either-new, either-old, either-late, either-none}
use Rattle.index_line.specs.Spelling.{length-spelled-all, length-entries, well-length, well-short, well-second}
use Rattle.index_line.specs.Lines.{length-written}

-- ---- written

module _ (edition w : ℕ) (t : List ℕ) (n : ℕ) (b : List ℕ) where
  module _ {places : ℕ} (q : places ≡ 16 ^ w) {r : Bool} (e : r ≡ sound_index t n places (places - 1)) where
    sounds : sound_index t n (16 ^ w) (16 ^ w - 1) ≡ r
    sounds = sym (e ∙ ap (λ (x : ℕ). sound_index t n x (x - 1)) q)

    pub answer-unsound : r ≡ false → record { answer = put.Refused BadIndex; buf = b } ≡ write_line edition w t n b
    answer-unsound h = sym (line-unsound edition w t n b (sounds ∙ h))

    module _ (h : r ≡ true) where
      no_room : length b < head_digits + width w * n → record { answer = put.Refused NoRoom; buf = b } ≡ write_line edition w t n b
      no_room g = sym (line-no-room edition w t n b (sounds ∙ h) (omega (arith, length-written edition w t n)))

      pub answer-short : length b < head_digits → record { answer = put.Refused NoRoom; buf = b } ≡ write_line edition w t n b
      answer-short g = no_room (omega arith)

      pub answer-no-room : (length b - head_digits) / width w < n → record { answer = put.Refused NoRoom; buf = b } ≡ write_line edition w t n b
      answer-no-room g =
          let d : length b - head_digits < n * width w = (div-lt_iff_lt-mul {k = width w} (omega arith)).0 g in
          no_room (omega (arith, d, mul_comm n (width w)))

      module _ (g : head_digits ≤ length b) (f : n ≤ (length b - head_digits) / width w) where
        has_room : head_digits + width w * n ≤ length b
        has_room =
            let d : n * width w ≤ length b - head_digits = (le-div_iff_mul-le {k = width w} (omega arith)).0 f in
            omega (arith, d, mul_comm n (width w))

        has-entries : index_words * n ≤ length t
        unfolding sound_index
        has-entries = omega (arith, leb-true n (room t) (both (leb n (room t)) (sound_entries w (entries_from n t 0)) (sounds ∙ h)).0)

        module _ {p : ℕ} {c : List ℕ} (x : ◌≡◌ {A = Placed} (record { next = p; buf = c }) (put_at b 0 (digits 16 head_digits edition))) where
          head : Spans b 0 p (digits 16 head_digits edition) c
          head = spans-put b 0 (digits 16 head_digits edition) (omega (arith, g, length_digits 16 head_digits edition)) x

          pub answer-ready : (index_words * n ≤ length t) × (p + width w * n ≤ length c)
          answer-ready = (has-entries, omega (arith, has_room, head.reach, spans-length head, length_digits 16 head_digits edition))

          pub answer-done : {q : ℕ} {d : List ℕ} → ◌≡◌ {A = Placed} (record { next = q; buf = d }) (put_at c p (spelled_all w (entries_from n t 0)))
              → record { answer = put.Done q; buf = d } ≡ write_line edition w t n b
          answer-done {q} {d} y =
              let es = entries_from n t 0 in
              let l = line_of edition w es in
              let k : length (spelled_all w es) ≡ width w * n = length-spelled-all w es ∙ ap (λ (i : ℕ). width w * i) (length_from n t 0) in
              let v : Spans c p q (spelled_all w es) d = spans-put c p (spelled_all w es) (omega (arith, k, answer-ready.1)) y in
              let z : Spans b 0 q l d = spans-behind head v in
              let fits : length l ≤ length b = omega (arith, length-written edition w t n, has_room) in
              let r : q ≡ length l = omega (arith, z.reach) in
              let i : d ≡ l ++ drop (length l) b = z.is ∙ put_front b l fits in
              rw (r, i) (sym (line-done edition w t n b (sounds ∙ h) fits))

-- ---- read

module _ (edition w : ℕ) (s t : List ℕ) {r : Bool} (e : r ≡ spelled_well edition w s) where
  pub answer-misspelled : r ≡ false → outcome (indexed_as.Refused BadIndex) t ≡ read_line edition w s t
  answer-misspelled h = sym (read-bad edition w s t (accepted-not edition w s (sym e ∙ h)))

  module _ (h : r ≡ true) where
    pub answer-length : length s ≡ head_digits + width w * tags_in w s
    answer-length = well-length edition w s (sym e ∙ h)

    module _ {x : Bool} (f : x ≡ sound_entries w (entries_of w s)) where
      judged : accepted edition w s ≡ x
      judged = accepted-as edition w s (sym e ∙ h) ∙ sym f

      tags : length (entries_of w s) ≡ tags_in w s
      tags = length-entries w (tags_in w s) s head_digits

      pub answer-falling : x ≡ false → outcome (indexed_as.Refused BadIndex) t ≡ read_line edition w s t
      answer-falling g = sym (read-bad edition w s t (judged ∙ g))

      module _ (g : x ≡ true) where
        pub answer-full : room t < tags_in w s → outcome (indexed_as.Refused NoRoom) t ≡ read_line edition w s t
        answer-full k = sym (read-no-room edition w s t (judged ∙ g) (omega (arith, tags)))

        pub answer-read : {u : List ℕ} → tags_in w s ≤ room t → u ≡ indexed t (entries_of w s) → outcome (indexed_as.Tags (tags_in w s)) u ≡ read_line edition w s t
        answer-read k i =
            ap (λ (y : List ℕ). outcome (indexed_as.Tags (tags_in w s)) y) i
            ∙ ap (λ (y : ℕ). outcome (indexed_as.Tags y) (indexed t (entries_of w s))) (sym tags)
            ∙ sym (read_done edition w s t (judged ∙ g) (omega (arith, tags)))

-- ---- of either edition: the second character decides

module _ (m : ℕ) (s t : List ℕ) where
  not_new : (get_or s 1 0 ≡ 50 → ⊥) → accepted 2 6 s ≡ false
  not_new h = accepted-not 2 6 s (sym (well-second 2 6 s (omega arith) h))

  not-old : (get_or s 1 0 ≡ 49 → ⊥) → accepted 1 4 s ≡ false
  not-old h = accepted-not 1 4 s (sym (well-second 1 4 s (omega arith) h))

  pub either-short : length s < head_digits → outcome (indexed_as.Refused BadIndex) t ≡ read_either m s t
  either-short h = sym (either-none m s t (accepted-not 2 6 s (sym (well-short 2 6 s h))) (accepted-not 1 4 s (sym (well-short 1 4 s h))))

  pub either_second : get_or s 1 0 ≡ 50 → read_line 2 6 s t ≡ read_either m s t
  either_second h = go (accepted 2 6 s) refl
    where
      go : (a : Bool) → accepted 2 6 s ≡ a → read_line 2 6 s t ≡ read_either m s t
      go true a = sym (either-new m s t a)
      go false a = read-bad 2 6 s t a ∙ sym (either-none m s t a (not-old (λ e. omega (arith, h, e))))

  module _ (h : get_or s 1 0 ≡ 50 → ⊥) where
    pub either-above : old_limit < m → outcome (indexed_as.Refused BadIndex) t ≡ read_either m s t
    either-above g = sym (either-late m s t (not_new h) g)

    pub either_first : m ≤ old_limit → read_line 1 4 s t ≡ read_either m s t
    either_first g = sym (either-old m s t (not_new h) g)
