-- The loops over a line's characters and entries: where each stands, and what a turn does.
use Prim.Native.Nat.{ℕ, suc, ◌+◌, ◌-◌, ◌*◌, ◌^◌, ◌≤◌, ◌<◌}
use mathlib.Core.Path.{◌≡◌, refl, ap, ◌∙◌, sym}
use mathlib.Core.Bool.{Bool, true, false}
use mathlib.Core.List.{List, [], ◌∷◌, ◌++◌}
use native.Mathlib.Omega.{arith}
use native.Mathlib.Nat.{pow-suc, pow-le-pow_right, one-le-pow, mul-suc}
use native.Mathlib.Numerals.{add-one}
use borrow.Author.Tests.{leb-true, leb-false, le-leb}
use lib.Dec.{leb}
use lib.ListN.{length, take, drop, set, get_or, drop_of_length-le, length-append}
use lib.Seq.{drop-cons}
use Rattle.wire.specs.Choose.{choose}
use Rattle.place.specs.Place.{Placed, put_at, put-roomy, Putting, put-start, put-more, put_on, put-done, put_front}
use Rattle.place.specs.Spans.{Spans, spans-put, spans-length, spans-behind}
use Rattle.text_digits.specs.Digits.{digit_of, digits, worth, reads_on}
use Rattle.text_digits.specs.DigitLaws.{length_digits}
use Rattle.index.specs.Index.{Entry, entry, index_words, entry_words, indexed, entry_at, entries_from, sound_entry, sound_from, length-words, length_from}
use Rattle.index.proofs.Sounding.{entry-low, entry-none, entry-last}
use Rattle.index_line.specs.Chars.{capital, capital-letter, capital-high, capitals, worth-small}
use Rattle.index_line.specs.Line.{head_digits, tag_digits, width, spelled, spelled_all, sound_entries, number_at, spelled_at, entries_in}
use Rattle.index_line.specs.Spelling.{length-spelled, length-spelled-all, length-entries, number-below}

-- ---- characters, tested

-- the last of the four runs
pub capital-last : (c : ℕ) → 65 ≤ c → leb c 70 ≡ capital c
capital-last c h = go (leb c 70) refl
  where
    go : (t : Bool) → leb c 70 ≡ t → leb c 70 ≡ capital c
    go true e = e ∙ sym (capital-letter c h (omega (arith, leb-true c 70 e)))
    go false e = e ∙ sym (capital-high c (omega (arith, leb-false c 70 e)))

pub record Testing (line : List ℕ) (from i : ℕ) : Type 0 where
  pub inside : i ≤ length line
  pub rest : capitals (drop from line) ≡ capitals (drop i line)

pub test-start : (line : List ℕ) (from : ℕ) → from ≤ length line → Testing line from from
test-start line from h = record { inside = h; rest = refl }

module _ {line : List ℕ} {from i : ℕ} (w : Testing line from i) where
  pub test-end : length line ≤ i → true ≡ capitals (drop from line)
  test-end h = sym (w.rest ∙ ap capitals (drop_of_length-le line {i = i} h))

  module _ (h : i < length line) where
    here : capitals (drop from line) ≡ choose (capital (get_or line i 0)) (capitals (drop (i + 1) line)) false
    here = w.rest ∙ ap capitals (drop-cons line i 0 h) ∙ rw (add-one i)

    pub test-not : capital (get_or line i 0) ≡ false → false ≡ capitals (drop from line)
    test-not e = sym (here ∙ rw e)

    pub test-turn : capital (get_or line i 0) ≡ true → Testing line from (i + 1)
    test-turn e = record { inside = omega arith; rest = here ∙ rw e }

-- ---- a number, read

pub record Numbering (line : List ℕ) (at k x i left : ℕ) : Type 0 where
  pub few : left ≤ 8
  pub inside : i + left ≤ length line
  pub small : x < 16 ^ (8 - left)
  pub rest : number_at line at k ≡ reads_on 16 x (take left (drop i line))

pub number-start : (line : List ℕ) (at k : ℕ) → k ≤ 8 → at + k ≤ length line → Numbering line at k 0 at k
number-start line at k h g = record { few = h; inside = g; small = omega (arith, one-le-pow (8 - k) 16 (omega arith)); rest = refl }

module _ {line : List ℕ} {at k x i left : ℕ} (w : Numbering line at k x i left) where
  pub number-low : x < 16 ^ 8
  number-low = omega (arith, w.small, pow-le-pow_right {n = 16} (omega arith) {i = 8 - left} {j = 8} (omega arith))

  pub number-sum : {u : ℕ} → u ≡ worth (digit_of (get_or line i 0)) → x * 16 + u < 16 ^ 9
  number-sum e = omega (arith, number-low, worth-small (get_or line i 0))

  pub number-turn : 0 < left → {v : ℕ} → v ≡ worth (digit_of (get_or line i 0)) → Numbering line at k (x * 16 + v) (i + 1) (left - 1)
  unfolding reads_on
  number-turn h {v} e =
      let l = left - 1 in
      let a : left ≡ suc l = omega arith in
      let b : 8 - l ≡ suc (8 - left) = omega (arith, w.few) in
      let c = worth-small (get_or line i 0) in
      let r : number_at line at k ≡ reads_on 16 x (take (suc l) (drop i line)) = rw a at w.rest in
      record {
        few = omega (arith, w.few);
        inside = omega (arith, w.inside);
        small = rw b (omega (arith, w.small, pow-suc 16 (8 - left)));
        rest = r ∙ rw (drop-cons line i 0 (omega (arith, w.inside)), e, add-one i);
      }

  pub number-end : left ≤ 0 → x ≡ number_at line at k
  unfolding reads_on
  number-end h = let z : left ≡ 0 = omega arith in sym (rw z at w.rest)

-- ---- an entry, put

-- a stretch inside the buffer is what a put leaves
pub spans-placed : {b : List ℕ} {at q : ℕ} {xs c : List ℕ} → Spans b at q xs c → at + length xs ≤ length b
    → ◌≡◌ {A = Placed} (record { next = q; buf = c }) (put_at b at xs)
spans-placed {b} {at} {q} {xs} {c} v h = rw (v.reach, v.is) (sym (put-roomy b at xs h))

pub entry-put : (b : List ℕ) (at w tag place count : ℕ) → at + width w ≤ length b → {p q r : ℕ} {c d x : List ℕ}
    → ◌≡◌ {A = Placed} (record { next = p; buf = c }) (put_at b at (digits 16 tag_digits tag))
    → ◌≡◌ {A = Placed} (record { next = q; buf = d }) (put_at c p (digits 16 w place))
    → ◌≡◌ {A = Placed} (record { next = r; buf = x }) (put_at d q (digits 16 w count))
    → ◌≡◌ {A = Placed} (record { next = r; buf = x }) (put_at b at (spelled w (entry tag place count)))
unfolding spelled
entry-put b at w tag place count h {p} {q} {r} {c} {d} {x} e f g =
    let k = length_digits 16 tag_digits tag in
    let l = length_digits 16 w place in
    let m = length_digits 16 w count in
    let u : Spans b at p (digits 16 tag_digits tag) c = spans-put b at (digits 16 tag_digits tag) (omega (arith, k)) e in
    let v : Spans c p q (digits 16 w place) d = spans-put c p (digits 16 w place) (omega (arith, l, k, u.reach, spans-length u)) f in
    let z : Spans d q r (digits 16 w count) x =
    spans-put d q (digits 16 w count) (omega (arith, m, l, k, u.reach, v.reach, spans-length u, spans-length v)) g
    in
    spans-placed (spans-behind u (spans-behind v z)) (omega (arith, h, length-spelled w (entry tag place count)))

-- ---- entries, put one behind the other

-- the entry whose words stand from word i on
abbrev pub handed : List ℕ → ℕ → Entry
handed t i = entry (get_or t i 0) (get_or t (i + 1) 0) (get_or t (i + 2) 0)

pub record Writing (t : List ℕ) (tags w : ℕ) (b : List ℕ) (at : ℕ) (buf : List ℕ) (p n i : ℕ) : Type 0 where
  pub fits : index_words * tags ≤ length t
  pub few : n ≤ tags
  pub word : i ≡ index_words * n
  pub put : Putting b at (spelled_all w (entries_from tags t 0)) buf p (spelled_all w (entries_from (tags - n) t n))

pub write-start : (t : List ℕ) (tags w : ℕ) (b : List ℕ) (at : ℕ) → index_words * tags ≤ length t → at + width w * tags ≤ length b
    → Writing t tags w b at b at 0 0
write-start t tags w b at h g =
    let z : tags - 0 ≡ tags = omega arith in
    let n : length (spelled_all w (entries_from tags t 0)) ≡ width w * tags =
    length-spelled-all w (entries_from tags t 0) ∙ ap (λ (k : ℕ). width w * k) (length_from tags t 0)
    in
    record { fits = h; few = omega arith; word = refl; put = rw z (put-start b at (spelled_all w (entries_from tags t 0)) (omega (arith, n))) }

module _ {t : List ℕ} {tags w : ℕ} {b : List ℕ} {at : ℕ} {buf : List ℕ} {p n i : ℕ} (v : Writing t tags w b at buf p n i) where
  pub write-end : tags ≤ n → record { next = p; buf = buf } ≡ put_at b at (spelled_all w (entries_from tags t 0))
  write-end h =
      let z : tags - n ≡ 0 = omega arith in
      let d : Putting b at (spelled_all w (entries_from tags t 0)) buf p [] = rw z at v.put in
      put-done d

  module _ (h : n < tags) where
    pub write-words : i + index_words ≤ length t
    write-words = omega (arith, v.fits, v.word)

    write-next : Putting b at (spelled_all w (entries_from tags t 0)) buf p (spelled w (handed t i) ++ spelled_all w (entries_from (tags - (n + 1)) t (n + 1)))
    unfolding entry_at
    write-next =
        let z : tags - n ≡ suc (tags - (n + 1)) = omega arith in
        let e : entry_at t n ≡ handed t i = ap (handed t) (sym v.word) in
        let r : Putting b at (spelled_all w (entries_from tags t 0)) buf p (spelled w (entry_at t n) ++ spelled_all w (entries_from (tags - (n + 1)) t (suc n))) =
        rw z at v.put
        in
        rw (← add-one n) at (rw e at r)

    pub write-room : p + width w ≤ length buf
    write-room =
        let r = write-next in
        omega (
          arith,
          r.same,
          r.roomy,
          r.next,
          length-append (spelled w (handed t i)) (spelled_all w (entries_from (tags - (n + 1)) t (n + 1))),
          length-spelled w (handed t i),
        )

    pub write-turn : {q : ℕ} {c : List ℕ} → ◌≡◌ {A = Placed} (record { next = q; buf = c }) (put_at buf p (spelled w (handed t i)))
        → Writing t tags w b at c q (n + 1) (i + index_words)
    write-turn e =
        record {
          fits = v.fits;
          few = omega arith;
          word = omega (arith, v.word);
          put = put_on (spelled w (handed t i)) (spelled_all w (entries_from (tags - (n + 1)) t (n + 1))) write-next
              (e ∙ put-roomy buf p (spelled w (handed t i)) (omega (arith, write-room, length-spelled w (handed t i))));
        }

-- ---- entries, read one behind the other

-- so many are left, and the first of them
more-chars : (w left : ℕ) → 0 < left → width w * left ≡ width w * (left - 1) + width w
more-chars w left h = let z : left ≡ suc (left - 1) = omega arith in ap (λ (x : ℕ). width w * x) z ∙ mul-suc (width w) (left - 1)

-- tested

pub record Rising (line : List ℕ) (w tags p left least : ℕ) : Type 0 where
  pub thin : w ≤ 8
  pub inside : p + width w * left ≤ length line
  pub small : least ≤ 2 ^ 32
  pub rest : sound_entries w (entries_in w tags line head_digits) ≡ sound_from (16 ^ w) (16 ^ w - 1) least (entries_in w left line p)

pub rise-start : (line : List ℕ) (w tags : ℕ) → w ≤ 8 → head_digits + width w * tags ≤ length line → Rising line w tags head_digits tags 0
rise-start line w tags h g = record { thin = h; inside = g; small = omega arith; rest = refl }

module _ {line : List ℕ} {w tags p left least : ℕ} (v : Rising line w tags p left least) where
  pub rise-end : left ≤ 0 → true ≡ sound_entries w (entries_in w tags line head_digits)
  rise-end h = let z : left ≡ 0 = omega arith in sym (rw z at v.rest)

  module _ (h : 0 < left) where
    pub rise-inside : p + width w ≤ length line
    rise-inside = omega (arith, v.inside, more-chars w left h)

    rise-on : sound_entries w (entries_in w tags line head_digits)
        ≡ choose (sound_entry (16 ^ w) (16 ^ w - 1) least (spelled_at w line p))
        (sound_from (16 ^ w) (16 ^ w - 1) (suc (spelled_at w line p).tag) (entries_in w (left - 1) line (p + width w))) false
    rise-on = let z : left ≡ suc (left - 1) = omega arith in rw z at v.rest

    module _ {tag : ℕ} (e : tag ≡ number_at line p tag_digits) where
      pub rise-small : tag < 2 ^ 32
      rise-small = omega (arith, number-below line p tag_digits (omega (arith, rise-inside)))

      pub rise-low : tag < least → false ≡ sound_entries w (entries_in w tags line head_digits)
      unfolding spelled_at
      rise-low g = sym (rise-on ∙ rw (← entry-low (16 ^ w) (16 ^ w - 1) least _ _ _ (rw e at g)))

      module _ {count : ℕ} (f : count ≡ number_at line (p + tag_digits + w) w) where
        pub rise-none : least ≤ tag → count ≡ 0 → false ≡ sound_entries w (entries_in w tags line head_digits)
        unfolding spelled_at
        rise-none g z =
            let b = number-below line (p + tag_digits) w (omega (arith, rise-inside)) in
            sym (rise-on ∙ rw (← entry-none (16 ^ w) (16 ^ w - 1) least _ _ _ (rw e at g) (omega (arith, rise-small)) b (sym f ∙ z)))

        pub rise-turn : least ≤ tag → (count ≡ 0 → ⊥) → Rising line w tags (p + width w) (left - 1) (tag + 1)
        unfolding spelled_at
        rise-turn g z =
            let b = number-below line (p + tag_digits) w (omega (arith, rise-inside)) in
            let d = number-below line (p + tag_digits + w) w (omega (arith, rise-inside)) in
            let k = number_at line (p + tag_digits + w) w in
            let o : leb k (16 ^ w - 1) ≡ true = le-leb k (16 ^ w - 1) (omega (arith, d)) in
            let l = entry-last (16 ^ w) (16 ^ w - 1) least _ _ _ (rw e at g) (omega (arith, rise-small)) b (λ y. z (f ∙ y)) in
            let s : sound_entry (16 ^ w) (16 ^ w - 1) least (spelled_at w line p) ≡ true = sym l ∙ o in
            record {
              thin = v.thin;
              inside = omega (arith, v.inside, more-chars w left h);
              small = omega (arith, rise-small);
              rest = rise-on ∙ rw (s, add-one tag, e);
            }

-- stored

pub record Filling (line : List ℕ) (w tags : ℕ) (t index : List ℕ) (p left i : ℕ) : Type 0 where
  pub thin : w ≤ 8
  pub inside : p + width w * left ≤ length line
  pub put : Putting t 0 (entry_words (entries_in w tags line head_digits)) index i (entry_words (entries_in w left line p))

pub fill_start : (line : List ℕ) (w tags : ℕ) (t : List ℕ) → w ≤ 8 → head_digits + width w * tags ≤ length line → index_words * tags ≤ length t
    → Filling line w tags t t head_digits tags 0
fill_start line w tags t h g f =
    let es = entries_in w tags line head_digits in
    record { thin = h; inside = g; put = put-start t 0 (entry_words es) (omega (arith, length-words es, length-entries w tags line head_digits)) }

module _ {line : List ℕ} {w tags : ℕ} {t index : List ℕ} {p left i : ℕ} (v : Filling line w tags t index p left i) where
  pub fill_end : left ≤ 0 → index ≡ indexed t (entries_in w tags line head_digits)
  fill_end h =
      let es = entries_in w tags line head_digits in
      let z : left ≡ 0 = omega arith in
      let d : Putting t 0 (entry_words es) index i [] = rw z at v.put in
      d.rest ∙ put_front t (entry_words es) (omega (arith, v.put.roomy)) ∙ rw (length-words es)

  module _ (h : 0 < left) where
    pub fill-inside : p + width w ≤ length line
    fill-inside = omega (arith, v.inside, more-chars w left h)

    pub fill-words : i + index_words ≤ length index
    fill-words =
        let es = entries_in w left line p in
        omega (arith, v.put.same, v.put.roomy, v.put.next, length-words es, length-entries w left line p)

    module _ {tag place count : ℕ} (e : tag ≡ number_at line p tag_digits) (f : place ≡ number_at line (p + tag_digits) w)
        (g : count ≡ number_at line (p + tag_digits + w) w) where
      fill-next : Putting t 0 (entry_words (entries_in w tags line head_digits)) index i
          (tag ∷ place ∷ count ∷ entry_words (entries_in w (left - 1) line (p + width w)))
      unfolding spelled_at
      fill-next = let z : left ≡ suc (left - 1) = omega arith in rw (e, f, g) (rw z at v.put)

      pub fill-turn : Filling line w tags t (set (set (set index i tag) (i + 1) place) (i + 2) count) (p + width w) (left - 1) (i + index_words)
      fill-turn =
          let a : i + 2 ≡ i + 1 + 1 = omega arith in
          let b : i + index_words ≡ i + 1 + 1 + 1 = omega arith in
          record { thin = v.thin; inside = omega (arith, v.inside, more-chars w left h); put = rw (a, b) (put-more (put-more (put-more fill-next))) }
