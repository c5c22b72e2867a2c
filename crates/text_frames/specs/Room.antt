-- How long the text of a frame is at most, and that the payloads of a message that was read lie inside it.
use Rattle.std.specs.Prelude.{ℕ, zero, suc, ◌+◌, ◌-◌, ◌*◌, ◌^◌, ◌/◌, ◌≤◌, ◌<◌, ◌≡◌, refl, Bool, true, false, List, [], ◌∷◌, ◌++◌, ltb, length, take, drop}
use Rattle.std.proofs.Common.{◌∙◌, arith, ltb-true, ltb-false, length-append, length-take}
use Rattle.wire.specs.Fixed.{fixed, length-fixed}
use Rattle.wire.specs.Written.{Item, content_kind}
use Rattle.wire.specs.Places.{shown, item_of, items}
use Rattle.wire.specs.Reading.{capped_at, varint_at, value_at, field_at, Fields, reads_from, read_message}
use Rattle.wire.specs.ReadingLaws.{number-got, payload-got, within-got, content-kind-below}
use Rattle.wire.proofs.ReadingLaws.{varint-moves, value-moves, field_found_lem, field-moves}
use Rattle.wire.specs.Theorem.{Stands, none, some, ended-fields}
use Rattle.wire.proofs.Theorem.{stands}
use Rattle.wire.specs.declared.WireType.{WireType}
use Rattle.wire.specs.declared.WireType.TheVariants as wire_type
use Rattle.wire.specs.declared.Value.{Value}
use Rattle.wire.specs.declared.Value.TheVariants as val
use Rattle.wire.specs.declared.ValueFound.TheVariants as value_found
use Rattle.wire.specs.declared.Field.{Field}
use Rattle.wire.specs.declared.FieldFound.TheVariants as field_found
use Rattle.text_digits.specs.Digits.{places_to, decimal, hexed}
use Rattle.text_digits.specs.DigitLaws.{length_digits, length-hexed, length-decimal, places-one, places-more}
use Rattle.text_frames.specs.Text.{spaced, headed, word_f, told, bytes_text, value_text, field_text, fields_text}

-- ---- numbers

places-few : (k v : ℕ) → places_to k v ≤ suc k
unfolding places_to
places-few zero v = omega arith
places-few (suc k) v = go (ltb v 10) refl (places-few k (v / 10))
  where
    go : (t : Bool) → ltb v 10 ≡ t → places_to k (v / 10) ≤ suc k → places_to (suc k) v ≤ suc (suc k)
    go true e ih = omega (arith, places-one (suc k) v (ltb-true v 10 e))
    go false e ih = omega (arith, places-more k v (ltb-false v 10 e))

pub decimal-few : (v : ℕ) → length (decimal v) ≤ 20
decimal-few v = omega (arith, length-decimal v, places-few 19 v)

digit-one : (v : ℕ) → v < 10 → length (decimal v) ≡ 1
digit-one v h = length-decimal v ∙ places-one 19 v h

-- ---- lines

pub head_few : (n : ℕ) → length (headed n word_f) ≤ 22
head_few n = omega (arith, length-append (decimal n) word_f, decimal-few n)

pub told_none : (n : ℕ) (word : List ℕ) → length (told n word []) ≤ 21 + length word
unfolding told
told_none n word = omega (arith, length-append (headed n word) (10 ∷ []), length-append (decimal n) word, decimal-few n)

length-spaced : (a b : ℕ) (rest : List ℕ) → length (spaced (a ∷ b ∷ []) rest) ≡ 2 + length (decimal a) + length (decimal b) + length rest
length-spaced a b rest =
    omega (arith, length-append (decimal a) (spaced (b ∷ []) rest), length-append (decimal b) rest)

pub told-two : (n : ℕ) (word : List ℕ) (a b : ℕ) → length (told n word (a ∷ b ∷ [])) ≤ 63 + length word
unfolding told
told-two n word a b =
    omega (
      arith,
      length-append (headed n word) (spaced (a ∷ b ∷ []) (10 ∷ [])),
      length-append (decimal n) word,
      length-spaced a b (10 ∷ []),
      decimal-few n,
      decimal-few a,
      decimal-few b,
    )

pub told-four : (n : ℕ) (word : List ℕ) (a b c d : ℕ) → length (told n word (a ∷ b ∷ c ∷ d ∷ [])) ≤ 105 + length word
unfolding told
told-four n word a b c d =
    omega (
      arith,
      length-append (headed n word) (spaced (a ∷ b ∷ c ∷ d ∷ []) (10 ∷ [])),
      length-append (decimal n) word,
      length-append (decimal a) (spaced (b ∷ c ∷ d ∷ []) (10 ∷ [])),
      length-append (decimal b) (spaced (c ∷ d ∷ []) (10 ∷ [])),
      length-spaced c d (10 ∷ []),
      decimal-few n,
      decimal-few a,
      decimal-few b,
      decimal-few c,
      decimal-few d,
    )

field-size : (n : ℕ) (i : Item) → length (field_text (headed n word_f) i) ≤ 47 + length (value_text i.content)
unfolding field_text
field-size n i =
    let t = content_kind i.content in
    let v = value_text i.content in
    let rest = 32 ∷ v ++ 10 ∷ [] in
    omega (
      arith,
      length-append (headed n word_f) (spaced (i.tag ∷ t ∷ []) rest),
      length-append (decimal n) word_f,
      length-spaced i.tag t rest,
      length-append v (10 ∷ []),
      decimal-few n,
      decimal-few i.tag,
      digit-one t (omega (arith, content-kind-below i.content)),
    )

-- ---- the value of a field that was read from place p up to q: its text is not long, and a payload lies inside the slice

abbrev pub Held : List ℕ → Value → Type 0
Held s (val.Varint v) = Unit {0}
Held s (val.LengthDelimited p n) = p + n ≤ length s
Held s (val.ThirtyTwoBit v) = Unit {0}
Held s (val.SixtyFourBit v) = Unit {0}

bytes-size : (bs : List ℕ) → length (bytes_text bs) ≤ 1 + 2 * length bs
unfolding bytes_text
bytes-size [] = omega arith
bytes-size (b ∷ bs) = omega (arith, length-hexed (b ∷ bs))

fixed-size : (k n p q : ℕ) → q ≡ p + k → 1 ≤ k → 15 + length (hexed (fixed k n)) ≤ 32 * (q - p)
fixed-size k n p q e h = omega (arith, length-hexed (fixed k n), length-fixed k n)

value-size : (s : List ℕ) (e p : ℕ) (w : WireType) (v : Value) (q : ℕ) → value_at s e p w ≡ value_found.Got v q
    → Held s v × (15 + length (value_text (shown s v)) ≤ 32 * (q - p))
unfolding value_text
value-size s e p wire_type.Varint v q h =
    let x = number-got (capped_at s e p) v q h in
    rw x.2 (tt, omega (arith, length_digits 16 16 x.0, (value-moves s e p wire_type.Varint v q h).0))
value-size s e p wire_type.LengthDelimited v q h =
    let x = payload-got s e (varint_at s p) v q h in
    let n = x.0 in
    let i = x.1 in
    let m = varint-moves s p n i x.2 in
    rw x.3 (
      omega (arith, x.4, x.5),
      omega (arith, bytes-size (take n (drop i s)), length-take n (drop i s), m.0, x.4),
    )
value-size s e p wire_type.ThirtyTwoBit v q h =
    let x = within-got s e (p + 4) _ v q h in
    rw x.0 (tt, fixed-size 4 _ p q x.1 (omega arith))
value-size s e p wire_type.SixtyFourBit v q h =
    let x = within-got s e (p + 8) _ v q h in
    rw x.0 (tt, fixed-size 8 _ p q x.1 (omega arith))

-- ---- fields

abbrev pub Inside : List ℕ → Field → Type 0
Inside s f = (f.tag < 2 ^ 32) × Held s f.value

abbrev pub AllInside : List ℕ → List Field → Type 0
AllInside s [] = Unit {0}
AllInside s (f ∷ fs) = Inside s f × AllInside s fs

-- of the fields from place p up to the end: all are inside, and the text of each has at most 32 characters for a byte
pub record Sized (n : ℕ) (s : List ℕ) (e p : ℕ) (fs : List Field) : Type 0 where
  pub inside : AllInside s fs
  pub before : p ≤ e
  pub few : 2 * length fs ≤ e - p
  pub size : length (fields_text (headed n word_f) (items s fs)) ≤ 32 * (e - p)

sized-none : (n : ℕ) (s : List ℕ) (e p : ℕ) (fs : List Field) → p ≡ e → fs ≡ [] → Sized n s e p fs
sized-none n s e p fs a b = rw b (record { inside = tt; before = omega arith; few = omega arith; size = omega arith })

sized-some : (n : ℕ) (s : List ℕ) (e p last : ℕ) (f : Field) (q : ℕ) (gs : List Field) → field_at s e p last ≡ field_found.Got f q → Sized n s e q gs
    → Sized n s e p (f ∷ gs)
sized-some n s e p last f q gs h w =
    let x = field_found_lem s e p last f q h in
    let m = field-moves s e p last f q h in
    let a = varint-moves s p x.key.key x.middle x.key.read in
    let v = value-size s e x.middle x.wire f.value q x.value in
    let b = value-moves s e x.middle x.wire f.value q x.value in
    let i = item_of s f in
    record {
      inside = ((m.3, v.0), w.inside);
      before = omega (arith, m.0, w.before);
      few = omega (arith, m.0, w.before, w.few);
      size = omega (
        arith,
        length-append (field_text (headed n word_f) i) (fields_text (headed n word_f) (items s gs)),
        field-size n i,
        a.0,
        b.0,
        v.1,
        w.before,
        w.size,
      );
    }

sized-from : (n k : ℕ) (s : List ℕ) (e m p last : ℕ) (fs : List Field) → e - p ≤ k → reads_from k s e m p last ≡ Fields fs → Sized n s e p fs
sized-from n zero s e m p last fs h r = go (ended-fields zero s e m p last fs r)
  where
    go : Stands zero s e p last fs → Sized n s e p fs
    go (none a b) = sized-none n s e p fs a b
    go (some f q gs a b c d) = let z : ◌≡◌ {A = ℕ} 0 1 = omega arith in absurd (omega arith)
sized-from n (suc k) s e m p last fs h r = go (λ f q gs. sized-from n k s e p q f.tag gs) (stands k s e m p last fs r)
  where
    go : ((f : Field) (q : ℕ) (gs : List Field) → e - q ≤ k → reads_from k s e p q f.tag ≡ Fields gs → Sized n s e q gs) → Stands k s e p last fs
        → Sized n s e p fs
    go ih (none a b) = sized-none n s e p fs a b
    go ih (some f q gs a b c d) = rw d (sized-some n s e p last f q gs b (ih f q gs (omega (arith, (field-moves s e p last f q b).0)) c))

pub sized : (n : ℕ) (s : List ℕ) (fs : List Field) → read_message s 0 (length s) ≡ Fields fs → Sized n s (length s) 0 fs
unfolding read_message
sized n s fs r = sized-from n (length s - 0) s (length s) 0 0 0 fs (omega arith) r
