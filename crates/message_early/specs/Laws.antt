-- The search from the front, next to the message read whole.
use Rattle.std.specs.Prelude.{ℕ, zero, suc, ◌-◌, ◌≤◌, ◌<◌, ◌≡◌, refl, Bool, true, false, List, [], ◌∷◌, ltb, eqb, length, take}
use Rattle.std.proofs.Common.{ap, ◌∙◌, sym, arith}
use borrow.Author.Tests.{lt-ltb, le-ltb, ltb-true, ltb-false, ne_eqb}
use Rattle.wire.specs.Reading.{key_at, value_at, tagged, field_of, field_at, Fields, in_front, reads_from, read_message}
use Rattle.wire.specs.Reading as reading
use Rattle.wire.proofs.ReadingLaws.{field-moves}
use Rattle.wire.specs.Theorem.{turn-field, turn-refused, turn_end, Stands, none, some, refused-fields, in-front-fields}
use Rattle.wire.proofs.Theorem.{stands}
use Rattle.message_early.specs.Cut.{field_cut}
use Rattle.wire.specs.declared.Refusal.{Refusal}
use Rattle.wire.specs.declared.Refusal.TheVariants.{Truncated}
use Rattle.wire.specs.declared.Field.{Field}
use Rattle.wire.specs.declared.Key.{Key}
use Rattle.wire.specs.declared.KeyFound.{KeyFound}
use Rattle.wire.specs.declared.KeyFound.TheVariants as key_found
use Rattle.wire.specs.declared.ValueFound.{ValueFound}
use Rattle.wire.specs.declared.ValueFound.TheVariants as value_found
use Rattle.wire.specs.declared.FieldFound.{FieldFound}
use Rattle.wire.specs.declared.FieldFound.TheVariants as field_found
use Rattle.message.specs.Tags.{of_tag}
use Rattle.message_early.specs.Early.{above, sight_of, sight_at, Ends, Above, Refused, stops_from, stop}
use Rattle.message_early.specs.declared.Sight.{Sight}
use Rattle.message_early.specs.declared.Sight.TheVariants as sight

-- ---- what stands behind a turn

pub data Looks (t : ℕ) (s : List ℕ) (p last : ℕ) : Type 0 where
  field : (f : Field) (q : ℕ) → above t (key_at s (length s) p last) ≡ false → field_at s (length s) p last ≡ field_found.Got f q
      → sight_at t s p last ≡ sight.Field f q
      → Looks t s p last
  higher : above t (key_at s (length s) p last) ≡ true → sight_at t s p last ≡ sight.Above → Looks t s p last
  refused : (r : Refusal) → field_at s (length s) p last ≡ field_found.Refused r → sight_at t s p last ≡ sight.Refused r → Looks t s p last

pub looks : (t : ℕ) (s : List ℕ) (p last : ℕ) → Looks t s p last
unfolding sight_at
looks t s p last = go (above t (key_at s (length s) p last)) refl (field_at s (length s) p last) refl
  where
    go : (b : Bool) → above t (key_at s (length s) p last) ≡ b → (x : FieldFound) → field_at s (length s) p last ≡ x → Looks t s p last
    go true b x e = higher b (rw b)
    go false b (field_found.Got f q) e = field f q b e (rw (b, e))
    go false b (field_found.Refused r) e = refused r e (rw (b, e))

-- their kinds
abbrev kind : Sight → ℕ
kind (sight.Field f q) = 0
kind sight.Above = 1
kind (sight.Refused r) = 2

pub sight-field : (t : ℕ) (s : List ℕ) (p last : ℕ) (f : Field) (q : ℕ) → sight_at t s p last ≡ sight.Field f q
    → field_at s (length s) p last ≡ field_found.Got f q
sight-field t s p last f q h = go (looks t s p last)
  where
    go : Looks t s p last → field_at s (length s) p last ≡ field_found.Got f q
    go (field g r b e x) = let y : sight.Field g r ≡ sight.Field f q = sym x ∙ h in let a : g ≡ f = cc in let c : r ≡ q = cc in e ∙ rw (a, c)
    go (higher e x) = absurd (omega (arith, ap kind (sym x ∙ h)))
    go (refused r e x) = absurd (omega (arith, ap kind (sym x ∙ h)))

module _ (t : ℕ) (s : List ℕ) (p last : ℕ) where
  pub sight-refused : (r : Refusal) → key_at s (length s) p last ≡ key_found.Refused r → sight_at t s p last ≡ sight.Refused r
  unfolding sight_at field_at
  sight-refused r e = rw e

  pub sight-above : (k : Key) (q : ℕ) → key_at s (length s) p last ≡ key_found.Got k q → t < k.tag → sight_at t s p last ≡ sight.Above
  unfolding sight_at
  sight-above k q e h = rw (e, lt-ltb t k.tag h)

  pub sight-value : (k : Key) (q : ℕ) {x : ValueFound} → key_at s (length s) p last ≡ key_found.Got k q → k.tag ≤ t → value_at s (length s) q k.wire ≡ x
      → sight_at t s p last ≡ sight_of (tagged k.tag x)
  unfolding sight_at field_at
  sight-value k q e h v = rw (e, le-ltb t k.tag h, v)

-- ---- behind a key above the tag there is no field of the tag

-- a field's tag is its key's
key-tag : (t : ℕ) (s : List ℕ) (e : ℕ) (x : KeyFound) (f : Field) (q : ℕ) → field_of s e x ≡ field_found.Got f q → above t x ≡ ltb t f.tag
key-tag t s e (key_found.Got k i) f q h = go (value_at s e i k.wire) h
  where
    go : (v : ValueFound) → tagged k.tag v ≡ field_found.Got f q → ltb t k.tag ≡ ltb t f.tag
    go (value_found.Got v j) z = let y : k.tag ≡ f.tag = cc in rw y
    go (value_found.Refused r) z = let y : ◌≡◌ {A = ℕ} 0 1 = cc in absurd (omega arith)
key-tag t s e (key_found.Refused r) f q h = let y : ◌≡◌ {A = ℕ} 0 1 = cc in absurd (omega arith)

field-tag : (t : ℕ) (s : List ℕ) (e p last : ℕ) (f : Field) (q : ℕ) → field_at s e p last ≡ field_found.Got f q → above t (key_at s e p last) ≡ ltb t f.tag
unfolding field_at
field-tag t s e p last f q h = key-tag t s e (key_at s e p last) f q h

none-behind : (t k : ℕ) (s : List ℕ) (e m p last : ℕ) (fs : List Field) → t < last → reads_from k s e m p last ≡ Fields fs → of_tag t fs ≡ []
none-behind t zero s e m p last fs h r = go (eqb p e) refl
  where
    go : (b : Bool) → eqb p e ≡ b → of_tag t fs ≡ []
    go true b = let x : Fields [] ≡ Fields fs = simp b at r in let y : fs ≡ [] = cc in rw y
    go false b = refused-fields Truncated m fs (simp b at r)
none-behind t (suc k) s e m p last fs h r = go (stands k s e m p last fs r) (none-behind t k s e)
  where
    go : Stands k s e p last fs → ((n i l : ℕ) (gs : List Field) → t < l → reads_from k s e n i l ≡ Fields gs → of_tag t gs ≡ []) → of_tag t fs ≡ []
    go (none a b) ih = rw b
    go (some f q gs a b c d) ih =
        let v = field-moves s e p last f q b in
        rw (d, ne_eqb f.tag t (λ z. omega (arith, v.2))) (ih p q f.tag gs (omega (arith, v.2)) c)

-- no field has a tag above t
abbrev pub UpTo : ℕ → List Field → Type 0
UpTo t [] = Unit {0}
UpTo t (f ∷ fs) = (f.tag ≤ t) × UpTo t fs

-- the tag of the last field, where there was one of the tag l before
abbrev pub last_of : ℕ → List Field → ℕ
last_of l [] = l
last_of l (f ∷ fs) = last_of f.tag fs

-- ---- WHERE THE SEARCH STOPS, next to the message read whole: at its end, and the message has these fields; or at a key above the tag, and the
-- bytes before that key are a message that has these fields, and what follows has none of the tag; or it is refused as the message is

pub data Meets (k t : ℕ) (s : List ℕ) (m p last : ℕ) : Type 0 where
  whole : (fs : List Field) → stops_from k t s p last ≡ Ends fs → UpTo t fs → reads_from k s (length s) m p last ≡ Fields fs → Meets k t s m p last
  cut : (fs : List Field) (h : ℕ) → stops_from k t s p last ≡ Above fs h → UpTo t fs → p ≤ h → h < length s
      → above t (key_at s (length s) h (last_of last fs)) ≡ true
      → ((j n : ℕ) → h - p ≤ j → reads_from j (take h s) h n p last ≡ Fields fs)
      → ((gs : List Field) → reads_from k s (length s) m p last ≡ Fields gs → of_tag t gs ≡ of_tag t fs) → Meets k t s m p last
  refused : (r : Refusal) (i : ℕ) → stops_from k t s p last ≡ Refused r → reads_from k s (length s) m p last ≡ reading.Refused r i → Meets k t s m p last

module _ (t : ℕ) (s : List ℕ) where
  meets-end : (k m p last : ℕ) → p ≡ length s → Meets k t s m p last
  meets-end zero m p last h = whole [] refl tt (turn_end s (length s) m p last zero h)
  meets-end (suc k) m p last h = whole [] (rw (le-ltb p (length s) (omega arith))) tt (turn_end s (length s) m p last (suc k) h)

  pub meets : (k m p last : ℕ) → p ≤ length s → length s - p ≤ k → Meets k t s m p last
  meets zero m p last a b = meets-end zero m p last (omega arith)
  meets (suc k) m p last a b = go (ltb p (length s)) refl (looks t s p last) (meets k)
    where
      go : (x : Bool) → ltb p (length s) ≡ x → Looks t s p last → ((n i l : ℕ) → i ≤ length s → length s - i ≤ k → Meets k t s n i l)
          → Meets (suc k) t s m p last
      go false x y ih = meets-end (suc k) m p last (omega (arith, ltb-false p (length s) x))
      go true x (higher b z) ih =
          let c = ltb-true p (length s) x in
          cut [] p (rw (x, z)) tt (omega arith) c b
          (λ j n h. turn_end (take p s) p n p last j refl)
          (λ gs r. behind gs (stands k s (length s) m p last gs r))
        where
          behind : (gs : List Field) → Stands k s (length s) p last gs → of_tag t gs ≡ []
          behind gs (none e f) = rw f
          behind gs (some f q hs c d e g) =
              let u = ltb-true t f.tag (sym (field-tag t s (length s) p last f q d) ∙ b) in
              rw (g, ne_eqb f.tag t (λ w. omega arith)) (none-behind t k s (length s) p q f.tag hs u e)
      go true x (refused r e z) ih = refused r p (rw (x, z)) (turn-refused s (length s) m p last k r (ltb-true p (length s) x) e)
      go true x (field f q low e z) ih =
          let v = field-moves s (length s) p last f q e in
          next (ih p q f.tag v.1 (omega (arith, v.0)))
        where
          small : f.tag ≤ t
          small = ltb-false t f.tag (sym (field-tag t s (length s) p last f q e) ∙ low)

          next : Meets k t s p q f.tag → Meets (suc k) t s m p last
          next (whole fs g u h) =
              whole (f ∷ fs) (rw (x, z, g)) (small, u) (turn-field s (length s) m p last k f q (ltb-true p (length s) x) e ∙ ap (in_front f) h)
          next (refused r i g h) = refused r i (rw (x, z, g)) (turn-field s (length s) m p last k f q (ltb-true p (length s) x) e ∙ ap (in_front f) h)
          next (cut fs h g u i c b d o) =
              let v = field-moves s (length s) p last f q e in
              let l = ltb-true p (length s) x in
              cut (f ∷ fs) h (rw (x, z, g)) (small, u) (omega (arith, v.0)) c b
              (λ j n w. let y : j ≡ suc (j - 1) = omega (arith, v.0) in
              ap (λ (u : ℕ). reads_from u (take h s) h n p last) y
              ∙ turn-field (take h s) h n p last (j - 1) f q (omega (arith, v.0)) (field_cut s h (omega arith) (length s) p last f q e i)
              ∙ ap (in_front f) (d (j - 1) p (omega (arith, v.0))))
              (λ gs r. let y = in-front-fields f (reads_from k s (length s) p q f.tag) gs (sym (turn-field s (length s) m p last k f q l e) ∙ r) in
              rw (y.2, o y.0 y.1))

-- THE SAME FROM THE FRONT
pub data Stopped (t : ℕ) (s : List ℕ) : Type 0 where
  at-end : (fs : List Field) → stop t s ≡ Ends fs → UpTo t fs → read_message s 0 (length s) ≡ Fields fs → Stopped t s
  at_key : (fs : List Field) (h : ℕ) → stop t s ≡ Above fs h → UpTo t fs → h < length s → above t (key_at s (length s) h (last_of 0 fs)) ≡ true
      → read_message (take h s) 0 h ≡ Fields fs
      → ((gs : List Field) → read_message s 0 (length s) ≡ Fields gs → of_tag t gs ≡ of_tag t fs) → Stopped t s
  not-read : (r : Refusal) (i : ℕ) → stop t s ≡ Refused r → read_message s 0 (length s) ≡ reading.Refused r i → Stopped t s
