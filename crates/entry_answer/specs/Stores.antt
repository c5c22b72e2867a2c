-- Bytes put at a buffer's front or at its end (rule E5): what is answered, and what the buffer holds.
use Rattle.std.specs.Prelude.{ℕ, ◌+◌, ◌-◌, ◌≤◌, ◌<◌, ◌≡◌, refl, Bool, true, false, List, ◌++◌, leb, length, take, drop}
use Rattle.std.proofs.Common.{ap, ◌∙◌, arith, leb-true, leb-false}
use Rattle.wire.specs.Choose.{choose}
use Rattle.wire.specs.declared.Refusal.TheVariants.{NoRoom}
use Rattle.place.specs.Place.{Placed, put_at, prepend_at, put-roomy, put-none, prepend-roomy, prepend-none, put_front, put-end}
use Rattle.entry_answer.specs.declared.Put.{Put}
use Rattle.entry_answer.specs.declared.Put.TheVariants.{Done, Refused}

pub record Stored : Type 0 where
  pub answer : Put
  pub buf : List ℕ

-- Rules E5 and R8: what is put and left, where there is room; else NoRoom, and the buffer as it was
abbrev pub room_for : List ℕ → List ℕ → List ℕ → Stored
room_for b xs c = choose (leb (length xs) (length b)) (record { answer = Done (length xs); buf = c }) (record { answer = Refused NoRoom; buf = b })

-- Rule E5: the bytes first, every other byte as it was
unfoldable pub at_front : List ℕ → List ℕ → Stored
at_front b xs = room_for b xs (xs ++ drop (length xs) b)

-- Rule E5: the bytes last, every other byte as it was
unfoldable pub at_end : List ℕ → List ℕ → Stored
at_end b xs = room_for b xs (take (length b - length xs) b ++ xs)

-- ---- what a core put: m of the bytes xs, that are not none, so that d is left

pub record Puts (b xs c : List ℕ) (m : ℕ) (d : List ℕ) : Type 0 where
  pub some : 1 ≤ length xs
  pub fits : length xs ≤ length b → (m ≡ length xs) × (d ≡ c)
  pub none : length b < length xs → (m ≡ 0) × (d ≡ b)

module _ {b xs c : List ℕ} {m : ℕ} {d : List ℕ} (w : Puts b xs c m d) where
  pub puts_none : m ≡ 0 → record { answer = Refused NoRoom; buf = d } ≡ room_for b xs c
  puts_none z = go (leb (length xs) (length b)) refl
    where
      go : (t : Bool) → leb (length xs) (length b) ≡ t → record { answer = Refused NoRoom; buf = d } ≡ room_for b xs c
      go true t = absurd (omega (arith, w.some, (w.fits (leb-true (length xs) (length b) t)).0))
      go false t = rw (t, (w.none (leb-false (length xs) (length b) t)).1)

  pub puts-done : (m ≡ 0 → ⊥) → record { answer = Done m; buf = d } ≡ room_for b xs c
  puts-done z = go (leb (length xs) (length b)) refl
    where
      go : (t : Bool) → leb (length xs) (length b) ≡ t → record { answer = Done m; buf = d } ≡ room_for b xs c
      go true t = let f = w.fits (leb-true (length xs) (length b) t) in rw (t, f.0, f.1)
      go false t = absurd (z (w.none (leb-false (length xs) (length b) t)).0)

-- at the front, and at the end

module _ (b xs : List ℕ) (some : 1 ≤ length xs) (n : ℕ) (d : List ℕ) where
  pub puts-front : ◌≡◌ {A = Placed} (record { next = n; buf = d }) (put_at b 0 xs) → Puts b xs (xs ++ drop (length xs) b) n d
  puts-front e =
      record {
        some = some;
        fits = λ h.
            let q = e ∙ put-roomy b 0 xs (omega arith) in
            (omega (arith, ap (λ (o : Placed). o.next) q), ap (λ (o : Placed). o.buf) q ∙ put_front b xs h);
        none = λ h.
            let q = e ∙ put-none b 0 xs (omega arith) in
            (ap (λ (o : Placed). o.next) q, ap (λ (o : Placed). o.buf) q);
      }

  pub puts-end : ◌≡◌ {A = Placed} (record { next = n; buf = d }) (prepend_at b (length b) xs)
      → Puts b xs (take (length b - length xs) b ++ xs) (length b - n) d
  puts-end e =
      record {
        some = some;
        fits = λ h.
            let q = e ∙ prepend-roomy b (length b) xs (omega arith) h in
            (omega (arith, ap (λ (o : Placed). o.next) q), ap (λ (o : Placed). o.buf) q ∙ put-end b xs h);
        none = λ h.
            let q = e ∙ prepend-none b (length b) xs h in
            (omega (arith, ap (λ (o : Placed). o.next) q), ap (λ (o : Placed). o.buf) q);
      }
