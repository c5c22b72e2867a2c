-- The fields of one tag in a message, and the one at a number.
use Rattle.std.specs.Prelude.{ℕ, ◌≡◌, refl, Bool, true, false, List, [], ◌∷◌, ◌++◌, eqb, length, drop}
use Rattle.std.proofs.Common.{◌∙◌, append-nil, eq-eqb, ne_eqb}
use Rattle.wire.specs.Choose.{choose}
use Rattle.wire.specs.Reading.{Message, Fields}
use Rattle.wire.specs.Reading as reading
use Rattle.wire.specs.declared.Field.{Field}
use Rattle.message.specs.declared.Sought.{Sought}
use Rattle.message.specs.declared.Sought.TheVariants.{Found, Absent, Refused}

-- the fields of a tag, in their order
abbrev pub of_tag : ℕ → List Field → List Field
of_tag t [] = []
of_tag t (f ∷ fs) = choose (eqb f.tag t) (f ∷ of_tag t fs) (of_tag t fs)

-- the first of those that are left, where there were n
abbrev pub first_of : ℕ → List Field → Sought
first_of n [] = Absent n
first_of n (f ∷ fs) = Found f n

-- Rule P5: the one at number k, counted from 0, and how many there are
unfoldable pub at_number : ℕ → List Field → Sought
at_number k fs = first_of (length fs) (drop k fs)

-- Rules P4 and P5: of a message, which is read whole first
abbrev pub sought : ℕ → ℕ → Message → Sought
sought t k (Fields fs) = at_number k (of_tag t fs)
sought t k (reading.Refused r p) = Refused r

-- ---- a list that grows by a field

pub of-append : (t : ℕ) (fs gs : List Field) → of_tag t (fs ++ gs) ≡ of_tag t fs ++ of_tag t gs
of-append t [] gs = refl
of-append t (f ∷ fs) gs = go (eqb f.tag t) refl (of-append t fs gs)
  where
    go : (b : Bool) → eqb f.tag t ≡ b → of_tag t (fs ++ gs) ≡ of_tag t fs ++ of_tag t gs → of_tag t (f ∷ fs ++ gs) ≡ of_tag t (f ∷ fs) ++ of_tag t gs
    go true b ih = simp (b, ih)
    go false b ih = simp (b, ih)

pub of_other : (t : ℕ) (fs : List Field) (f : Field) → (f.tag ≡ t → ⊥) → of_tag t (fs ++ f ∷ []) ≡ of_tag t fs
of_other t fs f h = of-append t fs (f ∷ []) ∙ rw (ne_eqb f.tag t h) (append-nil (of_tag t fs))

pub of-same : (t : ℕ) (fs : List Field) (f : Field) → f.tag ≡ t → of_tag t (fs ++ f ∷ []) ≡ of_tag t fs ++ f ∷ []
of-same t fs f h = of-append t fs (f ∷ []) ∙ rw (eq-eqb f.tag t h)

-- a list with no field of the tag behind it
pub of-unlike : (t : ℕ) (fs gs : List Field) → of_tag t gs ≡ [] → of_tag t (fs ++ gs) ≡ of_tag t fs
of-unlike t fs gs h = of-append t fs gs ∙ rw h (append-nil (of_tag t fs))
