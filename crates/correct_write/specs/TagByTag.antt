-- The result tag by tag: the correction's items where it has the tag, the original's elsewhere; it is the only such list, and a correction applied again
-- changes nothing (rule G1).
use Rattle.std.specs.Prelude.{ℕ, suc, ◌^◌, ◌≤◌, ◌<◌, ◌≡◌, refl, Bool, true, false, List, [], ◌∷◌, ◌++◌, ltb, eqb, length}
use Rattle.std.proofs.Common.{ap, ◌∙◌, sym, append-nil, arith, lt-ltb, le-ltb, ltb-true, ltb-false, eq-eqb, ne_eqb, eqb-true}
use Rattle.std.proofs.lemmas.Bool.{eqb-false}
use Rattle.wire.specs.Choose.{choose}
use Rattle.wire.specs.Written.{Item, GoodContent, GoodFrom}
use Rattle.correct_write.specs.Corrected.{below, above, corrected}

-- ---- tags that do not fall; tags that are all below a number; tags none of which is

abbrev pub Ordered : ℕ → List Item → Type 0
Ordered last [] = Unit {0}
Ordered last (i ∷ is) = (last ≤ i.tag) × Ordered i.tag is

abbrev pub Under : ℕ → List Item → Type 0
Under n [] = Unit {0}
Under n (i ∷ is) = (i.tag < n) × Under n is

abbrev pub Over : ℕ → List Item → Type 0
Over n [] = Unit {0}
Over n (i ∷ is) = (n ≤ i.tag) × Over n is

pub good-ordered : (last : ℕ) (is : List Item) → GoodFrom last is → Ordered last is
good-ordered last [] g = tt
good-ordered last (i ∷ is) g = (g.0.order, good-ordered i.tag is g.1)

pub over-wider : (m n : ℕ) (is : List Item) → n ≤ m → Over m is → Over n is
over-wider m n [] h o = tt
over-wider m n (i ∷ is) h o = (omega (arith, h, o.0), over-wider m n is h o.1)

pub under-wider : (m n : ℕ) (is : List Item) → m ≤ n → Under m is → Under n is
under-wider m n [] h o = tt
under-wider m n (i ∷ is) h o = (omega (arith, h, o.0), under-wider m n is h o.1)

pub ordered-over : (n : ℕ) (is : List Item) → Ordered n is → Over n is
ordered-over n [] o = tt
ordered-over n (i ∷ is) o = (o.0, over-wider i.tag n is o.0 (ordered-over i.tag is o.1))

pub under-both : (n : ℕ) (xs ys : List Item) → Under n xs → Under n ys → Under n (xs ++ ys)
under-both n [] ys a b = b
under-both n (x ∷ xs) ys a b = (a.0, under-both n xs ys a.1 b)

pub over-parts : (n : ℕ) (xs ys : List Item) → Over n (xs ++ ys) → Over n xs × Over n ys
over-parts n [] ys o = (tt, o)
over-parts n (x ∷ xs) ys o = let p = over-parts n xs ys o.1 in ((o.0, p.0), p.1)

-- ---- what the two choices by a tag keep

pub below-under : (t : ℕ) (xs ys : List Item) → Under t xs → below t (xs ++ ys) ≡ xs ++ below t ys
below-under t [] ys h = refl
below-under t (x ∷ xs) ys h = rw (lt-ltb x.tag t h.0, below-under t xs ys h.1)

pub below-over : (t : ℕ) (ys : List Item) → Over t ys → below t ys ≡ []
below-over t [] h = refl
below-over t (y ∷ ys) h = rw (le-ltb y.tag t h.0) (below-over t ys h.1)

pub above-under : (t : ℕ) (xs ys : List Item) → Under (suc t) xs → above t (xs ++ ys) ≡ above t ys
above-under t [] ys h = refl
above-under t (x ∷ xs) ys h = rw (le-ltb t x.tag (omega (arith, h.0))) (above-under t xs ys h.1)

pub above-over : (t : ℕ) (ys : List Item) → Over (suc t) ys → above t ys ≡ ys
above-over t [] h = refl
above-over t (y ∷ ys) h = rw (lt-ltb t y.tag (omega (arith, h.0)), above-over t ys h.1)

-- ---- ONE TAG OF THE CORRECTION: the original's items of lower tags, then its own; those of the original of that tag are gone

-- more items of the tag that was taken last
same_more : (t : ℕ) (gs cs os : List Item) → Over t gs → Under (suc t) gs → Over (suc t) os → corrected (gs ++ cs) os ≡ gs ++ corrected cs os
same_more t [] cs os a b h = refl
same_more t (g ∷ gs) cs os a b h =
    let e : g.tag ≡ t = omega (arith, a.0, b.0) in
    rw (e, below-over t os (over-wider (suc t) t os (omega arith) h), above-over t os h, same_more t gs cs os a.1 b.1 h)

pub tag-turn : (t : ℕ) (g : Item) (gs cs xs ys os : List Item) → Over t (g ∷ gs) → Under (suc t) (g ∷ gs) → Under t xs → Over t (ys ++ os) → Under (suc t) ys
    → Over (suc t) os → corrected (g ∷ (gs ++ cs)) (xs ++ (ys ++ os)) ≡ xs ++ g ∷ (gs ++ corrected cs os)
tag-turn t g gs cs xs ys os a b l m n h =
    let e : g.tag ≡ t = omega (arith, a.0, b.0) in
    let low : below t (xs ++ (ys ++ os)) ≡ xs =
    below-under t xs (ys ++ os) l ∙ ap (λ (z : List Item). xs ++ z) (below-over t (ys ++ os) m) ∙ append-nil xs in
    let high : above t (xs ++ (ys ++ os)) ≡ os =
    above-under t xs (ys ++ os) (under-wider t (suc t) xs (omega arith) l) ∙ above-under t ys os n ∙ above-over t os h in
    rw (e, low, high, same_more t gs cs os a.1 b.1 h)

-- ---- the items of one tag

abbrev pub items_of_tag : ℕ → List Item → List Item
items_of_tag t [] = []
items_of_tag t (i ∷ is) = choose (eqb i.tag t) (i ∷ items_of_tag t is) (items_of_tag t is)

-- the first list, if it has any; else the second
abbrev pub replaced : List Item → List Item → List Item
replaced [] os = os
replaced (c ∷ cs) os = c ∷ cs

replaced-none : (cs : List Item) → replaced cs [] ≡ cs
replaced-none [] = refl
replaced-none (c ∷ cs) = refl

replaced-twice : (cs os : List Item) → replaced cs (replaced cs os) ≡ replaced cs os
replaced-twice [] os = refl
replaced-twice (c ∷ cs) os = refl

of-both : (t : ℕ) (xs ys : List Item) → items_of_tag t (xs ++ ys) ≡ items_of_tag t xs ++ items_of_tag t ys
of-both t [] ys = refl
of-both t (x ∷ xs) ys = go (eqb x.tag t) refl (of-both t xs ys)
  where
    go : (b : Bool) → eqb x.tag t ≡ b → items_of_tag t (xs ++ ys) ≡ items_of_tag t xs ++ items_of_tag t ys
        → items_of_tag t (x ∷ xs ++ ys) ≡ items_of_tag t (x ∷ xs) ++ items_of_tag t ys
    go true b ih = rw (b, ih)
    go false b ih = rw (b, ih)

of-over : (t n : ℕ) (is : List Item) → t < n → Over n is → items_of_tag t is ≡ []
of-over t n [] h o = refl
of-over t n (i ∷ is) h o = rw (ne_eqb i.tag t (λ e. omega (arith, e, h, o.0))) (of-over t n is h o.1)

-- of those below a tag, and of those above it
module _ (t u : ℕ) where
  below-lower : t < u → (os : List Item) → items_of_tag t (below u os) ≡ items_of_tag t os
  below-lower h [] = refl
  below-lower h (o ∷ os) = go (ltb o.tag u) refl (eqb o.tag t) refl (below-lower h os)
    where
      go : (a : Bool) → ltb o.tag u ≡ a → (b : Bool) → eqb o.tag t ≡ b → items_of_tag t (below u os) ≡ items_of_tag t os
          → items_of_tag t (below u (o ∷ os)) ≡ items_of_tag t (o ∷ os)
      go true a true b ih = rw (a, b, ih)
      go true a false b ih = rw (a, b) ih
      go false a b x ih = rw (a, ne_eqb o.tag t (λ e. omega (arith, e, h, ltb-false o.tag u a))) ih

  below-higher : u ≤ t → (os : List Item) → items_of_tag t (below u os) ≡ []
  below-higher h [] = refl
  below-higher h (o ∷ os) = go (ltb o.tag u) refl (below-higher h os)
    where
      go : (a : Bool) → ltb o.tag u ≡ a → items_of_tag t (below u os) ≡ [] → items_of_tag t (below u (o ∷ os)) ≡ []
      go true a ih = rw (a, ne_eqb o.tag t (λ e. omega (arith, e, h, ltb-true o.tag u a))) ih
      go false a ih = rw a ih

  above-higher : u < t → (os : List Item) → items_of_tag t (above u os) ≡ items_of_tag t os
  above-higher h [] = refl
  above-higher h (o ∷ os) = go (ltb u o.tag) refl (eqb o.tag t) refl (above-higher h os)
    where
      go : (a : Bool) → ltb u o.tag ≡ a → (b : Bool) → eqb o.tag t ≡ b → items_of_tag t (above u os) ≡ items_of_tag t os
          → items_of_tag t (above u (o ∷ os)) ≡ items_of_tag t (o ∷ os)
      go true a true b ih = rw (a, b, ih)
      go true a false b ih = rw (a, b) ih
      go false a b x ih = rw (a, ne_eqb o.tag t (λ e. omega (arith, e, h, ltb-false u o.tag a))) ih

  above_lower : t ≤ u → (os : List Item) → items_of_tag t (above u os) ≡ []
  above_lower h [] = refl
  above_lower h (o ∷ os) = go (ltb u o.tag) refl (above_lower h os)
    where
      go : (a : Bool) → ltb u o.tag ≡ a → items_of_tag t (above u os) ≡ [] → items_of_tag t (above u (o ∷ os)) ≡ []
      go true a ih = rw (a, ne_eqb o.tag t (λ e. omega (arith, e, h, ltb-true u o.tag a))) ih
      go false a ih = rw a ih

-- TAG BY TAG
pub corrected-tags : (last t : ℕ) (cs os : List Item) → Ordered last cs → items_of_tag t (corrected cs os) ≡ replaced (items_of_tag t cs) (items_of_tag t os)
corrected-tags last t [] os h = refl
corrected-tags last t (c ∷ cs) os h =
    go (ltb t c.tag) refl (eqb c.tag t) refl (corrected-tags c.tag t cs (above c.tag os) h.1)
  where
    go : (a : Bool) → ltb t c.tag ≡ a → (b : Bool) → eqb c.tag t ≡ b
        → items_of_tag t (corrected cs (above c.tag os)) ≡ replaced (items_of_tag t cs) (items_of_tag t (above c.tag os))
        → items_of_tag t (corrected (c ∷ cs) os) ≡ replaced (items_of_tag t (c ∷ cs)) (items_of_tag t os)
    go true a b x ih =
        let l = ltb-true t c.tag a in
        let none : items_of_tag t cs ≡ [] = of-over t c.tag cs l (ordered-over c.tag cs h.1) in
        of-both t (below c.tag os) (c ∷ corrected cs (above c.tag os))
        ∙ rw (below-lower t c.tag l os, ne_eqb c.tag t (λ e. omega (arith, e, l)), ih, none, above_lower t c.tag (omega (arith, l)) os)
        (append-nil (items_of_tag t os))
    go false a true b ih =
        let e = eqb-true c.tag t b in
        of-both t (below c.tag os) (c ∷ corrected cs (above c.tag os))
        ∙ rw (below-higher t c.tag (omega (arith, e)) os, b, ih, above_lower t c.tag (omega (arith, e)) os)
        (ap (λ (l : List Item). c ∷ l) (replaced-none (items_of_tag t cs)))
    go false a false b ih =
        let l : c.tag < t = omega (arith, ltb-false t c.tag a, eqb-false c.tag t b) in
        of-both t (below c.tag os) (c ∷ corrected cs (above c.tag os))
        ∙ rw (below-higher t c.tag (omega (arith, l)) os, b, ih, above-higher t c.tag l os)

-- ---- the result is a good list

good-lower : (last m : ℕ) (is : List Item) → last ≤ m → GoodFrom m is → GoodFrom last is
good-lower last m [] h g = tt
good-lower last m (i ∷ is) h g = (record { order = omega (arith, h, g.0.order); small = g.0.small; content = g.0.content }, g.1)

good-below : (last : ℕ) (os : List Item) (c : Item) (ys : List Item) → GoodFrom last os → last ≤ c.tag → c.tag < 2 ^ 32 → GoodContent c.content
    → GoodFrom c.tag ys → GoodFrom last (below c.tag os ++ c ∷ ys)
good-below last [] c ys g a b d h = (record { order = a; small = b; content = d }, h)
good-below last (o ∷ os) c ys g a b d h = go (ltb o.tag c.tag) refl (λ m x l. good-below m os c ys x l b d h)
  where
    go : (x : Bool) → ltb o.tag c.tag ≡ x
        → ((m : ℕ) → GoodFrom m os → m ≤ c.tag → GoodFrom m (below c.tag os ++ c ∷ ys))
        → GoodFrom last (below c.tag (o ∷ os) ++ c ∷ ys)
    go true x ih = rw x (g.0, ih o.tag g.1 (omega (arith, ltb-true o.tag c.tag x)))
    go false x ih = rw x (ih last (good-lower last o.tag os g.0.order g.1) a)

good-kept : (m t : ℕ) (os : List Item) → GoodFrom m os → GoodFrom m (above t os)
good-kept m t [] g = tt
good-kept m t (o ∷ os) g = go (ltb t o.tag) refl (good-kept o.tag t os g.1)
  where
    go : (x : Bool) → ltb t o.tag ≡ x → GoodFrom o.tag (above t os) → GoodFrom m (above t (o ∷ os))
    go true x ih = rw x (g.0, ih)
    go false x ih = rw x (good-lower m o.tag (above t os) g.0.order ih)

pub good-above : (m t : ℕ) (os : List Item) → GoodFrom m os → GoodFrom t (above t os)
good-above m t [] g = tt
good-above m t (o ∷ os) g = go (ltb t o.tag) refl (good-above o.tag t os g.1)
  where
    go : (x : Bool) → ltb t o.tag ≡ x → GoodFrom t (above t os) → GoodFrom t (above t (o ∷ os))
    go true x ih =
        rw x (
          record { order = omega (arith, ltb-true t o.tag x); small = g.0.small; content = g.0.content },
          good-kept o.tag t os g.1,
        )
    go false x ih = rw x ih

pub good-corrected : (last : ℕ) (cs os : List Item) → GoodFrom last cs → GoodFrom last os → GoodFrom last (corrected cs os)
good-corrected last [] os g h = h
good-corrected last (c ∷ cs) os g h =
    good-below last os c (corrected cs (above c.tag os)) h g.0.order g.0.small g.0.content
    (good-corrected c.tag cs (above c.tag os) g.1 (good-above last c.tag os h))

-- ---- THE ONLY ONE: lists whose tags do not fall and that agree tag by tag are equal

first_of : (i : Item) (is : List Item) → items_of_tag i.tag (i ∷ is) ≡ i ∷ items_of_tag i.tag is
first_of i is = rw (eq-eqb i.tag i.tag refl)

no-first : {A : Type 0} (i : Item) (is js : List Item) → Over (suc i.tag) js → items_of_tag i.tag (i ∷ is) ≡ items_of_tag i.tag js → A
no-first i is js o h = absurd (omega (arith, ap length (sym (first_of i is) ∙ h ∙ of-over i.tag (suc i.tag) js (omega arith) o)))

-- without their first, which are one and the same
rest-agree : (i : Item) (xs ys : List Item) → items_of_tag i.tag xs ≡ items_of_tag i.tag ys
    → ((t : ℕ) → items_of_tag t (i ∷ xs) ≡ items_of_tag t (i ∷ ys)) → (t : ℕ) → items_of_tag t xs ≡ items_of_tag t ys
rest-agree i xs ys u h t = go (eqb i.tag t) refl
  where
    go : (b : Bool) → eqb i.tag t ≡ b → items_of_tag t xs ≡ items_of_tag t ys
    go true b = rw (eqb-true i.tag t b) at u
    go false b = rw b at (h t)

pub only-list : (a b : ℕ) (xs ys : List Item) → Ordered a xs → Ordered b ys → ((t : ℕ) → items_of_tag t xs ≡ items_of_tag t ys) → xs ≡ ys
only-list a b [] [] x y h = refl
only-list a b [] (j ∷ ys) x y h = no-first j ys [] tt (sym (h j.tag))
only-list a b (i ∷ xs) [] x y h = no-first i xs [] tt (h i.tag)
only-list a b (i ∷ xs) (j ∷ ys) x y h =
    go (ltb i.tag j.tag) refl (ltb j.tag i.tag) refl (λ r. only-list i.tag j.tag xs ys x.1 y.1 r)
  where
    go : (c : Bool) → ltb i.tag j.tag ≡ c → (d : Bool) → ltb j.tag i.tag ≡ d
        → (((t : ℕ) → items_of_tag t xs ≡ items_of_tag t ys) → xs ≡ ys) → i ∷ xs ≡ j ∷ ys
    go true c d z ih =
        let l = ltb-true i.tag j.tag c in
        no-first i xs (j ∷ ys)
        (omega (arith, l), over-wider j.tag (suc i.tag) ys (omega (arith, l)) (ordered-over j.tag ys y.1)) (h i.tag)
    go false c true z ih =
        let l = ltb-true j.tag i.tag z in
        no-first j ys (i ∷ xs)
        (omega (arith, l), over-wider i.tag (suc j.tag) xs (omega (arith, l)) (ordered-over i.tag xs x.1)) (sym (h j.tag))
    go false c false z ih =
        let e : i.tag ≡ j.tag = omega (arith, ltb-false i.tag j.tag c, ltb-false j.tag i.tag z) in
        let f : i ∷ items_of_tag i.tag xs ≡ j ∷ items_of_tag i.tag ys =
        sym (first_of i xs) ∙ h i.tag ∙ rw (eq-eqb j.tag i.tag (sym e)) in
        let u : i ≡ j = cc in
        let v : items_of_tag i.tag xs ≡ items_of_tag i.tag ys = cc in
        let w : (t : ℕ) → items_of_tag t (i ∷ xs) ≡ items_of_tag t (i ∷ ys) = λ t. h t ∙ ap (λ (k : Item). items_of_tag t (k ∷ ys)) (sym u) in
        ap (λ (l : List Item). i ∷ l) (ih (rest-agree i xs ys v w)) ∙ ap (λ (k : Item). k ∷ ys) u

-- ---- APPLIED AGAIN, and nothing corrected

pub applied-again : (cs os : List Item) → GoodFrom 0 cs → GoodFrom 0 os → corrected cs (corrected cs os) ≡ corrected cs os
applied-again cs os g h =
    let r = good-corrected 0 cs os g h in
    let c = good-ordered 0 cs g in
    only-list 0 0 (corrected cs (corrected cs os)) (corrected cs os)
    (good-ordered 0 (corrected cs (corrected cs os)) (good-corrected 0 cs (corrected cs os) g r)) (good-ordered 0 (corrected cs os) r)
    (λ t. corrected-tags 0 t cs (corrected cs os) c
    ∙ ap (replaced (items_of_tag t cs)) (corrected-tags 0 t cs os c)
    ∙ replaced-twice (items_of_tag t cs) (items_of_tag t os)
    ∙ sym (corrected-tags 0 t cs os c))

pub corrected-empty : (cs : List Item) → corrected cs [] ≡ cs
corrected-empty [] = refl
corrected-empty (c ∷ cs) = ap (λ (l : List Item). c ∷ l) (corrected-empty cs)
