-- A plain list and the same edits: what a working copy is held to (rule H10).
use Rattle.std.specs.Prelude.{ℕ, zero, suc, ◌+◌, ◌≤◌, ◌<◌, ◌≡◌, refl, Bool, true, false, List, [], ◌∷◌, ◌++◌, ltb, leb, length}
use Rattle.std.proofs.Common.{ap, arith, le-leb}
use Rattle.std.proofs.lemmas.Bool.{lt-leb}
use Rattle.wire.specs.Choose.{choose}
use Rattle.wire.specs.Written.{Content, Number, Payload, Four, Eight, Item}

-- ---- THE EDITS

pub data Order : Type 0 where
  Remove : ℕ → Order
  Replace : ℕ → List ℕ → Order
  Insert : ℕ → List ℕ → Order

abbrev pub payload : ℕ → List ℕ → Item
payload tag b = record { tag = tag; content = Payload b }

-- the item at an index taken out
abbrev pub without : ℕ → List Item → List Item
without i [] = []
without zero (x ∷ xs) = xs
without (suc i) (x ∷ xs) = x ∷ without i xs

-- other bytes in the item at an index
abbrev pub given : ℕ → List ℕ → List Item → List Item
given i b [] = []
given zero b (x ∷ xs) = payload x.tag b ∷ xs
given (suc i) b (x ∷ xs) = x ∷ given i b xs

-- a new item behind all of an equal or lower tag
abbrev pub among : Item → List Item → List Item
among x [] = x ∷ []
among x (y ∷ ys) = choose (leb y.tag x.tag) (y ∷ among x ys) (x ∷ y ∷ ys)

-- ---- WHICH ARE TAKEN: of a room of n bytes and a table for m records

-- the bytes of all payloads
abbrev pub load : Content → ℕ
load (Number v) = 0
load (Payload b) = length b
load (Four v) = 0
load (Eight v) = 0

abbrev pub loads : List Item → ℕ
loads [] = 0
loads (x ∷ xs) = load x.content + loads xs

abbrev pub is_payload : Content → Bool
is_payload (Number v) = false
is_payload (Payload b) = true
is_payload (Four v) = false
is_payload (Eight v) = false

-- the item at an index is a payload
abbrev pub payload_at : ℕ → List Item → Bool
payload_at i [] = false
payload_at zero (x ∷ xs) = is_payload x.content
payload_at (suc i) (x ∷ xs) = payload_at i xs

-- the list after an order; as it was where the order is refused
abbrev pub edited : ℕ → ℕ → Order → List Item → List Item
edited n m (Remove i) xs = without i xs
edited n m (Replace i b) xs = choose (payload_at i xs) (choose (leb (loads (without i xs) + length b) n) (given i b xs) xs) xs
edited n m (Insert tag b) xs = choose (leb (loads xs + length b) n) (choose (ltb (length xs) m) (among (payload tag b) xs) xs) xs

abbrev pub edited_all : ℕ → ℕ → List Order → List Item → List Item
edited_all n m [] xs = xs
edited_all n m (o ∷ os) xs = edited_all n m os (edited n m o xs)

-- ---- LAWS: a list with its item at an index in sight

module _ (ys : List Item) where
  pub without-there : (x : Item) (zs : List Item) → without (length ys) (ys ++ x ∷ zs) ≡ ys ++ zs
  without-there x zs = go ys
    where
      go : (ys : List Item) → without (length ys) (ys ++ x ∷ zs) ≡ ys ++ zs
      go [] = refl
      go (y ∷ ys) = ap (λ (l : List Item). y ∷ l) (go ys)

  pub given-there : (x : Item) (zs : List Item) (b : List ℕ) → given (length ys) b (ys ++ x ∷ zs) ≡ ys ++ payload x.tag b ∷ zs
  given-there x zs b = go ys
    where
      go : (ys : List Item) → given (length ys) b (ys ++ x ∷ zs) ≡ ys ++ payload x.tag b ∷ zs
      go [] = refl
      go (y ∷ ys) = ap (λ (l : List Item). y ∷ l) (go ys)

  pub payload-there : (x : Item) (zs : List Item) → payload_at (length ys) (ys ++ x ∷ zs) ≡ is_payload x.content
  payload-there x zs = go ys
    where
      go : (ys : List Item) → payload_at (length ys) (ys ++ x ∷ zs) ≡ is_payload x.content
      go [] = refl
      go (y ∷ ys) = go ys

-- past the end nothing is there
pub without-past : (i : ℕ) (xs : List Item) → length xs ≤ i → without i xs ≡ xs
without-past i [] h = refl
without-past zero (x ∷ xs) h = absurd (omega arith)
without-past (suc i) (x ∷ xs) h = ap (λ (l : List Item). x ∷ l) (without-past i xs (omega arith))

pub payload-past : (i : ℕ) (xs : List Item) → length xs ≤ i → payload_at i xs ≡ false
payload-past i [] h = refl
payload-past zero (x ∷ xs) h = absurd (omega arith)
payload-past (suc i) (x ∷ xs) h = payload-past i xs (omega arith)

pub loads-join : (xs ys : List Item) → loads (xs ++ ys) ≡ loads xs + loads ys
loads-join [] ys = omega arith
loads-join (x ∷ xs) ys = omega (arith, loads-join xs ys)

-- all of a list have an equal or lower tag
abbrev pub Low : ℕ → List Item → Type 0
Low tag [] = Unit {0}
Low tag (x ∷ xs) = (x.tag ≤ tag) × Low tag xs

-- its first has a higher one
abbrev pub High : ℕ → List Item → Type 0
High tag [] = Unit {0}
High tag (x ∷ xs) = tag < x.tag

pub among_there : (x : Item) (ys zs : List Item) → Low x.tag ys → High x.tag zs → among x (ys ++ zs) ≡ ys ++ x ∷ zs
among_there x [] [] l h = refl
among_there x [] (z ∷ zs) l h = rw (lt-leb z.tag x.tag h)
among_there x (y ∷ ys) zs l h = rw (le-leb y.tag x.tag l.0, among_there x ys zs l.1 h)
