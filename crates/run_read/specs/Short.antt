-- Numbers of at most eight bytes, counted without their sums: a byte below 128 ends one, and any other goes on.
use Rattle.std.specs.Prelude.{ℕ, zero, suc, ◌+◌, ◌-◌, ◌*◌, ◌/◌, ◌^◌, ◌≤◌, ◌<◌, ◌≡◌, refl, Bool, true, false, ◌⊎◌, List, [], ◌∷◌, ltb, length, drop, get_or}
use Rattle.std.proofs.Common.{sym, inl, inr, arith, lt-ltb, le-ltb, ltb-true, ltb-false, length-drop, get_or-drop}
use Rattle.wire.specs.Choose.{choose}
use Rattle.wire.specs.Reading.{varint_at, value_at}
use Rattle.wire.proofs.ReadingLaws.{value-moves}
use Rattle.wire.specs.Varint.{Adds, sum}
use Rattle.wire.specs.VarintLaws.{Bytes}
use Rattle.wire.specs.declared.WireType.{WireType}
use Rattle.wire.specs.declared.WireType.TheVariants.{Varint}
use Rattle.wire.specs.declared.Value.{Value}
use Rattle.wire.specs.declared.Value.TheVariants as val
use Rattle.wire.specs.declared.ValueFound.TheVariants as value_found

-- ---- values that were passed

-- n of them, from place p up to place r
abbrev pub Reads : List ℕ → WireType → ℕ → ℕ → ℕ → Type 0
Reads s w p zero r = r ≡ p
Reads s w p (suc n) r = (q : ℕ) × (v : Value) × Reads s w p n q × (q < length s) × (value_at s (length s) q w ≡ value_found.Got v r)

-- each takes a byte at least, and none passes the end
pub reads-inside : (s : List ℕ) (w : WireType) (p n r : ℕ) → Reads s w p n r → p ≤ length s → (p + n ≤ r) × (r ≤ length s)
reads-inside s w p zero r h l = (omega arith, omega arith)
reads-inside s w p (suc n) r h l =
    let m = value-moves s (length s) h.0 w h.1 r h.4 in
    let b = reads-inside s w p n h.0 h.2 l in
    (omega (arith, b.0, m.0), m.1)

-- ---- bytes that go on

-- 1 if a byte goes on, 0 if it ends a number
abbrev pub goes : List ℕ → ℕ → ℕ
goes s p = get_or s p 0 / 128

-- how many of the four at a place go on
abbrev pub going_on : List ℕ → ℕ → ℕ
going_on s p = goes s p + goes s (p + 1) + goes s (p + 2) + goes s (p + 3)

-- how many go on up to a byte, where n do before it
abbrev pub up_to : ℕ → ℕ → ℕ
up_to n b = choose (ltb b 128) 0 (n + 1)

-- how many go on right before a place, of the last three
abbrev pub left_open : List ℕ → ℕ → ℕ
left_open s p = up_to (up_to (up_to 0 (get_or s (p - 3) 0)) (get_or s (p - 2) 0)) (get_or s (p - 1) 0)

pub left-three : (s : List ℕ) (p a b c : ℕ) → a ≡ up_to 0 (get_or s (p - 3) 0) → b ≡ up_to a (get_or s (p - 2) 0) → c ≡ up_to b (get_or s (p - 1) 0) → c ≡ left_open s p
left-three s p a b c e f g = rw (g, f, e)

-- ---- a number of g bytes that go on and one that ends it

pow-128 : (k : ℕ) → 1 ≤ 128 ^ k
pow-128 zero = omega arith
pow-128 (suc k) = omega (arith, pow-128 k)

-- its sum, where up to k bytes may be read before the last that may follow
short-sum : (k g : ℕ) (bs : List ℕ) → Bytes bs → g < k → g < length bs → ((i : ℕ) → i < g → 128 ≤ get_or bs i 0) → get_or bs g 0 < 128
    → (v : ℕ) × (sum k bs ≡ Adds v (suc g)) × (127 * v + 255 ≤ 255 * 128 ^ k)
short-sum zero g bs y h l o e = absurd (omega arith)
short-sum (suc k) g [] y h l o e = absurd (omega arith)
short-sum (suc k) zero (b ∷ bs) y h l o e = (b, simp (lt-ltb b 128 e), omega (arith, pow-128 k))
short-sum (suc k) (suc g) (b ∷ bs) y h l o e =
    let t = short-sum k g bs (λ i. y (suc i)) (omega arith) (omega arith) (λ i z. o (suc i) (omega (arith, z))) e in
    let w = t.0 in
    let b₀ : b < 256 = y 0 in
    (b + 128 * w, simp (le-ltb b 128 (o 0 (omega arith)), t.1), omega (arith, t.2))

short-value : (s : List ℕ) (q g r : ℕ) → Bytes s → g < 8 → q + g < length s → ((i : ℕ) → i < g → 128 ≤ get_or s (q + i) 0) → get_or s (q + g) 0 < 128
    → r ≡ q + suc g → (v : Value) × (value_at s (length s) q Varint ≡ value_found.Got v r)
unfolding varint_at
short-value s q g r y h l o e f =
    let d : (i : ℕ) → get_or (drop q s) i 0 ≡ get_or s (q + i) 0 = λ i. get_or-drop q s i 0 in
    let t = short-sum 8 g (drop q s) (λ i. rw (d i) (y (q + i))) h (omega (arith, length-drop q s)) (λ i z. rw (d i) (o i z)) (rw (d g) e) in
    (val.Varint t.0, rw (t.1, lt-ltb t.0 (2 ^ 64) (omega (arith, t.2)), f))

-- ---- byte by byte: n numbers are passed from a place on, and the last g bytes before another go on

pub record Standing (s : List ℕ) (from n at g : ℕ) : Type 0 where
  pub q : ℕ
  pub reads : Reads s Varint from n q
  pub place : at ≡ q + g
  pub on : (i : ℕ) → i < g → 128 ≤ get_or s (q + i) 0
  pub begun : (q ≡ from) ⊎ ((0 < q) × (get_or s (q - 1) 0 < 128))

pub standing-start : (s : List ℕ) (from : ℕ) → Standing s from 0 from 0
standing-start s from = record { q = from; reads = refl; place = omega arith; on = λ i z. absurd (omega (arith, z)); begun = inl refl }

-- what a byte does to that
pub record Byte (s : List ℕ) (from n at g p : ℕ) : Type 0 where
  pub m : ℕ
  pub h : ℕ
  pub stands : Standing s from m p h
  pub more : m + goes s at ≡ n + 1
  pub next : h ≤ g + 1
  pub ended : h ≤ 8 * goes s at

module _ {s : List ℕ} (y : Bytes s) {from n at g : ℕ} (t : Standing s from n at g) (k : g < 8) (l : at < length s) (p : ℕ) (e : p ≡ at + 1) where
  pub byte : Byte s from n at g p
  byte = go (ltb (get_or s at 0) 128) refl
    where
      go : (b : Bool) → ltb (get_or s at 0) 128 ≡ b → Byte s from n at g p
      go true b =
          let c : get_or s at 0 < 128 = ltb-true (get_or s at 0) 128 b in
          let a : get_or s (t.q + g) 0 < 128 = rw (sym t.place) c in
          let v = short-value s t.q g p y k (omega (arith, t.place)) t.on a (omega (arith, t.place)) in
          let j : p - 1 ≡ at = omega arith in
          record {
            m = suc n;
            h = 0;
            stands =
                record {
                  q = p;
                  reads = (t.q, v.0, t.reads, omega (arith, t.place), v.1);
                  place = omega arith;
                  on = λ x z. absurd (omega (arith, z));
                  begun = inr (omega arith, rw j c);
                };
            more = omega arith;
            next = omega arith;
            ended = omega arith;
          }
      go false b =
          let c : 128 ≤ get_or s at 0 = ltb-false (get_or s at 0) 128 b in
          let u : get_or s at 0 < 256 = y at in
          record {
            m = n;
            h = g + 1;
            stands =
                record {
                  q = t.q;
                  reads = t.reads;
                  place = omega (arith, t.place);
                  on = λ x z. opened c x z (ltb x g) refl;
                  begun = t.begun;
                };
            more = omega arith;
            next = omega arith;
            ended = omega arith;
          }
        where
          opened : 128 ≤ get_or s at 0 → (x : ℕ) → x < g + 1 → (b : Bool) → ltb x g ≡ b → 128 ≤ get_or s (t.q + x) 0
          opened c x z true b = t.on x (ltb-true x g b)
          opened c x z false b =
              let f : t.q + x ≡ at = omega (arith, t.place, z, ltb-false x g b) in
              rw f c

-- ---- four bytes at a turn, of which one ends a number; the place where a turn begins, or one that is behind a turn

pub record Turned (s : List ℕ) (from n at : ℕ) : Type 0 where
  pub g : ℕ
  pub stands : Standing s from n at g
  pub few : g ≤ 3
  pub inside : at ≤ length s
  pub turns : (at ≡ from) ⊎ (from + 4 ≤ at)

pub turned-start : (s : List ℕ) (from : ℕ) → from ≤ length s → Turned s from 0 from
turned-start s from l = record { g = 0; stands = standing-start s from; few = omega arith; inside = l; turns = inl refl }

pub going-few : (s : List ℕ) (p : ℕ) → Bytes s → going_on s p ≤ 4
going-few s p y =
    let a : get_or s p 0 < 256 = y p in
    let b : get_or s (p + 1) 0 < 256 = y (p + 1) in
    let c : get_or s (p + 2) 0 < 256 = y (p + 2) in
    let d : get_or s (p + 3) 0 < 256 = y (p + 3) in
    omega arith

behind : {from at : ℕ} → (at ≡ from) ⊎ (from + 4 ≤ at) → from + 4 ≤ at + 4
behind (inl e) = omega arith
behind (inr h) = omega arith

module _ {s : List ℕ} {from n at : ℕ} (y : Bytes s) (t : Turned s from n at) (l : at + 4 ≤ length s) (o : going_on s at < 4) where
  abbrev First : Type 0
  First = Byte s from n at t.g (at + 1)

  abbrev Second : First → Type 0
  Second a = Byte s from a.m (at + 1) a.h (at + 2)

  abbrev Third : (a : First) → Second a → Type 0
  Third a b = Byte s from b.m (at + 2) b.h (at + 3)

  all : (a : First) (b : Second a) (c : Third a b) → Byte s from c.m (at + 3) c.h (at + 4) → Turned s from (n + (4 - going_on s at)) (at + 4)
  all a b c d =
      let e : n + (4 - going_on s at) ≡ d.m = omega (arith, a.more, b.more, c.more, d.more) in
      record {
        g = d.h;
        stands = rw e d.stands;
        few = omega (arith, a.next, b.next, c.next, d.next, a.ended, b.ended, c.ended, d.ended);
        inside = l;
        turns = inr (behind t.turns);
      }

  three : (a : First) (b : Second a) → Third a b → Turned s from (n + (4 - going_on s at)) (at + 4)
  three a b c = all a b c (byte y c.stands (omega (arith, t.few, a.next, b.next, c.next)) (omega arith) (at + 4) (omega arith))

  two : (a : First) → Second a → Turned s from (n + (4 - going_on s at)) (at + 4)
  two a b = three a b (byte y b.stands (omega (arith, t.few, a.next, b.next)) (omega arith) (at + 3) (omega arith))

  first : First → Turned s from (n + (4 - going_on s at)) (at + 4)
  first a = two a (byte y a.stands (omega (arith, t.few, a.next)) (omega arith) (at + 2) (omega arith))

  pub turn : Turned s from (n + (4 - going_on s at)) (at + 4)
  turn = first (byte y t.stands (omega (arith, t.few)) (omega arith) (at + 1) refl)

-- ---- back to where the number begins whose last bytes go on

module _ (s : List ℕ) {from n at : ℕ} (b : from + 4 ≤ at) {g : ℕ} (t : Standing s from n at g) (f : g ≤ 3) where
  -- its bytes go on, and the one before them does not
  on : (i p : ℕ) → i < g → p ≡ t.q + i → ltb (get_or s p 0) 128 ≡ false
  on i p h e = rw e (le-ltb (get_or s (t.q + i) 0) 128 (t.on i h))

  off : (p : ℕ) → p + 1 ≡ t.q → ltb (get_or s p 0) 128 ≡ true
  off p e = go t.begun
    where
      go : (t.q ≡ from) ⊎ ((0 < t.q) × (get_or s (t.q - 1) 0 < 128)) → ltb (get_or s p 0) 128 ≡ true
      go (inl z) = absurd (omega (arith, t.place))
      go (inr h) = let i : p ≡ t.q - 1 = omega arith in rw i (lt-ltb (get_or s (t.q - 1) 0) 128 h.1)

module _ (s : List ℕ) {from n at : ℕ} (b : from + 4 ≤ at) where
  left : (g : ℕ) (t : Standing s from n at g) → g ≤ 3 → left_open s at ≡ g
  left zero t f = rw (off s b t f (at - 1) (omega (arith, t.place)))
  left (suc zero) t f = rw (on s b t f 0 (at - 1) (omega arith) (omega (arith, t.place)), off s b t f (at - 2) (omega (arith, t.place)))
  left (suc (suc zero)) t f =
      rw (
        on s b t f 1 (at - 1) (omega arith) (omega (arith, t.place)),
        on s b t f 0 (at - 2) (omega arith) (omega (arith, t.place)),
        off s b t f (at - 3) (omega (arith, t.place)),
      )
  left (suc (suc (suc zero))) t f =
      rw (
        on s b t f 2 (at - 1) (omega arith) (omega (arith, t.place)),
        on s b t f 1 (at - 2) (omega arith) (omega (arith, t.place)),
        on s b t f 0 (at - 3) (omega arith) (omega (arith, t.place)),
      )
  left (suc (suc (suc (suc g)))) t f = absurd (omega arith)

pub turned-back : {s : List ℕ} {from n at : ℕ} → Turned s from n at → from + 4 ≤ at → Reads s Varint from n (at - left_open s at)
turned-back {s} {from} {n} {at} t b =
    let e : at - left_open s at ≡ t.stands.q = omega (arith, left s b t.g t.stands t.few, t.stands.place) in
    rw e t.stands.reads

pub turned-behind : {s : List ℕ} {from n at : ℕ} → Turned s from n at → (at ≡ from → ⊥) → from + 4 ≤ at
turned-behind {from = from} {at = at} t h = go t.turns
  where
    go : (at ≡ from) ⊎ (from + 4 ≤ at) → from + 4 ≤ at
    go (inl e) = absurd (h e)
    go (inr l) = l

-- how far it goes
pub turned-few : {s : List ℕ} {from n at : ℕ} → Turned s from n at → from + n ≤ at
turned-few {s} {from} {n} {at} t =
    let r = reads-inside s Varint from n t.stands.q t.stands.reads (start t.turns) in
    omega (arith, r.0, t.stands.place)
  where
    start : (at ≡ from) ⊎ (from + 4 ≤ at) → from ≤ length s
    start (inl e) = omega (arith, t.inside)
    start (inr h) = omega (arith, t.inside)
