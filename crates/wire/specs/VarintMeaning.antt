-- The rules on varints (rules V1, V2 and V3), each stated by itself, and the law that the definitions of Varint say the same (rule V5).
use Rattle.std.specs.Prelude.{ℕ, zero, suc, ◌+◌, ◌-◌, ◌*◌, ◌/◌, ◌%◌, ◌^◌, ◌≤◌, ◌<◌, ◌≡◌, refl, Bool, true, false, List, [], ◌∷◌, ◌++◌, ◌⊎◌, ltb, length, take, drop, get_or}
use Rattle.std.proofs.Common.{ap, ◌∙◌, sym, append-nil, inl, inr, arith, pow-suc, ltb-true, ltb-false, le-ltb, length-take, take-append-drop}
use Rattle.std.proofs.Math.Seq.{take-length}
use Rattle.wire.specs.Varint.{enc, encode, Sum, Adds, Stops, sum}
use Rattle.wire.specs.VarintLaws.{Bytes, sum-ends, sum-nil, stops, Summed, ends, goes_on, summed}

-- Rule V1: byte i adds its whole value times 128^i
abbrev pub total : ℕ → List ℕ → ℕ
total i [] = 0
total i (b ∷ bs) = b * 128 ^ i + total (suc i) bs

-- Rules V1 and V2: bytes that are a varint of value v, where up to k more may follow the first
pub record Spells (k : ℕ) (bs : List ℕ) (v : ℕ) : Type 0 where
  pub some : 1 ≤ length bs
  pub few : length bs ≤ suc k
  -- Rule V2: a byte below 0x80 ends it, and none does before
  pub on : (i : ℕ) → suc i < length bs → 128 ≤ get_or bs i 0
  -- and the last that may follow always does
  pub end : (length bs ≡ suc k) ⊎ (get_or bs (length bs - 1) 0 < 128)
  pub adds : total 0 bs ≡ v

-- Rules V1 and V3: one to nine bytes, and a sum below 2^64
pub record IsVarint (bs : List ℕ) (v : ℕ) : Type 0 where
  pub spells : Spells 8 bs v
  pub small : v < 2 ^ 64

-- ---- the law

total-next : (i : ℕ) (bs : List ℕ) → total (suc i) bs ≡ 128 * total i bs
total-next i [] = refl
total-next i (b ∷ bs) = omega (arith, total-next (suc i) bs, ap (λ (n : ℕ). b * n) (pow-suc 128 i))

-- the byte at the end of a longer list
last-behind : (b : ℕ) (bs : List ℕ) → 1 ≤ length bs → get_or (b ∷ bs) (suc (length bs) - 1) 0 ≡ get_or bs (length bs - 1) 0
last-behind b bs h =
    let e : suc (length bs) - 1 ≡ suc (length bs - 1) = omega arith in
    rw e

behind : (k b : ℕ) (c : ℕ) (cs : List ℕ) (v : ℕ) → Spells (suc k) (b ∷ c ∷ cs) v → Spells k (c ∷ cs) (total 0 (c ∷ cs))
behind k b c cs v w = record { some = omega arith; few = omega (arith, w.few); on = λ i h. w.on (suc i) (omega arith); end = go w.end; adds = refl }
  where
    go : (suc (suc (length cs)) ≡ suc (suc k)) ⊎ (get_or (b ∷ c ∷ cs) (suc (suc (length cs)) - 1) 0 < 128)
        → (suc (length cs) ≡ suc k) ⊎ (get_or (c ∷ cs) (suc (length cs) - 1) 0 < 128)
    go (inl e) = inl (omega arith)
    go (inr h) = inr (rw (last-behind b (c ∷ cs) (omega arith)) at h)

-- whatever follows
pub spelled : (k : ℕ) (bs rest : List ℕ) (v : ℕ) → Spells k bs v → sum k (bs ++ rest) ≡ Adds v (length bs)
spelled zero [] rest v w = absurd (omega (arith, w.some))
spelled zero (b ∷ []) rest v w = let e : b ≡ v = omega (arith, w.adds) in rw e
spelled zero (b ∷ c ∷ cs) rest v w = absurd (omega (arith, w.few))
spelled (suc k) [] rest v w = absurd (omega (arith, w.some))
spelled (suc k) (b ∷ []) rest v w = let e : b ≡ v = omega (arith, w.adds) in sum-ends (suc k) b rest (inl (ends w.end)) ∙ rw e
  where
    ends : (1 ≡ suc (suc k)) ⊎ (b < 128) → b < 128
    ends (inl e) = absurd (omega arith)
    ends (inr h) = h
spelled (suc k) (b ∷ c ∷ cs) rest v w =
    let ih = spelled k (c ∷ cs) rest (total 0 (c ∷ cs)) (behind k b c cs v w) in
    let e : b + 128 * total 0 (c ∷ cs) ≡ v = omega (arith, w.adds, total-next 0 (c ∷ cs)) in
    rw (le-ltb b 128 (w.on 0 (omega arith)), ih, e)

-- one byte that ends it
pub ended : (k b : ℕ) → (k ≡ 0) ⊎ (b < 128) → Spells k (b ∷ []) b
ended k b h = record { some = omega arith; few = omega arith; on = λ i g. absurd (omega arith); end = go h; adds = omega arith }
  where
    go : (k ≡ 0) ⊎ (b < 128) → (1 ≡ suc k) ⊎ (b < 128)
    go (inl e) = inl (omega arith)
    go (inr g) = inr g

-- a byte from 0x80 on, in front of others
pub further : (k b : ℕ) (bs : List ℕ) (w v : ℕ) → 128 ≤ b → Spells k bs w → v ≡ b + 128 * w → Spells (suc k) (b ∷ bs) v
further k b bs w v h s e =
    record { some = omega arith; few = omega (arith, s.few); on = above; end = over s.end; adds = omega (arith, s.adds, total-next 0 bs) }
  where
    above : (i : ℕ) → suc i < suc (length bs) → 128 ≤ get_or (b ∷ bs) i 0
    above zero g = h
    above (suc i) g = s.on i (omega arith)

    over : (length bs ≡ suc k) ⊎ (get_or bs (length bs - 1) 0 < 128) → (suc (length bs) ≡ suc (suc k)) ⊎ (get_or (b ∷ bs) (suc (length bs) - 1) 0 < 128)
    over (inl q) = inl (omega arith)
    over (inr g) = inr (rw (last-behind b bs s.some) g)

pub spells : (k v : ℕ) → Spells k (enc k v) v
spells zero v = ended 0 v (inl refl)
spells (suc k) v = go (spells k (v / 128 - 1)) (ltb v 128) refl
  where
    go : Spells k (enc k (v / 128 - 1)) (v / 128 - 1) → (b : Bool) → ltb v 128 ≡ b → Spells (suc k) (enc (suc k) v) v
    go ih true e = rw e (ended (suc k) v (inr (ltb-true v 128 e)))
    go ih false e = rw e (further k (128 + v % 128) (enc k (v / 128 - 1)) (v / 128 - 1) v (omega arith) ih (omega (arith, ltb-false v 128 e)))

-- READING: THE SUM IS v AFTER n BYTES exactly if the first n bytes spell v

-- IT STOPS exactly if the bytes run out before one below 0x80, and before the last that may follow

pub record RunsOut (k : ℕ) (bs : List ℕ) : Type 0 where
  pub few : length bs ≤ k
  pub on : (i : ℕ) → i < length bs → 128 ≤ get_or bs i 0

pub stops-out : (k : ℕ) (bs : List ℕ) → sum k bs ≡ Stops → RunsOut k bs
stops-out zero [] e = record { few = omega arith; on = λ i h. absurd (omega arith) }
stops-out zero (b ∷ bs) e = stops (sym e)
stops-out (suc k) [] e = record { few = omega arith; on = λ i h. absurd (omega arith) }
stops-out (suc k) (b ∷ bs) e = go (stops-out k bs) (ltb b 128) refl (sum k bs) refl
  where
    go : (sum k bs ≡ Stops → RunsOut k bs) → (t : Bool) → ltb b 128 ≡ t → (r : Sum) → sum k bs ≡ r → RunsOut (suc k) (b ∷ bs)
    go ih true t r q = stops (sym (simp t at e))
    go ih false t (Adds w m) q = stops (sym (simp (t, q) at e))
    go ih false t Stops q = let o = ih q in record { few = omega (arith, o.few); on = above o }
      where
        above : RunsOut k bs → (i : ℕ) → i < suc (length bs) → 128 ≤ get_or (b ∷ bs) i 0
        above o zero g = ltb-false b 128 t
        above o (suc i) g = o.on i (omega arith)

pub out-stops : (k : ℕ) (bs : List ℕ) → RunsOut k bs → sum k bs ≡ Stops
out-stops k [] o = sum-nil k
out-stops zero (b ∷ bs) o = absurd (omega (arith, o.few))
out-stops (suc k) (b ∷ bs) o =
    rw (le-ltb b 128 (o.on 0 (omega arith)), out-stops k bs (record { few = omega (arith, o.few); on = λ i h. o.on (suc i) (omega arith) }))

pub encoded : (v : ℕ) → v < 2 ^ 64 → IsVarint (encode v) v
unfolding encode
encoded v h = record { spells = spells 8 v; small = h }
