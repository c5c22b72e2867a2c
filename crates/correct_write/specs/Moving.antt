-- Fields that stand behind one another, moved behind another tag: the first one's key is new, all else is as it stands.
use Rattle.std.specs.Prelude.{ℕ, ◌+◌, ◌-◌, ◌*◌, ◌%◌, ◌≤◌, ◌<◌, ◌≡◌, refl, Bool, true, false, List, [], ◌∷◌, ◌++◌, ltb, length, drop}
use Rattle.std.proofs.Common.{ap, ◌∙◌, sym, append_assoc, append-nil, arith, lt-ltb, le-ltb, ltb-true, ltb-false, length-append, length-drop, length-take-le}
use Rattle.std.proofs.Math.Seq.{drop-append_seam}
use Rattle.wire.specs.Choose.{choose}
use Rattle.wire.specs.Numbers.{kind_of}
use Rattle.wire.specs.Varint.{encode}
use Rattle.wire.specs.VarintLaws.{Bytes, length-le}
use Rattle.wire.specs.Written.{Item, content_kind, written_content, written_item, written_from, GoodFrom}
use Rattle.wire.specs.Places.{part, shown, join}
use Rattle.wire.proofs.Types.{key-length}
use Rattle.wire.specs.Reading.{key_at, value_at}
use Rattle.wire.specs.ReadingLaws.{key-took, kind-wire}
use Rattle.wire.proofs.ReadingLaws.{varint-moves, varint-took, value-took, field-took, field-moves, item-pos}
use Rattle.wire.specs.declared.Refusal.{Refusal}
use Rattle.wire.specs.declared.Value.{Value}
use Rattle.wire.specs.declared.Key.{Key}
use Rattle.wire.specs.declared.KeyFound.{KeyFound}
use Rattle.wire.specs.declared.KeyFound.TheVariants as key_found
use Rattle.wire.specs.declared.ValueFound.TheVariants as value_found
use Rattle.correct_write.specs.TagByTag.{Under, Over, ordered-over, good-ordered, over-wider, under-both}
use Rattle.correct_write.specs.Rests.{items_from, Rest, items-end, rest-inside, rest-bytes, rest-keyless, rest_read, rest-next, rest-first}
use Rattle.correct_write.specs.Rests.{rest-value}

-- ---- the bytes

abbrev pub moved_of : List ℕ → ℕ → ℕ → KeyFound → List ℕ
moved_of s end out (key_found.Got k q) = encode (4 * (k.tag - out) + kind_of k.wire) ++ part s q end
moved_of s end out (key_found.Refused r) = []

-- from a place, behind a field of a tag, up to another; behind a field of another tag
unfoldable pub moved : List ℕ → ℕ → ℕ → ℕ → ℕ → List ℕ
moved s p last end out = choose (ltb p end) (moved_of s end out (key_at s (length s) p last)) []

-- none, or from a key on, up to a place of the slice
pub record Run (s : List ℕ) (p last end : ℕ) : Type 0 where
  pub inside : end ≤ length s
  pub keyed : p < end → (k : Key) × (q : ℕ) × (key_at s (length s) p last ≡ key_found.Got k q) × (q ≤ end)

module _ (s : List ℕ) (p last end out : ℕ) where
  pub moved_none : end ≤ p → moved s p last end out ≡ []
  unfolding moved
  moved_none h = rw (le-ltb p end h)

  module _ (a : p < end) where
    pub moved-keyless : (r : Refusal) → key_at s (length s) p last ≡ key_found.Refused r → moved s p last end out ≡ []
    unfolding moved
    moved-keyless r h = rw (lt-ltb p end a, h)

    pub moved-key : (k : Key) (q : ℕ) → key_at s (length s) p last ≡ key_found.Got k q
        → moved s p last end out ≡ encode (4 * (k.tag - out) + kind_of k.wire) ++ part s q end
    unfolding moved
    moved-key k q h = rw (lt-ltb p end a, h)

pub run-key : {s : List ℕ} {p last end : ℕ} → Run s p last end → p < end → (k : Key) (q : ℕ) → key_at s (length s) p last ≡ key_found.Got k q
    → (p < q) × (q ≤ end)
run-key {s} {p} {last} {end} w a k q h =
    let x = w.keyed a in
    let e : key_found.Got k q ≡ key_found.Got x.0 x.1 = sym h ∙ x.2 in
    let f : q ≡ x.1 = cc in
    let t = key-took s (length s) p last k q h in
    ((varint-moves s p t.key q t.read).0, omega (arith, f, x.3))

pub length-between : (s : List ℕ) (q end : ℕ) → end ≤ length s → length (part s q end) ≡ end - q
length-between s q end h = length-take-le (end - q) (drop q s) (omega (arith, h, length-drop q s))

-- how many: the key's, and those behind it
pub moved_length : {s : List ℕ} {p last end : ℕ} → Run s p last end → (out : ℕ) → p < end → (k : Key) (q : ℕ) → key_at s (length s) p last ≡ key_found.Got k q
    → length (moved s p last end out) ≡ length (encode (4 * (k.tag - out))) + (end - q)
moved_length {s} {p} {last} {end} w out a k q h =
    ap length (moved-key s p last end out a k q h)
    ∙ length-append (encode (4 * (k.tag - out) + kind_of k.wire)) (part s q end)
    ∙ rw (key-length (k.tag - out) k.wire, length-between s q end w.inside)

pub moved-few : {s : List ℕ} {p last end : ℕ} → Run s p last end → (out : ℕ) → length (moved s p last end out) ≤ 9 * (end - p)
moved-few {s} {p} {last} {end} w out = go (ltb p end) refl
  where
    go : (b : Bool) → ltb p end ≡ b → length (moved s p last end out) ≤ 9 * (end - p)
    go false b = rw (moved_none s p last end out (ltb-false p end b)) (omega arith)
    go true b =
        let a = ltb-true p end b in
        let x = w.keyed a in
        let r = run-key w a x.0 x.1 x.2 in
        omega (arith, moved_length w out a x.0 x.1 x.2, length-le (4 * (x.0.tag - out)), r.0, r.1, a)

-- ---- THEY ARE THE ITEMS, written behind the other tag

-- the tag of the last item, or the one before them
abbrev pub last_tag : ℕ → List Item → ℕ
last_tag last [] = last
last_tag last (i ∷ is) = last_tag i.tag is

pub written_both : (last : ℕ) (xs ys : List Item) → written_from last (xs ++ ys) ≡ written_from last xs ++ written_from (last_tag last xs) ys
written_both last [] ys = refl
written_both last (x ∷ xs) ys =
    ap (λ (l : List ℕ). written_item last x ++ l) (written_both x.tag xs ys)
    ∙ sym (append_assoc (written_item last x) (written_from x.tag xs) (written_from (last_tag x.tag xs) ys))

last-both : (last : ℕ) (xs : List Item) (i : Item) → last_tag last (xs ++ i ∷ []) ≡ i.tag
last-both last [] i = refl
last-both last (x ∷ xs) i = last-both x.tag xs i

-- what is known of fields that stand from a place up to another, behind a field of a tag
pub record Stretch (s : List ℕ) (p last q : ℕ) (xs : List Item) : Type 0 where
  pub onward : p ≤ q
  pub inside : q ≤ length s
  pub rest : Rest s p last
  pub others : List Item
  pub whole : items_from s p last ≡ xs ++ others
  pub bytes : part s p q ≡ written_from last xs

module _ (s : List ℕ) (b : Bytes s) (p last q : ℕ) where
  -- none where the places are one
  pub stretch-none : Stretch s p last q [] → q ≡ p
  stretch-none w = omega (arith, w.onward, ap length w.bytes, length-between s p q w.inside)

  module _ (x : Item) (xs : List Item) (w : Stretch s p last q (x ∷ xs)) where
    pub stretch-some : p < q
    stretch-some =
        omega (arith, ap length w.bytes, length-between s p q w.inside, length-append (written_item last x) (written_from x.tag xs), item-pos last x)

    -- the first one's key, and what stands behind it
    first_key : (k : Key) (i : ℕ) → key_at s (length s) p last ≡ key_found.Got k i
        → (i ≤ q) × (k.tag ≡ x.tag) × (kind_of k.wire ≡ content_kind x.content) × (part s i q ≡ written_content x.content ++ written_from x.tag xs)
    first_key k i h =
        let a : p < length s = omega (arith, stretch-some, w.inside) in
        let y = rest-value w.rest a k i h in
        let v = y.0 in
        let n = y.1 in
        let f = rest-first w.rest a k i h v n y.2 in
        let g : record { tag = k.tag; content = shown s v } ∷ items_from s n k.tag ≡ x ∷ (xs ++ w.others) = sym f ∙ w.whole in
        let e : record { tag = k.tag; content = shown s v } ≡ x = cc in
        let t : k.tag ≡ x.tag = ap (λ (z : Item). z.tag) e in
        let d : content_kind (shown s v) ≡ content_kind x.content = ap (λ (z : Item). content_kind z.content) e in
        let c : content_kind (shown s v) ≡ kind_of k.wire = (value-took s b (length s) i k.wire v n y.2).2 in
        let r = key-took s (length s) p last k i h in
        let u : kind_of k.wire ≡ r.key % 4 = ap kind_of r.wire ∙ kind-wire (r.key % 4) (omega arith) in
        let j : r.key ≡ 4 * (x.tag - last) + content_kind x.content = omega (arith, r.tag, t, d, c, u) in
        let l = varint-moves s p r.key i r.read in
        let key : part s p i ≡ encode (4 * (x.tag - last) + content_kind x.content) = varint-took s p r.key i b r.read ∙ ap encode j in
        let bytes = encode (4 * (x.tag - last) + content_kind x.content) in
        let rest = written_content x.content ++ written_from x.tag xs in
        let all : part s p q ≡ bytes ++ rest = w.bytes ∙ append_assoc bytes (written_content x.content) (written_from x.tag xs) in
        let o : i ≤ q =
        omega (arith, ap length key, length-between s p i l.1, ap length all, length-append bytes rest, length-between s p q w.inside, l.0, w.onward) in
        let cut : bytes ++ part s i q ≡ bytes ++ rest =
        ap (λ (z : List ℕ). z ++ part s i q) (sym key) ∙ join s p i q (omega (arith, l.0)) o ∙ all in (
          o,
          t,
          sym c ∙ d,
          sym (drop-append_seam bytes (part s i q)) ∙ ap (drop (length bytes)) cut ∙ drop-append_seam bytes rest,
        )

  pub stretch-run : (xs : List Item) → Stretch s p last q xs → Run s p last q
  stretch-run [] w = record { inside = w.inside; keyed = λ a. absurd (omega (arith, a, stretch-none w)) }
  stretch-run (x ∷ xs) w =
      record {
        inside = w.inside;
        keyed = λ a. go (omega (arith, a, w.inside)) (key_at s (length s) p last) refl;
      }
    where
      go : p < length s → (o : KeyFound) → key_at s (length s) p last ≡ o → (k : Key) × (i : ℕ) × (key_at s (length s) p last ≡ key_found.Got k i) × (i ≤ q)
      go a (key_found.Got k i) h = (k, i, h, (first_key x xs w k i h).0)
      go a (key_found.Refused r) h = rest-keyless w.rest a r h

  pub stretch-moved : (xs : List Item) → Stretch s p last q xs → (out : ℕ) → moved s p last q out ≡ written_from out xs
  stretch-moved [] w out = moved_none s p last q out (omega (arith, stretch-none w))
  stretch-moved (x ∷ xs) w out = go (key_at s (length s) p last) refl
    where
      a : p < q
      a = stretch-some x xs w

      go : (o : KeyFound) → key_at s (length s) p last ≡ o → moved s p last q out ≡ written_from out (x ∷ xs)
      go (key_found.Got k i) h =
          let f = first_key x xs w k i h in
          moved-key s p last q out a k i h
          ∙ rw (f.1, f.2, f.3)
          (sym (append_assoc (encode (4 * (x.tag - out) + content_kind x.content)) (written_content x.content) (written_from x.tag xs)))
      go (key_found.Refused r) h = rest-keyless w.rest (omega (arith, a, w.inside)) r h

  -- the tag of the last item, if there is one, else another that was the last
  pub stretch-last : (xs : List Item) → Stretch s p last q xs → (prior : ℕ) → (p < q → last_tag prior xs ≡ last_tag last xs) × (q ≤ p → last_tag prior xs ≡ prior)
  stretch-last [] w prior = (λ a. absurd (omega (arith, a, stretch-none w)), λ a. refl)
  stretch-last (x ∷ xs) w prior = (λ a. refl, λ a. absurd (omega (arith, a, stretch-some x xs w)))

-- to the end
pub stretch-all : (s : List ℕ) (p last : ℕ) → Bytes s → Rest s p last → Stretch s p last (length s) (items_from s p last)
stretch-all s p last b w =
    record {
      onward = rest-inside w;
      inside = omega arith;
      rest = w;
      others = [];
      whole = sym (append-nil (items_from s p last));
      bytes = (rest-bytes w b).0;
    }

-- ---- FIELDS PASSED: those of tags below a limit

pub record Passing (s : List ℕ) (p last limit q tag : ℕ) : Type 0 where
  pub passed : List Item
  pub onward : p ≤ q
  pub start : Rest s p last
  pub rest : Rest s q tag
  pub whole : items_from s p last ≡ passed ++ items_from s q tag
  pub under : Under limit passed
  pub bytes : part s p q ≡ written_from last passed
  pub ends : tag ≡ last_tag last passed

pub passing-stretch : {s : List ℕ} {p last limit q tag : ℕ} (w : Passing s p last limit q tag) → Stretch s p last q w.passed
passing-stretch {s} {p} {last} {limit} {q} {tag} w =
    record {
      onward = w.onward;
      inside = rest-inside w.rest;
      rest = w.start;
      others = items_from s q tag;
      whole = w.whole;
      bytes = w.bytes;
    }

pub pass-start : (s : List ℕ) (p last limit : ℕ) → Rest s p last → Passing s p last limit p last
pass-start s p last limit w =
    let z : p - p ≡ 0 = omega arith in
    record { passed = []; onward = omega arith; start = w; rest = w; whole = refl; under = tt; bytes = rw z; ends = refl }

module _ {s : List ℕ} {p last limit q tag : ℕ} (w : Passing s p last limit q tag) (a : q < length s)
    (k : Key) (i : ℕ) (h : key_at s (length s) q tag ≡ key_found.Got k i) where
  module _ (v : Value) (n : ℕ) (x : value_at s (length s) i k.wire ≡ value_found.Got v n) where
    abbrev item : Item
    item = record { tag = k.tag; content = shown s v }

    pub pass-moves : (q < n) × (n ≤ length s)
    pass-moves =
        let m = field-moves s (length s) q tag (record { tag = k.tag; value = v }) n (rest_read w.rest a k i h v n x) in
        (omega (arith, m.0), m.1)

    pub pass-more : Bytes s → k.tag < limit → Passing s p last limit n k.tag
    pass-more b l =
        let xs = w.passed in
        let t = (field-took s (length s) q tag (record { tag = k.tag; value = v }) n b (rest_read w.rest a k i h v n x)).0 in
        record {
          passed = xs ++ item ∷ [];
          onward = omega (arith, w.onward, pass-moves.0);
          start = w.start;
          rest = rest-next w.rest a k i h v n x;
          whole = w.whole ∙ ap (λ (l : List Item). xs ++ l) (rest-first w.rest a k i h v n x) ∙ sym (append_assoc xs (item ∷ []) (items_from s n k.tag));
          under = under-both limit xs (item ∷ []) w.under (l, tt);
          bytes = sym (join s p q n w.onward (omega (arith, pass-moves.0)))
              ∙ rw (w.bytes, t)
              (sym (written_both last xs (item ∷ []) ∙ rw (← w.ends) (ap (λ (l : List ℕ). written_from last xs ++ l) (append-nil (written_item tag item)))));
          ends = sym (last-both last xs item);
        }

  -- the next one's tag is not below the limit, and none behind it is
  pub pass-over : Bytes s → limit ≤ k.tag → Over limit (items_from s q tag)
  pass-over b l =
      let y = rest-value w.rest a k i h in
      let f = rest-first w.rest a k i h y.0 y.1 y.2 in
      let g : GoodFrom tag (record { tag = k.tag; content = shown s y.0 } ∷ items_from s y.1 k.tag) = rw f at (rest-bytes w.rest b).1 in
      let is = items_from s y.1 k.tag in
      rw f (l, over-wider k.tag limit is l (ordered-over k.tag is (good-ordered k.tag is g.1)))

pub pass-end : {s : List ℕ} {p last limit q tag : ℕ} → Passing s p last limit q tag → length s ≤ q → Over limit (items_from s q tag)
pass-end {s} {p} {last} {limit} {q} {tag} w h = rw (items-end s q tag h) tt
