-- A fixed value without a key, told by its bits: its record's words are as they must be if none is left over, whatever the source.
use Rattle.std.specs.Prelude.{ℕ, ◌+◌, ◌*◌, ◌/◌, ◌^◌, ◌≤◌, ◌<◌, ◌≡◌, refl, Bool, true, false, List, ltb, eqb, length, get_or}
use Rattle.std.proofs.Common.{ap, ◌∙◌, sym, arith, lt-ltb, ltb-true, ltb-false, eq-eqb, eqb-true}
use Rattle.std.proofs.lemmas.Bool.{eqb-false}
use Rattle.std.specs.Int.Bits.{bit_or, bit_xor, or_add_and, xor_add_and}
use Rattle.std.proofs.lemmas.Nat.{and_le_l, and_le_r}
use Rattle.wire.specs.Limits.{record_words, no_key}
use Rattle.wire.specs.Numbers.{kind_of}
use Rattle.wire.specs.Table.{room, record_at, good_value, good_head, head-key, key-none}
use Rattle.wire.specs.declared.Record.{Record}
use Rattle.write_record.specs.Records.{Fine}
use Rattle.write_record.specs.RecordLaws.{good-head}
use Rattle.run_read.specs.Widths.{width, wide_type}
use Rattle.run_write.specs.RunPlan.{run_judge}
use Rattle.run_write.specs.RunLaws.{judge-run}

-- the record whose words stand from a place on
abbrev pub words_at : List ℕ → ℕ → Record
words_at t at = record { tag = get_or t at 0; kind = get_or t (at + 1) 0; value = get_or t (at + 2) 0; length = get_or t (at + 3) 0; key = get_or t (at + 4) 0 }

pub words-there : (t : List ℕ) (at i : ℕ) → at ≡ record_words * i → words_at t at ≡ record_at t i
unfolding record_at
words-there t at i e = rw e

-- what a value has above its width
abbrev pub high_of : Bool → ℕ → ℕ
high_of true v = 0
high_of false v = v / 2 ^ 32

-- what a record's words have left over
abbrev pub left_over : Bool → Record → ℕ
left_over b r =
    bit_or (bit_or (bit_or (bit_or r.tag (bit_xor r.kind (kind_of (wide_type b)))) (bit_xor r.length (width b))) (high_of b r.value)) (bit_xor r.key no_key)

-- ---- none is left

or-none : (m n : ℕ) → bit_or m n ≡ 0 → (m ≡ 0) × (n ≡ 0)
or-none m n e = (omega (arith, or_add_and m n, and_le_r m n, e), omega (arith, or_add_and m n, and_le_l m n, e))

xor-none : (m n : ℕ) → bit_xor m n ≡ 0 → m ≡ n
xor-none m n e = omega (arith, xor_add_and m n, and_le_l m n, and_le_r m n, e)

value-exact : (n : ℕ) (b : Bool) (v l : ℕ) → l ≡ width b → high_of b v ≡ 0 → good_value n (kind_of (wide_type b)) v l ≡ true
unfolding good_value
value-exact n true v l e f = eq-eqb l 8 e
value-exact n false v l e f = rw (eq-eqb l 4 e) (lt-ltb v (2 ^ 32) (omega (arith, f)))

none_left : (n : ℕ) (b : Bool) (r : Record) → left_over b r ≡ 0 → run_judge n (kind_of (wide_type b)) r ≡ Fine
none_left n b r e =
    let k = kind_of (wide_type b) in
    let p = or-none (bit_or (bit_or (bit_or r.tag (bit_xor r.kind k)) (bit_xor r.length (width b))) (high_of b r.value)) (bit_xor r.key no_key) e in
    let q = or-none (bit_or (bit_or r.tag (bit_xor r.kind k)) (bit_xor r.length (width b))) (high_of b r.value) p.0 in
    let l = or-none (bit_or r.tag (bit_xor r.kind k)) (bit_xor r.length (width b)) q.0 in
    let t = or-none r.tag (bit_xor r.kind k) l.0 in
    let d = xor-none r.kind k t.1 in
    let h : good_head n r.tag r.key ≡ true = head-key n r.tag r.key (omega (arith, t.0)) ∙ key-none n r.key (xor-none r.key no_key p.1) in
    let v = value-exact n b r.value r.length (xor-none r.length (width b) l.1) q.1 in
    judge-run n k r (good-head n r h ∙ rw d v) d t.0

-- ---- two records at a turn: the words before a place hold m pairs of such records, of c in all

pub record Plain (t : List ℕ) (c : ℕ) (b : Bool) (at : ℕ) : Type 0 where
  pub m : ℕ
  pub place : at ≡ 2 * record_words * m
  pub index : 2 * m ≤ c
  pub fine : (n j : ℕ) → j < 2 * m → run_judge n (kind_of (wide_type b)) (record_at t j) ≡ Fine

pub plain-none : (t : List ℕ) (c : ℕ) (b : Bool) → Plain t c b 0
plain-none t c b = record { m = 0; place = omega arith; index = omega arith; fine = λ n j h. absurd (omega (arith, h)) }

module _ {t : List ℕ} {c : ℕ} {b : Bool} {at : ℕ} (p : Plain t c b at) where
  pub plain-inside : at < 2 * record_words * (c / 2) → c ≤ room t → at + 2 * record_words ≤ length t
  plain-inside h g = omega (arith, p.place)

  two : at < 2 * record_words * (c / 2) → left_over b (words_at t at) ≡ 0 → left_over b (words_at t (at + record_words)) ≡ 0 → Plain t c b (at + 2 * record_words)
  two h e f =
      record {
        m = p.m + 1;
        place = omega (arith, p.place);
        index = omega (arith, p.place);
        fine = λ n j g. go n j g (ltb j (2 * p.m)) refl (eqb j (2 * p.m)) refl;
      }
    where
      next : (n i q : ℕ) → q ≡ record_words * i → left_over b (words_at t q) ≡ 0 → run_judge n (kind_of (wide_type b)) (record_at t i) ≡ Fine
      next n i q z u = rw (← words-there t q i z) (none_left n b (words_at t q) u)

      go : (n j : ℕ) → j < 2 * (p.m + 1) → (x : Bool) → ltb j (2 * p.m) ≡ x → (y : Bool) → eqb j (2 * p.m) ≡ y
          → run_judge n (kind_of (wide_type b)) (record_at t j) ≡ Fine
      go n j g true x y w = p.fine n j (ltb-true j (2 * p.m) x)
      go n j g false x true y = next n j at (omega (arith, p.place, eqb-true j (2 * p.m) y)) e
      go n j g false x false y =
          next n j (at + record_words) (omega (arith, p.place, g, ltb-false j (2 * p.m) x, eqb-false j (2 * p.m) y)) f

  -- as the calls of a turn say it: two records, and what is left over of each
  pub plain-two : {r q : Record} {x y : ℕ} → at < 2 * record_words * (c / 2) → r ≡ words_at t at → x ≡ left_over b r → q ≡ words_at t (at + record_words)
      → y ≡ left_over b q → bit_or x y ≤ 0 → Plain t c b (at + 2 * record_words)
  plain-two {r} {q} {x} {y} h rr xx qq yy o =
      let n = or-none x y (omega (arith, o)) in
      let e : left_over b (words_at t at) ≡ 0 = sym (ap (left_over b) rr) ∙ sym xx ∙ n.0 in
      let f : left_over b (words_at t (at + record_words)) ≡ 0 = sym (ap (left_over b) qq) ∙ sym yy ∙ n.1 in
      two h e f
