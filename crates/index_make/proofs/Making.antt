-- Group by group: what is left to do, for each of the three loops over the groups of a message.
use Prim.Native.Nat.{ℕ, suc, ◌+◌, ◌-◌, ◌*◌, ◌≤◌, ◌<◌}
use mathlib.Core.Path.{◌≡◌, refl, ap, ◌∙◌, sym}
use mathlib.Core.Bool.{Bool, true, false}
use mathlib.Core.List.{List, [], ◌∷◌, ◌++◌}
use native.Mathlib.Omega.{arith}
use borrow.Author.Tests.{eq-eqb, ne_eqb}
use lib.Dec.{eqb}
use lib.ListN.{length, drop, get_or}
use lib.Seq.{sets, sets-eq, length-sets, drop-cons}
use Rattle.message.proofs.Walking.{positive}
use Rattle.wire.specs.Choose.{choose}
use Rattle.wire.specs.declared.Refusal.{Refusal}
use Rattle.entry_answer.specs.declared.Indexed.{Indexed}
use Rattle.entry_answer.specs.declared.Indexed.TheVariants as indexed_as
use Rattle.index.specs.Index.{Entry, entry, index_words, words_of, entry_words, length-words}
use Rattle.index_make.specs.declared.Group.TheVariants as group
use Rattle.index_make.specs.Made.{Made, Entries, Refused, made, tags_of, into_index, Ready, starts, agrees_from, agrees}
use Rattle.index_make.specs.Groups.{steps_in, group_at, made_from, before, made-end, made-refused, made-of}
use Rattle.index_make.specs.GroupLaws.{group-moves, made-groups}

-- ---- what is made from a place on

pub record Rest (s : List ℕ) (p last : ℕ) (x : Made) : Type 0 where
  pub k : ℕ
  pub inside : p ≤ length s
  pub fuel : length s - p < k
  pub same : x ≡ made_from k s p last

pub rest-start : (s : List ℕ) → Rest s 0 0 (made s)
rest-start s = record { k = steps_in s; inside = omega arith; fuel = omega arith; same = made-groups s }

module _ {s : List ℕ} {p last : ℕ} {x : Made} (w : Rest s p last x) where
  unwound : x ≡ made_from (suc (w.k - 1)) s p last
  unwound = w.same ∙ ap (λ (j : ℕ). made_from j s p last) (positive w.k (omega (arith, w.fuel)))

  pub rest_end : group_at s p last ≡ group.End → x ≡ Entries []
  rest_end h = unwound ∙ made-end (w.k - 1) s p last h

  pub rest-refused : (r : Refusal) → group_at s p last ≡ group.Refused r → x ≡ Refused r
  rest-refused r h = unwound ∙ made-refused (w.k - 1) s p last r h

  pub rest-on : (t c q : ℕ) → group_at s p last ≡ group.Of t c q → (y : Made) × (x ≡ before (entry t p c) y) × Rest s q t y
  rest-on t c q h =
      let v = group-moves s p last t c q h in (
        made_from (w.k - 1) s q t,
        unwound ∙ made-of (w.k - 1) s p last t c q h,
        record { k = w.k - 1; inside = v.inside; fuel = omega (arith, w.fuel, v.least, v.bytes, v.inside); same = refl },
      )

-- ---- counting

abbrev tags_from : ℕ → Made → Indexed
tags_from n (Entries es) = indexed_as.Tags (n + length es)
tags_from n (Refused r) = indexed_as.Refused r

tags-more : (n : ℕ) (e : Entry) (y : Made) → tags_from n (before e y) ≡ tags_from (n + 1) y
tags-more n e (Entries es) = let z : n + suc (length es) ≡ n + 1 + length es = omega arith in ap indexed_as.Tags z
tags-more n e (Refused r) = refl

tags-none : (x : Made) → tags_of x ≡ tags_from 0 x
tags-none (Entries es) = let z : length es ≡ 0 + length es = omega arith in ap indexed_as.Tags z
tags-none (Refused r) = refl

pub record Counting (s : List ℕ) (p last n : ℕ) : Type 0 where
  pub x : Made
  pub rest : Rest s p last x
  pub few : 2 * n ≤ p
  pub same : tags_of (made s) ≡ tags_from n x

pub count-start : (s : List ℕ) → Counting s 0 0 0
count-start s = record { x = made s; rest = rest-start s; few = omega arith; same = tags-none (made s) }

module _ {s : List ℕ} {p last n : ℕ} (w : Counting s p last n) where
  pub count-end : group_at s p last ≡ group.End → indexed_as.Tags n ≡ tags_of (made s)
  count-end h = let z : n + 0 ≡ n = omega arith in sym (w.same ∙ ap (tags_from n) (rest_end w.rest h) ∙ ap indexed_as.Tags z)

  pub count-refused : (r : Refusal) → group_at s p last ≡ group.Refused r → indexed_as.Refused r ≡ tags_of (made s)
  count-refused r h = sym (w.same ∙ ap (tags_from n) (rest-refused w.rest r h))

  pub count-on : (t c q : ℕ) → group_at s p last ≡ group.Of t c q → Counting s q t (n + 1)
  count-on t c q h =
      let v = group-moves s p last t c q h in
      let y = rest-on w.rest t c q h in
      record {
        x = y.0;
        rest = y.2;
        few = omega (arith, w.few, v.least, v.bytes);
        same = w.same ∙ ap (tags_from n) y.1 ∙ tags-more n (entry t p c) y.0;
      }

-- ---- filling: what is still to be written, on top of what is there, is the goal

pub record Filling (s goal : List ℕ) (p last i : ℕ) (t : List ℕ) : Type 0 where
  pub entries : List Entry
  pub rest : Rest s p last (Entries entries)
  pub room : i + index_words * length entries ≤ length t
  pub same : sets t i (entry_words entries) ≡ goal

pub fill_start : (s t : List ℕ) → Ready s t → Filling s (into_index t (made s)) 0 0 0 t
fill_start s t f =
    let es = f.entries in
    let n = length-words es in
    let z : 0 + length (entry_words es) ≡ index_words * length es = omega (arith, n) in
    record {
      entries = es;
      rest = rw f.read at (rest-start s);
      room = omega (arith, f.room);
      same =
          sets-eq (entry_words es) t 0 (omega (arith, f.room, n)) ∙ ap (λ (j : ℕ). entry_words es ++ drop j t) z
          ∙ sym (ap (into_index t) f.read);
    }

before-entries : {A : Type 0} (e : Entry) (y : Made) (all : List Entry) → Entries all ≡ before e y
    → ((es : List Entry) → y ≡ Entries es → all ≡ e ∷ es → A) → A
before-entries e (Entries es) all h go = go es refl cc
before-entries e (Refused r) all h go = let z : ◌≡◌ {A = ℕ} 0 1 = cc in absurd (omega arith)

module _ {s goal : List ℕ} {p last i : ℕ} {t : List ℕ} (w : Filling s goal p last i t) where
  pub fill_end : group_at s p last ≡ group.End → t ≡ goal
  fill_end h = let z : w.entries ≡ [] = (let y = rest_end w.rest h in cc) in rw z at w.same

  pub fill-refused : {A : Type 0} (r : Refusal) → group_at s p last ≡ group.Refused r → A
  fill-refused r h = let y = rest-refused w.rest r h in let z : ◌≡◌ {A = ℕ} 0 1 = cc in absurd (omega arith)

  module _ (tag c q : ℕ) (h : group_at s p last ≡ group.Of tag c q) where
    pub fill-room : i + index_words ≤ length t
    fill-room =
        let y = rest-on w.rest tag c q h in
        before-entries (entry tag p c) y.0 w.entries y.1 (λ es a b. omega (arith, w.room, ap length b))

    pub fill_on : (u : List ℕ) → u ≡ sets t i (tag ∷ p ∷ c ∷ []) → Filling s goal q tag (i + index_words) u × (length u ≡ length t)
    fill_on u g =
        let y = rest-on w.rest tag c q h in
        let n = ap length g ∙ length-sets t i (tag ∷ p ∷ c ∷ []) in
        let d : i + index_words ≡ suc (suc (suc i)) = omega arith in
        before-entries (entry tag p c) y.0 w.entries y.1 (λ es a b. (
          record {
            entries = es;
            rest = rw a at y.2;
            room = omega (arith, w.room, ap length b, n);
            same = rw (g, d) (ap (λ (l : List Entry). sets t i (entry_words l)) (sym b) ∙ w.same);
          },
          n,
        ))

-- ---- comparing

pub record Agreeing (s t : List ℕ) (tags p last n i : ℕ) : Type 0 where
  pub x : Made
  pub rest : Rest s p last x
  pub room : index_words * tags ≤ length t
  pub few : n ≤ tags
  pub word : i ≡ index_words * n
  pub same : agrees t tags (made s) ≡ agrees_from tags n (drop i t) x

pub agree-start : (s t : List ℕ) (tags : ℕ) → index_words * tags ≤ length t → Agreeing s t tags 0 0 0 0
agree-start s t tags h = record { x = made s; rest = rest-start s; room = h; few = omega arith; word = refl; same = refl }

none_more : (tags n : ℕ) (t : List ℕ) (e : Entry) (y : Made) → n ≡ tags → agrees_from tags n t (before e y) ≡ false
none_more tags n t e (Entries es) h = rw (ne_eqb (n + suc (length es)) tags (λ z. omega (arith, h)))
none_more tags n t e (Refused r) h = refl

choose-same : (b : Bool) → choose b true false ≡ b
choose-same true = refl
choose-same false = refl

choose-false : (b : Bool) → choose b false false ≡ false
choose-false true = refl
choose-false false = refl

-- three words, then the rest
three-words : (t : List ℕ) (i : ℕ) → i + index_words ≤ length t → drop i t ≡ get_or t i 0 ∷ get_or t (i + 1) 0 ∷ get_or t (i + 2) 0 ∷ drop (i + index_words) t
three-words t i h =
    let a : i + 1 ≡ suc i = omega arith in
    let b : i + 2 ≡ suc (suc i) = omega arith in
    let c : i + index_words ≡ suc (suc (suc i)) = omega arith in
    rw (a, b, c, drop-cons t i 0 (omega arith), drop-cons t (suc i) 0 (omega arith), drop-cons t (suc (suc i)) 0 (omega arith))

-- whether three words stand there: the first that differs decides
module _ (a b c i : ℕ) (t : List ℕ) (h : i + index_words ≤ length t) where
  pub first-differs : (get_or t i 0 ≡ a → ⊥) → false ≡ starts (a ∷ b ∷ c ∷ []) (drop i t)
  first-differs n = sym (rw (three-words t i h, ne_eqb (get_or t i 0) a n))

  module _ (x : get_or t i 0 ≡ a) where
    pub second-differs : (get_or t (i + 1) 0 ≡ b → ⊥) → false ≡ starts (a ∷ b ∷ c ∷ []) (drop i t)
    second-differs n = sym (rw (three-words t i h, eq-eqb (get_or t i 0) a x, ne_eqb (get_or t (i + 1) 0) b n))

    pub third-decides : get_or t (i + 1) 0 ≡ b → eqb (get_or t (i + 2) 0) c ≡ starts (a ∷ b ∷ c ∷ []) (drop i t)
    third-decides y =
        sym (rw (three-words t i h, eq-eqb (get_or t i 0) a x, eq-eqb (get_or t (i + 1) 0) b y) (choose-same (eqb (get_or t (i + 2) 0) c)))

three-tests : (p q r w : Bool) → choose p (choose q (choose r w false) false) false ≡ choose (choose p (choose q (choose r true false) false) false) w false
three-tests true true true w = refl
three-tests true true false w = refl
three-tests true false r w = refl
three-tests false q r w = refl

pub starts-three : (a b c : ℕ) (ws t : List ℕ) (i : ℕ) → i + index_words ≤ length t
    → starts (a ∷ b ∷ c ∷ ws) (drop i t) ≡ choose (starts (a ∷ b ∷ c ∷ []) (drop i t)) (starts ws (drop (i + index_words) t)) false
starts-three a b c ws t i h =
    rw (three-words t i h) (three-tests (eqb (get_or t i 0) a) (eqb (get_or t (i + 1) 0) b) (eqb (get_or t (i + 2) 0) c) (starts ws (drop (i + index_words) t)))

module _ (tags n i : ℕ) (t : List ℕ) (e : Entry) (h : i + index_words ≤ length t) where
  -- other words stand there, or these
  other-words : (y : Made) → starts (words_of e) (drop i t) ≡ false → agrees_from tags n (drop i t) (before e y) ≡ false
  other-words (Entries es) g =
      ap (λ (b : Bool). choose (eqb (n + suc (length es)) tags) b false) (starts-three e.tag e.place e.count (entry_words es) t i h ∙ rw g)
      ∙ choose-false (eqb (n + suc (length es)) tags)
  other-words (Refused r) g = refl

  same-words : (y : Made) → starts (words_of e) (drop i t) ≡ true
      → agrees_from tags n (drop i t) (before e y) ≡ agrees_from tags (n + 1) (drop (i + index_words) t) y
  same-words (Entries es) g =
      let z : n + suc (length es) ≡ n + 1 + length es = omega arith in
      ap (λ (b : Bool). choose (eqb (n + suc (length es)) tags) b false) (starts-three e.tag e.place e.count (entry_words es) t i h ∙ rw g)
      ∙ ap (λ (j : ℕ). choose (eqb j tags) (starts (entry_words es) (drop (i + index_words) t)) false) z
  same-words (Refused r) g = refl

module _ {s t : List ℕ} {tags p last n i : ℕ} (w : Agreeing s t tags p last n i) where
  pub agree-end : group_at s p last ≡ group.End → eqb n tags ≡ agrees t tags (made s)
  agree-end h = sym (w.same ∙ ap (agrees_from tags n (drop i t)) (rest_end w.rest h) ∙ go (eqb n tags) refl)
    where
      z : n + 0 ≡ n
      z = omega arith

      go : (b : Bool) → eqb n tags ≡ b → choose (eqb (n + 0) tags) true false ≡ eqb n tags
      go true b = rw (z, b)
      go false b = rw (z, b)

  pub agree-refused : (r : Refusal) → group_at s p last ≡ group.Refused r → false ≡ agrees t tags (made s)
  agree-refused r h = sym (w.same ∙ ap (agrees_from tags n (drop i t)) (rest-refused w.rest r h))

  module _ (tag c q : ℕ) (h : group_at s p last ≡ group.Of tag c q) where
    pub agree-more : n ≡ tags → false ≡ agrees t tags (made s)
    agree-more z =
        let y = rest-on w.rest tag c q h in
        sym (w.same ∙ ap (agrees_from tags n (drop i t)) y.1 ∙ none_more tags n (drop i t) (entry tag p c) y.0 z)

    module _ (l : n ≡ tags → ⊥) where
      pub agree-room : i + index_words ≤ length t
      agree-room = omega (arith, w.room, w.few, w.word, l)

      pub agree-not : false ≡ starts (tag ∷ p ∷ c ∷ []) (drop i t) → false ≡ agrees t tags (made s)
      agree-not g =
          let y = rest-on w.rest tag c q h in
          sym (w.same ∙ ap (agrees_from tags n (drop i t)) y.1 ∙ other-words tags n i t (entry tag p c) agree-room y.0 (sym g))

      pub agree_on : true ≡ starts (tag ∷ p ∷ c ∷ []) (drop i t) → Agreeing s t tags q tag (n + 1) (i + index_words)
      agree_on g =
          let y = rest-on w.rest tag c q h in
          record {
            x = y.0;
            rest = y.2;
            room = w.room;
            few = omega (arith, w.few, l);
            word = omega (arith, w.word);
            same = w.same ∙ ap (agrees_from tags n (drop i t)) y.1 ∙ same-words tags n i t (entry tag p c) agree-room y.0 (sym g);
          }
