-- THERE AND BACK: a line that was read is written again as it was, and a line that was written is read as what it was written of.
use Rattle.std.specs.Prelude.{ℕ, suc, ◌+◌, ◌-◌, ◌*◌, ◌^◌, ◌≤◌, ◌≡◌, refl, Bool, false, List, [], ◌∷◌, ◌++◌, leb, ltb, length, take, drop, get_or}
use Rattle.std.proofs.Common.{ap, ◌∙◌, sym, arith, leb-true, leb-false, le-leb, lt-ltb, ltb-true}
use Rattle.std.proofs.Math.Bool.{true}
use Rattle.std.proofs.Math.Seq.{take-append_seam}
use Rattle.wire.specs.Choose.{choose, both}
use Rattle.wire.specs.declared.Refusal.{Refusal}
use Rattle.wire.specs.declared.Refusal.TheVariants.{NoRoom, BadIndex}
use Rattle.text_digits.specs.Digits.{digits, glyph}
use Rattle.entry_answer.specs.Stores.{Stored}
use Rattle.entry_answer.specs.declared.Put.TheVariants as put
use Rattle.entry_answer.specs.declared.Indexed.TheVariants as indexed_as
use Rattle.index.specs.Index.{Entry, room, indexed, entries_from, length_from, entries-indexed, Outcome, outcome}
use Rattle.index.specs.Index.{sound_entry, sound_from, sound_index, sound-indexed}
use Rattle.index_line.specs.Line.{head_digits, width, line_of, sound_entries, write_line, line-unsound, line-no-room, line-done}
use Rattle.index_line.specs.Line.{entries_of, spelled_well, accepted, accepted-as}
use Rattle.index_line.specs.Line.{read_line, read-bad, read-no-room, read_done, old_limit, read_either, either-new, either-old, either-late}
use Rattle.index_line.specs.Spelling.{length-line, same_refl, well-line, well-second, entries-written}

-- how many characters the line of an index has
pub length-written : (edition w : ℕ) (t : List ℕ) (n : ℕ) → length (line_of edition w (entries_from n t 0)) ≡ head_digits + width w * n
length-written edition w t n = length-line edition w (entries_from n t 0) ∙ ap (λ (k : ℕ). head_digits + width w * k) (length_from n t 0)

-- ---- what an answer says

-- tags: the line was accepted, and its entries are in the index
pub record Took (edition w : ℕ) (s t : List ℕ) (n : ℕ) (u : List ℕ) : Type 0 where
  pub good : accepted edition w s ≡ true
  pub tags : n ≡ length (entries_of w s)
  pub words : u ≡ indexed t (entries_of w s)

pub took : (edition w : ℕ) (s t : List ℕ) (n : ℕ) (u : List ℕ) → read_line edition w s t ≡ outcome (indexed_as.Tags n) u → Took edition w s t n u
took edition w s t n u h = go (accepted edition w s) refl (leb (length (entries_of w s)) (room t)) refl
  where
    no : (r : Refusal) → read_line edition w s t ≡ outcome (indexed_as.Refused r) t → Took edition w s t n u
    no r e =
        let f : indexed_as.Tags n ≡ indexed_as.Refused r = ap (λ (o : Outcome). o.answer) (sym h ∙ e) in
        let z : ◌≡◌ {A = ℕ} 0 1 = cc in
        absurd (omega arith)

    go : (a : Bool) → accepted edition w s ≡ a → (b : Bool) → leb (length (entries_of w s)) (room t) ≡ b → Took edition w s t n u
    go true a true b =
        let e = sym h ∙ read_done edition w s t a (leb-true (length (entries_of w s)) (room t) b) in
        let f : indexed_as.Tags n ≡ indexed_as.Tags (length (entries_of w s)) = ap (λ (o : Outcome). o.answer) e in
        record { good = a; tags = cc; words = ap (λ (o : Outcome). o.index) e }
    go true a false b = no NoRoom (read-no-room edition w s t a (leb-false (length (entries_of w s)) (room t) b))
    go false a b c = no BadIndex (read-bad edition w s t a)

-- a number of characters: the index may be used, and its line stands at the front
pub record Wrote (edition w : ℕ) (t : List ℕ) (n : ℕ) (b : List ℕ) (k : ℕ) (c : List ℕ) : Type 0 where
  pub good : sound_index t n (16 ^ w) (16 ^ w - 1) ≡ true
  pub chars : k ≡ length (line_of edition w (entries_from n t 0))
  pub line : take k c ≡ line_of edition w (entries_from n t 0)

module _ (edition w : ℕ) (t : List ℕ) (n : ℕ) (b : List ℕ) (k : ℕ) (c : List ℕ) where
  pub wrote : write_line edition w t n b ≡ record { answer = put.Done k; buf = c } → Wrote edition w t n b k c
  wrote h = go (sound_index t n (16 ^ w) (16 ^ w - 1)) refl (leb (length (line_of edition w (entries_from n t 0))) (length b)) refl
    where
      l : List ℕ
      l = line_of edition w (entries_from n t 0)

      no : (r : Refusal) → write_line edition w t n b ≡ record { answer = put.Refused r; buf = b } → Wrote edition w t n b k c
      no r e =
          let f : put.Done k ≡ put.Refused r = ap (λ (o : Stored). o.answer) (sym h ∙ e) in
          let z : ◌≡◌ {A = ℕ} 0 1 = cc in
          absurd (omega arith)

      go : (x : Bool) → sound_index t n (16 ^ w) (16 ^ w - 1) ≡ x → (y : Bool) → leb (length l) (length b) ≡ y → Wrote edition w t n b k c
      go true x true y =
          let e = sym h ∙ line-done edition w t n b x (leb-true (length l) (length b) y) in
          let f : put.Done k ≡ put.Done (length l) = ap (λ (o : Stored). o.answer) e in
          let m : k ≡ length l = cc in
          let d : c ≡ l ++ drop (length l) b = ap (λ (o : Stored). o.buf) e in
          record { good = x; chars = m; line = rw (m, d) (take-append_seam l (drop (length l) b)) }
      go true x false y = no NoRoom (line-no-room edition w t n b x (leb-false (length l) (length b) y))
      go false x y z = no BadIndex (line-unsound edition w t n b x)

-- ---- there and back

-- the line of entries that may be used, and the entries of such a line
module _ (edition w : ℕ) (t : List ℕ) (es : List Entry) (h : sound_entries w es ≡ true) where
  pub write_entries : (b l : List ℕ) → line_of edition w es ≡ l → length l ≤ length b
      → write_line edition w (indexed t es) (length es) b ≡ record { answer = put.Done (length l); buf = l ++ drop (length l) b }
  write_entries b l e g =
      let i = entries-indexed t es in
      let d = line-done edition w (indexed t es) (length es) b (sound-indexed (16 ^ w) (16 ^ w - 1) t es h) (rw (i, e) g) in
      rw (i, e) at d

  pub read-entries : length es ≤ room t → read_line edition w (line_of edition w es) t ≡ outcome (indexed_as.Tags (length es)) (indexed t es)
  unfolding spelled_well
  read-entries g =
      let l = line_of edition w es in
      let e : entries_of w l ≡ es = entries-written edition w es h in
      let s : spelled_well edition w l ≡ true = rw e (same_refl l) in
      let a : accepted edition w l ≡ true = accepted-as edition w l s ∙ rw e h in
      rw e at (read_done edition w l t a (rw e g))

-- a line that was read is written again as it was, into any buffer that has room for it
abbrev pub Back : ℕ → ℕ → Type 0
Back edition w =
    (s t : List ℕ) (n : ℕ) (u b : List ℕ) → read_line edition w s t ≡ outcome (indexed_as.Tags n) u → length s ≤ length b
    → write_line edition w u n b ≡ record { answer = put.Done (length s); buf = s ++ drop (length s) b }

-- a line that was written is read as the entries that it was written of, into any index that has room for them
abbrev pub There : ℕ → ℕ → Type 0
There edition w =
    (u : List ℕ) (n : ℕ) (b : List ℕ) (k : ℕ) (c t : List ℕ) → write_line edition w u n b ≡ record { answer = put.Done k; buf = c } → n ≤ room t
    → read_line edition w (take k c) t ≡ outcome (indexed_as.Tags n) (indexed t (entries_from n u 0))

pub line-back : (edition w : ℕ) → Back edition w
unfolding accepted
line-back edition w s t n u b h g =
    let k = took edition w s t n u h in
    let p = both (spelled_well edition w s) (sound_entries w (entries_of w s)) k.good in
    rw (k.tags, k.words) (write_entries edition w t (entries_of w s) p.1 b s (well-line edition w s p.0) g)

pub line-there : (edition w : ℕ) → There edition w
unfolding sound_index
line-there edition w u n b k c t h g =
    let o = wrote edition w u n b k c h in
    let es = entries_from n u 0 in
    let m : length es ≡ n = length_from n u 0 in
    let p = both (leb n (room u)) (sound_entries w es) o.good in
    rw o.line (read-entries edition w t es p.1 (rw m g) ∙ ap (λ (x : ℕ). outcome (indexed_as.Tags x) (indexed t es)) m)

pub line-there-and-back : (edition w : ℕ) → Back edition w × There edition w
line-there-and-back edition w = (line-back edition w, line-there edition w)

-- ---- either edition

-- what may be used with narrow bounds may be used with wider ones
sound-wider : (places counts p c least : ℕ) (es : List Entry) → places ≤ p → counts ≤ c → sound_from places counts least es ≡ true
    → sound_from p c least es ≡ true
unfolding sound_entry
sound-wider places counts p c least [] g h e = refl
sound-wider places counts p c least (x ∷ es) g h e =
    let a = leb least x.tag in
    let b = ltb x.tag (2 ^ 32) in
    let d = ltb x.place places in
    let f = leb 1 x.count in
    let k = leb x.count counts in
    let o = both (sound_entry places counts least x) (sound_from places counts (suc x.tag) es) e in
    let q = both a (choose b (choose d (choose f k false) false) false) o.0 in
    let r = both b (choose d (choose f k false) false) q.1 in
    let u = both d (choose f k false) r.1 in
    let v = both f k u.1 in
    let y = lt-ltb x.place p (omega (arith, ltb-true x.place places u.0)) in
    let z = le-leb x.count c (omega (arith, leb-true x.count counts v.1)) in
    rw (q.0, r.0, y, v.0, z) (sound-wider places counts p c (suc x.tag) es g h o.1)

-- what an answer of either edition says: entries that may be written in edition 02 are in the index, and a line of edition 02 is theirs
pub record Held (s t : List ℕ) (n : ℕ) (u : List ℕ) : Type 0 where
  pub entries : List Entry
  pub good : sound_entries 6 entries ≡ true
  pub tags : n ≡ length entries
  pub words : u ≡ indexed t entries
  pub new : get_or s 1 0 ≡ 50 → line_of 2 6 entries ≡ s

pub held : (m : ℕ) (s t : List ℕ) (n : ℕ) (u : List ℕ) → read_either m s t ≡ outcome (indexed_as.Tags n) u → Held s t n u
unfolding accepted
held m s t n u h = go (accepted 2 6 s) refl (leb m old_limit) refl
  where
    go : (a : Bool) → accepted 2 6 s ≡ a → (b : Bool) → leb m old_limit ≡ b → Held s t n u
    go true a b c =
        let k = took 2 6 s t n u (sym (either-new m s t a) ∙ h) in
        let p = both (spelled_well 2 6 s) (sound_entries 6 (entries_of 6 s)) k.good in
        record { entries = entries_of 6 s; good = p.1; tags = k.tags; words = k.words; new = λ e. well-line 2 6 s p.0 }
    go false a true b =
        let k = took 1 4 s t n u (sym (either-old m s t a (leb-true m old_limit b)) ∙ h) in
        let p = both (spelled_well 1 4 s) (sound_entries 4 (entries_of 4 s)) k.good in
        record {
          entries = entries_of 4 s;
          good = sound-wider (16 ^ 4) (16 ^ 4 - 1) (16 ^ 6) (16 ^ 6 - 1) 0 (entries_of 4 s) (omega arith) (omega arith) p.1;
          tags = k.tags;
          words = k.words;
          new = λ e.
              let f : false ≡ true = well-second 1 4 s (omega arith) (λ g. omega (arith, e, g)) ∙ p.0 in
              let z : ◌≡◌ {A = ℕ} 0 1 = cc in
              absurd (omega arith);
        }
    go false a false b =
        let f : indexed_as.Refused BadIndex ≡ indexed_as.Tags n = ap (λ (o : Outcome). o.answer) (sym (either-late m s t a (leb-false m old_limit b)) ∙ h) in
        let z : ◌≡◌ {A = ℕ} 0 1 = cc in
        absurd (omega arith)

written-again : (t : List ℕ) (n : ℕ) (u b : List ℕ) (es : List Entry) → sound_entries 6 es ≡ true → n ≡ length es → u ≡ indexed t es
    → (l : List ℕ) → line_of 2 6 es ≡ l → length l ≤ length b → write_line 2 6 u n b ≡ record { answer = put.Done (length l); buf = l ++ drop (length l) b }
written-again t n u b es s e f l h g = rw (e, f) (write_entries 2 6 t es s b l h g)

entries-again : (t : List ℕ) (n : ℕ) (u : List ℕ) (es : List Entry) → n ≡ length es → u ≡ indexed t es → es ≡ entries_from n u 0
entries-again t n u es e f = rw (e, f) (sym (entries-indexed t es))

-- a line of edition 02 that was read is written again as it was
pub new-back : (m : ℕ) (s t : List ℕ) (n : ℕ) (u b : List ℕ) → read_either m s t ≡ outcome (indexed_as.Tags n) u → get_or s 1 0 ≡ 50 → length s ≤ length b
    → write_line 2 6 u n b ≡ record { answer = put.Done (length s); buf = s ++ drop (length s) b }
new-back m s t n u b h e g = let k = held m s t n u h in written-again t n u b k.entries k.good k.tags k.words s (k.new e) g

-- a line of either edition comes back as the line of edition 02 of what was read
pub either-back : (m : ℕ) (s t : List ℕ) (n : ℕ) (u b : List ℕ) → read_either m s t ≡ outcome (indexed_as.Tags n) u → head_digits + width 6 * n ≤ length b
    → let l = line_of 2 6 (entries_from n u 0) in write_line 2 6 u n b ≡ record { answer = put.Done (length l); buf = l ++ drop (length l) b }
either-back m s t n u b h g =
    let k = held m s t n u h in
    let l = line_of 2 6 (entries_from n u 0) in
    let i : line_of 2 6 k.entries ≡ l = ap (line_of 2 6) (entries-again t n u k.entries k.tags k.words) in
    written-again t n u b k.entries k.good k.tags k.words l i (omega (arith, length-written 2 6 u n, g))

-- which begins with 02
pub head-new : (es : List Entry) (rest : List ℕ) → take head_digits (line_of 2 6 es ++ rest) ≡ 48 ∷ 50 ∷ []
unfolding digits glyph
head-new es rest = refl

-- a line that was written is read beside a message of any length
pub either-there : (u : List ℕ) (n : ℕ) (b : List ℕ) (k : ℕ) (c : List ℕ) (m : ℕ) (t : List ℕ) → write_line 2 6 u n b ≡ record { answer = put.Done k; buf = c }
    → n ≤ room t → read_either m (take k c) t ≡ outcome (indexed_as.Tags n) (indexed t (entries_from n u 0))
either-there u n b k c m t h g =
    let r = line-there 2 6 u n b k c t h g in
    either-new m (take k c) t (took 2 6 (take k c) t n (indexed t (entries_from n u 0)) r).good ∙ r
