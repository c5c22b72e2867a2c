-- THE LINES OF AN INDEX (rules A8 and A9), over every outcome: a line that was read is written again as it was, and one that was written is read as what
-- it was written of; an old line comes back as a new one of the same index; and what was made of a message can always be written.
use Rattle.std.specs.Prelude.{ℕ, ◌+◌, ◌-◌, ◌*◌, ◌^◌, ◌≤◌, ◌≡◌, refl, Bool, true, false, List, [], ◌∷◌, ◌++◌, ltb, length, take, drop, get_or}
use Rattle.std.proofs.Common.{ap, ◌∙◌, sym, arith}
use Rattle.wire.specs.Choose.{choose}
use Rattle.wire.specs.declared.Refusal.TheVariants.{BadIndex}
use Rattle.entry_answer.specs.Stores.{Stored}
use Rattle.entry_answer.specs.Told.{put_told}
use Rattle.entry_answer.specs.declared.Indexed.{Indexed}
use Rattle.entry_answer.specs.declared.Indexed.TheVariants.{Tags}
use Rattle.entry_answer.specs.declared.Put.{Put}
use Rattle.entry_answer.specs.declared.Put.TheVariants as put
use Rattle.index.specs.Index.{room, indexed, entries_from, sound_index, Outcome, outcome}
use Rattle.index_line.specs.Line.{head_digits, width, line_of, write_line, read_either}
use Rattle.index_line.specs.Lines.{length-written, new-back, either-back, head-new, either-there}
use Rattle.demands_order.specs.Calls.{Every}
use Rattle.demands_index.specs.Indexing.{was, made-sound}
use Rattle.demands_index.specs.IndexVerdict.{write-line-order}
use Rattle.index_make.proofs.make_index.Kinds as make-index
use Rattle.index_make.proofs.make_index.Reads as make-index-reads
use Rattle.index_line.proofs.write_line.Kinds as write-line
use Rattle.index_line.proofs.write_line.Reads as write-line-reads
use Rattle.index_line.proofs.read_line.Kinds as read-line
use Rattle.index_line.proofs.read_line.Reads as read-line-reads

-- an index that holds what was left, with the number that was told
written_of : {u v : List ℕ} {m n : ℕ} (b : List ℕ) → u ≡ v → m ≡ n → write_line 2 6 u m b ≡ write_line 2 6 v n b
written_of b e f = rw (e, f)

-- a line of edition 02, read, then written
pub line-again : Every 2 read-line.ps read-line.r read-line-reads.Post
    (λ κs a x st. (n : ℕ) → x ≡ Tags n → get_or a.0.now 1 0 ≡ 50 → Every 2 write-line.ps write-line.r write-line-reads.Post
    (λ ls b y su. b.0.now ≡ st.1.1.0.now → b.1.0 ≡ n → length a.0.now ≤ length b.1.1.0.now → (y ≡ put.Done (length a.0.now))
    × (su.1.1.0.now ≡ a.0.now ++ drop (length a.0.now) b.1.1.0.now)))
line-again κs a x st p n e c ls b y su q f g h =
    let r = sym p ∙ ap (λ (o : Indexed). outcome o st.1.1.0.now) e in
    let o = q ∙ written_of b.1.1.0.now f g ∙ new-back a.1.0 a.0.now a.1.1.0.now n st.1.1.0.now b.1.1.0.now r c h in
    (ap (λ (z : Stored). z.answer) o, ap (λ (z : Stored). z.buf) o)

-- written, then read beside a message of any length
pub line-read-back : Every 2 write-line.ps write-line.r write-line-reads.Post
    (λ κs a x st. (k : ℕ) → x ≡ put.Done k → Every 2 read-line.ps read-line.r read-line-reads.Post
    (λ ls b y su. b.0.now ≡ take k st.1.1.0.now → a.1.0 ≤ room b.1.1.0.now → (y ≡ Tags a.1.0)
    × (su.1.1.0.now ≡ indexed b.1.1.0.now (entries_from a.1.0 a.0.now 0))))
line-read-back κs a x st p k e ls b y su q f h =
    let r = sym p ∙ ap (λ (z : Put). record { answer = z; buf = st.1.1.0.now }) e in
    let o = q ∙ ap (λ (l : List ℕ). read_either b.1.0 l b.1.1.0.now) f
    ∙ either-there a.0.now a.1.0 a.1.1.0.now k st.1.1.0.now b.1.0 b.1.1.0.now r h
    in
    (ap (λ (z : Outcome). z.answer) o, ap (λ (z : Outcome). z.index) o)

-- a line of either edition comes back in edition 02, and that line is read as the same entries, beside a message of any length
pub old-line-comes-back-new : Every 2 read-line.ps read-line.r read-line-reads.Post
    (λ κs a x st. (n : ℕ) → x ≡ Tags n → Every 2 write-line.ps write-line.r write-line-reads.Post
    (λ ls b y su. b.0.now ≡ st.1.1.0.now → b.1.0 ≡ n → head_digits + width 6 * n ≤ length b.1.1.0.now
    → (y ≡ put.Done (head_digits + width 6 * n)) × (take head_digits su.1.1.0.now ≡ 48 ∷ 50 ∷ [])
    × Every 2 read-line.ps read-line.r read-line-reads.Post
    (λ ms c z sv. c.0.now ≡ take (head_digits + width 6 * n) su.1.1.0.now → n ≤ room c.1.1.0.now → (z ≡ Tags n)
    × (sv.1.1.0.now ≡ indexed c.1.1.0.now (entries_from n st.1.1.0.now 0)))))
old-line-comes-back-new κs a x st p n e ls b y su q f g h =
    let r = sym p ∙ ap (λ (o : Indexed). outcome o st.1.1.0.now) e in
    let es = entries_from n st.1.1.0.now 0 in
    let l = line_of 2 6 es in
    let w = either-back a.1.0 a.0.now a.1.1.0.now n st.1.1.0.now b.1.1.0.now r h in
    let o = q ∙ written_of b.1.1.0.now f g ∙ w in
    let k : length l ≡ head_digits + width 6 * n = length-written 2 6 st.1.1.0.now n in
    let d : y ≡ put.Done (head_digits + width 6 * n) = ap (λ (z : Stored). z.answer) o ∙ ap put.Done k in
    let m : su.1.1.0.now ≡ l ++ drop (length l) b.1.1.0.now = ap (λ (z : Stored). z.buf) o in (
      d,
      ap (take head_digits) m ∙ head-new es (drop (length l) b.1.1.0.now),
      λ ms c z sv i j v.
          let t = line-read-back ls b y su q (head_digits + width 6 * n) d ms c z sv i j (omega (arith, g, v)) in
          (t.0 ∙ ap Tags g, t.1 ∙ rw (f, g)),
    )

-- what was made of a message is sound for the line, so it is never BadIndex: places and counts of a message within the limit have six digits
pub made-is-written : Every 2 make-index.ps make-index.r make-index-reads.Post
    (λ κs a x st. (n : ℕ) → x ≡ Tags n → Every 2 write-line.ps write-line.r write-line-reads.Post
    (λ ls b y su. b.0.now ≡ st.1.0.now → b.1.0 ≡ n → y ≡ put.Refused BadIndex → ⊥))
made-is-written κs a x st p n e ls b y su q f g h =
    let w = was a.0.now a.1.0.now n st.1.0.now (ap (λ (o : Indexed). outcome o st.1.0.now) (sym e) ∙ p) in
    let s = made-sound a.0.now a.1.0.now n st.1.0.now w (16 ^ 6) (16 ^ 6 - 1) (omega (arith, w.short)) (omega (arith, w.short)) in
    let k : sound_index b.0.now b.1.0 (16 ^ 6) (16 ^ 6 - 1) ≡ true = rw (f, g) s in
    let o = ap (λ (z : Stored). (put_told z.answer).number) q in
    let m = write-line-order 2 6 b.0.now b.1.0 b.1.1.0.now in
    go (ltb (length b.1.1.0.now) (head_digits + width 6 * b.1.0)) refl (sym (ap (λ (z : Put). (put_told z).number) h) ∙ o ∙ m ∙ rw k)
  where
    go : (c : Bool) → {d : Bool} → d ≡ c → ◌≡◌ {A = ℕ} 12 (choose d 5 0) → ⊥
    go true r z = omega (arith, rw r at z)
    go false r z = omega (arith, rw r at z)
