-- THE INDEX OF A MESSAGE (rules A1 to A7), over every outcome: a lookup through it is the full pick; what it means; and which index fits a message.
use Rattle.std.specs.Prelude.{ℕ, suc, ◌+◌, ◌-◌, ◌*◌, ◌^◌, ◌≤◌, ◌≡◌, refl, Bool, true, false, List, [], ◌∷◌, ◌++◌, leb, eqb, length, take, drop}
use Rattle.std.proofs.Math.Path.{ap, sym}
use Rattle.std.proofs.Common.{◌∙◌, arith, leb-true, leb-false, eq-eqb, eqb-true, length-append, take-append-drop, take_at}
use Rattle.wire.specs.Limits.{message_limit}
use Rattle.wire.specs.Reading.{Message, Fields, read_message}
use Rattle.wire.specs.Reading as reading
use Rattle.wire.specs.Marks.{Mark, marks, fields_of}
use Rattle.wire.proofs.Marks.{marks-fields}
use Rattle.wire.proofs.MarkLaws.{marks-rise}
use Rattle.wire.specs.declared.Refusal.{Refusal}
use Rattle.wire.specs.declared.Field.{Field}
use Rattle.message.specs.Tags.{of_tag}
use Rattle.entry_answer.specs.Gate.{gated, gated-open, gated-opens, through-open}
use Rattle.entry_answer.specs.declared.Gated.{Gated}
use Rattle.entry_answer.specs.declared.Gated.TheVariants.{Open, Shut}
use Rattle.entry_answer.specs.declared.Indexed.{Indexed}
use Rattle.entry_answer.specs.declared.Indexed.TheVariants.{Tags, Refused}
use Rattle.entry_message.specs.Messages.{picked, pick_entry}
use Rattle.index.specs.Index.{Entry, index_words, entry_words, length-words, room, indexed, entries-indexed, sound_index, sound-indexed}
use Rattle.index.specs.Index.{Outcome, outcome}
use Rattle.index_make.specs.Made.{index_of, Made, made, make_index, make-shut, make-refused, make-no-room, make-fits, starts, starts-true, starts-same}
use Rattle.index_make.specs.Made.{agrees, index_fits, fits-shut, fits-open}
use Rattle.index_make.specs.Made as index
use Rattle.index_make.specs.Meaning.{marks-few, Sorted, sorted-wider, sorted-sound, sorted-index, entry_of, marks_of, meant, index-means}
use Rattle.index_make.specs.Meaning.{fields-marks, counts_of, index-counts}
use Rattle.index_pick.specs.Looked.{pick_indexed, indexed-open}
use Rattle.demands_index.specs.IndexLaws.{lookup-pick}
use Rattle.demands_order.specs.Calls.{Every}
use Rattle.entry_message.proofs.pick.Kinds as pick
use Rattle.entry_message.proofs.pick.Reads as pick-reads
use Rattle.index_make.proofs.make_index.Kinds as make-index
use Rattle.index_make.proofs.make_index.Reads as make-index-reads
use Rattle.index_make.proofs.index_fits.Kinds as index-fits
use Rattle.index_make.proofs.index_fits.Reads as index-fits-reads
use Rattle.index_pick.proofs.pick_indexed.Kinds as pick-indexed
use Rattle.index_pick.proofs.pick_indexed.Reads as pick-indexed-reads

-- ---- what an answer of so many tags says

-- the index of a message that is accepted
abbrev pub index_in : List ℕ → List Entry
index_in s = index_of (marks s 0 (length s))

pub record Was (s t : List ℕ) (n : ℕ) (u : List ℕ) : Type 0 where
  pub short : length s ≤ message_limit
  pub fields : List Field
  pub read : read_message s 0 (length s) ≡ Fields fields
  pub tags : n ≡ length (index_in s)
  pub fits : n ≤ room t
  pub left : u ≡ indexed t (index_in s)

tags-refused : {A : Type 0} {n : ℕ} {r : Refusal} {u v : List ℕ} → outcome (Tags n) u ≡ outcome (Refused r) v → A
tags-refused {A} {n} {r} e =
    let f : Tags n ≡ Refused r = ap (λ (o : Outcome). o.answer) e in
    let z : ◌≡◌ {A = ℕ} 0 1 = cc in absurd (omega arith)

pub was : (s t : List ℕ) (n : ℕ) (u : List ℕ) → outcome (Tags n) u ≡ make_index s t → Was s t n u
unfolding made
was s t n u h = go (gated (length s) 0 (length s)) refl (read_message s 0 (length s)) refl (leb (length (index_in s)) (room t)) refl
  where
    go : (g : Gated) → gated (length s) 0 (length s) ≡ g → (m : Message) → read_message s 0 (length s) ≡ m → (b : Bool) → leb (length (index_in s)) (room t) ≡ b
        → Was s t n u
    go (Shut r) g m x b y = tags-refused (h ∙ make-shut s t r g)
    go Open g (reading.Refused r p) x b y = tags-refused (h ∙ make-refused s t g r (rw x))
    go Open g (Fields fs) x false y = tags-refused (h ∙ make-no-room s t g (index_in s) (rw x) (leb-false (length (index_in s)) (room t) y))
    go Open g (Fields fs) x true y =
        let l = leb-true (length (index_in s)) (room t) y in
        let e = h ∙ make-fits s t g (index_in s) (rw x) l in
        let f : Tags n ≡ Tags (length (index_in s)) = ap (λ (o : Outcome). o.answer) e in
        let k : n ≡ length (index_in s) = cc in
        record {
          short = (gated-opens (length s) 0 (length s) g).0;
          fields = fs;
          read = x;
          tags = k;
          fits = omega (arith, k, l);
          left = ap (λ (o : Outcome). o.index) e;
        }

-- the entries may be used, with places below the end and counts of at most the fields
pub in_order : (s : List ℕ) → Sorted (length s) (length (marks s 0 (length s))) 0 (index_in s)
unfolding marks
in_order s = sorted-index (length s) 0 (marks s 0 (length s)) (marks-rise (length s - 0) s (length s) 0 0)

few-marks : (s : List ℕ) → 2 * length (marks s 0 (length s)) ≤ length s
unfolding marks
few-marks s = omega (arith, marks-few (length s - 0) s 0 0 (omega arith))

-- ---- A LOOKUP THROUGH THE INDEX IS THE FULL PICK

module _ (s t : List ℕ) (n : ℕ) (u : List ℕ) (w : Was s t n u) where
  pub made-sound : (places counts : ℕ) → length s ≤ places → length s ≤ counts → sound_index u n places counts ≡ true
  made-sound places counts a b =
      let few : length (marks s 0 (length s)) ≤ counts = omega (arith, b, few-marks s) in
      let o = sorted-wider (length s) places (length (marks s 0 (length s))) counts 0 0 (index_in s) a few (omega arith) (in_order s) in
      rw (w.left, w.tags) (sound-indexed places counts t (index_in s) (sorted-sound places counts 0 (index_in s) o))

  opens : gated (length s) 0 (length s) ≡ Open
  opens = gated-open (length s) 0 (length s) w.short (omega arith) (omega arith)

  pub indexed-pick : (tag : ℕ) → pick_indexed s u n tag ≡ pick_entry s tag
  unfolding pick_entry
  indexed-pick tag =
      indexed-open s u n tag (made-sound (length s) (2 ^ 64 - 1) (omega arith) (omega (arith, w.short))) opens
      ∙ rw (w.left, w.tags) (rw (entries-indexed t (index_in s)) (lookup-pick s tag w.fields w.read))
      ∙ sym (through-open _ _ opens ∙ ap (picked tag) w.read)

-- ---- WHAT THE INDEX MEANS

pub record Means (s t : List ℕ) (n : ℕ) (u : List ℕ) : Type 0 where
  pub fields : List Field
  pub read : read_message s 0 (length s) ≡ Fields fields
  pub entries : List Entry
  -- so many entries at the front, and the words behind them as they were
  pub tags : n ≡ length entries
  pub left : u ≡ entry_words entries ++ drop (index_words * n) t
  -- the tags rise; a place lies in the message; a count is neither 0 nor above the number of fields
  pub rising : Sorted (length s) (length fields) 0 entries
  -- a tag has an entry exactly if it has a field: then the place of the key of its first one, and their number
  pub each : (tag : ℕ) → entry_of tag entries ≡ meant tag (marks_of tag (marks s 0 (length s)))
  pub all : (tag : ℕ) → fields_of (marks_of tag (marks s 0 (length s))) ≡ of_tag tag fields
  pub total : counts_of entries ≡ length fields

length_fields : (ms : List Mark) → length (fields_of ms) ≡ length ms
length_fields [] = refl
length_fields (m ∷ ms) = ap suc (length_fields ms)

pub means : (s t : List ℕ) (n : ℕ) (u : List ℕ) → Was s t n u → Means s t n u
unfolding marks
means s t n u w =
    let ms = marks s 0 (length s) in
    let f = marks-fields s 0 (length s) w.fields w.read in
    let l : length ms ≡ length w.fields = sym (length_fields ms) ∙ ap length f in
    record {
      fields = w.fields;
      read = w.read;
      entries = index_in s;
      tags = w.tags;
      left = w.left ∙ ap (λ (k : ℕ). entry_words (index_in s) ++ drop (index_words * k) t) (sym w.tags);
      rising = rw l at (in_order s);
      each = λ tag. index-means (length s) 0 tag ms (marks-rise (length s - 0) s (length s) 0 0);
      all = λ tag. sym (fields-marks tag ms) ∙ ap (of_tag tag) f;
      total = index-counts ms ∙ l;
    }

-- ---- WHICH INDEX FITS A MESSAGE: the one that is made of it, and no other

-- an index of k tags is the one that is made of s: wherever there is room for k tags, they are made, with the same words
pub record Fits (s u : List ℕ) (k : ℕ) : Type 0 where
  pub words : index_words * k ≤ length u
  pub same : (t : List ℕ) → k ≤ room t → make_index s t ≡ outcome (Tags k) (take (index_words * k) u ++ drop (index_words * k) t)

pub fits-says : (s u : List ℕ) (k : ℕ) → index_fits s u k ≡ true → Fits s u k
fits-says s u k h = go (gated (length s) 0 (length s)) refl (made s) refl
  where
    no : false ≡ true → Fits s u k
    no x = let z : ◌≡◌ {A = ℕ} 0 1 = cc in absurd (omega arith)

    so : gated (length s) 0 (length s) ≡ Open → (es : List Entry) → made s ≡ index.Entries es → 0 + length es ≡ k → starts (entry_words es) u ≡ true → Fits s u k
    so g es m l b =
        let e = starts-true (entry_words es) u b in
        let n = length-words es in
        let j : length (entry_words es) ≡ index_words * k = omega (arith, n, l) in
        let i = ap length e ∙ length-append (entry_words es) (drop (length (entry_words es)) u) in
        let f : take (index_words * k) u ≡ entry_words es =
        ap (take (index_words * k)) e ∙ take_at (entry_words es) (drop (length (entry_words es)) u) (index_words * k) j
        in
        let q : length es ≡ k = omega (arith, l) in
        record {
          words = omega (arith, i, j);
          same = λ t r.
              make-fits s t g es m (omega (arith, q, r))
              ∙ ap (λ (w : ℕ). outcome (Tags w) (entry_words es ++ drop (index_words * w) t)) q
              ∙ ap (λ (w : List ℕ). outcome (Tags k) (w ++ drop (index_words * k) t)) (sym f);
        }

    go : (g : Gated) → gated (length s) 0 (length s) ≡ g → (m : Made) → made s ≡ m → Fits s u k
    go (Shut r) g m x = no (fits-shut s u k r g ∙ h)
    go Open g (index.Refused r) x = no (sym (fits-open s u k g ∙ ap (agrees u k) x) ∙ h)
    go Open g (index.Entries es) x =
        at (eqb (0 + length es) k) refl (starts (entry_words es) u) refl (sym (fits-open s u k g ∙ ap (agrees u k) x) ∙ h)
      where
        at : (a : Bool) → eqb (0 + length es) k ≡ a → (b : Bool) → starts (entry_words es) u ≡ b → agrees u k (index.Entries es) ≡ true → Fits s u k
        at false a b y z = no (rw a at z)
        at true a false y z = no (rw (a, y) at z)
        at true a true y z = so g es x (eqb-true (0 + length es) k a) y

pub fits-back : (s t u : List ℕ) (k : ℕ) (v : List ℕ) → Was s t k v → take (index_words * k) v ≡ take (index_words * k) u → index_words * k ≤ length u
    → index_fits s u k ≡ true
unfolding made
fits-back s t u k v w h l =
    let es = index_in s in
    let n = length-words es in
    let j : length (entry_words es) ≡ index_words * k = omega (arith, n, w.tags) in
    let f : take (index_words * k) v ≡ entry_words es =
    ap (take (index_words * k)) w.left ∙ take_at (entry_words es) (drop (index_words * length es) t) (index_words * k) j
    in
    let e : u ≡ entry_words es ++ drop (index_words * k) u =
    sym (take-append-drop (index_words * k) u) ∙ ap (λ (x : List ℕ). x ++ drop (index_words * k) u) (sym h ∙ f)
    in
    let m : made s ≡ index.Entries es = rw w.read in
    let o = gated-open (length s) 0 (length s) w.short (omega arith) (omega arith) in
    fits-open s u k o ∙ ap (agrees u k) m
    ∙ rw (eq-eqb (0 + length es) k (omega (arith, w.tags)))
    (ap (starts (entry_words es)) e ∙ starts-same (entry_words es) (drop (index_words * k) u))

-- ---- OVER EVERY OUTCOME

-- a lookup through the index that was made of a message is the full pick, whatever that answers
pub index-lookup : Every 2 make-index.ps make-index.r make-index-reads.Post
    (λ κs a x st. (n : ℕ) → x ≡ Tags n → Every 2 pick-indexed.ps pick-indexed.r pick-indexed-reads.Post
    (λ ls b y su. b.0.now ≡ a.0.now → b.1.0.now ≡ st.1.0.now → b.1.1.0 ≡ n → Every 1 pick.ps pick.r pick-reads.Post
    (λ ms d z sv. d.0.now ≡ a.0.now → d.1.0 ≡ b.1.1.1.0 → y ≡ z)))
index-lookup κs a x st p n e ls b y su q f g h ms d z sv r i j =
    let w = was a.0.now a.1.0.now n st.1.0.now (ap (λ (o : Indexed). outcome o st.1.0.now) (sym e) ∙ p) in
    let t = b.1.1.1.0 in
    q ∙ ap (λ (s : List ℕ). pick_indexed s b.1.0.now b.1.1.0 t) f
    ∙ ap (λ (u : List ℕ). pick_indexed a.0.now u b.1.1.0 t) g
    ∙ ap (λ (k : ℕ). pick_indexed a.0.now st.1.0.now k t) h
    ∙ indexed-pick a.0.now a.1.0.now n st.1.0.now w t
    ∙ sym (r ∙ ap (λ (s : List ℕ). pick_entry s d.1.0) i ∙ ap (pick_entry a.0.now) j)

-- what the index means
pub index-meaning : Every 2 make-index.ps make-index.r make-index-reads.Post
    (λ κs a x st. (n : ℕ) → x ≡ Tags n → Means a.0.now a.1.0.now n st.1.0.now)
index-meaning κs a x st p n e =
    means a.0.now a.1.0.now n st.1.0.now
    (was a.0.now a.1.0.now n st.1.0.now (ap (λ (o : Indexed). outcome o st.1.0.now) (sym e) ∙ p))

-- an index fits exactly if it is the one that is made: with room for as many tags, these are made, and its words are left ..
pub fits-exactly : Every 2 index-fits.ps index-fits.r index-fits-reads.Post
    (λ κs a x st. x ≡ true → (index_words * a.1.1.0 ≤ length a.1.0.now) × Every 2 make-index.ps make-index.r make-index-reads.Post
    (λ ls b y su. b.0.now ≡ a.0.now → a.1.1.0 ≤ room b.1.0.now → (y ≡ Tags a.1.1.0)
    × (su.1.0.now ≡ take (index_words * a.1.1.0) a.1.0.now ++ drop (index_words * a.1.1.0) b.1.0.now)))
fits-exactly κs a x st p e =
    let f = fits-says a.0.now a.1.0.now a.1.1.0 (sym p ∙ e) in (
      f.words,
      λ ls b y su q g h.
          let o = q ∙ ap (λ (s : List ℕ). make_index s b.1.0.now) g ∙ f.same b.1.0.now h in
          (ap (λ (z : Outcome). z.answer) o, ap (λ (z : Outcome). z.index) o),
    )

-- .. and what was made fits
pub fits-made : Every 2 make-index.ps make-index.r make-index-reads.Post
    (λ κs a x st. (n : ℕ) → x ≡ Tags n → Every 2 index-fits.ps index-fits.r index-fits-reads.Post
    (λ ls b y su. b.0.now ≡ a.0.now → b.1.1.0 ≡ n → index_words * n ≤ length b.1.0.now
    → take (index_words * n) st.1.0.now ≡ take (index_words * n) b.1.0.now → y ≡ true))
fits-made κs a x st p n e ls b y su q f g l h =
    let w = was a.0.now a.1.0.now n st.1.0.now (ap (λ (o : Indexed). outcome o st.1.0.now) (sym e) ∙ p) in
    q ∙ ap (λ (s : List ℕ). index_fits s b.1.0.now b.1.1.0) f ∙ ap (index_fits a.0.now b.1.0.now) g
    ∙ fits-back a.0.now a.1.0.now b.1.0.now n st.1.0.now w h l
