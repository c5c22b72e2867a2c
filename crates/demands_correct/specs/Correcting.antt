-- CORRECTIONS OVER AN ORIGINAL (rules G1 to G5), over every outcome of `write_corrected`, `corrected_by`, `corrected_part` and `supply_of`: what the written
-- result is, tag by tag; that a correction applied again gives the same bytes; who supplies a tag; and that the part that is shown is the value there.
use Rattle.std.specs.Prelude.{ℕ, zero, suc, ◌+◌, ◌≤◌, ◌<◌, ◌≡◌, refl, Bool, true, false, List, [], ◌∷◌, ◌++◌, leb, eqb, length, take, drop}
use Rattle.std.proofs.Math.Path.{ap}
use Rattle.std.proofs.Common.{◌∙◌, sym, subst, arith, leb-true, leb-false, take_at, drop_at}
use contract.Lifetimes.{Lfts}
use borrow.Fn.Kinds.{Dens, res_t, ended_of}
use denote.Triple.Clauses.{AtExit}
use Rattle.std.specs.Borrow.{Bor}
use Rattle.wire.specs.Choose.{choose}
use Rattle.wire.specs.Limits.{message_limit}
use Rattle.wire.specs.Numbers.{number_of}
use Rattle.wire.specs.VarintLaws.{Bytes}
use Rattle.wire.specs.Written.{Item, written, Good}
use Rattle.wire.specs.Places.{items, shown}
use Rattle.wire.specs.Reading.{read_message}
use Rattle.wire.specs.declared.Refusal.{Refusal}
use Rattle.wire.specs.declared.Refusal.TheVariants.{NoRoom, Repeated}
use Rattle.wire.specs.declared.Field.{Field}
use Rattle.message.specs.Tags.{of_tag}
use Rattle.message_payload.specs.declared.Span.{Span}
use Rattle.entry_answer.specs.Gate.{gated, through-open, gated-open}
use Rattle.entry_answer.specs.Stores.{Stored}
use Rattle.entry_answer.specs.Told.{Supplied, supplier_told}
use Rattle.entry_answer.specs.declared.Put.{Put}
use Rattle.entry_answer.specs.declared.Put.TheVariants as put
use Rattle.entry_answer.specs.declared.Picked.{Picked}
use Rattle.entry_answer.specs.declared.Picked.TheVariants as picks
use Rattle.entry_answer.specs.declared.Supplier.{Supplier}
use Rattle.entry_answer.specs.declared.Supplier.TheVariants as supplier
use Rattle.entry_message.specs.Messages.{Part, part_of, part_at, picked_of, picked, pick_entry}
use Rattle.correct_supply.specs.declared.Supply.{Supply}
use Rattle.correct_supply.specs.declared.Supply.TheVariants as supply
use Rattle.correct_supply.specs.Supplying.{nowhere, chosen, judged, supply_of, supplier_of, supplied_by, part_in, corrected_part}
use Rattle.correct_supply.proofs.SupplyLaws.{original-inside, correction-inside}
use Rattle.correct_supply.specs.Meaning as meaning
use Rattle.correct_supply.specs.Meaning.{bare_bytes, FirstOf, Has, Of, Said}
use Rattle.correct_supply.proofs.Meaning.{has-held, said}
use Rattle.correct_write.specs.Corrected.{corrected, Items, Refused, taken, write_corrected, write-original, write-correction, write-long, write_done}
use Rattle.correct_write.specs.TagByTag.{items_of_tag, replaced, good-ordered, corrected-tags, only-list}
use Rattle.correct_write.specs.Applied.{Means, taken-means, result-means, write_again, result-short, nothing-corrected, nothing-there, Was, done_refused, was}
use Rattle.c_words.specs.Words.{as_part, as_supplied, place_of}
use Rattle.demands_correct.specs.CorrectingLaws.{Judged, Shuts, Opens, shuts, opened, judge}
use Rattle.correct_write.proofs.write_corrected.Kinds as write-corrected
use Rattle.correct_write.proofs.write_corrected.Reads as write-corrected-reads
use Rattle.correct_supply.proofs.corrected_by.Kinds as corrected-by
use Rattle.correct_supply.proofs.corrected_by.Reads as corrected-by-reads
use Rattle.correct_supply.proofs.corrected_part.Kinds as corrected-part
use Rattle.correct_supply.proofs.corrected_part.Reads as corrected-part-reads
use Rattle.correct_supply.proofs.supply_of.Kinds as supply-of
use Rattle.correct_supply.proofs.supply_of.Reads as supply-of-reads
use Rattle.capgauze_c.proofs.capgauze_corrected_by.Kinds as c-corrected-by
use Rattle.capgauze_c.proofs.capgauze_corrected_by.Reads as c-corrected-by-reads
use Rattle.capgauze_c.proofs.capgauze_corrected_part.Kinds as c-corrected-part
use Rattle.capgauze_c.proofs.capgauze_corrected_part.Reads as c-corrected-part-reads
use Rattle.entry_message.proofs.pick.Kinds as pick
use Rattle.entry_message.proofs.pick.Reads as pick-reads

-- ---- calls and one of their outcomes each

pub record Corrects (o c b : List ℕ) : Type 0 where
  pub lifetimes : Lfts 3
  pub arguments : Dens lifetimes write-corrected.ps
  pub answer : (res_t write-corrected.r lifetimes).Denot
  pub exit : AtExit (ended_of 3 write-corrected.ps write-corrected.r) lifetimes
  pub allowed : write-corrected-reads.Post lifetimes arguments answer exit
  pub old : arguments.0.now ≡ o
  pub new : arguments.1.0.now ≡ c
  pub buffer : arguments.1.1.0.now ≡ b

pub record Asks (o c : List ℕ) (t : ℕ) : Type 0 where
  pub lifetimes : Lfts 2
  pub arguments : Dens lifetimes corrected-by.ps
  pub answer : (res_t corrected-by.r lifetimes).Denot
  pub exit : AtExit (ended_of 2 corrected-by.ps corrected-by.r) lifetimes
  pub allowed : corrected-by-reads.Post lifetimes arguments answer exit
  pub old : arguments.0.now ≡ o
  pub new : arguments.1.0.now ≡ c
  pub tag : arguments.1.1.0 ≡ t

pub record Supplies (o c : List ℕ) (t : ℕ) : Type 0 where
  pub lifetimes : Lfts 2
  pub arguments : Dens lifetimes supply-of.ps
  pub answer : (res_t supply-of.r lifetimes).Denot
  pub exit : AtExit (ended_of 2 supply-of.ps supply-of.r) lifetimes
  pub allowed : supply-of-reads.Post lifetimes arguments answer exit
  pub old : arguments.0.now ≡ o
  pub new : arguments.1.0.now ≡ c
  pub tag : arguments.1.1.0 ≡ t

pub record Shows : Type 0 where
  pub lifetimes : Lfts 1
  pub arguments : Dens lifetimes corrected-part.ps
  pub answer : (res_t corrected-part.r lifetimes).Denot
  pub exit : AtExit (ended_of 1 corrected-part.ps corrected-part.r) lifetimes
  pub allowed : corrected-part-reads.Post lifetimes arguments answer exit

pub record Picks (s : List ℕ) (t : ℕ) : Type 0 where
  pub lifetimes : Lfts 1
  pub arguments : Dens lifetimes pick.ps
  pub answer : (res_t pick.r lifetimes).Denot
  pub exit : AtExit (ended_of 1 pick.ps pick.r) lifetimes
  pub allowed : pick-reads.Post lifetimes arguments answer exit
  pub message : arguments.0.now ≡ s
  pub tag : arguments.1.0 ≡ t

-- the two lookups for C
pub record AsksC (o c : List ℕ) (t : ℕ) : Type 0 where
  pub lifetimes : Lfts 2
  pub arguments : Dens lifetimes c-corrected-by.ps
  pub answer : (res_t c-corrected-by.r lifetimes).Denot
  pub exit : AtExit (ended_of 2 c-corrected-by.ps c-corrected-by.r) lifetimes
  pub allowed : c-corrected-by-reads.Post lifetimes arguments answer exit
  pub old : arguments.0.now ≡ o
  pub new : arguments.1.0.now ≡ c
  pub tag : arguments.1.1.0 ≡ t

pub record ShowsC (o c : List ℕ) (t : ℕ) : Type 0 where
  pub lifetimes : Lfts 2
  pub arguments : Dens lifetimes c-corrected-part.ps
  pub answer : (res_t c-corrected-part.r lifetimes).Denot
  pub exit : AtExit (ended_of 2 c-corrected-part.ps c-corrected-part.r) lifetimes
  pub allowed : c-corrected-part-reads.Post lifetimes arguments answer exit
  pub old : arguments.0.now ≡ o
  pub new : arguments.1.0.now ≡ c
  pub tag : arguments.1.1.0 ≡ t

-- what is left of the buffer, and all that was seen
abbrev pub seen : Put → List ℕ → Stored
seen r d = record { answer = r; buf = d }

module _ {o c b : List ℕ} (x : Corrects o c b) where
  abbrev pub left : List ℕ
  left = x.exit.1.1.0.now

  abbrev pub writes : Stored
  writes = seen x.answer left

  writes_as : writes ≡ write_corrected o c b
  writes_as = x.allowed ∙ rw (x.old, x.new, x.buffer)

-- the two messages as they are lent, the tag, and the part that is shown
module _ (x : Shows) where
  abbrev pub lent_old : Bor (List ℕ)
  lent_old = x.arguments.0

  abbrev pub lent_new : Bor (List ℕ)
  lent_new = x.arguments.1.0

  abbrev pub wanted : ℕ
  wanted = x.arguments.1.1.0

  abbrev pub part : Part
  part = part_of x.answer

asks-as : {o c : List ℕ} {t : ℕ} (y : Asks o c t) → y.answer ≡ supplied_by o c t
asks-as y = y.allowed ∙ rw (y.old, y.new, y.tag)

supplies-as : {o c : List ℕ} {t : ℕ} (y : Supplies o c t) → y.answer ≡ supply_of o c t
supplies-as y = y.allowed ∙ rw (y.old, y.new, y.tag)

picks-as : {s : List ℕ} {t : ℕ} (z : Picks s t) → z.answer ≡ pick_entry s t
picks-as z = z.allowed ∙ rw (z.message, z.tag)

-- ---- THE RESULT, TAG BY TAG

-- of bytes of which the first n are the result, over bytes b
pub record Result (o c b : List ℕ) (n : ℕ) (d : List ℕ) : Type 0 where
  -- both are messages, and so is the result: each is within the limit and is what its items, a good list, are written as
  pub originals : List Item
  pub corrections : List Item
  pub results : List Item
  pub old : Means o originals
  pub new : Means c corrections
  pub message : Means (take n d) results
  -- of every tag it has the correction's items, if there are any, else the original's; and it is the only good list of which this is so
  pub tags : (t : ℕ) → items_of_tag t results ≡ replaced (items_of_tag t corrections) (items_of_tag t originals)
  pub only : (is : List Item) → Good is → ((t : ℕ) → items_of_tag t is ≡ replaced (items_of_tag t corrections) (items_of_tag t originals)) → is ≡ results
  -- it has so many bytes, and every byte behind them is as it was
  pub size : length (take n d) ≡ n
  pub behind : drop n d ≡ drop n b

module _ {o c b : List ℕ} (p : Bytes o) (q : Bytes c) (x : Corrects o c b) (n : ℕ) (h : x.answer ≡ put.Done n) where
  done : Was o c b n (left x)
  done = was o c b n (left x) (ap (λ (r : Put). seen r (left x)) (sym h) ∙ writes_as x)

  old-means : Means o done.original
  old-means = taken-means o done.original p done.old

  new-means : Means c done.correction
  new-means = taken-means c done.correction q done.new

  -- the bytes in front
  front : take n (left x) ≡ written (corrected done.correction done.original)
  front = ap (take n) done.left ∙ take_at (written (corrected done.correction done.original)) (drop n b) n (sym done.size)

  pub corrected-fields : Result o c b n (left x)
  corrected-fields =
      let os = done.original in
      let cs = done.correction in
      let w = result-means old-means new-means done.short in
      let tags : (t : ℕ) → items_of_tag t (corrected cs os) ≡ replaced (items_of_tag t cs) (items_of_tag t os) =
      λ t. corrected-tags 0 t cs os (good-ordered 0 cs new-means.good)
      in
      record {
        originals = os;
        corrections = cs;
        results = corrected cs os;
        old = old-means;
        new = new-means;
        message = subst (λ (s : List ℕ). Means s (corrected cs os)) (sym front) w;
        tags = tags;
        only = λ is g e.
            only-list 0 0 is (corrected cs os) (good-ordered 0 is g) (good-ordered 0 (corrected cs os) w.good) (λ t. e t ∙ sym (tags t));
        size = ap length front ∙ sym done.size;
        behind = ap (drop n) done.left ∙ drop_at (written (corrected cs os)) (drop n b) n (sym done.size);
      }

  -- APPLIED AGAIN to the result, with room for it: the same bytes
  pub applied-again : {d : List ℕ} → n ≤ length d → (y : Corrects (take n (left x)) c d)
      → writes y ≡ seen (put.Done n) (take n (left x) ++ drop n d)
  applied-again {d} room y =
      writes_as y ∙ ap (λ (s : List ℕ). write_corrected s c d) front
      ∙ write_again old-means new-means done.short d (omega (arith, room, done.size))
      ∙ ap (λ (k : ℕ). seen (put.Done k) (written (corrected done.correction done.original) ++ drop k d)) (sym done.size)
      ∙ ap (λ (s : List ℕ). seen (put.Done n) (s ++ drop n d)) (sym front)

-- ---- NOTHING CORRECTED: the original's bytes; and nothing there to be corrected: the correction's

taken_none : taken [] ≡ Items []
unfolding taken read_message gated
taken_none = refl

no_bytes : Bytes []
no_bytes i = omega arith

module _ {b : List ℕ} {n : ℕ} where
  pub nothing-to-correct-with : {o : List ℕ} → Bytes o → (x : Corrects o [] b) → x.answer ≡ put.Done n → take n (left x) ≡ o
  nothing-to-correct-with {o} p x h =
      let w = done p no_bytes x n h in
      let e : Items [] ≡ Items w.correction = sym taken_none ∙ w.new in
      let f : ◌≡◌ {A = List Item} [] w.correction = cc in
      front p no_bytes x n h ∙ ap (λ (cs : List Item). written (corrected cs w.original)) (sym f)
      ∙ nothing-corrected o w.original (old-means p no_bytes x n h)

  pub nothing-to-be-corrected : {c : List ℕ} → Bytes c → (x : Corrects [] c b) → x.answer ≡ put.Done n → take n (left x) ≡ c
  nothing-to-be-corrected {c} q x h =
      let w = done no_bytes q x n h in
      let e : Items [] ≡ Items w.original = sym taken_none ∙ w.old in
      let f : ◌≡◌ {A = List Item} [] w.original = cc in
      front no_bytes q x n h ∙ ap (λ (os : List Item). written (corrected w.correction os)) (sym f)
      ∙ nothing-there c w.correction (new-means no_bytes q x n h)

-- ---- ROOM OF BOTH LENGTHS IS ENOUGH

no_room : {A : Type 0} (r : Refusal) → number_of r ≤ 4 → r ≡ NoRoom → A
no_room r h e = let z : number_of r ≡ 5 = ap number_of e in absurd (omega (arith, h, z))

refused_as : {r q : Refusal} {b d : List ℕ} → seen (put.Refused r) b ≡ seen (put.Refused q) d → r ≡ q
refused_as {r} {q} e = let f : put.Refused r ≡ put.Refused q = ap (λ (s : Stored). s.answer) e in let z : r ≡ q = cc in z

pub both-lengths-enough : {o c b : List ℕ} → Bytes o → Bytes c → length o + length c ≤ length b → (x : Corrects o c b) → x.answer ≡ put.Refused NoRoom → ⊥
both-lengths-enough {o} {c} {b} p q room x h = go (judge o) (judge c)
  where
    e : write_corrected o c b ≡ seen (put.Refused NoRoom) (left x)
    e = sym (writes_as x) ∙ ap (λ (r : Put). seen r (left x)) h

    go : Judged o → Judged c → ⊥
    go (shuts r w) v = no_room r w.few (refused_as (sym (write-original o c b r w.take) ∙ e))
    go (opened fs w) (shuts r v) = no_room r v.few (refused_as (sym (write-correction o c b (items o fs) w.take r v.take) ∙ e))
    go (opened fs w) (opened gs v) = fits (leb (length (written (corrected (items c gs) (items o fs)))) message_limit) refl
      where
        fits : (y : Bool) → leb (length (written (corrected (items c gs) (items o fs)))) message_limit ≡ y → ⊥
        fits false y =
            let l = leb-false (length (written (corrected (items c gs) (items o fs)))) message_limit y in
            let z : ◌≡◌ {A = ℕ} 4 5 = ap number_of (refused_as (sym (write-long o c b (items o fs) w.take (items c gs) v.take l) ∙ e)) in
            omega (arith, z)
        fits true y =
            let l = leb-true (length (written (corrected (items c gs) (items o fs)))) message_limit y in
            let s = result-short (taken-means o (items o fs) p w.take) (taken-means c (items c gs) q v.take) in
            done_refused (sym (write_done o c b (items o fs) w.take (items c gs) v.take l (omega (arith, s, room))) ∙ e)

-- ---- WHO SUPPLIES A TAG: an answer is told exactly if what it says is so

-- how many fields of the tag the supplier has, of n in the original and m in the correction
abbrev pub supplier_count : ℕ → ℕ → ℕ
supplier_count n zero = n
supplier_count n (suc m) = suc m

-- the original's own refusal; the correction's, behind an original that is accepted; Repeated in the supplier, where both are
pub data Why (o c : List ℕ) (t : ℕ) (r : Refusal) : Type 0 where
  of-original : taken o ≡ Refused r → Why o c t r
  of-correction : (n : ℕ) → Has o t n → taken c ≡ Refused r → Why o c t r
  of-supplier : (n m : ℕ) → Has o t n → Has c t m → 1 < supplier_count n m → r ≡ Repeated → Why o c t r

abbrev pub Says : List ℕ → List ℕ → ℕ → Supplier → Type 0
Says o c t supplier.Correction = (n : ℕ) × Has o t n × Has c t 1
Says o c t supplier.Original = Has o t 1 × Has c t 0
Says o c t supplier.Absent = Has o t 0 × Has c t 0
Says o c t (supplier.Refused r) = Why o c t r

has_of : {s : List ℕ} {fs : List Field} (t : ℕ) → Opens s fs → Has s t (length (of_tag t fs))
has_of {s} {fs} t w = record { short = w.short; fields = fs; read = w.read; count = refl }

refused-shuts : (s : List ℕ) (r : Refusal) → taken s ≡ Refused r → Shuts s r
refused-shuts s r h = go (judge s)
  where
    go : Judged s → Shuts s r
    go (shuts q w) = let e : Refused q ≡ Refused r = sym w.take ∙ h in let f : q ≡ r = cc in subst (Shuts s) f w
    go (opened fs w) =
        let e : Items (items s fs) ≡ Refused r = sym w.take ∙ h in
        let z : ◌≡◌ {A = ℕ} 0 1 = cc in absurd (omega arith)

module _ (o c : List ℕ) (t : ℕ) where
  counted : (n : ℕ) (p : Span) (m : ℕ) (q : Span) → Has o t n → Has c t m → Says o c t (supplier_of (chosen n p m q))
  counted zero p zero q a b = (a, b)
  counted (suc zero) p zero q a b = (a, b)
  counted (suc (suc n)) p zero q a b = of-supplier (suc (suc n)) zero a b (omega arith) refl
  counted n p (suc zero) q a b = (n, a, b)
  counted n p (suc (suc m)) q a b = of-supplier n (suc (suc m)) a b (omega arith) refl

  said-so : Says o c t (supplied_by o c t)
  unfolding supplied_by supply_of judged
  said-so = go (judge o) (judge c)
    where
      go : Judged o → Judged c → Says o c t (supplied_by o c t)
      go (shuts r w) v = rw (w.hold t) (of-original w.take)
      go (opened fs w) (shuts r v) = rw ((w.hold t).1, v.hold t) (of-correction (length (of_tag t fs)) (has_of t w) v.take)
      go (opened fs w) (opened gs v) =
          rw ((w.hold t).1, (v.hold t).1)
          (counted (length (of_tag t fs)) (w.hold t).0 (length (of_tag t gs)) (v.hold t).0 (has_of t w) (has_of t v))

  module _ {n m : ℕ} (a : Has o t n) (b : Has c t m) where
    chosen-as : supplied_by o c t ≡ supplier_of (chosen n (has-held o t n a).0 m (has-held c t m b).0)
    unfolding supplied_by supply_of judged
    chosen-as = rw ((has-held o t n a).1, (has-held c t m b).1)

  repeated : (n : ℕ) (p : Span) (m : ℕ) (q : Span) → 1 < supplier_count n m → supplier_of (chosen n p m q) ≡ supplier.Refused Repeated
  repeated zero p zero q h = absurd (omega arith)
  repeated (suc zero) p zero q h = absurd (omega arith)
  repeated (suc (suc n)) p zero q h = refl
  repeated n p (suc zero) q h = absurd (omega arith)
  repeated n p (suc (suc m)) q h = refl

  so-said : (r : Supplier) → Says o c t r → supplied_by o c t ≡ r
  unfolding supplied_by supply_of judged
  so-said supplier.Correction w = chosen-as w.1 w.2
  so-said supplier.Original w = chosen-as w.0 w.1
  so-said supplier.Absent w = chosen-as w.0 w.1
  so-said (supplier.Refused r) (of-original h) = rw ((refused-shuts o r h).hold t)
  so-said (supplier.Refused r) (of-correction n a h) = rw ((has-held o t n a).1, (refused-shuts c r h).hold t)
  so-said (supplier.Refused r) (of-supplier n m a b l e) = chosen-as a b ∙ repeated n _ m _ l ∙ ap supplier.Refused (sym e)

module _ {o c : List ℕ} {t : ℕ} (y : Asks o c t) where
  pub supplier-says : Says o c t y.answer
  supplier-says = subst (Says o c t) (sym (asks-as y)) (said-so o c t)

  pub supplier-if : (r : Supplier) → Says o c t r → y.answer ≡ r
  supplier-if r w = asks-as y ∙ so-said o c t r w

  -- 11 is the supplier's alone
  pub repeated-only : y.answer ≡ supplier.Refused Repeated → (n : ℕ) × (m : ℕ) × Has o t n × Has c t m × (1 < supplier_count n m)
  repeated-only h = go (subst (Says o c t) h supplier-says)
    where
      go : Why o c t Repeated → (n : ℕ) × (m : ℕ) × Has o t n × Has c t m × (1 < supplier_count n m)
      go (of-original e) = absurd (omega (arith, (refused-shuts o Repeated e).few))
      go (of-correction n a e) = absurd (omega (arith, (refused-shuts c Repeated e).few))
      go (of-supplier n m a b l e) = (n, m, a, b, l)

  -- the core tells the same, with the place
  pub supply-same : (w : Supplies o c t) → y.answer ≡ supplier_of w.answer
  unfolding supplied_by
  supply-same w = asks-as y ∙ ap supplier_of (sym (supplies-as w))

-- ---- THE PART THAT IS SHOWN IS THE VALUE, and lies in the message that supplies the tag

-- a part of a message that is the bytes of the value of its only field of a tag, without a payload's length
pub record ValueIn (m : Bor (List ℕ)) (t : ℕ) (p : Part) : Type 0 where
  pub has : Has m.now t 1
  pub field : Field
  pub only : of_tag t has.fields ≡ field ∷ []
  -- its block is the message's, its place there the message's and a start
  pub span : Span
  pub lies : p ≡ part_at m span
  pub inside : span.start + span.length ≤ length m.now
  pub bytes : p.bytes ≡ bare_bytes (shown m.now field.value)

-- by who supplies the tag; where nobody does, the empty part at the original's front
abbrev pub Value : Bor (List ℕ) → Bor (List ℕ) → ℕ → Supplier → Part → Type 0
Value o c t supplier.Correction p = ValueIn c t p
Value o c t supplier.Original p = ValueIn o t p
Value o c t supplier.Absent p = p ≡ part_at o nowhere
Value o c t (supplier.Refused r) p = p ≡ part_at o nowhere

value_in : (m : Bor (List ℕ)) (t : ℕ) (p : Span) → Bytes m.now → Of m.now t 1 p → p.start + p.length ≤ length m.now → ValueIn m t (part_at m p)
value_in m t p b w l = go (of_tag t w.has.fields) refl (w.first b)
  where
    go : (fs : List Field) → of_tag t w.has.fields ≡ fs → FirstOf m.now (of_tag t w.has.fields) p → ValueIn m t (part_at m p)
    go [] e f = absurd (omega (arith, w.has.count, ap length e))
    go (x ∷ y ∷ fs) e f = absurd (omega (arith, w.has.count, ap length e))
    go (x ∷ []) e f = record { has = w.has; field = x; only = e; span = p; lies = refl; inside = l; bytes = rw e at f }

module _ (o c : Bor (List ℕ)) (t : ℕ) (a : Bytes o.now) (b : Bytes c.now) where
  value_of : (n : ℕ) (p : Span) (m : ℕ) (q : Span) → Of o.now t n p → Of c.now t m q → supply_of o.now c.now t ≡ chosen n p m q
      → Value o c t (supplier_of (chosen n p m q)) (part_in o c (chosen n p m q))
  value_of zero p zero q v w e = refl
  value_of (suc zero) p zero q v w e = value_in o t p a v (original-inside o.now c.now t p e)
  value_of (suc (suc n)) p zero q v w e = refl
  value_of n p (suc zero) q v w e = value_in c t q b w (correction-inside o.now c.now t q e)
  value_of n p (suc (suc m)) q v w e = refl

  value-shown : Value o c t (supplied_by o.now c.now t) (corrected_part o c t)
  unfolding supplied_by corrected_part
  value-shown = go (said o.now c.now t)
    where
      go : Said o.now c.now t (supply_of o.now c.now t) → Value o c t (supplied_by o.now c.now t) (corrected_part o c t)
      go (meaning.both w) = rw w.told (value_of w.olds w.old w.news w.new w.original w.correction w.told)
      go (meaning.original r h e) = rw e
      go (meaning.correction r n p h g e) = rw e

module _ (x : Shows) (a : Bytes (lent_old x).now) (b : Bytes (lent_new x).now) (y : Asks (lent_old x).now (lent_new x).now (wanted x)) where
  pub part-is-the-value : Value (lent_old x) (lent_new x) (wanted x) y.answer (part x)
  part-is-the-value =
      subst (λ (r : Supplier). Value (lent_old x) (lent_new x) (wanted x) r (part x)) (sym (asks-as y))
      (subst (λ (p : Part). Value (lent_old x) (lent_new x) (wanted x) (supplied_by (lent_old x).now (lent_new x).now (wanted x)) p) (sym x.allowed)
      (value-shown (lent_old x) (lent_new x) (wanted x) a b))

-- the core tells the same, with the place
pub part_same : (x : Shows) (w : Supplies (lent_old x).now (lent_new x).now (wanted x)) → part x ≡ part_in (lent_old x) (lent_new x) w.answer
unfolding corrected_part
part_same x w = x.allowed ∙ ap (part_in (lent_old x) (lent_new x)) (sym (supplies-as w))

-- FOR C: the start and length that are told are those of the part, in the message that is told as the supplier
abbrev pub by_supplier : Bor (List ℕ) → Bor (List ℕ) → ℕ → Bor (List ℕ)
by_supplier o c n = choose (eqb n 2) c o

told-place : (o c : Bor (List ℕ)) (r : Supply) → part_in o c r ≡ part_at (by_supplier o c (supplier_told (supplier_of r)).supplier) (place_of r)
told-place o c (supply.Original p) = refl
told-place o c (supply.Correction p) = refl
told-place o c supply.Absent = refl
told-place o c (supply.Refused r) = refl

module _ (x : Shows) where
  pub c-part-same : (v : ShowsC (lent_old x).now (lent_new x).now (wanted x)) (w : AsksC (lent_old x).now (lent_new x).now (wanted x))
      → part x ≡ part_at (by_supplier (lent_old x) (lent_new x) w.answer.supplier) (as_part v.answer)
  unfolding corrected_part supplied_by
  c-part-same v w =
      let r = supply_of (lent_old x).now (lent_new x).now (wanted x) in
      let e : as_part v.answer ≡ place_of r = v.allowed ∙ rw (v.old, v.new, v.tag) in
      let f : as_supplied w.answer ≡ supplier_told (supplier_of r) = w.allowed ∙ rw (w.old, w.new, w.tag) in
      x.allowed ∙ told-place (lent_old x) (lent_new x) r
      ∙ ap (λ (p : Span). part_at (by_supplier (lent_old x) (lent_new x) (supplier_told (supplier_of r)).supplier) p) (sym e)
      ∙ ap (λ (y : Supplied). part_at (by_supplier (lent_old x) (lent_new x) y.supplier) (as_part v.answer)) (sym f)

-- ---- AND IT IS WHAT `pick` FINDS in the message that supplies the tag

pub record Finds (m : Bor (List ℕ)) (p : Part) (r : Picked) : Type 0 where
  pub field : Field
  pub found : r ≡ picks.Found field
  pub bytes : p.bytes ≡ bare_bytes (shown m.now field.value)

value-by-pick : (m : Bor (List ℕ)) (t : ℕ) (p : Part) → ValueIn m t p → (z : Picks m.now t) → Finds m p z.answer
unfolding pick_entry
value-by-pick m t p w z =
    record {
      field = w.field;
      found =
          picks-as z
          ∙ through-open picks.Refused _ (gated-open (length m.now) 0 (length m.now) w.has.short (omega arith) (omega arith))
          ∙ ap (picked t) w.has.read ∙ ap picked_of w.only;
      bytes = w.bytes;
    }

module _ (x : Shows) (a : Bytes (lent_old x).now) (b : Bytes (lent_new x).now) (y : Asks (lent_old x).now (lent_new x).now (wanted x)) where
  as-told : (r : Supplier) → y.answer ≡ r → Value (lent_old x) (lent_new x) (wanted x) r (part x)
  as-told r h = subst (λ (q : Supplier). Value (lent_old x) (lent_new x) (wanted x) q (part x)) h (part-is-the-value x a b y)

  pub correction-by-pick : y.answer ≡ supplier.Correction → (z : Picks (lent_new x).now (wanted x)) → Finds (lent_new x) (part x) z.answer
  correction-by-pick h z = value-by-pick (lent_new x) (wanted x) (part x) (as-told supplier.Correction h) z

  pub original-by-pick : y.answer ≡ supplier.Original → (z : Picks (lent_old x).now (wanted x)) → Finds (lent_old x) (part x) z.answer
  original-by-pick h z = value-by-pick (lent_old x) (wanted x) (part x) (as-told supplier.Original h) z
