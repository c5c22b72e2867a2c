-- All ones alone, over every outcome of `read_sounding`, NoRoom included: the number is the one that the same sounding gets with 0 in the place of all ones in
-- every field that is no station and no pressure (`calm`, crate sounding). So all ones never causes a refusal, but as one of these two.
use Rattle.std.specs.Prelude.{ℕ, ◌≡◌, refl, Bool, true, false, List, [], ◌∷◌, leb, eqb, length}
use Rattle.std.proofs.Common.{ap, ◌∙◌, sym, arith}
use Rattle.wire.specs.Reading.{Message, Fields}
use Rattle.wire.specs.Reading as reading
use Rattle.wire.specs.declared.Field.{Field}
use Rattle.wire.specs.declared.Value.TheVariants.{Varint}
use Rattle.message.specs.Tags.{of_tag}
use Rattle.sounding_value.specs.Values.{entered}
use Rattle.sounding_value.specs.declared.Measured.TheVariants.{Missing}
use Rattle.sounding.specs.Soundings.{Levels, All, Refused, levels, station, launch, head_of, head, Report, Judgement, Good, Bad, judged, judge, opened}
use Rattle.wire.specs.Choose.{choose}
use Rattle.wire.specs.declared.Refusal.TheVariants.{NoRoom}
use Rattle.sounding.specs.Words.{level_room, Outcome, stored, read_sounding}
use Rattle.wire.specs.Numbers.{number_of}
use Rattle.sounding.specs.Layout.{level_tag}
use Rattle.sounding.specs.AllOnes.{calm_fields, calm, calm_inside, verdict, all-ones-alone}
use Rattle.sounding.specs.Promises.{each_all}
use Rattle.sounding.specs.Told as soundings
use Rattle.sounding.specs.Told.{sounding_told}
use Rattle.sounding_value.specs.declared.NumberFound.{NumberFound}
use Rattle.sounding_value.specs.declared.NumberFound.TheVariants as number_found
use Rattle.c_words.specs.Words.{Lent}
use Rattle.demands_order.specs.Calls.{Every}
use Rattle.sounding.proofs.read_sounding.Kinds as read-sounding
use Rattle.sounding.proofs.read_sounding.Reads as read-sounding-reads
use Rattle.capgauze_c.proofs.capgauze_read_sounding.Kinds as c-read-sounding
use Rattle.capgauze_c.proofs.capgauze_read_sounding.Reads as c-read-sounding-reads

-- the number that a sounding with these fields, and these in its payloads, gets with a table t
abbrev pub number_for : List ℕ → (ℕ → ℕ → Message) → Message → ℕ
number_for t inside m = (sounding_told (stored t (judge inside m)).answer).number

-- ---- the levels are as many

unfoldable pub levels_sent : Message → ℕ
levels_sent (Fields fs) = length (of_tag level_tag fs)
levels_sent (reading.Refused r p) = 0

calm-length : (fs : List Field) → length (of_tag level_tag (calm_fields fs)) ≡ length (of_tag level_tag fs)
calm-length [] = refl
calm-length (f ∷ fs) = go (eqb f.tag level_tag) refl (calm-length fs)
  where
    go : (b : Bool) → eqb f.tag level_tag ≡ b → length (of_tag level_tag (calm_fields fs)) ≡ length (of_tag level_tag fs)
        → length (of_tag level_tag (calm_fields (f ∷ fs))) ≡ length (of_tag level_tag (f ∷ fs))
    go true b ih = simp (b, ih)
    go false b ih = simp (b, ih)

pub calm-sent : (m : Message) → levels_sent (calm m) ≡ levels_sent m
unfolding levels_sent
calm-sent (Fields fs) = calm-length fs
calm-sent (reading.Refused r p) = refl

judged-levels : (x y : NumberFound) (ls : Levels) (r : Report) → judged (head_of x y) ls ≡ Good r → ls ≡ All r.levels
judged-levels (number_found.Refused q) y ls r e = let z : ◌≡◌ {A = ℕ} 0 1 = cc in absurd (omega arith)
judged-levels (number_found.Got s) (number_found.Refused q) ls r e = let z : ◌≡◌ {A = ℕ} 0 1 = cc in absurd (omega arith)
judged-levels (number_found.Got s) (number_found.Got l) (Refused q) r e = let z : ◌≡◌ {A = ℕ} 0 1 = cc in absurd (omega arith)
judged-levels (number_found.Got s) (number_found.Got l) (All ls) r e =
    let z : record { station = s; launch = l; levels = ls } ≡ r = cc in
    ap (λ (x : Report). All x.levels) z

good-levels : (inside : ℕ → ℕ → Message) (m : Message) (r : Report) → judge inside m ≡ Good r → length r.levels ≡ levels_sent m
unfolding judge head levels levels_sent
good-levels inside (Fields fs) r e =
    (each_all inside (record { tag = level_tag; value = Varint 0 }) (record { pressure = 0; temperature = Missing; depression = Missing })
    (of_tag level_tag fs) r.levels
    (judged-levels (station (Fields fs)) (launch (Fields fs)) (levels inside (Fields fs)) r e)).0
good-levels inside (reading.Refused q p) r e =
    let m = reading.Refused q p in
    let x : Refused q ≡ All r.levels = judged-levels (station m) (launch m) (Refused q) r e in
    let z : ◌≡◌ {A = ℕ} 0 1 = cc in
    absurd (omega arith)

-- a good one's number is 0, or NoRoom's, by the number of its levels
good-number : (t : List ℕ) (r : Report) → (sounding_told (stored t (Good r)).answer).number ≡ choose (leb (length r.levels) (level_room t)) 0 (number_of NoRoom)
good-number t r = go (leb (length r.levels) (level_room t)) refl
  where
    go : (b : Bool) → leb (length r.levels) (level_room t) ≡ b
        → (sounding_told (stored t (Good r)).answer).number ≡ choose (leb (length r.levels) (level_room t)) 0 (number_of NoRoom)
    go true b = rw b
    go false b = rw b

-- two judgements with one verdict, and as many levels, have one number
same_number : (t : List ℕ) (j k : Judgement) → verdict j ≡ verdict k
    → ((r q : Report) → j ≡ Good r → k ≡ Good q → length r.levels ≡ length q.levels)
    → (sounding_told (stored t j).answer).number ≡ (sounding_told (stored t k).answer).number
same_number t (Good r) (Good q) v h =
    good-number t r ∙ ap (λ (n : ℕ). choose (leb n (level_room t)) 0 (number_of NoRoom)) (h r q refl refl) ∙ sym (good-number t q)
same_number t (Good r) (Bad y) v h = let z : ◌≡◌ {A = ℕ} 0 1 = cc in absurd (omega arith)
same_number t (Bad x) (Good q) v h = let z : ◌≡◌ {A = ℕ} 0 1 = cc in absurd (omega arith)
same_number t (Bad x) (Bad y) v h = let z : x ≡ y = cc in rw z

calm-number : (t s : List ℕ) → number_for t (opened s) (entered s) ≡ number_for t (calm_inside (opened s)) (calm (entered s))
calm-number t s =
    let m = entered s in
    sym
    (same_number t (judge (calm_inside (opened s)) (calm m)) (judge (opened s) m) (all-ones-alone (opened s) m)
    (λ r q e f. good-levels (calm_inside (opened s)) (calm m) r e ∙ calm-sent m ∙ sym (good-levels (opened s) m q f)))

-- ---- THE THEOREM, over every outcome of the entry, and of the export to C

pub all-ones-outcome : Every 2 read-sounding.ps read-sounding.r read-sounding-reads.Post
    (λ κs a x s. let m = a.0.now in (sounding_told x).number ≡ number_for a.1.0.now (calm_inside (opened m)) (calm (entered m)))
unfolding read_sounding
all-ones-outcome κs a x s p = ap (λ (o : Outcome). (sounding_told o.answer).number) p ∙ calm-number a.1.0.now a.0.now

pub c-all-ones-outcome : Every 2 c-read-sounding.ps c-read-sounding.r c-read-sounding-reads.Post
    (λ κs a x s. let m = a.0.now in x.number ≡ number_for a.1.0.now (calm_inside (opened m)) (calm (entered m)))
unfolding read_sounding
c-all-ones-outcome κs a x s p = ap (λ (l : Lent soundings.Heading). l.told.number) p ∙ calm-number a.1.0.now a.0.now
