-- The cases of the tests and of a plan, of what is answered and of what is left.
use Rattle.std.specs.Prelude.{ℕ, ◌+◌, ◌-◌, ◌≤◌, ◌<◌, ◌≡◌, Bool, true, false, List, leb}
use Rattle.std.proofs.Math.Path.{refl, ap, sym}
use Rattle.std.proofs.Common.{◌∙◌, arith}
use borrow.Author.Tests.{le-leb, lt-leb, leb-true, leb-false}
use Rattle.std.proofs.Math.ListN.{length}
use Rattle.wire.specs.Numbers.{number_of}
use Rattle.wire.specs.Table.{room, record_at}
use Rattle.write_record.specs.Records.{tag_before, Verdict, AllFine, First, tested, checked, message}
use Rattle.write_record.specs.RecordLaws.{Sound, good-sound, judge-fine, fine-at, tested-why}
use Rattle.write_message.specs.Writing.{Plan, Writes, Refuses, passed, plan, refused, no_room, measured, fitted, Writing, into, spent}
use Rattle.wire.specs.declared.Refusal.{Refusal}
use Rattle.wire.specs.declared.Refusal.TheVariants.{TooLong, NoRoom, BadRecord}
use Rattle.wire.specs.declared.Weighed.{Weighed}
use Rattle.wire.specs.declared.Weighed.TheVariants as weighed
use Rattle.wire.specs.declared.Written.{Written}
use Rattle.wire.specs.declared.Written.TheVariants.{At, Refused}

-- ---- the tests, in their order

module _ (most : ℕ) (s t : List ℕ) (c : ℕ) where
  pub checked-long : most < length s → checked most s t c ≡ First TooLong 0
  unfolding checked
  checked-long h = rw (lt-leb (length s) most h)

  pub checked-count : length s ≤ most → room t < c → checked most s t c ≡ First BadRecord (room t)
  unfolding checked
  checked-count g h = rw (le-leb (length s) most g, lt-leb c (room t) h)

  pub checked-tests : length s ≤ most → c ≤ room t → checked most s t c ≡ tested c (length s) t
  unfolding checked
  checked-tests g h = rw (le-leb (length s) most g, le-leb c (room t) h)

pub no-fine : {A : Type 0} {r : Refusal} {i : ℕ} → First r i ≡ AllFine → A
no-fine e = let z : ◌≡◌ {A = ℕ} 0 1 = cc in absurd (omega arith)

-- what is known where no test refused
pub record Ready (s t : List ℕ) (c : ℕ) : Type 0 where
  pub count : c ≤ room t
  pub fine : tested c (length s) t ≡ AllFine

-- then each record is good, and not below the one before it
pub ready_at : {s t : List ℕ} {c : ℕ} → Ready s t c → (i : ℕ) → i < c → Sound (length s) (record_at t i) × (tag_before t i ≤ (record_at t i).tag)
ready_at {s} {t} {c} y i h =
    let f = judge-fine (length s) (tag_before t i) (record_at t i) (fine-at (length s) t c i h y.fine) in
    (good-sound (length s) (record_at t i) f.0, f.1)

pub checked-fine : (most : ℕ) (s t : List ℕ) (c : ℕ) → checked most s t c ≡ AllFine → (length s ≤ most) × Ready s t c
checked-fine most s t c e = go (leb (length s) most) refl (leb c (room t)) refl
  where
    go : (a : Bool) → leb (length s) most ≡ a → (b : Bool) → leb c (room t) ≡ b → (length s ≤ most) × Ready s t c
    go true a true b =
        let g = leb-true (length s) most a in
        let h = leb-true c (room t) b in
        (g, record { count = h; fine = sym (checked-tests most s t c g h) ∙ e })
    go true a false b = no-fine (sym (checked-count most s t c (leb-true (length s) most a) (leb-false c (room t) b)) ∙ e)
    go false a b q = no-fine (sym (checked-long most s t c (leb-false (length s) most a)) ∙ e)

-- no refusal of the tests is for want of room
checked-why : (most : ℕ) (s t : List ℕ) (c : ℕ) (why : Refusal) (i : ℕ) → checked most s t c ≡ First why i → number_of why ≡ number_of NoRoom → ⊥
checked-why most s t c why i e z = go (leb (length s) most) refl (leb c (room t)) refl
  where
    go : (a : Bool) → leb (length s) most ≡ a → (b : Bool) → leb c (room t) ≡ b → ⊥
    go true a true b = tested-why (length s) t c why i (sym (checked-tests most s t c (leb-true (length s) most a) (leb-true c (room t) b)) ∙ e) z
    go true a false b =
        let f = sym (checked-count most s t c (leb-true (length s) most a) (leb-false c (room t) b)) ∙ e in
        let k : BadRecord ≡ why = cc in
        omega (arith, ap number_of k, z)
    go false a b q =
        let f = sym (checked-long most s t c (leb-false (length s) most a)) ∙ e in
        let k : TooLong ≡ why = cc in
        omega (arith, ap number_of k, z)

-- ---- the plan

no_writes : {A : Type 0} {r : Refusal} {i : ℕ} {bs : List ℕ} → Refuses r i ≡ Writes bs → A
no_writes e = let z : ◌≡◌ {A = ℕ} 0 1 = cc in absurd (omega arith)

pub passed-writes : (most : ℕ) (m : List ℕ) (v : Verdict) (bs : List ℕ) → passed most m v ≡ Writes bs → (v ≡ AllFine) × (bs ≡ m) × (length m ≤ most)
passed-writes most m AllFine bs e = go (leb (length m) most) refl
  where
    go : (b : Bool) → leb (length m) most ≡ b → (AllFine ≡ AllFine) × (bs ≡ m) × (length m ≤ most)
    go true q = let z : Writes m ≡ Writes bs = simp q at e in (refl, cc, leb-true (length m) most q)
    go false q = no_writes (simp q at e)
passed-writes most m (First r i) bs e = no_writes e

module _ (most : ℕ) (s t : List ℕ) (c : ℕ) where
  pub plan-first : (why : Refusal) (i : ℕ) → checked most s t c ≡ First why i → plan most s t c ≡ Refuses why i
  unfolding plan
  plan-first why i e = rw e

  pub plan-over : checked most s t c ≡ AllFine → most < length (message s t c) → plan most s t c ≡ Refuses TooLong 0
  unfolding plan
  plan-over e h = rw (e, lt-leb (length (message s t c)) most h)

  pub plan-fine : checked most s t c ≡ AllFine → length (message s t c) ≤ most → plan most s t c ≡ Writes (message s t c)
  unfolding plan
  plan-fine e h = rw (e, le-leb (length (message s t c)) most h)

  pub plan-writes : (bs : List ℕ) → plan most s t c ≡ Writes bs → Ready s t c × (bs ≡ message s t c)
  unfolding plan
  plan-writes bs e =
      let p = passed-writes most (message s t c) (checked most s t c) bs e in
      ((checked-fine most s t c p.0).1, p.1)

  pub plan-short : (bs : List ℕ) → plan most s t c ≡ Writes bs → length bs ≤ most
  unfolding plan
  plan-short bs e =
      let p = passed-writes most (message s t c) (checked most s t c) bs e in
      omega (arith, ap length p.1, p.2)

  -- a plan knows no buffer, so that none is refused for want of room
  pub plan-why : (why : Refusal) (i : ℕ) → plan most s t c ≡ Refuses why i → number_of why ≡ number_of NoRoom → ⊥
  plan-why why i e z = go (checked most s t c) refl (leb (length (message s t c)) most) refl
    where
      go : (v : Verdict) → checked most s t c ≡ v → (b : Bool) → leb (length (message s t c)) most ≡ b → ⊥
      go AllFine q true b = no_writes (sym e ∙ plan-fine q (leb-true (length (message s t c)) most b))
      go AllFine q false b =
          let f = sym (plan-over q (leb-false (length (message s t c)) most b)) ∙ e in
          let k : TooLong ≡ why = cc in
          omega (arith, ap number_of k, z)
      go (First x j) q b p =
          let f = sym (plan-first x j q) ∙ e in
          let k : x ≡ why = cc in
          checked-why most s t c x j q (ap number_of k ∙ z)

-- ---- what the count of the bytes tells of the tests and of the plan

module _ (most : ℕ) (s t : List ℕ) (c : ℕ) {w : Weighed} (e : w ≡ spent (most + 1) (length (message s t c)) (checked most s t c)) where
  told : (v : Verdict) → checked most s t c ≡ v → w ≡ spent (most + 1) (length (message s t c)) v
  told v q = e ∙ ap (spent (most + 1) (length (message s t c))) q

  pub spent-first : (why : Refusal) (i : ℕ) → w ≡ weighed.First why i → checked most s t c ≡ First why i
  spent-first why i f = go (checked most s t c) refl
    where
      go : (v : Verdict) → checked most s t c ≡ v → checked most s t c ≡ First why i
      go AllFine q = let h = sym f ∙ told AllFine q in let z : ◌≡◌ {A = ℕ} 0 1 = cc in absurd (omega arith)
      go (First r j) q =
          let h = sym f ∙ told (First r j) q in
          let a : r ≡ why = cc in
          let b : j ≡ i = cc in
          q ∙ rw (a, b)

  -- what is left: nothing, where the bytes are more than most; else the difference
  pub spent-left : (left : ℕ) → w ≡ weighed.Left left → (checked most s t c ≡ AllFine) × (left ≡ most + 1 - length (message s t c))
  spent-left left f = go (checked most s t c) refl
    where
      go : (v : Verdict) → checked most s t c ≡ v → (checked most s t c ≡ AllFine) × (left ≡ most + 1 - length (message s t c))
      go AllFine q = let h = sym f ∙ told AllFine q in (q, cc)
      go (First r j) q = let h = sym f ∙ told (First r j) q in let z : ◌≡◌ {A = ℕ} 0 1 = cc in absurd (omega arith)

  pub spent-over : (left : ℕ) → w ≡ weighed.Left left → left ≡ 0 → plan most s t c ≡ Refuses TooLong 0
  spent-over left f z = let p = spent-left left f in plan-over most s t c p.0 (omega (arith, p.1))

  pub spent-fine : (left : ℕ) → w ≡ weighed.Left left → (left ≡ 0 → ⊥) → (plan most s t c ≡ Writes (message s t c)) × (most + 1 - left ≡ length (message s t c))
  spent-fine left f z =
      let p = spent-left left f in
      let h : length (message s t c) ≤ most = omega (arith, p.1, z) in
      (plan-fine most s t c p.0 h, omega (arith, p.1))

-- ---- what is answered

pub measured-refuses : {p : Plan} {r : Refusal} {i : ℕ} → p ≡ Refuses r i → measured p ≡ refused r i
unfolding measured
measured-refuses e = rw e

pub measured-writes : {p : Plan} {bs : List ℕ} → p ≡ Writes bs → measured p ≡ At 0 (length bs)
unfolding measured
measured-writes e = rw e

pub fitted-refuses : {p : Plan} {r : Refusal} {i : ℕ} (n : ℕ) → p ≡ Refuses r i → fitted n p ≡ refused r i
unfolding fitted
fitted-refuses n e = rw e

pub fitted-writes : {p : Plan} {bs : List ℕ} (n : ℕ) → p ≡ Writes bs → length bs ≤ n → fitted n p ≡ At 0 (length bs)
unfolding fitted
fitted-writes {p} {bs} n e h = rw (e, le-leb (length bs) n h)

pub fitted_none : {p : Plan} {bs : List ℕ} (n : ℕ) → p ≡ Writes bs → n < length bs → fitted n p ≡ no_room bs
unfolding fitted
fitted_none {p} {bs} n e h = rw (e, lt-leb (length bs) n h)

-- what measuring tells of a buffer of n bytes

no-at : {A : Type 0} {r : Refusal} {i z y k : ℕ} → Refused r i z ≡ At y k → A
no-at e = let z : ◌≡◌ {A = ℕ} 0 1 = cc in absurd (omega arith)

measured-at : (p : Plan) (z k : ℕ) → measured p ≡ At z k → (bs : List ℕ) × (p ≡ Writes bs) × (k ≡ length bs) × (z ≡ 0)
unfolding measured
measured-at (Writes bs) z k e = (bs, refl, cc, cc)
measured-at (Refuses r i) z k e = no-at e

module _ (n : ℕ) (p : Plan) where
  pub fit_refused : (r : Refusal) (i z : ℕ) → measured p ≡ Refused r i z → fitted n p ≡ Refused r i z
  unfolding measured fitted
  fit_refused r i z e = go p refl
    where
      go : (q : Plan) → p ≡ q → fitted n p ≡ Refused r i z
      go (Writes bs) q = no-at (sym e ∙ ap measured q)
      go (Refuses x j) q = ap (fitted n) q ∙ sym (ap measured q) ∙ e

  pub fit_at : (z k : ℕ) → measured p ≡ At z k → k ≤ n → fitted n p ≡ At z k
  fit_at z k e h =
      let m = measured-at p z k e in
      let a : k ≡ length m.0 = m.2 in
      let b : z ≡ 0 = m.3 in
      fitted-writes n m.1 (omega arith) ∙ cc

  pub fit_none : (z k : ℕ) → measured p ≡ At z k → n < k → fitted n p ≡ Refused NoRoom 0 k
  fit_none z k e h =
      let m = measured-at p z k e in
      fitted_none n m.1 (omega (arith, m.2)) ∙ ap (Refused NoRoom 0) (sym m.2)

-- ---- what is left

module _ (b : List ℕ) (done : List ℕ → Writing) where
  pub into-refuses : {p : Plan} {r : Refusal} {i : ℕ} → p ≡ Refuses r i → into b p done ≡ record { answer = refused r i; buf = b }
  into-refuses e = rw e

  pub into-writes : {p : Plan} {bs : List ℕ} → p ≡ Writes bs → length bs ≤ length b → into b p done ≡ done bs
  into-writes {p} {bs} e h = rw (e, le-leb (length bs) (length b) h)

  pub into-none : {p : Plan} {bs : List ℕ} → p ≡ Writes bs → length b < length bs → into b p done ≡ record { answer = no_room bs; buf = b }
  into-none {p} {bs} e h = rw (e, lt-leb (length bs) (length b) h)

  -- what measuring for the buffer tells: a refusal leaves all as it was; else the bytes are there, and there is room for them
  pub into-no : (p : Plan) {w : Written} (r : Refusal) (i z : ℕ) → w ≡ fitted (length b) p → w ≡ Refused r i z
      → record { answer = Refused r i z; buf = b } ≡ into b p done
  into-no (Writes bs) {w} r i z e f = go (leb (length bs) (length b)) refl
    where
      go : (x : Bool) → leb (length bs) (length b) ≡ x → record { answer = Refused r i z; buf = b } ≡ into b (Writes bs) done
      go true x = no-at (sym f ∙ e ∙ fitted-writes (length b) refl (leb-true (length bs) (length b) x))
      go false x =
          let q = leb-false (length bs) (length b) x in
          let a : Refused r i z ≡ no_room bs = sym f ∙ e ∙ fitted_none (length b) refl q in
          sym (into-none {bs = bs} refl q ∙ rw a)
  into-no (Refuses x j) r i z e f =
      let a : Refused r i z ≡ refused x j = sym f ∙ e ∙ fitted-refuses (length b) refl in
      sym (into-refuses refl ∙ rw a)

pub fitted-at : (n : ℕ) (p : Plan) {w : Written} (z k : ℕ) → w ≡ fitted n p → w ≡ At z k
    → (bs : List ℕ) × (p ≡ Writes bs) × (k ≡ length bs) × (k ≤ n)
fitted-at n (Writes bs) z k e f = go (leb (length bs) n) refl
  where
    go : (x : Bool) → leb (length bs) n ≡ x → (cs : List ℕ) × (Writes bs ≡ Writes cs) × (k ≡ length cs) × (k ≤ n)
    go true x =
        let h = leb-true (length bs) n x in
        let q = sym f ∙ e ∙ fitted-writes n refl h in
        let a : k ≡ length bs = cc in
        (bs, refl, a, omega arith)
    go false x = no-at (sym (fitted_none n refl (leb-false (length bs) n x)) ∙ sym e ∙ f)
fitted-at n (Refuses r i) z k e f = no-at (sym (fitted-refuses n refl) ∙ sym e ∙ f)
