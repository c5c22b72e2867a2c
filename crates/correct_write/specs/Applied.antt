-- What an answer of so many bytes says: the result is a message whose items are the original's under the correction's, and the correction applied to it
-- gives the same bytes.
use Rattle.std.specs.Prelude.{ℕ, ◌+◌, ◌-◌, ◌≤◌, ◌≡◌, refl, Bool, true, false, List, [], ◌++◌, leb, length, drop}
use Rattle.std.proofs.Common.{ap, ◌∙◌, sym, arith, leb-true, leb-false, take_all}
use Rattle.wire.specs.Limits.{message_limit}
use Rattle.wire.specs.VarintLaws.{Bytes}
use Rattle.wire.specs.Written.{Item, written, Good}
use Rattle.wire.specs.Places.{part, items}
use Rattle.wire.specs.Reading.{Message, Fields, read_message}
use Rattle.wire.specs.Reading as reading
use Rattle.wire.proofs.Theorem.{accepted, complete}
use Rattle.wire.specs.declared.Refusal.{Refusal}
use Rattle.entry_answer.specs.Gate.{gated, through-open, through-shut, gated-open, gated-opens}
use Rattle.entry_answer.specs.Stores.{Stored}
use Rattle.entry_answer.specs.declared.Gated.{Gated}
use Rattle.entry_answer.specs.declared.Gated.TheVariants.{Open, Shut}
use Rattle.entry_answer.specs.declared.Put.TheVariants as put
use Rattle.correct_write.specs.Corrected.{corrected, Taken, Items, Refused, taken_of, taken, write_corrected}
use Rattle.correct_write.specs.Corrected.{write-original, write-correction, write-long, write-no-room, write_done}
use Rattle.correct_write.specs.TagByTag.{good-corrected, applied-again, corrected-empty}
use Rattle.correct_write.specs.Shorter.{both-enough}

-- ---- a message and its items

pub record Means (s : List ℕ) (is : List Item) : Type 0 where
  pub short : length s ≤ message_limit
  pub good : Good is
  pub bytes : written is ≡ s

part-all : (s : List ℕ) → part s 0 (length s) ≡ s
part-all s = take_all (length s - 0) s (omega arith)

no_items : {A : Type 0} {r : Refusal} {is : List Item} → Refused r ≡ Items is → A
no_items e = let z : ◌≡◌ {A = ℕ} 0 1 = cc in absurd (omega arith)

pub taken-means : (s : List ℕ) (is : List Item) → Bytes s → taken s ≡ Items is → Means s is
unfolding taken
taken-means s is b h = go (gated (length s) 0 (length s)) refl (read_message s 0 (length s)) refl
  where
    go : (g : Gated) → gated (length s) 0 (length s) ≡ g → (m : Message) → read_message s 0 (length s) ≡ m → Means s is
    go Open g (Fields fs) m =
        let e : Items (items s fs) ≡ Items is = sym (through-open Refused (taken_of s (read_message s 0 (length s))) g ∙ ap (taken_of s) m) ∙ h in
        let f : items s fs ≡ is = cc in
        let w = (accepted s 0 (length s) b fs m).0 in
        record {
          short = (gated-opens (length s) 0 (length s) g).0;
          good = rw f at w.good;
          bytes = sym (sym (part-all s) ∙ w.bytes ∙ ap written f);
        }
    go Open g (reading.Refused r p) m = no_items {r = r} (sym (through-open Refused (taken_of s (read_message s 0 (length s))) g ∙ ap (taken_of s) m) ∙ h)
    go (Shut r) g m x = no_items {r = r} (sym (through-shut Refused (taken_of s (read_message s 0 (length s))) g) ∙ h)

pub means-taken : (s : List ℕ) (is : List Item) → Means s is → taken s ≡ Items is
unfolding taken
means-taken s is w =
    let x = complete s 0 (length s) (omega arith) (omega arith) is (record { good = w.good; bytes = part-all s ∙ sym w.bytes }) in
    through-open Refused (taken_of s (read_message s 0 (length s))) (gated-open (length s) 0 (length s) w.short (omega arith) (omega arith))
    ∙ ap (taken_of s) x.1 ∙ ap Items x.2

-- ---- the result

module _ {o c : List ℕ} {os cs : List Item} (w : Means o os) (v : Means c cs) (l : length (written (corrected cs os)) ≤ message_limit) where
  pub result-means : Means (written (corrected cs os)) (corrected cs os)
  result-means = record { short = l; good = good-corrected 0 cs os v.good w.good; bytes = refl }

  -- APPLIED AGAIN: the same bytes
  pub write_again : (b : List ℕ) → length (written (corrected cs os)) ≤ length b
      → write_corrected (written (corrected cs os)) c b
      ≡ record {
        answer = put.Done (length (written (corrected cs os)));
        buf = written (corrected cs os) ++ drop (length (written (corrected cs os))) b;
      }
  write_again b n =
      let e : written (corrected cs (corrected cs os)) ≡ written (corrected cs os) = ap written (applied-again cs os v.good w.good) in
      write_done (written (corrected cs os)) c b (corrected cs os) (means-taken (written (corrected cs os)) (corrected cs os) result-means) cs
      (means-taken c cs v) (rw e l) (rw e n)
      ∙ rw e

-- ROOM OF BOTH LENGTHS IS ENOUGH
pub result-short : {o c : List ℕ} {os cs : List Item} → Means o os → Means c cs → length (written (corrected cs os)) ≤ length o + length c
result-short {o} {c} {os} {cs} w v = omega (arith, both-enough 0 cs os v.good w.good, ap length w.bytes, ap length v.bytes)

-- NOTHING CORRECTED, and nothing there to be corrected
pub nothing-corrected : (o : List ℕ) (os : List Item) → Means o os → written (corrected [] os) ≡ o
nothing-corrected o os w = w.bytes

pub nothing-there : (c : List ℕ) (cs : List Item) → Means c cs → written (corrected cs []) ≡ c
nothing-there c cs w = ap written (corrected-empty cs) ∙ w.bytes

-- ---- what an answer says

pub record Was (o c b : List ℕ) (n : ℕ) (d : List ℕ) : Type 0 where
  pub original : List Item
  pub correction : List Item
  pub old : taken o ≡ Items original
  pub new : taken c ≡ Items correction
  pub size : n ≡ length (written (corrected correction original))
  pub short : length (written (corrected correction original)) ≤ message_limit
  pub room : length (written (corrected correction original)) ≤ length b
  pub left : d ≡ written (corrected correction original) ++ drop n b

pub done_refused : {A : Type 0} {n : ℕ} {r : Refusal} {d e : List ℕ}
    → ◌≡◌ {A = Stored} (record { answer = put.Done n; buf = d }) (record { answer = put.Refused r; buf = e }) → A
done_refused {A} {n} {r} h =
    let f : put.Done n ≡ put.Refused r = ap (λ (s : Stored). s.answer) h in
    let z : ◌≡◌ {A = ℕ} 0 1 = cc in absurd (omega arith)

pub was : (o c b : List ℕ) (n : ℕ) (d : List ℕ) → record { answer = put.Done n; buf = d } ≡ write_corrected o c b → Was o c b n d
was o c b n d h = go (taken o) refl (taken c) refl
  where
    fits : (os cs : List Item) → taken o ≡ Items os → taken c ≡ Items cs
        → (x : Bool) → leb (length (written (corrected cs os))) message_limit ≡ x → (y : Bool) → leb (length (written (corrected cs os))) (length b) ≡ y
        → Was o c b n d
    fits os cs p q false x y z = done_refused (h ∙ write-long o c b os p cs q (leb-false (length (written (corrected cs os))) message_limit x))
    fits os cs p q true x false z =
        done_refused
        (h
        ∙ write-no-room o c b os p cs q (leb-true (length (written (corrected cs os))) message_limit x)
        (leb-false (length (written (corrected cs os))) (length b) z))
    fits os cs p q true x true z =
        let l = leb-true (length (written (corrected cs os))) message_limit x in
        let m = leb-true (length (written (corrected cs os))) (length b) z in
        let e = h ∙ write_done o c b os p cs q l m in
        let f : put.Done n ≡ put.Done (length (written (corrected cs os))) = ap (λ (s : Stored). s.answer) e in
        let k : n ≡ length (written (corrected cs os)) = cc in
        record {
          original = os;
          correction = cs;
          old = p;
          new = q;
          size = k;
          short = l;
          room = m;
          left = ap (λ (s : Stored). s.buf) e ∙ ap (λ (j : ℕ). written (corrected cs os) ++ drop j b) (sym k);
        }

    go : (x : Taken) → taken o ≡ x → (y : Taken) → taken c ≡ y → Was o c b n d
    go (Refused r) x t y = done_refused (h ∙ write-original o c b r x)
    go (Items os) x (Refused r) y = done_refused (h ∙ write-correction o c b os x r y)
    go (Items os) x (Items cs) y =
        fits os cs x y (leb (length (written (corrected cs os))) message_limit) refl (leb (length (written (corrected cs os))) (length b)) refl
