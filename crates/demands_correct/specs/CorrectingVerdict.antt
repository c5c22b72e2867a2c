-- The first demand for corrections, over every outcome: which number is told, exactly, and that a refusal leaves the buffer as it was. `corrected_part` never
-- refuses.
use Rattle.std.specs.Prelude.{ℕ, ◌≡◌, refl, Bool, true, false, List, [], ◌∷◌, ◌++◌, leb, length}
use Rattle.std.proofs.Common.{ap, ◌∙◌, sym, subst, arith, lt-ltb}
use Rattle.wire.specs.Limits.{message_limit}
use Rattle.wire.specs.Numbers.{number_of}
use Rattle.wire.specs.Written.{written}
use Rattle.wire.specs.Places.{items}
use Rattle.wire.specs.declared.Refusal.{Refusal}
use Rattle.wire.specs.declared.Field.{Field}
use Rattle.message.specs.Tags.{of_tag}
use Rattle.message_payload.specs.declared.Span.{Span}
use Rattle.entry_answer.specs.Stores.{at_front}
use Rattle.entry_answer.specs.Told as told
use Rattle.entry_answer.specs.Told.{put_told, supplier_told}
use Rattle.c_words.specs.Words.{Lent, as_number, stored_told}
use Rattle.correct_supply.specs.Supplying.{chosen, judged, supply_of, supplier_of, supplied_by}
use Rattle.correct_supply.specs.declared.Supply.{Supply}
use Rattle.correct_supply.specs.declared.Supply.TheVariants as supply
use Rattle.correct_write.specs.Corrected.{corrected, Planned, Gives, Refuses, limited, planned, stored, taken, write_corrected}
use Rattle.demands_order.specs.Calls.{Every}
use Rattle.demands_order.specs.Order.{Rule, first_of, or_else, refused-first, first-behind, Numbered}
use Rattle.demands_order.specs.Rules.{fields_in, pick_at_order}
use Rattle.demands_order.specs.RulesLaws.{above}
use Rattle.demands_order.specs.Entries.{stored_number}
use Rattle.demands_order.specs.Verdicts.{by_order}
use Rattle.demands_order.specs.Refusals.{AtFront, kept, stored-front}
use Rattle.demands_correct.specs.CorrectingRules.{both_rules, supplier_rules, corrected_by_order, result_of, result_rules, write_corrected_order}
use Rattle.demands_correct.specs.CorrectingLaws.{Judged, Shuts, Opens, shuts, opened, judge}
use Rattle.correct_supply.proofs.corrected_by.Kinds as corrected-by
use Rattle.correct_supply.proofs.corrected_by.Reads as corrected-by-reads
use Rattle.correct_write.proofs.write_corrected.Kinds as write-corrected
use Rattle.correct_write.proofs.write_corrected.Reads as write-corrected-reads
use Rattle.capgauze_c.proofs.capgauze_corrected_by.Kinds as c-corrected-by
use Rattle.capgauze_c.proofs.capgauze_corrected_by.Reads as c-corrected-by-reads
use Rattle.capgauze_c.proofs.capgauze_write_corrected.Kinds as c-write-corrected
use Rattle.capgauze_c.proofs.capgauze_write_corrected.Reads as c-write-corrected-reads

-- ---- the original, then the correction, then what is behind both

refused-behind : (r : Refusal) (xs ys : List Rule) → first_of xs ≡ number_of r → number_of r ≡ first_of (xs ++ ys)
refused-behind r xs ys h = sym (first-behind xs ys ∙ ap (λ (n : ℕ). or_else n (first_of ys)) h ∙ refused-first r (first_of ys))

none-behind : (xs ys : List Rule) → first_of xs ≡ 0 → first_of ys ≡ first_of (xs ++ ys)
none-behind xs ys h = sym (first-behind xs ys ∙ ap (λ (n : ℕ). or_else n (first_of ys)) h)

module _ (o c : List ℕ) {A : Type 0} (number : A → ℕ) (found : A) (rest : List Rule) (refused : Refusal → A)
    (same : (r : Refusal) → number (refused r) ≡ number_of r) where
  both_told : ((r : Refusal) → Shuts o r → found ≡ refused r)
      → ((fs : List Field) → Opens o fs → (r : Refusal) → Shuts c r → found ≡ refused r)
      → ((fs : List Field) → Opens o fs → (gs : List Field) → Opens c gs → number found ≡ first_of rest)
      → number found ≡ first_of (both_rules o c rest)
  both_told old new none = go (judge o) (judge c)
    where
      go : Judged o → Judged c → number found ≡ first_of (both_rules o c rest)
      go (shuts r x) y = ap number (old r x) ∙ same r ∙ refused-behind r (pick_at_order o) (pick_at_order c ++ rest) x.order
      go (opened fs x) (shuts r y) =
          ap number (new fs x r y) ∙ same r ∙ refused-behind r (pick_at_order c) rest y.order
          ∙ none-behind (pick_at_order o) (pick_at_order c ++ rest) x.order
      go (opened fs x) (opened gs y) =
          none fs x gs y ∙ none-behind (pick_at_order c) rest y.order ∙ none-behind (pick_at_order o) (pick_at_order c ++ rest) x.order

-- ---- who supplies a tag

chosen-told : (p q : Span) (fs gs : List Field)
    → (supplier_told (supplier_of (chosen (length fs) p (length gs) q))).number ≡ first_of (supplier_rules fs gs)
chosen-told p q [] [] = refl
chosen-told p q (f ∷ []) [] = refl
chosen-told p q (f ∷ e ∷ fs) [] = rw (lt-ltb 1 (length (f ∷ e ∷ fs)) (omega arith))
chosen-told p q fs (g ∷ []) = refl
chosen-told p q fs (g ∷ e ∷ gs) = rw (lt-ltb 1 (length (g ∷ e ∷ gs)) (omega arith))

pub corrected-by-order : (o c : List ℕ) (t : ℕ) → (supplier_told (supplied_by o c t)).number ≡ first_of (corrected_by_order o c t)
unfolding supplied_by supply_of judged
corrected-by-order o c t =
    both_told o c (λ (r : Supply). (supplier_told (supplier_of r)).number) (supply_of o c t)
    (supplier_rules (of_tag t (fields_in o 0 (length o))) (of_tag t (fields_in c 0 (length c)))) supply.Refused (λ r. refl)
    (λ r x. rw (x.hold t))
    (λ fs x r y. rw ((x.hold t).1, y.hold t))
    (λ fs x gs y.
    rw ((x.hold t).1, (y.hold t).1, x.fields, y.fields) (chosen-told (x.hold t).0 (y.hold t).0 (of_tag t fs) (of_tag t gs)))

-- ---- the result written

limited-told : (b bs : List ℕ) → stored_number (stored b (limited bs)) ≡ first_of (result_rules b bs)
unfolding at_front
limited-told b bs = go (leb (length bs) message_limit) refl (leb (length bs) (length b)) refl
  where
    go : (x : Bool) → leb (length bs) message_limit ≡ x → (y : Bool) → leb (length bs) (length b) ≡ y
        → stored_number (stored b (limited bs)) ≡ first_of (result_rules b bs)
    go true x true y = rw (above (length bs) message_limit, above (length bs) (length b), x, y)
    go true x false y = rw (above (length bs) message_limit, above (length bs) (length b), x, y)
    go false x y z = rw (above (length bs) message_limit, x)

pub write-corrected-order : (o c b : List ℕ) → stored_number (write_corrected o c b) ≡ first_of (write_corrected_order o c b)
unfolding write_corrected
write-corrected-order o c b =
    both_told o c (λ (p : Planned). stored_number (stored b p)) (planned (taken o) (taken c)) (result_rules b (result_of o c)) Refuses (λ r. refl)
    (λ r x. rw x.take)
    (λ fs x r y. rw (x.take, y.take))
    (λ fs x gs y. rw (x.take, y.take, x.fields, y.fields) (limited-told b (written (corrected (items c gs) (items o fs)))))

-- ---- WHICH NUMBER IS TOLD

pub corrected-by-number : Numbered 2 corrected-by.ps corrected-by.r corrected-by-reads.Post (λ κs x. (supplier_told x).number)
    (λ κs a. corrected_by_order a.0.now a.1.0.now a.1.1.0)
corrected-by-number κs a x s p = by_order (λ y. (supplier_told y).number) p (corrected-by-order a.0.now a.1.0.now a.1.1.0)

pub write-corrected-number : Numbered 3 write-corrected.ps write-corrected.r write-corrected-reads.Post (λ κs x. (put_told x).number)
    (λ κs a. write_corrected_order a.0.now a.1.0.now a.1.1.0.now)
write-corrected-number κs a x s p = by_order stored_number p (write-corrected-order a.0.now a.1.0.now a.1.1.0.now)

pub c-corrected-by-number : Numbered 2 c-corrected-by.ps c-corrected-by.r c-corrected-by-reads.Post (λ κs x. x.number)
    (λ κs a. corrected_by_order a.0.now a.1.0.now a.1.1.0)
c-corrected-by-number κs a x s p =
    by_order (λ (y : told.Supplied). y.number) p (corrected-by-order a.0.now a.1.0.now a.1.1.0)

pub c-write-corrected-number : Numbered 3 c-write-corrected.ps c-write-corrected.r c-write-corrected-reads.Post (λ κs x. x.number)
    (λ κs a. write_corrected_order a.0.now a.1.0.now a.1.1.0.now)
c-write-corrected-number κs a x s p =
    by_order (λ (o : Lent told.Number). o.told.number) p (write-corrected-order a.0.now a.1.0.now a.1.1.0.now)

-- ---- A REFUSAL LEAVES THE BUFFER; what is accepted leaves all behind the result

stored-in : (b : List ℕ) (p : Planned) → AtFront b (stored_told (stored b p))
stored-in b (Gives bs) = stored-front b bs
stored-in b (Refuses r) = kept _ _ _ b

written_in : (o c b : List ℕ) → AtFront b (stored_told (write_corrected o c b))
unfolding write_corrected
written_in o c b = stored-in b (planned (taken o) (taken c))

pub write-corrected-frame : Every 3 write-corrected.ps write-corrected.r write-corrected-reads.Post
    (λ κs a x s. AtFront a.1.1.0.now (record { told = put_told x; lent = s.1.1.0.now }))
write-corrected-frame κs a x s p =
    let b = a.1.1.0.now in
    subst (AtFront b) (sym (ap stored_told p)) (written_in a.0.now a.1.0.now b)

pub c-write-corrected-frame : Every 3 c-write-corrected.ps c-write-corrected.r c-write-corrected-reads.Post
    (λ κs a x s. AtFront a.1.1.0.now (record { told = as_number x; lent = s.1.1.0.now }))
c-write-corrected-frame κs a x s p = let b = a.1.1.0.now in subst (AtFront b) (sym p) (written_in a.0.now a.1.0.now b)
