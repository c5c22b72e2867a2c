-- What `wire` finds has the number that the rules tell.
use Rattle.std.specs.Prelude.{ℕ, zero, suc, ◌+◌, ◌-◌, ◌/◌, ◌^◌, ◌≡◌, refl, Bool, true, false, not, List, [], ◌∷◌, ◌++◌, ltb, leb, eqb, length, get_or}
use Rattle.std.proofs.Common.{ap, ◌∙◌, sym, lt-ltb, le-ltb, le-leb, ltb-true, ltb-false, leb-true, leb-false}
use Rattle.std.proofs.lemmas.Bool.{lt-leb}
use Rattle.wire.specs.Choose.{choose}
use Rattle.wire.specs.Limits.{message_limit}
use Rattle.wire.specs.Numbers.{number_of}
use Rattle.wire.specs.Varint.{Sum, Adds, Stops}
use Rattle.wire.specs.Reading.{judged, varint_at, renamed, capped_at, key_of, key_at, within, number_from, payload_from, value_at, tagged, field_of, field_at}
use Rattle.wire.specs.Reading.{step_of, step_at, wire_of, Message, Fields, in_front, onward, ended, reads_from, read_message}
use Rattle.wire.specs.Reading as reading
use Rattle.wire.specs.Theorem.{refused-fields}
use Rattle.wire.specs.Skipping.{in_slice, past_number, past_payload, past_at, repeats, beyond, skip_from}
use Rattle.wire.specs.Table.{room, record_at, good}
use Rattle.write_record.specs.Records.{tag_before, Judged, Fine, Bad, judge, Verdict, AllFine, First, and_then, tested, checked}
use Rattle.wire.specs.declared.Refusal.TheVariants.{Truncated, InvalidVarint, TagOverflowed}
use Rattle.wire.specs.declared.WireType.{WireType}
use Rattle.wire.specs.declared.WireType.TheVariants.{Varint, LengthDelimited, ThirtyTwoBit, SixtyFourBit}
use Rattle.wire.specs.declared.Value.{Value}
use Rattle.wire.specs.declared.Field.{Field}
use Rattle.wire.specs.declared.VarintFound.{VarintFound}
use Rattle.wire.specs.declared.VarintFound.TheVariants as varint_found
use Rattle.wire.specs.declared.KeyFound.{KeyFound}
use Rattle.wire.specs.declared.KeyFound.TheVariants as key_found
use Rattle.wire.specs.declared.ValueFound.{ValueFound}
use Rattle.wire.specs.declared.ValueFound.TheVariants as value_found
use Rattle.wire.specs.declared.FieldFound.{FieldFound}
use Rattle.wire.specs.declared.FieldFound.TheVariants as field_found
use Rattle.wire.specs.declared.Stepped.{Stepped}
use Rattle.wire.specs.declared.Stepped.TheVariants as stepped
use Rattle.wire.specs.declared.Reached.{Reached}
use Rattle.wire.specs.declared.Reached.TheVariants as reached
use Rattle.message_early.specs.Early.{sight_of, sight_at, Stop, Ends, Above, also, stops_from}
use Rattle.message_early.specs.Early as early
use Rattle.demands_order.specs.Order.{Rule, when, first_of, or_else, refused-first, first-behind}
use Rattle.demands_order.specs.Rules.{runs_out, too_large, sum_at, varint_rules, capped_rules, overflows, key_rules, bytes_rules, payload_rules, value_rules}
use Rattle.demands_order.specs.Rules.{behind_key, field_rules, end_rules, step_rules, behind_field, fields_rules, message_rules, one_more, fields_read}
use Rattle.demands_order.specs.Rules.{early_rules, early_read, skipped_payload, past_rules, beyond_rules, skip_rules, record_rules, records_rules, order_t}

-- a test and its converse
pub above : (a b : ℕ) → ltb b a ≡ not (leb a b)
above a b = go (leb a b) refl
  where
    go : (t : Bool) → leb a b ≡ t → ltb b a ≡ not (leb a b)
    go true t = rw t (le-ltb b a (leb-true a b t))
    go false t = rw t (lt-ltb b a (leb-false a b t))

reaches : (a b : ℕ) → leb b a ≡ not (ltb a b)
reaches a b = go (ltb a b) refl
  where
    go : (t : Bool) → ltb a b ≡ t → leb b a ≡ not (ltb a b)
    go true t = rw t (lt-leb b a (ltb-true a b t))
    go false t = rw t (le-leb b a (ltb-false a b t))

-- ---- the number of what is found: 0, or the refusal's

abbrev pub varint_number : VarintFound → ℕ
varint_number (varint_found.Got v q) = 0
varint_number (varint_found.Refused r) = number_of r

abbrev pub key_number : KeyFound → ℕ
key_number (key_found.Got k q) = 0
key_number (key_found.Refused r) = number_of r

abbrev pub value_number : ValueFound → ℕ
value_number (value_found.Got v q) = 0
value_number (value_found.Refused r) = number_of r

abbrev pub field_number : FieldFound → ℕ
field_number (field_found.Got f q) = 0
field_number (field_found.Refused r) = number_of r

abbrev pub step_number : Stepped → ℕ
step_number (stepped.Field f q) = 0
step_number stepped.End = 0
step_number (stepped.Refused r) = number_of r

abbrev pub message_number : Message → ℕ
message_number (Fields fs) = 0
message_number (reading.Refused r p) = number_of r

abbrev pub reached_number : Reached → ℕ
reached_number (reached.To q) = 0
reached_number (reached.Refused r f) = number_of r

abbrev pub verdict_number : Verdict → ℕ
verdict_number AllFine = 0
verdict_number (First r i) = number_of r

-- one order behind another
pub behind : {n m : ℕ} (xs ys : List Rule) → n ≡ first_of xs → m ≡ first_of ys → or_else n m ≡ first_of (xs ++ ys)
behind xs ys p q = rw (p, q) (sym (first-behind xs ys))

-- ---- varints

pub varint-told : (s : List ℕ) (p : ℕ) → varint_number (varint_at s p) ≡ first_of (varint_rules s p)
unfolding varint_at
varint-told s p = go (sum_at s p)
  where
    go : (a : Sum) → varint_number (judged p a) ≡ first_of (when (runs_out a) Truncated ∷ when (too_large a) InvalidVarint ∷ [])
    go Stops = refl
    go (Adds v n) = large (ltb v (2 ^ 64)) refl
      where
        large : (t : Bool) → ltb v (2 ^ 64) ≡ t
            → varint_number (judged p (Adds v n)) ≡ first_of (when (runs_out (Adds v n)) Truncated ∷ when (too_large (Adds v n)) InvalidVarint ∷ [])
        large true t = rw (reaches v (2 ^ 64), t)
        large false t = rw (reaches v (2 ^ 64), t)

pub capped-told : (s : List ℕ) (e p : ℕ) → varint_number (capped_at s e p) ≡ first_of (capped_rules s e p)
unfolding varint_at
capped-told s e p = go (sum_at s p) (ltb e (p + 9)) refl
  where
    rules : Sum → List Rule
    rules a = when (runs_out a) Truncated ∷ when (choose (ltb e (p + 9)) (too_large a) false) Truncated ∷ when (too_large a) InvalidVarint ∷ []

    go : (a : Sum) (c : Bool) → ltb e (p + 9) ≡ c → varint_number (renamed e p (judged p a)) ≡ first_of (rules a)
    go Stops true c = rw c
    go Stops false c = rw c
    go (Adds v n) c h = large (ltb v (2 ^ 64)) refl c h
      where
        large : (t : Bool) → ltb v (2 ^ 64) ≡ t → (c : Bool) → ltb e (p + 9) ≡ c → varint_number (renamed e p (judged p (Adds v n))) ≡ first_of (rules (Adds v n))
        large true t true c = rw (reaches v (2 ^ 64), t, c)
        large true t false c = rw (reaches v (2 ^ 64), t, c)
        large false t true c = rw (reaches v (2 ^ 64), t, c)
        large false t false c = rw (reaches v (2 ^ 64), t, c)

-- ---- keys

key-of : (last : ℕ) (v : VarintFound) → key_number (key_of last v) ≡ or_else (varint_number v) (first_of (when (overflows last v) TagOverflowed ∷ []))
key-of last (varint_found.Refused r) = sym (refused-first r _)
key-of last (varint_found.Got k q) = go (ltb (last + k / 4) (2 ^ 32)) refl
  where
    go : (t : Bool) → ltb (last + k / 4) (2 ^ 32) ≡ t
        → key_number (key_of last (varint_found.Got k q)) ≡ first_of (when (overflows last (varint_found.Got k q)) TagOverflowed ∷ [])
    go true t = rw (reaches (last + k / 4) (2 ^ 32), t)
    go false t = rw (reaches (last + k / 4) (2 ^ 32), t)

pub key-told : (s : List ℕ) (e p last : ℕ) → key_number (key_at s e p last) ≡ first_of (key_rules s e p last)
key-told s e p last =
    key-of last (capped_at s e p) ∙ behind (capped_rules s e p) (when (overflows last (capped_at s e p)) TagOverflowed ∷ []) (capped-told s e p) refl

-- ---- values

within-told : (s : List ℕ) (e q : ℕ) (v : Value) → value_number (within s e q v) ≡ first_of (bytes_rules s e q)
within-told s e q v = go (leb q (length s)) refl (leb q e) refl
  where
    go : (a : Bool) → leb q (length s) ≡ a → (b : Bool) → leb q e ≡ b → value_number (within s e q v) ≡ first_of (bytes_rules s e q)
    go true a true b = rw (above q (length s), above q e, a, b)
    go true a false b = rw (above q (length s), above q e, a, b)
    go false a b h = rw (above q (length s), a)

number-from : (v : VarintFound) → value_number (number_from v) ≡ varint_number v
number-from (varint_found.Got v q) = refl
number-from (varint_found.Refused r) = refl

payload-from : (s : List ℕ) (e : ℕ) (v : VarintFound) → value_number (payload_from s e v) ≡ or_else (varint_number v) (first_of (payload_rules s e v))
payload-from s e (varint_found.Got n q) = within-told s e (q + n) _
payload-from s e (varint_found.Refused r) = sym (refused-first r _)

pub value-told : (s : List ℕ) (e p : ℕ) (w : WireType) → value_number (value_at s e p w) ≡ first_of (value_rules s e p w)
value-told s e p Varint = number-from (capped_at s e p) ∙ capped-told s e p
value-told s e p LengthDelimited = payload-from s e (varint_at s p) ∙ behind (varint_rules s p) (payload_rules s e (varint_at s p)) (varint-told s p) refl
value-told s e p ThirtyTwoBit = within-told s e (p + 4) _
value-told s e p SixtyFourBit = within-told s e (p + 8) _

-- ---- fields, steps, messages

tagged-number : (t : ℕ) (v : ValueFound) → field_number (tagged t v) ≡ value_number v
tagged-number t (value_found.Got v q) = refl
tagged-number t (value_found.Refused r) = refl

field-of : (s : List ℕ) (e : ℕ) (k : KeyFound) → field_number (field_of s e k) ≡ or_else (key_number k) (first_of (behind_key s e k))
field-of s e (key_found.Got k q) = tagged-number k.tag (value_at s e q k.wire) ∙ value-told s e q k.wire
field-of s e (key_found.Refused r) = sym (refused-first r _)

pub field_told : (s : List ℕ) (e p last : ℕ) → field_number (field_at s e p last) ≡ first_of (field_rules s e p last)
unfolding field_at
field_told s e p last = field-of s e (key_at s e p last) ∙ behind (key_rules s e p last) (behind_key s e (key_at s e p last)) (key-told s e p last) refl

step-of : (f : FieldFound) → step_number (step_of f) ≡ field_number f
step-of (field_found.Got f q) = refl
step-of (field_found.Refused r) = refl

pub step-told : (s : List ℕ) (e p last : ℕ) → step_number (step_at s e p last) ≡ first_of (step_rules s e p last)
unfolding step_at
step-told s e p last = go (ltb p e) refl (eqb p e) refl
  where
    go : (a : Bool) → ltb p e ≡ a → (b : Bool) → eqb p e ≡ b → step_number (step_at s e p last) ≡ first_of (step_rules s e p last)
    go true a b h = rw a (step-of (field_at s e p last) ∙ field_told s e p last)
    go false a true b = rw (a, b)
    go false a false b = rw (a, b)

ended-told : (e m p : ℕ) → message_number (ended e m p) ≡ first_of (end_rules e p)
ended-told e m p = go (eqb p e) refl
  where
    go : (b : Bool) → eqb p e ≡ b → message_number (ended e m p) ≡ first_of (end_rules e p)
    go true b = rw b
    go false b = rw b

in-front-number : (f : Field) (m : Message) → message_number (in_front f m) ≡ message_number m
in-front-number f (Fields fs) = refl
in-front-number f (reading.Refused r p) = refl

onward-told : (p : ℕ) (x : FieldFound) (go : Field → ℕ → Message) (rules : Field → ℕ → List Rule)
    → ((f : Field) (q : ℕ) → message_number (go f q) ≡ first_of (rules f q))
    → message_number (onward p x go) ≡ or_else (field_number x) (first_of (behind_field x rules))
onward-told p (field_found.Got f q) go rules h = in-front-number f (go f q) ∙ h f q
onward-told p (field_found.Refused r) go rules h = sym (refused-first r _)

fields_told : (k : ℕ) (s : List ℕ) (e m p last : ℕ) → message_number (reads_from k s e m p last) ≡ first_of (fields_rules k s e p last)
fields_told zero s e m p last = ended-told e m p
fields_told (suc k) s e m p last = go (λ f q. fields_told k s e p q f.tag) (ltb p e) refl
  where
    go : ((f : Field) (q : ℕ) → message_number (reads_from k s e p q f.tag) ≡ first_of (fields_rules k s e q f.tag))
        → (a : Bool) → ltb p e ≡ a → message_number (reads_from (suc k) s e m p last) ≡ first_of (fields_rules (suc k) s e p last)
    go ih true a =
        rw a
        (onward-told p (field_at s e p last) (λ f q. reads_from k s e p q f.tag) (λ f q. fields_rules k s e q f.tag) ih
        ∙ behind (field_rules s e p last) (behind_field (field_at s e p last) (λ f q. fields_rules k s e q f.tag)) (field_told s e p last) refl)
    go ih false a = rw a (ended-told e m p)

pub message-told : (s : List ℕ) (a e : ℕ) → message_number (read_message s a e) ≡ first_of (message_rules s a e)
unfolding read_message
message-told s a e = fields_told (e - a) s e a a 0

-- the fields of an accepted message are those that were read
one_more_lem : (p : ℕ) (x : FieldFound) (go : Field → ℕ → Message) (seen : Field → ℕ → List Field)
    → ((f : Field) (q : ℕ) (fs : List Field) → go f q ≡ Fields fs → seen f q ≡ fs)
    → (fs : List Field) → onward p x go ≡ Fields fs → one_more x seen ≡ fs
one_more_lem p (field_found.Refused r) go seen h fs e = refused-fields r p fs e
one_more_lem p (field_found.Got f q) go seen h fs e = on (go f q) refl e
  where
    on : (m : Message) → go f q ≡ m → in_front f m ≡ Fields fs → f ∷ seen f q ≡ fs
    on (Fields gs) g x = let y : f ∷ gs ≡ fs = cc in ap (λ (l : List Field). f ∷ l) (h f q gs g) ∙ y
    on (reading.Refused r i) g x = refused-fields r i fs x

none_read : (e m p : ℕ) (fs : List Field) → ended e m p ≡ Fields fs → [] ≡ fs
none_read e m p fs x = at (eqb p e) refl
  where
    at : (b : Bool) → eqb p e ≡ b → [] ≡ fs
    at true b = let y : Fields [] ≡ Fields fs = rw b at x in cc
    at false b = refused-fields Truncated m fs (rw b at x)

pub fields_read_lem : (k : ℕ) (s : List ℕ) (e m p last : ℕ) (fs : List Field) → reads_from k s e m p last ≡ Fields fs → fields_read k s e p last ≡ fs
fields_read_lem zero s e m p last fs x = none_read e m p fs x
fields_read_lem (suc k) s e m p last fs x = on (λ f q. fields_read_lem k s e p q f.tag) (ltb p e) refl
  where
    on : ((f : Field) (q : ℕ) (gs : List Field) → reads_from k s e p q f.tag ≡ Fields gs → fields_read k s e q f.tag ≡ gs)
        → (b : Bool) → ltb p e ≡ b → fields_read (suc k) s e p last ≡ fs
    on ih true b = rw b (one_more_lem p (field_at s e p last) (λ f q. reads_from k s e p q f.tag) (λ f q. fields_read k s e q f.tag) ih fs (rw b at x))
    on ih false b = rw b (none_read e m p fs (rw b at x))

-- ---- a search from the front

abbrev pub stop_number : Stop → ℕ
stop_number (Ends fs) = 0
stop_number (Above fs p) = 0
stop_number (early.Refused r) = number_of r

-- what a search that is not refused has read
abbrev pub Seen : Stop → List Field → Type 0
Seen (Ends fs) gs = gs ≡ fs
Seen (Above fs p) gs = gs ≡ fs
Seen (early.Refused r) gs = Unit {0}

also-number : (f : Field) (x : Stop) → stop_number (also f x) ≡ stop_number x
also-number f (Ends fs) = refl
also-number f (Above fs p) = refl
also-number f (early.Refused r) = refl

also-seen : (f : Field) (x : Stop) (gs : List Field) → Seen x gs → Seen (also f x) (f ∷ gs)
also-seen f (Ends fs) gs h = ap (λ (l : List Field). f ∷ l) h
also-seen f (Above fs p) gs h = ap (λ (l : List Field). f ∷ l) h
also-seen f (early.Refused r) gs h = tt

stop-onward : (p : ℕ) (x : FieldFound) (go : Field → ℕ → Stop) (rules : Field → ℕ → List Rule)
    → ((f : Field) (q : ℕ) → stop_number (go f q) ≡ first_of (rules f q))
    → stop_number (early.onward p (sight_of x) go) ≡ or_else (field_number x) (first_of (behind_field x rules))
stop-onward p (field_found.Got f q) go rules h = also-number f (go f q) ∙ h f q
stop-onward p (field_found.Refused r) go rules h = sym (refused-first r _)

seen-onward : (p : ℕ) (x : FieldFound) (go : Field → ℕ → Stop) (seen : Field → ℕ → List Field) → ((f : Field) (q : ℕ) → Seen (go f q) (seen f q))
    → Seen (early.onward p (sight_of x) go) (one_more x seen)
seen-onward p (field_found.Got f q) go seen h = also-seen f (go f q) (seen f q) (h f q)
seen-onward p (field_found.Refused r) go seen h = tt

pub stop-told : (k tag : ℕ) (s : List ℕ) (p last : ℕ) → stop_number (stops_from k tag s p last) ≡ first_of (early_rules k tag s p last)
unfolding sight_at
stop-told zero tag s p last = refl
stop-told (suc k) tag s p last = go (λ f q. stop-told k tag s q f.tag) (ltb p (length s)) refl (early.above tag (key_at s (length s) p last)) refl
  where
    go : ((f : Field) (q : ℕ) → stop_number (stops_from k tag s q f.tag) ≡ first_of (early_rules k tag s q f.tag))
        → (a : Bool) → ltb p (length s) ≡ a → (b : Bool) → early.above tag (key_at s (length s) p last) ≡ b
        → stop_number (stops_from (suc k) tag s p last) ≡ first_of (early_rules (suc k) tag s p last)
    go ih false a b h = rw a
    go ih true a true b = rw (a, b)
    go ih true a false b =
        rw (a, b)
        (stop-onward p (field_at s (length s) p last) (λ f q. stops_from k tag s q f.tag) (λ f q. early_rules k tag s q f.tag) ih
        ∙ behind (field_rules s (length s) p last) (behind_field (field_at s (length s) p last) (λ f q. early_rules k tag s q f.tag))
        (field_told s (length s) p last) refl)

pub stop-seen : (k tag : ℕ) (s : List ℕ) (p last : ℕ) → Seen (stops_from k tag s p last) (early_read k tag s p last)
unfolding sight_at
stop-seen zero tag s p last = refl
stop-seen (suc k) tag s p last = go (λ f q. stop-seen k tag s q f.tag) (ltb p (length s)) refl (early.above tag (key_at s (length s) p last)) refl
  where
    go : ((f : Field) (q : ℕ) → Seen (stops_from k tag s q f.tag) (early_read k tag s q f.tag))
        → (a : Bool) → ltb p (length s) ≡ a → (b : Bool) → early.above tag (key_at s (length s) p last) ≡ b
        → Seen (stops_from (suc k) tag s p last) (early_read (suc k) tag s p last)
    go ih false a b h = rw a refl
    go ih true a true b = rw (a, b) refl
    go ih true a false b =
        rw (a, b) (seen-onward p (field_at s (length s) p last) (λ f q. stops_from k tag s q f.tag) (λ f q. early_read k tag s q f.tag) ih)

-- ---- skipping

in-slice : (s : List ℕ) (p q : ℕ) → reached_number (in_slice s p q) ≡ first_of (when (ltb (length s) q) Truncated ∷ [])
in-slice s p q = go (leb q (length s)) refl
  where
    go : (a : Bool) → leb q (length s) ≡ a → reached_number (in_slice s p q) ≡ first_of (when (ltb (length s) q) Truncated ∷ [])
    go true a = rw (above q (length s), a)
    go false a = rw (above q (length s), a)

past-number : (s : List ℕ) (p : ℕ) (v : VarintFound) → reached_number (past_number s p v) ≡ varint_number v
past-number s p (varint_found.Got v q) = refl
past-number s p (varint_found.Refused r) = refl

past-payload : (s : List ℕ) (p : ℕ) (v : VarintFound) → reached_number (past_payload s p v) ≡ or_else (varint_number v) (first_of (skipped_payload s v))
past-payload s p (varint_found.Got n q) = in-slice s p (q + n)
past-payload s p (varint_found.Refused r) = sym (refused-first r _)

past-told : (s : List ℕ) (e p : ℕ) (w : WireType) → reached_number (past_at s e p w) ≡ first_of (past_rules s e p w)
unfolding past_at
past-told s e p Varint = past-number s p (capped_at s e p) ∙ capped-told s e p
past-told s e p LengthDelimited =
    past-payload s p (capped_at s e p) ∙ behind (capped_rules s e p) (skipped_payload s (capped_at s e p)) (capped-told s e p) refl
past-told s e p ThirtyTwoBit = in-slice s p (p + 4)
past-told s e p SixtyFourBit = in-slice s p (p + 8)

beyond-told : (s : List ℕ) (e : ℕ) (x : Reached) (go : ℕ → WireType → Reached) (rules : ℕ → WireType → List Rule)
    → ((q : ℕ) (w : WireType) → reached_number (go q w) ≡ first_of (rules q w))
    → reached_number (beyond s e x go) ≡ or_else (reached_number x) (first_of (beyond_rules s e x rules))
beyond-told s e (reached.Refused r f) go rules h = sym (refused-first r _)
beyond-told s e (reached.To q) go rules h = on (repeats s e q) refl
  where
    on : (b : Bool) → repeats s e q ≡ b → reached_number (beyond s e (reached.To q) go) ≡ first_of (beyond_rules s e (reached.To q) rules)
    on true b = rw b (h (suc q) (wire_of (get_or s q 0)))
    on false b = rw b

pub skip-told : (k : ℕ) (s : List ℕ) (e p : ℕ) (w : WireType) → reached_number (skip_from k s e p w) ≡ first_of (skip_rules k s e p w)
skip-told zero s e p w = past-told s e p w
skip-told (suc k) s e p w =
    beyond-told s e (past_at s e p w) (skip_from k s e) (skip_rules k s e) (skip-told k s e)
    ∙ behind (past_rules s e p w) (beyond_rules s e (past_at s e p w) (skip_rules k s e)) (past-told s e p w) refl

-- ---- records

pub judge-told : (n : ℕ) (t : List ℕ) (i : ℕ) → verdict_number (and_then AllFine (judge n (tag_before t i) (record_at t i)) i)
    ≡ first_of (record_rules n t i)
unfolding judge
judge-told n t i = go (good n (record_at t i)) refl (leb (tag_before t i) (record_at t i).tag) refl
  where
    go : (a : Bool) → good n (record_at t i) ≡ a → (b : Bool) → leb (tag_before t i) (record_at t i).tag ≡ b
        → verdict_number (and_then AllFine (judge n (tag_before t i) (record_at t i)) i)
        ≡ first_of (record_rules n t i)
    go true a true b = rw (above (tag_before t i) (record_at t i).tag, a, b)
    go true a false b = rw (above (tag_before t i) (record_at t i).tag, a, b)
    go false a b h = rw a

pub then-number : (v : Verdict) (j : Judged) (i : ℕ) → verdict_number (and_then v j i) ≡ or_else (verdict_number v) (verdict_number (and_then AllFine j i))
then-number AllFine j i = refl
then-number (First r k) Fine i = sym (refused-first r _)
then-number (First r k) (Bad q) i = sym (refused-first r _)
