-- A WORKING COPY IS A PLAIN LIST (rule H10): after any calls, each with an outcome that its contract allows, it is a working copy, it stands for the list that
-- a plain one with the same edits would be, and it is written as that list is.
use Rattle.std.specs.Prelude.{ℕ, ◌^◌, ◌≤◌, ◌<◌, ◌≡◌, refl, List, [], ◌∷◌, length}
use Rattle.std.proofs.Common.{ap, ◌∙◌, sym, subst, arith}
use contract.Lifetimes.{Lfts}
use borrow.Fn.Kinds.{Dens, res_t, ended_of}
use denote.Triple.Clauses.{AtExit}
use Rattle.wire.specs.Limits.{message_limit}
use Rattle.wire.specs.Written.{Item, written}
use Rattle.write_insertion.specs.Insertion.{Insertion}
use Rattle.edit.specs.Edits.{Edit, remove_record, replace_payload, insert_payload}
use Rattle.edit.proofs.remove_record.Kinds as remove
use Rattle.edit.proofs.remove_record.Reads as remove-reads
use Rattle.edit.proofs.replace_payload.Kinds as replace
use Rattle.edit.proofs.replace_payload.Reads as replace-reads
use Rattle.edit.proofs.insert_payload.Kinds as insert
use Rattle.edit.proofs.insert_payload.Reads as insert-reads
use Rattle.demands_edit.specs.Plain.{Order, Remove, Replace, Insert, edited, edited_all}
use Rattle.demands_message.specs.Writing.{Encoded, Prepended, encodes, prepends, at_front, at_end, encode-writes, prepend-writes}
use Rattle.demands_edit.specs.EditKeeps.{State, list, after, Keeps, remove-keeps, replace-keeps, insert-keeps}

-- ---- OVER EVERY OUTCOME: one call of each entry

pub record Removing (s t : List ℕ) (c i : ℕ) : Type 0 where
  pub lifetimes : Lfts 2
  pub arguments : Dens lifetimes remove.ps
  pub answer : (res_t remove.r lifetimes).Denot
  pub exit : AtExit (ended_of 2 remove.ps remove.r) lifetimes
  pub allowed : remove-reads.Post lifetimes arguments answer exit
  pub bytes : arguments.0.now ≡ s
  pub records : arguments.1.0.now ≡ t
  pub count : arguments.1.1.0 ≡ c
  pub index : arguments.1.1.1.0 ≡ i

pub record Replacing (s t : List ℕ) (c i : ℕ) (b : List ℕ) : Type 0 where
  pub lifetimes : Lfts 3
  pub arguments : Dens lifetimes replace.ps
  pub answer : (res_t replace.r lifetimes).Denot
  pub exit : AtExit (ended_of 3 replace.ps replace.r) lifetimes
  pub allowed : replace-reads.Post lifetimes arguments answer exit
  pub bytes : arguments.0.now ≡ s
  pub records : arguments.1.0.now ≡ t
  pub count : arguments.1.1.0 ≡ c
  pub index : arguments.1.1.1.0 ≡ i
  pub new : arguments.1.1.1.1.0.now ≡ b

pub record Putting (s t : List ℕ) (c tag : ℕ) (b : List ℕ) : Type 0 where
  pub lifetimes : Lfts 3
  pub arguments : Dens lifetimes insert.ps
  pub answer : (res_t insert.r lifetimes).Denot
  pub exit : AtExit (ended_of 3 insert.ps insert.r) lifetimes
  pub allowed : insert-reads.Post lifetimes arguments answer exit
  pub bytes : arguments.0.now ≡ s
  pub records : arguments.1.0.now ≡ t
  pub count : arguments.1.1.0 ≡ c
  pub tag_is : arguments.1.1.1.0 ≡ tag
  pub new : arguments.1.1.1.1.0.now ≡ b

-- what each leaves
abbrev pub removing : {s t : List ℕ} {c i : ℕ} → Removing s t c i → Edit
removing {s} w = record { answer = w.answer; room = s; table = w.exit.1.0.now }

abbrev pub replacing : {s t : List ℕ} {c i : ℕ} {b : List ℕ} → Replacing s t c i b → Edit
replacing w = record { answer = w.answer; room = w.exit.0.now; table = w.exit.1.0.now }

abbrev pub putting : {s t : List ℕ} {c tag : ℕ} {b : List ℕ} → Putting s t c tag b → Edit
putting w = record { answer = w.answer; room = w.exit.0.now; table = w.exit.1.0.now }

remove-outcome : {s t : List ℕ} {c i : ℕ} (w : Removing s t c i) → removing w ≡
    (let o = remove_record s t c i in record { answer = o.answer; room = s; table = o.table })
remove-outcome {s} w =
    ap (λ (o : Insertion). record { answer = o.answer; room = s; table = o.table }) (w.allowed ∙ rw (w.bytes, w.records, w.count, w.index) refl)

replace-outcome : {s t : List ℕ} {c i : ℕ} {b : List ℕ} (w : Replacing s t c i b) → replacing w ≡ replace_payload s t c i b
replace-outcome w = w.allowed ∙ rw (w.bytes, w.records, w.count, w.index, w.new) refl

put-outcome : {s t : List ℕ} {c tag : ℕ} {b : List ℕ} (w : Putting s t c tag b) → putting w ≡ insert_payload s t c tag b
put-outcome w = w.allowed ∙ rw (w.bytes, w.records, w.count, w.tag_is, w.new) refl

-- ---- ANY CALLS

-- one call by an order, from one state to the next. A tag is a number of 32 bits
pub data Does : Order → State → State → Type 0 where
  removes : {s t : List ℕ} {c i : ℕ} (w : Removing s t c i) → Does (Remove i) (record { bytes = s; table = t; count = c }) (after c (removing w))
  replaces : {s t : List ℕ} {c i : ℕ} {y : List ℕ} (w : Replacing s t c i y)
      → Does (Replace i y) (record { bytes = s; table = t; count = c }) (after c (replacing w))
  puts : {s t : List ℕ} {c tag : ℕ} {y : List ℕ} (w : Putting s t c tag y) → tag < 2 ^ 32
      → Does (Insert tag y) (record { bytes = s; table = t; count = c }) (after c (putting w))

-- one behind the other
pub data Calls : List Order → State → State → Type 0 where
  none : {a : State} → Calls [] a a
  call : {o : Order} {os : List Order} {a b c : State} → Does o a b → Calls os b c → Calls (o ∷ os) a c

-- what is kept by what the definition leaves is kept by what the call leaves
left-keeps : {n m : ℕ} {xs : List Item} {x y : Edit} (c : ℕ) → x ≡ y → Keeps n m (after c y) xs → Keeps n m (after c x) xs
left-keeps {n} {m} {xs} c e k = subst (λ (z : Edit). Keeps n m (after c z) xs) (sym e) k

pub one-call : {o : Order} {a b : State} {n m : ℕ} {xs : List Item} → Does o a b → Keeps n m a xs → Keeps n m b (edited n m o xs)
one-call {o} {a} {b} {n} {m} {xs} (removes {s} {t} {c} {i} w) k =
    left-keeps c (remove-outcome w) (rw (← k.list, ← k.size, ← k.rows) (remove-keeps k.copy i))
one-call {o} {a} {b} {n} {m} {xs} (replaces {s} {t} {c} {i} {y} w) k =
    left-keeps c (replace-outcome w) (rw (← k.list, ← k.size, ← k.rows) (replace-keeps k.copy i y))
one-call {o} {a} {b} {n} {m} {xs} (puts {s} {t} {c} {tag} {y} w l) k =
    left-keeps c (put-outcome w) (rw (← k.list, ← k.size, ← k.rows) (insert-keeps k.copy tag y l))

pub after-any-calls : {os : List Order} {a b : State} {n m : ℕ} {xs : List Item} → Calls os a b → Keeps n m a xs → Keeps n m b (edited_all n m os xs)
after-any-calls none k = k
after-any-calls (call d r) k = after-any-calls r (one-call d k)

-- ---- WRITTEN AS THE LIST: what a writer leaves of the copy after any calls, where the message is within the limit and has room

module _ {a : State} {n m : ℕ} {xs : List Item} (k : Keeps n m a xs) (b : List ℕ) (short : length (written xs) ≤ message_limit)
    (fits : length (written xs) ≤ length b) where
  message-is : written (list a) ≡ written xs
  message-is = ap written k.list

  pub encode-as-the-list : (w : Encoded a.bytes a.table a.count b) → encodes w ≡ at_front (written xs) b
  encode-as-the-list w =
      encode-writes k.copy.fine (omega (arith, ap length message-is)) (omega (arith, ap length message-is)) w
      ∙ ap (λ (l : List ℕ). at_front l b) message-is

  pub prepend-as-the-list : (w : Prepended a.bytes a.table a.count b) → prepends w ≡ at_end (written xs) b
  prepend-as-the-list w =
      prepend-writes k.copy.fine (omega (arith, ap length message-is)) (omega (arith, ap length message-is)) w
      ∙ ap (λ (l : List ℕ). at_end l b) message-is
