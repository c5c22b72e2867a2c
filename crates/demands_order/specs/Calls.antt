-- What the theorems speak of: every outcome that a contract allows. And a call of `read_message` with one of its outcomes: what is lent, what is answered,
-- what is left.
use Rattle.std.specs.Prelude.{ℕ, List}
use contract.Lifetimes.{Lfts}
use borrow.Fn.Kinds.{ParamKind, ResultKind, Out, Dens, res_t, ended_of}
use denote.Triple.Clauses.{AtExit}
use Rattle.wire.specs.declared.Read.{Read}
use Rattle.wire.specs.declared.NewRecord.{NewRecord}
use Rattle.wire.specs.declared.Record.{Record}
use Rattle.entry_message.proofs.read_message.Kinds as kinds
use Rattle.entry_message.proofs.read_message.Reads as reads

-- of a function with l lifetimes, parameters ps and result r, whose contract is post: what is said of the arguments, the result and what is left is so of every
-- outcome
abbrev pub Every : (l : ℕ) (ps : List (ParamKind l)) (r : ResultKind l) → Out l ps r
    → ((κs : Lfts l) → Dens κs ps → (res_t r κs).Denot → AtExit (ended_of l ps r) κs → Type 0) → Type 0
Every l ps r post said = (κs : Lfts l) (a : Dens κs ps) (x : (res_t r κs).Denot) (s : AtExit (ended_of l ps r) κs) → post κs a x s → said κs a x s

-- a record as C passes it, and a new one, which has no key
abbrev pub five_words : ℕ → ℕ → ℕ → ℕ → ℕ → Record
five_words tag kind value length key = record { tag = tag; kind = kind; value = value; length = length; key = key }

abbrev pub four_words : ℕ → ℕ → ℕ → ℕ → NewRecord
four_words tag kind value length = record { tag = tag; kind = kind; value = value; length = length }

pub record Call : Type 0 where
  pub lifetimes : Lfts 2
  pub arguments : Dens lifetimes kinds.ps
  pub result : (res_t kinds.r lifetimes).Denot
  pub exit : AtExit (ended_of 2 kinds.ps kinds.r) lifetimes
  pub allowed : reads.Post lifetimes arguments result exit

module _ (c : Call) where
  abbrev pub message : List ℕ
  message = c.arguments.0.now

  abbrev pub start : ℕ
  start = c.arguments.1.0

  abbrev pub end : ℕ
  end = c.arguments.1.1.0

  abbrev pub table : List ℕ
  table = c.arguments.1.1.1.0.now

  abbrev pub answer : Read
  answer = c.result

  abbrev pub left : List ℕ
  left = c.exit.1.1.1.0.now
