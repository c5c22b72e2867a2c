-- A record's payload, as a part of the message that the record was read from.
use Rattle.std.specs.Prelude.{ℕ, ◌+◌, ◌≤◌, ◌<◌, Bool, List, leb, eqb, take, drop}
use Rattle.std.proofs.Math.Path.{◌≡◌, refl}
use Rattle.std.proofs.Math.Bool.{true, false}
use Rattle.std.proofs.Common.{arith}
use borrow.Author.Tests.{le-leb, lt-leb, eq-eqb, ne_eqb, leb-true, leb-false, eqb-true, eqb-false}
use Rattle.std.proofs.Math.ListN.{length}
use Rattle.wire.specs.Choose.{choose}
use Rattle.wire.specs.Table.{good_value, good_head, good}
use Rattle.wire.specs.declared.Record.{Record}
use Rattle.message_payload.specs.declared.Span.{Span}

-- Rule P2: a good LengthDelimited record of a slice of n bytes
abbrev pub good_payload : ℕ → Record → Bool
good_payload n r = choose (eqb r.kind 1) (good n r) false

-- Rules P1 and P2: its start and its length; any other record has the empty part at the front
unfoldable pub span_of : ℕ → Record → Span
span_of n r = choose (good_payload n r) (record { start = r.value; length = r.length }) (record { start = 0; length = 0 })

-- the bytes there
abbrev pub payload : List ℕ → Record → List ℕ
payload s r = let p = span_of (length s) r in take p.length (drop p.start s)

-- ---- its cases

module _ (n : ℕ) (r : Record) where
  pub span-kind : (r.kind ≡ 1 → ⊥) → span_of n r ≡ record { start = 0; length = 0 }
  unfolding span_of
  span-kind h = rw (ne_eqb r.kind 1 h)

  -- a record that is not good has none
  pub span-bad : good n r ≡ false → span_of n r ≡ record { start = 0; length = 0 }
  unfolding span_of
  span-bad e = rw e (go (eqb r.kind 1))
    where
      go : (b : Bool) → ◌≡◌ {A = Span} (choose (choose b false false) (record { start = r.value; length = r.length }) (record { start = 0; length = 0 }))
          (record { start = 0; length = 0 })
      go true = refl
      go false = refl

  module _ (k : r.kind ≡ 1) where
    pub span_head : good_head n r.tag r.key ≡ false → span_of n r ≡ record { start = 0; length = 0 }
    unfolding span_of good
    span_head h = rw (eq-eqb r.kind 1 k, h)

    module _ (h : good_head n r.tag r.key ≡ true) where
      pub span-outside : n < r.value + r.length → span_of n r ≡ record { start = 0; length = 0 }
      unfolding span_of good good_value
      span-outside g = rw (k, h, lt-leb (r.value + r.length) n g)

      pub span-inside : r.value + r.length ≤ n → span_of n r ≡ record { start = r.value; length = r.length }
      unfolding span_of good good_value
      span-inside g = rw (k, h, le-leb (r.value + r.length) n g)

  -- it lies inside the slice
  pub span-within : (span_of n r).start + (span_of n r).length ≤ n
  span-within = go (eqb r.kind 1) refl (good_head n r.tag r.key) refl (leb (r.value + r.length) n) refl
    where
      go : (a : Bool) → eqb r.kind 1 ≡ a → (b : Bool) → good_head n r.tag r.key ≡ b → (c : Bool) → leb (r.value + r.length) n ≡ c
          → (span_of n r).start + (span_of n r).length ≤ n
      go false k b h c v = rw (span-kind (eqb-false r.kind 1 k)) (omega arith)
      go true k false h c v = rw (span_head (eqb-true r.kind 1 k) h) (omega arith)
      go true k true h false v = rw (span-outside (eqb-true r.kind 1 k) h (leb-false (r.value + r.length) n v)) (omega arith)
      go true k true h true v =
          rw (span-inside (eqb-true r.kind 1 k) h (leb-true (r.value + r.length) n v)) (leb-true (r.value + r.length) n v)
