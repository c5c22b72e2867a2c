-- A whole message, as both entries on corrections take it: its fields, or its own refusal, which has one of the first four numbers.
use Rattle.std.specs.Prelude.{ℕ, ◌-◌, ◌≤◌, ◌≡◌, Bool, true, false, List, leb, length}
use Rattle.std.proofs.Math.Path.{refl, ap, sym}
use Rattle.std.proofs.Common.{◌∙◌, arith, leb-true, leb-false}
use Rattle.wire.specs.Limits.{message_limit}
use Rattle.wire.specs.Numbers.{number_of}
use Rattle.wire.specs.Places.{items}
use Rattle.wire.specs.Reading.{Message, Fields, read_message}
use Rattle.wire.specs.Reading as reading
use Rattle.wire.specs.Marks.{marks}
use Rattle.wire.specs.declared.Refusal.{Refusal}
use Rattle.wire.specs.declared.Refusal.TheVariants.{TooLong}
use Rattle.wire.specs.declared.Field.{Field}
use Rattle.message.specs.Tags.{of_tag}
use Rattle.message_payload.specs.declared.Span.{Span}
use Rattle.entry_answer.specs.Gate.{gated, through, through-open, through-shut, gated-long, gated-open}
use Rattle.entry_answer.specs.declared.Gated.TheVariants.{Open, Shut}
use Rattle.correct_supply.specs.Supplying.{held_in, accepting}
use Rattle.correct_supply.specs.SupplyLaws.{held-shut, held-open}
use Rattle.correct_supply.specs.Meaning.{HeldRefused, HeldFields}
use Rattle.correct_supply.proofs.Meaning.{has-held}
use Rattle.correct_write.specs.Corrected.{Items, Refused, taken_of, taken}
use Rattle.demands_order.specs.Order.{first_of}
use Rattle.demands_order.specs.Rules.{message_rules, fields_in, pick_at_order}
use Rattle.demands_order.specs.RulesLaws.{message_number, message-told, fields_read_lem}
use Rattle.demands_order.specs.Entries.{order-r}
use Rattle.demands_order.specs.Formats.{refused-format}

-- refused: by the order of a message that is read whole, and so by both entries
pub record Shuts (s : List ℕ) (r : Refusal) : Type 0 where
  pub few : number_of r ≤ 4
  pub order : first_of (pick_at_order s) ≡ number_of r
  pub take : taken s ≡ Refused r
  pub hold : (t : ℕ) → HeldRefused s t r

-- accepted
pub record Opens (s : List ℕ) (fs : List Field) : Type 0 where
  pub short : length s ≤ message_limit
  pub read : read_message s 0 (length s) ≡ Fields fs
  pub order : first_of (pick_at_order s) ≡ 0
  pub fields : fields_in s 0 (length s) ≡ fs
  pub take : taken s ≡ Items (items s fs)
  pub hold : (t : ℕ) → (p : Span) × HeldFields s t (length (of_tag t fs)) p

pub data Judged (s : List ℕ) : Type 0 where
  shuts : (r : Refusal) → Shuts s r → Judged s
  opened : (fs : List Field) → Opens s fs → Judged s

module _ (s : List ℕ) where
  order-as : through (gated (length s) 0 (length s)) number_of (message_number (read_message s 0 (length s))) ≡ first_of (pick_at_order s)
  order-as =
      order-r (λ (n : ℕ). n) number_of (λ r. refl) s 0 (length s) (message_number (read_message s 0 (length s))) (message_rules s 0 (length s))
      (message-told s 0 (length s))

  long : gated (length s) 0 (length s) ≡ Shut TooLong → Shuts s TooLong
  unfolding taken
  long g =
      record {
        few = omega arith;
        order = sym order-as ∙ through-shut number_of _ g;
        take = through-shut Refused _ g;
        hold = λ t. held-shut s t TooLong g;
      }

  module _ (l : length s ≤ message_limit) where
    opens : gated (length s) 0 (length s) ≡ Open
    opens = gated-open (length s) 0 (length s) l (omega arith) (omega arith)

    wrong : (r : Refusal) (p : ℕ) → read_message s 0 (length s) ≡ reading.Refused r p → Shuts s r
    unfolding taken
    wrong r p h =
        record {
          few = omega (arith, (refused-format s 0 (length s) r p h).1);
          order = sym order-as ∙ through-open number_of _ opens ∙ ap message_number h;
          take = through-open Refused _ opens ∙ ap (taken_of s) h;
          hold = λ t. held-open s t opens ∙ ap (λ (m : Message). accepting m (held_in s t (marks s 0 (length s)))) h;
        }

    fine : (fs : List Field) → read_message s 0 (length s) ≡ Fields fs → Opens s fs
    unfolding taken read_message
    fine fs h =
        record {
          short = l;
          read = h;
          order = sym order-as ∙ through-open number_of _ opens ∙ ap message_number h;
          fields = fields_read_lem (length s - 0) s (length s) 0 0 0 fs h;
          take = through-open Refused _ opens ∙ ap (taken_of s) h;
          hold = λ t. has-held s t (length (of_tag t fs)) (record { short = l; fields = fs; read = h; count = refl });
        }

  pub judge : Judged s
  judge = go (leb (length s) message_limit) refl (read_message s 0 (length s)) refl
    where
      go : (b : Bool) → leb (length s) message_limit ≡ b → (m : Message) → read_message s 0 (length s) ≡ m → Judged s
      go false b m h = shuts TooLong (long (gated-long (length s) 0 (length s) (leb-false (length s) message_limit b)))
      go true b (reading.Refused r p) h = shuts r (wrong (leb-true (length s) message_limit b) r p h)
      go true b (Fields fs) h = opened fs (fine (leb-true (length s) message_limit b) fs h)
