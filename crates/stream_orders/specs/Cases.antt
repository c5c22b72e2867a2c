-- The case laws of Arguments, Orders and Counting.
use Rattle.std.specs.Prelude.{ℕ, ◌≤◌, ◌<◌, ◌≡◌, refl, Bool, true, false, Some, None, List, [], ◌∷◌, eqb, nat_eq, length, set, get_or}
use Rattle.std.specs.Cmp.Lexicographic.{pointwise}
use Rattle.std.proofs.Common.{sym, arith}
use Rattle.std.proofs.Math.Seq.{set_out}
use Rattle.text_lines.specs.Lines.{count_up}
use Rattle.stream_orders.specs.Arguments.{dashed, word_input, word_count, word_status, word_names, word_edition, word_least, word_canonical, word_extensions, word_any}
use Rattle.stream_orders.specs.Arguments.{option_of, edition_of, grade_of, plain_of}
use Rattle.stream_orders.specs.Counting.{counted}
use Rattle.stream_orders.specs.declared.Argument.TheVariants.{File, Input, Count, Status, Names, Chosen, Taken}
use Rattle.stream_orders.specs.declared.Argument.TheVariants as argument
use Rattle.stream_orders.specs.declared.Least.TheVariants as least

module _ (w : List ℕ) where
  pub option-count : true ≡ pointwise nat_eq w word_count → Some Count ≡ option_of w
  option-count a = rw (← a)

  pub option-status : false ≡ pointwise nat_eq w word_count → true ≡ pointwise nat_eq w word_status → Some Status ≡ option_of w
  option-status a b = rw (← a, ← b)

  pub option-names : false ≡ pointwise nat_eq w word_count → false ≡ pointwise nat_eq w word_status → true ≡ pointwise nat_eq w word_names → Some Names ≡ option_of w
  option-names a b d = rw (← a, ← b, ← d)

  pub option-edition : false ≡ pointwise nat_eq w word_count → false ≡ pointwise nat_eq w word_status → false ≡ pointwise nat_eq w word_names
      → true ≡ pointwise nat_eq w word_edition → Some argument.Edition ≡ option_of w
  option-edition a b d e = rw (← a, ← b, ← d, ← e)

  pub option-least : false ≡ pointwise nat_eq w word_count → false ≡ pointwise nat_eq w word_status → false ≡ pointwise nat_eq w word_names
      → false ≡ pointwise nat_eq w word_edition → true ≡ pointwise nat_eq w word_least → Some argument.Least ≡ option_of w
  option-least a b d e f = rw (← a, ← b, ← d, ← e, ← f)

  pub option-none : false ≡ pointwise nat_eq w word_count → false ≡ pointwise nat_eq w word_status → false ≡ pointwise nat_eq w word_names
      → false ≡ pointwise nat_eq w word_edition → false ≡ pointwise nat_eq w word_least → None ≡ option_of w
  option-none a b d e f = rw (← a, ← b, ← d, ← e, ← f)

  pub edition-first : true ≡ pointwise nat_eq w (49 ∷ []) → Some (Chosen false) ≡ edition_of w
  edition-first a = rw (← a)

  pub edition-second : false ≡ pointwise nat_eq w (49 ∷ []) → true ≡ pointwise nat_eq w (50 ∷ []) → Some (Chosen true) ≡ edition_of w
  edition-second a b = rw (← a, ← b)

  pub edition-none : false ≡ pointwise nat_eq w (49 ∷ []) → false ≡ pointwise nat_eq w (50 ∷ []) → None ≡ edition_of w
  edition-none a b = rw (← a, ← b)

  pub grade-canonical : true ≡ pointwise nat_eq w word_canonical → Some (Taken least.Canonical) ≡ grade_of w
  grade-canonical a = rw (← a)

  pub grade-extensions : false ≡ pointwise nat_eq w word_canonical → true ≡ pointwise nat_eq w word_extensions → Some (Taken least.Extensions) ≡ grade_of w
  grade-extensions a b = rw (← a, ← b)

  pub grade-any : false ≡ pointwise nat_eq w word_canonical → false ≡ pointwise nat_eq w word_extensions → true ≡ pointwise nat_eq w word_any → Some (Taken least.Any) ≡ grade_of w
  grade-any a b d = rw (← a, ← b, ← d)

  pub grade-none : false ≡ pointwise nat_eq w word_canonical → false ≡ pointwise nat_eq w word_extensions → false ≡ pointwise nat_eq w word_any → None ≡ grade_of w
  grade-none a b d = rw (← a, ← b, ← d)

  pub word-input : (names : Bool) → true ≡ pointwise nat_eq w word_input → Some Input ≡ plain_of w names
  word-input names a = rw (← a)

  pub word-name : (names : Bool) → false ≡ pointwise nat_eq w word_input → names ≡ true → Some File ≡ plain_of w names
  word-name names a n = rw (← a, n)

  pub word-option : (names : Bool) → false ≡ pointwise nat_eq w word_input → names ≡ false → true ≡ dashed w → option_of w ≡ plain_of w names
  word-option names a n d = rw (← a, n, ← d)

  pub word-plain : (names : Bool) → false ≡ pointwise nat_eq w word_input → names ≡ false → false ≡ dashed w → Some File ≡ plain_of w names
  word-plain names a n d = rw (← a, n, ← d)

pub dashed-none : (w : List ℕ) → length w < 1 → false ≡ dashed w
dashed-none [] h = refl
dashed-none (c ∷ cs) h = absurd (omega arith)

pub dashed-first : (w : List ℕ) → 1 ≤ length w → eqb (get_or w 0 0) 45 ≡ dashed w
dashed-first [] h = absurd (omega arith)
dashed-first (c ∷ cs) h = refl

module _ (tally : List ℕ) (verdict : ℕ) where
  pub counted-there : {n : ℕ} → n ≡ count_up (get_or tally verdict 0) → set tally verdict n ≡ counted tally verdict
  counted-there e = rw e

  pub counted-not : length tally ≤ verdict → tally ≡ counted tally verdict
  counted-not h = sym (set_out tally verdict (count_up (get_or tally verdict 0)) h)
