-- What the words of a command line mean.
use Rattle.std.specs.Prelude.{ℕ, Bool, true, false, Option, Some, None, List, [], ◌∷◌, eqb, nat_eq}
use Rattle.std.specs.Cmp.Lexicographic.{pointwise}
use Rattle.wire.specs.Choose.{choose}
use Rattle.stream_orders.specs.declared.Argument.{Argument}
use Rattle.stream_orders.specs.declared.Argument.TheVariants.{File, Input, Count, Status, Names, Chosen, Taken}
use Rattle.stream_orders.specs.declared.Argument.TheVariants as argument
use Rattle.stream_orders.specs.declared.Least.TheVariants as least
use Rattle.stream_orders.specs.declared.Wanted.{Wanted}
use Rattle.stream_orders.specs.declared.Wanted.TheVariants as wanted

-- a word starts with `-`
abbrev pub dashed : List ℕ → Bool
dashed [] = false
dashed (c ∷ cs) = eqb c 45

-- the words `-`, `--count`, `--status` and `--`
abbrev pub word_input : List ℕ
word_input = 45 ∷ []

abbrev pub word_count : List ℕ
word_count = 45 ∷ 45 ∷ 99 ∷ 111 ∷ 117 ∷ 110 ∷ 116 ∷ []

abbrev pub word_status : List ℕ
word_status = 45 ∷ 45 ∷ 115 ∷ 116 ∷ 97 ∷ 116 ∷ 117 ∷ 115 ∷ []

abbrev pub word_names : List ℕ
word_names = 45 ∷ 45 ∷ []

-- `--edition` and `--least`
abbrev pub word_edition : List ℕ
word_edition = 45 ∷ 45 ∷ 101 ∷ 100 ∷ 105 ∷ 116 ∷ 105 ∷ 111 ∷ 110 ∷ []

abbrev pub word_least : List ℕ
word_least = 45 ∷ 45 ∷ 108 ∷ 101 ∷ 97 ∷ 115 ∷ 116 ∷ []

-- `canonical`, `extensions` and `any`
abbrev pub word_canonical : List ℕ
word_canonical = 99 ∷ 97 ∷ 110 ∷ 111 ∷ 110 ∷ 105 ∷ 99 ∷ 97 ∷ 108 ∷ []

abbrev pub word_extensions : List ℕ
word_extensions = 101 ∷ 120 ∷ 116 ∷ 101 ∷ 110 ∷ 115 ∷ 105 ∷ 111 ∷ 110 ∷ 115 ∷ []

abbrev pub word_any : List ℕ
word_any = 97 ∷ 110 ∷ 121 ∷ []

-- an option by its word
abbrev pub option_of : List ℕ → Option Argument
option_of w =
    choose (pointwise nat_eq w word_count) (Some Count)
    (choose (pointwise nat_eq w word_status) (Some Status)
    (choose (pointwise nat_eq w word_names) (Some Names)
    (choose (pointwise nat_eq w word_edition) (Some argument.Edition) (choose (pointwise nat_eq w word_least) (Some argument.Least) None))))

-- an edition by its number, and a least grade by its word
abbrev pub edition_of : List ℕ → Option Argument
edition_of w = choose (pointwise nat_eq w (49 ∷ [])) (Some (Chosen false)) (choose (pointwise nat_eq w (50 ∷ [])) (Some (Chosen true)) None)

abbrev pub grade_of : List ℕ → Option Argument
grade_of w =
    choose (pointwise nat_eq w word_canonical) (Some (Taken least.Canonical))
    (choose (pointwise nat_eq w word_extensions) (Some (Taken least.Extensions)) (choose (pointwise nat_eq w word_any) (Some (Taken least.Any)) None))

-- `-` is the standard input; after `--`, and without `-` in front, a word is a file's name; else an option
abbrev pub plain_of : List ℕ → Bool → Option Argument
plain_of w names = choose (pointwise nat_eq w word_input) (Some Input) (choose names (Some File) (choose (dashed w) (option_of w) (Some File)))

-- after an option that wants one, an edition or a grade
abbrev pub argument_of : List ℕ → Bool → Option Wanted → Option Argument
argument_of w names None = plain_of w names
argument_of w names (Some wanted.Edition) = edition_of w
argument_of w names (Some wanted.Grade) = grade_of w
