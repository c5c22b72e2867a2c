-- What the arguments bring, before a read of one of them and after it.
use Rattle.std.specs.Prelude.{ℕ, ◌≤◌, ⊤}
use Rattle.stream.specs.declared.Input.{Input}
use Rattle.stream.specs.declared.Input.TheVariants.{Nothing, Named, Standard, Closed}
use Rattle.stream.specs.declared.Got.{Got}
use Rattle.stream.specs.declared.Got.TheVariants.{Bytes, FileEnd, End}

-- what an argument brings, and not which file
pub data Kind : Type 0 where
  brings_nothing : Kind
  brings_a_file : Kind
  brings_the_standard_input : Kind
  brings_a_closed_input : Kind

abbrev pub kind_of : Input → Kind
kind_of Nothing = brings_nothing
kind_of (Named f) = brings_a_file
kind_of Standard = brings_the_standard_input
kind_of Closed = brings_a_closed_input

-- a read brings a byte or more, and as many as the block has room for at most
abbrev pub IsWithin : ℕ → Got → Type 0
IsWithin size (Bytes n) = (1 ≤ n) × (n ≤ size)
IsWithin size FileEnd = ⊤
IsWithin size End = ⊤
