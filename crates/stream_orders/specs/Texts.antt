-- The words in which a program says what an argument has to be, and what is wrong with all arguments.
use Rattle.std.specs.Prelude.{ℕ, List, [], ◌∷◌}
use Rattle.stream_orders.specs.declared.Wanted.{Wanted}
use Rattle.stream_orders.specs.declared.Wanted.TheVariants as wanted
use Rattle.stream_orders.specs.declared.Fault.{Fault}
use Rattle.stream_orders.specs.declared.Fault.TheVariants.{NoEdition, NoGrade, LeastAlone}

-- `edition` and `grade`
abbrev pub wanted_text : Wanted → List ℕ
wanted_text wanted.Edition = 101 ∷ 100 ∷ 105 ∷ 116 ∷ 105 ∷ 111 ∷ 110 ∷ []
wanted_text wanted.Grade = 103 ∷ 114 ∷ 97 ∷ 100 ∷ 101 ∷ []

-- `behind --edition there has to be 1 or 2`, `behind --least there has to be canonical, extensions or any`, `--least is for --edition 2`
abbrev pub fault_text : Fault → List ℕ
fault_text NoEdition =
    98 ∷ 101 ∷ 104 ∷ 105 ∷ 110 ∷ 100 ∷ 32 ∷ 45 ∷ 45 ∷ 101 ∷ 100 ∷ 105 ∷ 116 ∷ 105 ∷ 111 ∷ 110 ∷ 32 ∷ 116 ∷ 104 ∷ 101 ∷ 114 ∷ 101 ∷ 32 ∷ 104 ∷ 97 ∷
    115 ∷ 32 ∷ 116 ∷ 111 ∷ 32 ∷ 98 ∷ 101 ∷ 32 ∷ 49 ∷ 32 ∷ 111 ∷ 114 ∷ 32 ∷ 50 ∷ []
fault_text NoGrade =
    98 ∷ 101 ∷ 104 ∷ 105 ∷ 110 ∷ 100 ∷ 32 ∷ 45 ∷ 45 ∷ 108 ∷ 101 ∷ 97 ∷ 115 ∷ 116 ∷ 32 ∷ 116 ∷ 104 ∷ 101 ∷ 114 ∷ 101 ∷ 32 ∷ 104 ∷ 97 ∷ 115 ∷ 32 ∷
    116 ∷ 111 ∷ 32 ∷ 98 ∷ 101 ∷ 32 ∷ 99 ∷ 97 ∷ 110 ∷ 111 ∷ 110 ∷ 105 ∷ 99 ∷ 97 ∷ 108 ∷ 44 ∷ 32 ∷ 101 ∷ 120 ∷ 116 ∷ 101 ∷ 110 ∷ 115 ∷ 105 ∷ 111 ∷
    110 ∷ 115 ∷ 32 ∷ 111 ∷ 114 ∷ 32 ∷ 97 ∷ 110 ∷ 121 ∷ []
fault_text LeastAlone =
    45 ∷ 45 ∷ 108 ∷ 101 ∷ 97 ∷ 115 ∷ 116 ∷ 32 ∷ 105 ∷ 115 ∷ 32 ∷ 102 ∷ 111 ∷ 114 ∷ 32 ∷ 45 ∷ 45 ∷ 101 ∷ 100 ∷ 105 ∷ 116 ∷ 105 ∷ 111 ∷ 110 ∷ 32 ∷ 50 ∷
    []
