-- What the arguments of a command line ask for, one after the other, and what is wrong with them together.
use Rattle.std.specs.Prelude.{Bool, true, false, Option, Some, None, Result, Ok, Err}
use Rattle.stream_orders.specs.declared.Argument.{Argument}
use Rattle.stream_orders.specs.declared.Argument.TheVariants.{File, Input, Count, Status, Names, Chosen, Taken}
use Rattle.stream_orders.specs.declared.Argument.TheVariants as argument
use Rattle.stream_orders.specs.declared.Least.{Least}
use Rattle.stream_orders.specs.declared.Wanted.{Wanted}
use Rattle.stream_orders.specs.declared.Wanted.TheVariants as wanted
use Rattle.stream_orders.specs.declared.Orders.{Orders}
use Rattle.stream_orders.specs.declared.Fault.{Fault}
use Rattle.stream_orders.specs.declared.Fault.TheVariants.{NoEdition, NoGrade, LeastAlone}

-- nothing is asked for
abbrev pub no_orders : Orders
no_orders = record { count = false; status = false; named = false; names = false; second = false; least = None; wants = None }

-- what the arguments ask for with one more: a file is named; frames are counted; the status is told; all that follow are names; the next argument
-- has to be an edition, or a least grade; and these
abbrev pub ordered_by : Orders → Argument → Orders
ordered_by o File = record o { named = true }
ordered_by o Input = record o { named = true }
ordered_by o Count = record o { count = true }
ordered_by o Status = record o { status = true }
ordered_by o Names = record o { names = true }
ordered_by o argument.Edition = record o { wants = Some wanted.Edition }
ordered_by o argument.Least = record o { wants = Some wanted.Grade }
ordered_by o (Chosen b) = record o { second = b; wants = None }
ordered_by o (Taken l) = record o { least = Some l; wants = None }

-- a least grade is nothing to ask for without the second edition
abbrev pub least_alone : Bool → Option Least → Result (Unit {0}) Fault
least_alone true l = Ok tt
least_alone false None = Ok tt
least_alone false (Some l) = Err LeastAlone

-- an option that wants an argument after it has one
abbrev pub wants_left : Option Wanted → Result (Unit {0}) Fault → Result (Unit {0}) Fault
wants_left None f = f
wants_left (Some wanted.Edition) f = Err NoEdition
wants_left (Some wanted.Grade) f = Err NoGrade

abbrev pub fault_of : Orders → Result (Unit {0}) Fault
fault_of o = wants_left o.wants (least_alone o.second o.least)
