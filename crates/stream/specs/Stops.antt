-- Why a program ends early, and with which status.
use Rattle.std.specs.Prelude.{ℕ, ◌≡◌, ◌≢◌}
use Rattle.std.specs.declared.io.ErrorKind.{ErrorKind}
use Rattle.std.specs.declared.io.ErrorKind.TheVariants.{BrokenPipe}
use Rattle.stream.specs.declared.Stop.{Stop}
use Rattle.stream.specs.declared.Stop.TheVariants.{Failed, Refused, Unread, NoRoom}

-- 141 is the status of a program that SIGPIPE ended
abbrev pub status_of : Stop → ℕ
status_of Failed = 1
status_of Refused = 2
status_of Unread = 141
status_of NoRoom = 1

-- what a failed write stops a program for: nobody reads the output any more, or anything else
pub record IsStopFor (kind : ErrorKind) (stop : Stop) : Type 0 where
  pub unread : kind ≡ BrokenPipe → stop ≡ Unread
  pub failed : kind ≢ BrokenPipe → stop ≡ Failed
