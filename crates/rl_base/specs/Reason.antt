-- Why the system refused, and how a person is told.
use Rattle.std.specs.Prelude.{List, ℕ, codes, Option, Some, None}
use Rattle.std.specs.declared.io.ErrorKind.{ErrorKind}
use Rattle.std.specs.declared.io.ErrorKind.TheVariants as kinds
use Rattle.rl_base.specs.declared.fault.Reason.{Reason}
use Rattle.rl_base.specs.declared.fault.Reason.TheVariants as reasons

-- the reasons that a person is told; any other kind of error gives none
abbrev pub reason_of : ErrorKind → Option Reason
reason_of kinds.NotFound = Some reasons.NoSuchFile
reason_of kinds.PermissionDenied = Some reasons.NotPermitted
reason_of kinds.IsADirectory = Some reasons.IsFolder
reason_of kinds.StorageFull = Some reasons.NoSpace
reason_of kinds.BrokenPipe = Some reasons.NoReader
reason_of _ = None

abbrev pub words_of : Reason → List ℕ
words_of reasons.NoSuchFile = codes "no such file"
words_of reasons.NotPermitted = codes "permission denied"
words_of reasons.IsFolder = codes "a folder"
words_of reasons.NoSpace = codes "no space left"
words_of reasons.NoReader = codes "nobody reads it"
