-- The exit code of a status.
use Rattle.std.specs.Prelude.{ℕ}
use Rattle.rl_cli.specs.declared.status.Status.{Status}
use Rattle.rl_cli.specs.declared.status.Status.TheVariants as statuses

abbrev pub code_of : Status → ℕ
code_of statuses.Done = 0
code_of statuses.BadWords = 2
code_of (statuses.BadInput word line why) = 2
code_of (statuses.TooLarge what count) = 2
code_of statuses.NotReady = 3
code_of statuses.ReadFault = 4
code_of statuses.WriteFault = 4
code_of statuses.NoMemory = 5
