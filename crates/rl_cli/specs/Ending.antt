-- How a call ends: the status, the word that it is about, where 0 stands for none, what breaks a rule of definitions, and
-- why not everything was served.
use Rattle.std.specs.Option.{option_map_or}
use Rattle.std.specs.Prelude.{ℕ, ◌+◌, Bool, true, false, Option, None, Ok, Err, option_and_then}
use Rattle.rl_names.specs.declared.counted.Counted.TheVariants as counted
use Rattle.rl_names.specs.declared.counted.TheConstants as limits
use Rattle.rl_defs.specs.Refusal.{Refusal, refusal_told}
use Rattle.rl_defs.specs.declared.error.CatalogError.{CatalogError}
use Rattle.rl_script_spec.specs.declared.Unready.{Unready}
use Rattle.rl_cli.specs.Verdict.{Verdict, Fault, Breaks, Exceeds, fault_told}
use Rattle.rl_cli.specs.declared.work.Printed.{Printed}
use Rattle.rl_cli.specs.declared.work.WorkError.{WorkError}
use Rattle.rl_cli.specs.declared.status.Status.{Status}
use Rattle.rl_cli.specs.declared.status.Status.TheVariants as statuses

pub record Ending : Type 0 where
  pub status : Status
  pub word : ℕ
  pub breach : Option Refusal
  pub unready : Option Unready

abbrev pub ending : Status → ℕ → Option CatalogError → Option Unready → Ending
ending status word breach unready = record { status = status; word = word; breach = option_and_then refusal_told breach; unready = unready }

-- a status that is about no word
abbrev pub plain : Status → Ending
plain status = record { status = status; word = 0; breach = None; unready = None }

-- a status that is about a word
abbrev pub about : ℕ → Status → Ending
about word status = record { status = status; word = word; breach = None; unready = None }

-- the file of a word is too long: one byte more than it may have was read
abbrev pub long : ℕ → Ending
long word = about word (statuses.TooLarge counted.FileBytes (limits.MAX_FILE_BYTES + 1))

abbrev pub of_fault : Fault → Ending
of_fault (Breaks word line why breach) = record { status = statuses.BadInput word line why; word = word; breach = breach; unready = None }
of_fault (Exceeds word what count) = about word (statuses.TooLarge what count)

-- the work came to nothing
abbrev pub of_error : WorkError → Ending
of_error error = option_map_or of_fault (fault_told error) (plain statuses.NoMemory)

-- an output was written whole, for requests in the file of this word
abbrev pub written_by : Bool → ℕ → Option Unready → Ending
written_by true word unready = plain statuses.Done
written_by false word unready = record { status = statuses.NotReady; word = word; breach = None; unready = unready }

abbrev pub written : Printed → Ending
written printed = written_by printed.ready printed.word printed.unready

-- where nothing fails, a call ends so
abbrev pub of_verdict : Verdict → Ending
of_verdict (Ok printed) = written printed
of_verdict (Err fault) = of_fault fault
