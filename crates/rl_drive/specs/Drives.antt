-- What becomes of a script.
use Rattle.std.specs.Prelude.{◌≡◌, Option, Some, None, Result}
use Rattle.rl_names.specs.Meant.{ButForMemory}
use Rattle.rl_script_spec.specs.Script.{Verdict, Prints, BadLine, TooMany}
use Rattle.rl_drive.specs.declared.script.DriveError.{DriveError}
use Rattle.rl_drive.specs.declared.script.DriveError.TheVariants as errors
use Rattle.rl_drive.specs.declared.steps.Driven.{Driven}

-- the verdict that an error tells; none for want of memory
abbrev pub plain : DriveError → Option Verdict
plain (errors.BadInput line why) = Some (BadLine line why)
plain (errors.TooLarge what count) = Some (TooMany what count)
plain errors.NoMemory = None

-- the verdict on a script's bytes, but for want of memory
abbrev pub Concludes : Result Driven DriveError → Verdict → Type 0
Concludes result verdict = ButForMemory plain (λ driven. verdict ≡ Prints driven.text.items driven.ready) (λ refusal. verdict ≡ refusal) result
