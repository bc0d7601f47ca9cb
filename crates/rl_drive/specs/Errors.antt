-- What becomes of the errors of the parts.
use Rattle.rl_names.specs.Rules.{number_of}
use Rattle.rl_names.specs.declared.counted.Counted.TheVariants as counted
use Rattle.rl_names.specs.declared.rule.Rule.TheVariants as rules
use Rattle.rl_registry.specs.declared.error.RegistryError.{RegistryError}
use Rattle.rl_registry.specs.declared.error.RegistryError.TheVariants as bad
use Rattle.rl_script.specs.declared.script.ScriptError.{ScriptError}
use Rattle.rl_script.specs.declared.script.ScriptError.TheVariants as faulty
use Rattle.rl_drive.specs.declared.script.DriveError.{DriveError}
use Rattle.rl_drive.specs.declared.script.DriveError.TheVariants.{BadInput, TooLarge, NoMemory}

abbrev pub of_script : ScriptError → DriveError
of_script (faulty.BadLine line why) = BadInput line why
of_script (faulty.TooMany count) = TooLarge counted.Steps count
of_script faulty.NoMemory = NoMemory

abbrev pub of_registry : RegistryError → DriveError
of_registry (bad.TooMany what count) = TooLarge what count
of_registry (bad.Duplicate name) = BadInput 0 (number_of rules.Duplicate)
of_registry (bad.BadIndex row index) = BadInput 0 (number_of rules.BadIndex)
of_registry bad.NoMemory = NoMemory
