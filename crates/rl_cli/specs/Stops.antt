-- Why the files of a call were not all read.
use Rattle.std.specs.Prelude.{◌≡◌, ℕ, List, Option}
use Rattle.rl_base.specs.Files.{Files}
use Rattle.rl_view_spec.specs.Closure.{Text}
use Rattle.rl_cli.specs.Files.{IsTooLong, IsUnread, Reaches}
use Rattle.rl_cli.specs.Words.{word_at}
use Rattle.rl_cli.specs.declared.file.FileError.{FileError}
use Rattle.rl_cli.specs.declared.file.FileError.TheVariants.{Failed, TooLong, NoMemory}

-- a file, which this word names, was not read whole
abbrev pub StopsAt : ℕ → ℕ → Option Text → Option Files → Text → ℕ → FileError → Type 0
StopsAt faults faults' blamed told name word (Failed at) = (at ≡ word) × IsUnread faults faults' blamed told name
StopsAt faults faults' blamed told name word (TooLong at) = (at ≡ word) × IsTooLong told name
StopsAt faults faults' blamed told name word NoMemory = Unit {0}

-- of the files of these places, the one of this word is the first that was not read whole
abbrev pub StopsReading : ℕ → ℕ → Option Text → Option Files → List Text → List ℕ → FileError → Type 0
StopsReading faults faults' blamed told words places (Failed word) = Reaches told words places word × IsUnread faults faults' blamed told (word_at words word)
StopsReading faults faults' blamed told words places (TooLong word) = Reaches told words places word × IsTooLong told (word_at words word)
StopsReading faults faults' blamed told words places NoMemory = Unit {0}
