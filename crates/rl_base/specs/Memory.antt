-- The memory forms: what they hold, what a call answers but for want of memory, and what it leaves.
use Rattle.std.specs.Prelude.{ℕ, ◌++◌, List, Bool, if◌then◌else◌, take, length, Option, Some, None, Result, Ok, Err, option_map, find, bytes_eq}
use Rattle.std.specs.Prelude.{nat_eq}
use Rattle.std.specs.List.{list_any}
use Rattle.std.specs.FinMap as map
use Rattle.rl_base.specs.Causes.{next}
use Rattle.rl_base.specs.Files.{Files}
use Rattle.rl_base.specs.declared.tree.FetchError.{FetchError}
use Rattle.rl_base.specs.declared.tree.FetchError.TheVariants as fetch
use Rattle.rl_base.specs.declared.sink.SinkError.{SinkError}
use Rattle.rl_base.specs.declared.sink.SinkError.TheVariants as sink

-- files as pairs of a name and its bytes, which calls fail, and how many calls there were
pub record FilesInMemory : Type 0 where
  pub files : List (List ℕ × List ℕ)
  pub failing : List ℕ
  pub calls : ℕ
  pub faults : ℕ
  pub blamed : Option (List ℕ)

-- the bytes under a name, of the first pair that has it
abbrev pub file_of : List (List ℕ × List ℕ) → List ℕ → Option (List ℕ)
file_of files name = option_map (λ file. file.1) (find (λ file. bytes_eq name file.0) files)

-- the files as a map, in which the first pair of a name counts
abbrev pub told_files : List (List ℕ × List ℕ) → Files
told_files files = map.from_entries files

-- whether a call of this number fails
abbrev pub fails : List ℕ → ℕ → Bool
fails failing call = list_any (nat_eq call) failing

abbrev pub front_or_absent : ℕ → Option (List ℕ) → Result (List ℕ) FetchError
front_or_absent max None = Err fetch.Absent
front_or_absent max (Some bytes) = Ok (take max bytes)

abbrev pub fetched : FilesInMemory → List ℕ → ℕ → Result (List ℕ) FetchError
fetched tree name max = if fails tree.failing tree.calls then Err fetch.Failed else front_or_absent max (file_of tree.files name)

-- each call is counted, and a fault is counted and blamed
abbrev pub after_fetch : FilesInMemory → List ℕ → Result (List ℕ) FetchError → FilesInMemory
after_fetch tree name (Err fetch.Failed) =
    record { files = tree.files; failing = tree.failing; calls = next tree.calls; faults = next tree.faults; blamed = Some name }
after_fetch tree name other = record tree { calls = next tree.calls }

-- what was written, which calls fail, and how many calls there were
pub record OutputInMemory : Type 0 where
  pub written : List ℕ
  pub failing : List ℕ
  pub calls : ℕ
  pub faults : ℕ

-- a call that does not fail takes the whole piece
abbrev pub taken : OutputInMemory → List ℕ → Result ℕ SinkError
taken out piece = if fails out.failing out.calls then Err sink.Failed else Ok (length piece)

abbrev pub after_write : OutputInMemory → List ℕ → Result ℕ SinkError → OutputInMemory
after_write out piece (Ok count) = record out { written = out.written ++ take count piece; calls = next out.calls }
after_write out piece (Err sink.Failed) = record out { calls = next out.calls; faults = next out.faults }
after_write out piece (Err sink.NoMemory) = record out { calls = next out.calls }
