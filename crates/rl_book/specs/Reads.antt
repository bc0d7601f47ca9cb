-- What the texts say over which a view is opened.
use Rattle.std.specs.Prelude.{◌≡◌, Result, Ok, Err, Vec}
use Rattle.std.specs.declared.alloc.Global.{Global}
use Rattle.rl_names.specs.declared.row.Row.{Row}
use Rattle.rl_view_spec.specs.Closure.{Text}
use Rattle.rl_wire.specs.Arguments.{TellsLine}
use Rattle.rl_wire.specs.Reading.{answer_of}
use Rattle.rl_wire.specs.StartupReading.{startup_of}
use Rattle.rl_wire.specs.declared.part.Part.{Part}
use Rattle.rl_wire.specs.declared.startup.Startup.{Startup}
use Rattle.rl_book.specs.declared.error.OpenError.{OpenError}
use Rattle.rl_book.specs.declared.error.OpenError.TheVariants as bad

-- the rows of a startup text, or its first bad line
abbrev pub SaysRows : Result (Vec Row Global) OpenError → Text → Type 0
SaysRows (Ok rows) startup = (said : Startup) × (startup_of startup ≡ Ok said) × (rows.items ≡ said.rows)
SaysRows (Err (bad.BadStartup line)) startup = TellsLine (startup_of startup) line
SaysRows (Err bad.NoMemory) startup = Unit {0}
SaysRows (Err other) startup = ⊥

-- the parts of an embedded text, or its first bad line
abbrev pub SaysParts : Result (Vec Part Global) OpenError → Text → Type 0
SaysParts (Ok parts) embedded = answer_of embedded ≡ Ok parts.items
SaysParts (Err (bad.BadEmbedded line)) embedded = TellsLine (answer_of embedded) line
SaysParts (Err bad.NoMemory) embedded = Unit {0}
SaysParts (Err other) embedded = ⊥
