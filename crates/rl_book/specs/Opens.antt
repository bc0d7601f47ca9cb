-- How a view is opened.
use Rattle.std.specs.Prelude.{◌≡◌, ◌≤◌, [], List, Some, None, Result, Ok, Err, length, replicate, vec_capacity}
use Rattle.rl_names.specs.declared.counted.TheConstants as limits
use Rattle.rl_names.specs.declared.row.Row.{Row}
use Rattle.rl_view_spec.specs.Breach as breach
use Rattle.rl_view_spec.specs.Breach.{Breach, breach_of}
use Rattle.rl_view_spec.specs.Closure.{Text}
use Rattle.rl_view_spec.specs.Progress.{HasDistinctNames}
use Rattle.rl_states.specs.Changes.{fresh_progress}
use Rattle.rl_wire.specs.Arguments.{TellsLine}
use Rattle.rl_wire.specs.Reading.{answer_of}
use Rattle.rl_wire.specs.StartupReading.{startup_of}
use Rattle.rl_wire.specs.declared.part.Part.{Part}
use Rattle.rl_wire.specs.declared.startup.Startup.{Startup}
use Rattle.rl_book_spec.specs.Kept.{Booked}
use Rattle.rl_book_spec.specs.Opening.{Opening}
use Rattle.rl_book_spec.specs.declared.Plan.{Plan}
use Rattle.rl_book_spec.specs.declared.Stored.{Stored}
use Rattle.rl_book.specs.Held.{AreNamed, gifts_at, gifts_of}
use Rattle.rl_book.specs.declared.error.OpenError.{OpenError}
use Rattle.rl_book.specs.declared.error.OpenError.TheVariants as bad
use Rattle.rl_book.specs.declared.opening.Ready.{Ready}

-- what a view is opened over: these rows, these parts, and what is stored
abbrev pub opening_of : Plan → List Row → List Part → List Stored → Opening
opening_of plan rows parts stored = record {
  registered = record { rows = rows; features = plan.features };
  embedded = parts;
  base = plan.base;
  limit = plan.limit;
  stored = stored;
}

-- nothing was requested of it yet
abbrev pub opened : Text → Plan → List Row → List Part → List Stored → Booked
opened startup plan rows parts stored = record {
  startup = startup;
  embedded = plan.embedded;
  opening = opening_of plan rows parts stored;
  past = [];
  ran = [];
}

-- both texts are read, and the rows break this rule
pub record Breaks (startup : Text) (plan : Plan) (breach : Breach) : Type 0 where
  pub said : Startup
  pub parts : List Part
  pub startup_is : startup_of startup ≡ Ok said
  pub parts_are : answer_of plan.embedded ≡ Ok parts
  pub broken : breach_of said.rows ≡ Some breach

-- both are read, the rows break no rule, and the view is opened over what they say
pub record IsOpened (startup : Text) (plan : Plan) (stored : List Stored) (book : Booked) : Type 0 where
  pub said : Startup
  pub parts : List Part
  pub startup_is : startup_of startup ≡ Ok said
  pub parts_are : answer_of plan.embedded ≡ Ok parts
  pub fine : breach_of said.rows ≡ None
  pub book_is : book ≡ opened startup plan said.rows parts stored

-- What opening over what is stored answers: the first bad line of the startup text, then that of the embedded text, then the rule that the rows
-- break.
abbrev pub Opens : Result Booked OpenError → Text → Plan → List Stored → Type 0
Opens (Ok book) startup plan stored = IsOpened startup plan stored book
Opens (Err (bad.BadStartup line)) startup plan stored = TellsLine (startup_of startup) line
Opens (Err (bad.BadEmbedded line)) startup plan stored = (said : Startup) × (startup_of startup ≡ Ok said) × TellsLine (answer_of plan.embedded) line
Opens (Err (bad.TooMany what count)) startup plan stored = Breaks startup plan (breach.TooMany what count)
Opens (Err (bad.Duplicate name)) startup plan stored = Breaks startup plan (breach.Duplicate name)
Opens (Err (bad.BadIndex row index)) startup plan stored = Breaks startup plan (breach.BadIndex row index)
Opens (Err bad.NoMemory) startup plan stored = Unit {0}

-- ---- before the store is moved in

-- both texts are read, the rows are registered, what they are given is found, and there is room
pub record IsReady (r : Ready) (startup : Text) (plan : Plan) (stored : List Stored) : Type 0 where
  pub said : Startup
  pub startup_is : startup_of startup ≡ Ok said
  pub parts_are : answer_of plan.embedded ≡ Ok r.embedded.items
  pub fine : breach_of said.rows ≡ None
  pub kept : r.startup ≡ startup
  pub few : length said.rows ≤ limits.MAX_ROWS
  pub distinct : HasDistinctNames (opening_of plan said.rows r.embedded.items stored).registered
  pub table : r.table ≡ fresh_progress (opening_of plan said.rows r.embedded.items stored).registered
  pub gifts : gifts_at r.embedded.items stored r.places.items ≡ gifts_of (opening_of plan said.rows r.embedded.items stored)
  pub named : AreNamed (opening_of plan said.rows r.embedded.items stored)
  pub delivered : r.delivered.items ≡ replicate (length said.rows) None
  pub runs : r.runs.items ≡ []
  pub room : length said.rows ≤ vec_capacity r.runs
