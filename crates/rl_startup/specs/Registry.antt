-- The registry of a wiki: what the client of a viewer is told of its modules, in a context.
use Rattle.std.specs.Prelude.{ℕ, List, [], ◌∷◌, if◌then◌else◌, codes, Option, None, option_map}
use Rattle.std.specs.List.{filter_map}
use Rattle.rl_names.specs.declared.part.Source.{Source}
use Rattle.rl_names.specs.declared.row.Row.{Row}
use Rattle.rl_wire.specs.Startup.{startup_text}
use Rattle.rl_wire.specs.declared.startup.Startup.{Startup}
use Rattle.rl_build.specs.declared.context.Context.{Context}
use Rattle.rl_build.specs.Payload.{payload_of, version_of}
use Rattle.rl_build.specs.Sheet.{all_names, sheet_of}
use Rattle.rl_build.specs.Sight.{Sight}
use Rattle.rl_compact.specs.Compact.{compacted}
use Rattle.rl_startup.specs.declared.modules.Module.{Module}
use Rattle.rl_startup.specs.Rows.{is_private, rows_of}

-- ---- the modules

-- the version of what a name brings; in the group `private` there is none
abbrev pub version_in : Sight → Context → List ℕ → List ℕ → Option (List ℕ)
version_in s ctx name group = if is_private group then None else option_map version_of (payload_of s ctx name)

-- the module of a name, where the name has a sheet
abbrev pub module_of : Sight → Context → List ℕ → Option Module
module_of s ctx name =
    option_map (λ sheet. record { name = name; sheet = sheet; version = version_in s ctx name sheet.group }) (sheet_of s ctx name)

-- the modules of all names with a sheet, in byte order
abbrev pub modules_of : Sight → Context → List Module
modules_of s ctx = filter_map (module_of s ctx) (all_names s)

-- ---- the startup text

-- the rows of the registry, with all the dependencies that the sheets say
unfoldable pub all_rows : Sight → Context → List Row
all_rows s ctx = rows_of (modules_of s ctx)

-- this wiki serves its modules itself
abbrev pub this_wiki : List Source
this_wiki = record { name = codes "local"; url = codes "/load.php" } ∷ []

-- a client starts from the rows without the dependencies that others bring
unfoldable pub start_of : Sight → Context → Startup
start_of s ctx = record { sources = this_wiki; rows = compacted (all_rows s ctx) }

unfoldable pub startup_text_of : Sight → Context → List ℕ
startup_text_of s ctx = startup_text (start_of s ctx)
