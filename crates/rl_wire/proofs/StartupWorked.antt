-- Startup texts, computed on the definitions.
use Rattle.std.proofs.Common.{◌≡◌, ℕ, List, [], ◌∷◌, codes, Option, Some, None, Ok, Err, refl}
use Rattle.std.specs.Str.{is_utf8, chars}
use lib.Utf8.{encode}
use Rattle.std.specs.Fmt.{digits}
use Rattle.json.specs.Print.{escape_byte}
use Rattle.serde_json.proofs.OnLiterals.{serde_json_on_literals}
use Rattle.rl_names.specs.declared.row.Dep.{Dep}
use Rattle.rl_names.specs.declared.row.Dep.TheVariants.{At, Named}
use Rattle.rl_names.specs.declared.row.Group.{Group}
use Rattle.rl_names.specs.declared.row.Group.TheVariants.{Plain, User, Private, Other}
use Rattle.rl_names.specs.declared.row.Row.{Row}
use Rattle.rl_wire.specs.declared.startup.Startup.{Startup}
use Rattle.rl_wire.specs.Startup.{startup_text}
use Rattle.rl_wire.specs.StartupReading.{startup_of}

row : List ℕ → Option (List ℕ) → List Dep → Group → Row
row name version deps group = record { name = name; version = version; deps = deps; group = group; source = []; skip = None }

-- fields that are empty, left out and blank
some_rows : Startup
some_rows = record {
  sources = record { name = codes "local"; url = codes "/load.php" } ∷ [];
  rows = row (codes "a") (Some (codes "aaaaa")) [] Plain
      ∷ row (codes "b") (Some (codes "bbbbb")) [] (Other 2)
      ∷ row (codes "p") None [] Private
      ∷ row (codes "user") (Some (codes "uuuuu")) (At 1 ∷ Named (codes "zz") ∷ []) User
      ∷ record { name = codes "s"; version = Some (codes "sssss"); deps = []; group = Plain; source = codes "x"; skip = Some (codes "f") } ∷ [];
}

some_text : List ℕ
some_text = codes "mw.loader.addSource({\"local\":\"/load.php\"});\nmw.loader.register([[\"a\",\"aaaaa\"],[\"b\",\"bbbbb\",[],2],[\"p\",\"\",[],1],[\"user\",\"uuuuu\",[1,\"zz\"],0],[\"s\",\"sssss\",[],null,\"x\",\"f\"]]);\n"

some_written : startup_text some_rows ≡ some_text
unfolding some_rows some_text row escape_byte digits
some_written = refl

some_read : startup_of some_text ≡ Ok some_rows
unfolding some_rows some_text row escape_byte digits is_utf8 chars encode serde_json_on_literals
some_read = refl

first_line_alone : startup_of (codes "mw.loader.addSource({\"local\":\"/load.php\"});\n") ≡ Err 2
unfolding escape_byte is_utf8 chars encode serde_json_on_literals
first_line_alone = refl

first_line_without_end : startup_of (codes "mw.loader.addSource({\"local\":\"/load.php\"});") ≡ Err 1
unfolding escape_byte is_utf8 chars encode serde_json_on_literals
first_line_without_end = refl

-- a trailing field that is empty is left out
trailing_field : startup_of (codes "mw.loader.addSource({});\nmw.loader.register([[\"a\",\"aaaaa\",[]]]);\n") ≡ Err 2
unfolding escape_byte is_utf8 chars encode serde_json_on_literals
trailing_field = refl

-- no source is named `local`
local_source : startup_of (codes "mw.loader.addSource({});\nmw.loader.register([[\"a\",\"aaaaa\",[],null,\"local\"]]);\n") ≡ Err 2
unfolding escape_byte is_utf8 chars encode serde_json_on_literals
local_source = refl
