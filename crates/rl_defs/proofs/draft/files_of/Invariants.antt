use Rattle.std.proofs.Common.{◌≡◌, ◌++◌}
use Rattle.toml.specs.View.{members_view}
use Rattle.rl_defs.specs.Breach.{unknown_among}
use Rattle.rl_defs.specs.Fields.{fields_at, InFiles}
use Rattle.rl_defs.specs.Draft.{files_of}
use Rattle.rl_defs.proofs.draft.files_of.Given as goal

-- those so far, and those that are left, which answer for all
abbrev pub invariant-files : goal.invariant-files
invariant-files l =
    (l.files.items ++ files_of (members_view l.name-iterator) ≡ files_of (members_view l.fn.table.entries))
    × (unknown_among (fields_at InFiles (members_view l.name-iterator)) ≡ unknown_among (fields_at InFiles (members_view l.fn.table.entries)))
