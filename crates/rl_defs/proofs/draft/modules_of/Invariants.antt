use Rattle.std.proofs.Common.{◌≡◌, ◌++◌}
use Rattle.toml.specs.View.{members_view}
use Rattle.rl_defs.specs.Breach.{unknown_among}
use Rattle.rl_defs.specs.Fields.{modules_fields}
use Rattle.rl_defs.specs.Draft.{modules_of}
use Rattle.rl_defs.proofs.draft.modules_of.Given as goal

-- those so far, and those that are left, which answer for all
abbrev pub invariant-modules : goal.invariant-modules
invariant-modules l =
    (l.modules.items ++ modules_of (members_view l.name-iterator) ≡ modules_of (members_view l.fn.table.entries))
    × (unknown_among (modules_fields (members_view l.name-iterator)) ≡ unknown_among (modules_fields (members_view l.fn.table.entries)))
