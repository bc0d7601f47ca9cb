use Rattle.std.proofs.Common.{◌≡◌, ◌++◌}
use Rattle.serde_json.specs.View.{members_view}
use Rattle.rl_wire.specs.StartupReading.{sources_among}
use Rattle.rl_wire.proofs.sources.sources_among.Given as goal

-- those so far, and those that are left
abbrev pub invariant-members : goal.invariant-members
invariant-members l = l.sources.items ++ sources_among (members_view l.name-iterator) ≡ sources_among (members_view l.fn.members.entries)
