use Rattle.std.proofs.Common.{◌≡◌}
use Rattle.std.specs.List.Sorted.{IsStrictlySortedBy}
use Rattle.std.specs.Map.{keys_of}
use Rattle.std.specs.String.{string_cmp}
use Rattle.toml.specs.View.{members_view}
use Rattle.rl_defs.specs.Breach.{unknown_among}
use Rattle.rl_defs.specs.Fields.{fields}
use Rattle.rl_defs.specs.Draft.{draft_with, IsDraft}
use Rattle.rl_defs.proofs.draft.Draft.of.Given as goal

-- what was said so far and what is left come to the whole; the fields that are left answer for all; no key comes twice
abbrev pub invariant-tables : goal.invariant-tables
invariant-tables l =
    (draft_with l.draft (members_view l.key-iterator) ≡ draft_with l.initial.draft (members_view l.initial.key-iterator))
    × (unknown_among (fields (members_view l.key-iterator)) ≡ unknown_among (fields (members_view l.initial.key-iterator)))
    × IsDraft l.draft
    × IsStrictlySortedBy string_cmp (keys_of l.key-iterator)
