use Rattle.std.proofs.Common.{◌≡◌}
use Rattle.std.specs.List.Sorted.{IsStrictlySortedBy}
use Rattle.std.specs.Map.{keys_of}
use Rattle.std.specs.String.{string_cmp}
use Rattle.toml.specs.View.{members_view}
use Rattle.rl_defs.specs.Breach.{unknown_among}
use Rattle.rl_defs.specs.Fields.{fields_at, InModule}
use Rattle.rl_defs.specs.Draft.{module_with}
use Rattle.rl_defs.proofs.draft.ModuleDraft.of.Given as goal

-- what was said so far and what is left come to the whole; the fields that are left answer for all; no key comes twice
abbrev pub invariant-fields : goal.invariant-fields
invariant-fields l =
    (module_with l.module (members_view l.key-iterator) ≡ module_with l.initial.module (members_view l.initial.key-iterator))
    × (unknown_among (fields_at (InModule l.initial.module.name) (members_view l.key-iterator))
    ≡ unknown_among (fields_at (InModule l.initial.module.name) (members_view l.initial.key-iterator)))
    × (l.module.name ≡ l.initial.module.name)
    × IsStrictlySortedBy string_cmp (keys_of l.key-iterator)
