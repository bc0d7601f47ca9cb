use Rattle.std.proofs.Common.{◌≡◌}
use Rattle.std.specs.List.Sorted.{IsStrictlySortedBy}
use Rattle.std.specs.Map.{keys_of}
use Rattle.std.specs.String.{string_cmp}
use Rattle.toml.specs.View.{members_view}
use Rattle.rl_defs.specs.Breach.{unknown_among}
use Rattle.rl_defs.specs.Fields.{fields_at, InWiki}
use Rattle.rl_defs.specs.Draft.{wiki_with}
use Rattle.rl_defs.proofs.draft.Draft.take_wiki.Given as goal

-- what was said so far and what is left come to the whole; the fields that are left answer for all; no key comes twice
abbrev pub invariant-fields : goal.invariant-fields
invariant-fields l =
    (wiki_with l.self (members_view l.key-iterator) ≡ wiki_with l.initial.self (members_view l.initial.key-iterator))
    × (unknown_among (fields_at InWiki (members_view l.key-iterator)) ≡ unknown_among (fields_at InWiki (members_view l.initial.key-iterator)))
    × IsStrictlySortedBy string_cmp (keys_of l.key-iterator)
