use Rattle.std.proofs.Common.{◌≡◌, ◌++◌, map, true}
use Rattle.std.specs.List.{list_all}
use Rattle.std.specs.Vec.Iter.{into_iter_items}
use Rattle.rl_defs.specs.Draft.{module_of, has_names}
use Rattle.rl_defs.proofs.draft.settled_modules.Given as goal

-- those so far, and those that are left, which have names
abbrev pub invariant-drafts : goal.invariant-drafts
invariant-drafts l = (l.modules.items ++ map module_of (into_iter_items l.draft-iterator) ≡ map module_of l.fn.drafts)
    × (list_all has_names (into_iter_items l.draft-iterator) ≡ true)
