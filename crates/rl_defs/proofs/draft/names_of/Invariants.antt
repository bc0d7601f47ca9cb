use Rattle.std.proofs.Common.{◌≡◌, ◌++◌, true}
use Rattle.std.specs.List.{list_all}
use Rattle.std.specs.Vec.Iter.{into_iter_items}
use Rattle.rl_names.specs.Name.{is_name}
use Rattle.rl_defs.proofs.draft.names_of.Given as goal

-- those so far, and those that are left, which have names
abbrev pub invariant-texts : goal.invariant-texts
invariant-texts l = (l.names.items ++ into_iter_items l.text-iterator ≡ l.fn.texts) × (list_all is_name (into_iter_items l.text-iterator) ≡ true)
