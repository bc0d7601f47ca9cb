use Rattle.std.proofs.Common.{◌≡◌, map, take}
use Rattle.rl_store.specs.Merging.{stays}
use Rattle.rl_store.proofs.merging.marks_of.Given as goal

-- the new pairs so far are no longer marked
abbrev pub invariant-fresh : goal.invariant-fresh
invariant-fresh l = l.marks.items ≡ map (stays l.registry (take l.stored-index l.fresh)) l.pairs
