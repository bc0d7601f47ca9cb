use Rattle.std.proofs.Common.{◌≡◌, map, take}
use Rattle.rl_startup.specs.Places.{place_by}
use Rattle.rl_startup.specs.Rows.{dep_of}
use Rattle.rl_startup.proofs.modules.deps_of.Given as goal

-- those so far
abbrev pub invariant-deps : goal.invariant-deps
invariant-deps l = l.made.items ≡ map (dep_of (place_by l.names)) (take l.dep-index l.deps)
