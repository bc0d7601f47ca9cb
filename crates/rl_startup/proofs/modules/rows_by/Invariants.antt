use Rattle.std.proofs.Common.{◌≡◌, map, take}
use Rattle.rl_startup.specs.Places.{place_by}
use Rattle.rl_startup.specs.Rows.{row_of}
use Rattle.rl_startup.proofs.modules.rows_by.Given as goal

-- those so far
abbrev pub invariant-modules : goal.invariant-modules
invariant-modules l = l.rows.items ≡ map (row_of (place_by l.names) (place_by l.groups)) (take l.module-index l.modules)
