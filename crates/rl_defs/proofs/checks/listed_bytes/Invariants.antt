use Rattle.std.proofs.Common.{◌≡◌, ◌-◌, ◌^◌, min, take}
use Rattle.std.specs.Prelude.{sum_by}
use Rattle.rl_defs.specs.Breach.{listed_bytes_of}
use Rattle.rl_defs.proofs.checks.listed_bytes.Given as goal

-- the bytes of the modules so far
abbrev pub invariant-modules : goal.invariant-modules
invariant-modules l = l.count ≡ min (sum_by (listed_bytes_of l.draft) (take l.module-index l.module-items)) (2 ^ 64 - 1)
