use Rattle.std.proofs.Common.{◌≡◌, drop}
use Rattle.rl_defs.specs.Breach.{bad_source_among}
use Rattle.rl_defs.proofs.checks.check_sources.Given as goal

-- the modules that are left answer for all
abbrev pub invariant-modules : goal.invariant-modules
invariant-modules l = bad_source_among (drop l.module-index l.module-items) ≡ bad_source_among l.module-items
