use Rattle.std.proofs.Common.{◌≡◌, drop}
use Rattle.rl_defs.specs.Breach.{too_many_dependencies}
use Rattle.rl_defs.proofs.checks.check_dependency_counts.Given as goal

-- the modules that are left answer for all
abbrev pub invariant-modules : goal.invariant-modules
invariant-modules l = too_many_dependencies (drop l.module-index l.modules) ≡ too_many_dependencies l.modules
