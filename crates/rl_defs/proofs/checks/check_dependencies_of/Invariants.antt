use Rattle.std.proofs.Common.{◌≡◌, drop}
use Rattle.rl_defs.specs.Breach.{bad_dependency_among}
use Rattle.rl_defs.proofs.checks.check_dependencies_of.Given as goal

-- the names that are left answer for all
abbrev pub invariant-names : goal.invariant-names
invariant-names l = bad_dependency_among l.draft l.module.name (drop l.name-index l.name-items) ≡ bad_dependency_among l.draft l.module.name l.name-items
