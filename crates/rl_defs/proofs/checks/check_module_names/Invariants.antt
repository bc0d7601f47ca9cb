use Rattle.std.proofs.Common.{◌≡◌, drop}
use Rattle.rl_defs.specs.Breach.{bad_module_name}
use Rattle.rl_defs.proofs.checks.check_module_names.Given as goal

-- the modules that are left answer for all
abbrev pub invariant-modules : goal.invariant-modules
invariant-modules l = bad_module_name (drop l.module-index l.modules) ≡ bad_module_name l.modules
