use Rattle.std.proofs.Common.{◌≡◌, drop}
use Rattle.rl_defs.specs.Breach.{first_of, no_file_of}
use Rattle.rl_defs.proofs.checks.check_files.Given as goal

-- the modules that are left answer for all
abbrev pub invariant-modules : goal.invariant-modules
invariant-modules l = first_of (no_file_of l.draft) (drop l.module-index l.module-items) ≡ first_of (no_file_of l.draft) l.module-items
