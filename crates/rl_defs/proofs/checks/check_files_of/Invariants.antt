use Rattle.std.proofs.Common.{◌≡◌, drop}
use Rattle.rl_defs.specs.Breach.{no_file_among}
use Rattle.rl_defs.proofs.checks.check_files_of.Given as goal

-- the files that are left answer for all
abbrev pub invariant-files : goal.invariant-files
invariant-files l = no_file_among l.draft l.module.name (drop l.file-index l.file-items) ≡ no_file_among l.draft l.module.name l.file-items
