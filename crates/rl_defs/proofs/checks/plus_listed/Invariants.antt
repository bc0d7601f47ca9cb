use Rattle.std.proofs.Common.{◌≡◌, ◌+◌, ◌-◌, ◌^◌, min, take}
use Rattle.rl_defs.specs.Breach.{listed_bytes_among}
use Rattle.rl_defs.proofs.checks.plus_listed.Given as goal

-- the bytes of the files so far
abbrev pub invariant-files : goal.invariant-files
invariant-files l = l.count ≡ min (l.before + listed_bytes_among l.draft (take l.file-index l.file-items)) (2 ^ 64 - 1)
