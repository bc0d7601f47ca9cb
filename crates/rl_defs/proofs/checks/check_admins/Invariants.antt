use Rattle.std.proofs.Common.{◌≡◌, drop}
use Rattle.rl_defs.specs.Breach.{bad_admin}
use Rattle.rl_defs.proofs.checks.check_admins.Given as goal

-- the admins that are left answer for all
abbrev pub invariant-admins : goal.invariant-admins
invariant-admins l = bad_admin (drop l.admin-index l.admins) ≡ bad_admin l.admins
