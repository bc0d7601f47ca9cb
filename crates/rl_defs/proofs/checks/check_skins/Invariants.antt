use Rattle.std.proofs.Common.{◌≡◌, drop}
use Rattle.rl_defs.specs.Breach.{bad_skin}
use Rattle.rl_defs.proofs.checks.check_skins.Given as goal

-- the skins that are left answer for all
abbrev pub invariant-skins : goal.invariant-skins
invariant-skins l = bad_skin (drop l.skin-index l.skins) ≡ bad_skin l.skins
