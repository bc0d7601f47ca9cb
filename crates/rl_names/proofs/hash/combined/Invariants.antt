use Rattle.std.proofs.Common.{◌≡◌, take}
use Rattle.std.specs.Prelude.{flat_map}
use Rattle.rl_names.specs.Hash.{fnv}
use Rattle.rl_names.proofs.hash.combined.Given as goal

abbrev pub invariant-loop-version : goal.invariant-loop-version
invariant-loop-version l = l.hasher ≡ fnv (flat_map (λ version. version) (take l.version-index l.versions))
