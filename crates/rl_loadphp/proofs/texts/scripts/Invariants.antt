use Rattle.std.proofs.Common.{◌≡◌, true, take, string_bytes}
use Rattle.std.specs.List.{flat_map}
use Rattle.rl_build.specs.Sight.{sight}
use Rattle.rl_loadphp.specs.Steps.{script_of, version_in}
use Rattle.rl_loadphp.proofs.texts.scripts.Given as goal

abbrev pub invariant-served : goal.invariant-served
invariant-served l = record {
  body : string_bytes l.body ≡ flat_map (script_of (sight l.catalog l.pages.entries l.viewer) l.ctx) (take l.name-index l.name-items);
  versions : l.wanted ≡ true → l.versions.items ≡ flat_map (version_in (sight l.catalog l.pages.entries l.viewer) l.ctx) (take l.name-index l.name-items);
}
