use Rattle.std.proofs.Common.{◌≡◌, true, take, string_bytes}
use Rattle.std.specs.List.{flat_map}
use Rattle.rl_build.specs.Sight.{sight}
use Rattle.rl_loadphp.specs.Steps.{styles_of, version_in}
use Rattle.rl_loadphp.proofs.texts.styles.Given as goal

abbrev pub invariant-served : goal.invariant-served
invariant-served l = record {
  body : string_bytes l.body ≡ flat_map (styles_of (sight l.catalog l.pages.entries l.viewer) l.ctx) (take l.name-index l.name-items);
  versions : l.wanted ≡ true → l.versions.items ≡ flat_map (version_in (sight l.catalog l.pages.entries l.viewer) l.ctx) (take l.name-index l.name-items);
}
