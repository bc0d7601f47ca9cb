use Rattle.std.proofs.Common.{◌≡◌, take, drop, string_bytes, IfSome, List, ℕ}
use Rattle.std.specs.List.{flat_map, AllByRecursion}
use Rattle.rl_wire.specs.Line.{IsPart}
use Rattle.rl_build.specs.Sight.{sight}
use Rattle.rl_loadphp.specs.Body.{implementation_of}
use Rattle.rl_loadphp.specs.Steps.{line_of, version_in}
use Rattle.rl_loadphp.proofs.lines.modules.Given as goal

-- where what is left brings parts, all do
abbrev pub invariant-served : goal.invariant-served
invariant-served l = record {
  body : string_bytes l.body ≡ flat_map (line_of (sight l.catalog l.pages.entries l.viewer) l.ctx) (take l.name-index l.name-items);
  versions : l.versions.items ≡ flat_map (version_in (sight l.catalog l.pages.entries l.viewer) l.ctx) (take l.name-index l.name-items);
  parts : AllByRecursion (λ (name : List ℕ). IfSome (implementation_of (sight l.catalog l.pages.entries l.viewer) l.ctx name) IsPart)
      (drop l.name-index l.name-items)
      → AllByRecursion (λ (name : List ℕ). IfSome (implementation_of (sight l.catalog l.pages.entries l.viewer) l.ctx name) IsPart) l.name-items;
}
