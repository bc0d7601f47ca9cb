use Rattle.rl_build.specs.Sight.{sight}
use Rattle.rl_startup.specs.Registry.{module_of}
use Rattle.rl_startup.proofs.RegistryLemmas.{Made}
use Rattle.rl_startup.proofs.registry.modules.Given as goal

-- the modules of the names so far
abbrev pub invariant-names : goal.invariant-names
invariant-names l = Made (module_of (sight l.catalog l.pages.entries l.viewer) l.ctx) l.name-items l.name-index l.modules.items
