use Rattle.std.proofs.Common.{◌≡◌, map, take}
use Rattle.rl_defs.specs.declared.module_def.ModuleDef.{ModuleDef}
use Rattle.rl_build.proofs.all_names.names_of_modules.Given as goal

abbrev pub invariant-modules : goal.invariant-modules
invariant-modules l = l.names.items ≡ map (λ (m : ModuleDef). m.name) (take l.module-index l.modules)
