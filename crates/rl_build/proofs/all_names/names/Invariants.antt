use Rattle.std.proofs.Common.{◌≡◌, ℕ, List, map, take}
use Rattle.std.specs.List.{fold}
use Rattle.rl_defs.specs.declared.module_def.ModuleDef.{ModuleDef}
use Rattle.rl_build.specs.declared.built_in.BuiltIn.{BuiltIn}
use Rattle.rl_build.specs.BuiltIn.{built_in_name}
use Rattle.rl_build.specs.Sheet.{put_name}
use Rattle.rl_build.proofs.all_names.names.Given as goal

abbrev pub invariant-all : goal.invariant-all
invariant-all l =
    l.names.items
    ≡ fold (λ (names : List (List ℕ)) (b : BuiltIn). put_name names (built_in_name b)) (map (λ (m : ModuleDef). m.name) l.fn.catalog.modules)
    (take l.built_in-index l.built_in-items)
