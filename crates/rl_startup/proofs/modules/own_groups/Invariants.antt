use Rattle.std.proofs.Common.{◌≡◌, ◌++◌, ◌≤◌, drop, filter, length, map}
use Rattle.rl_startup.specs.declared.modules.Module.{Module}
use Rattle.rl_startup.specs.Rows.{is_own}
use Rattle.rl_startup.proofs.modules.own_groups.Given as goal

-- those so far, and those of the modules that are left
abbrev pub invariant-modules : goal.invariant-modules
invariant-modules l = record {
  groups : l.groups.items ++ filter is_own (map (λ (m : Module). m.sheet.group) (drop l.module-index l.modules))
      ≡ filter is_own (map (λ (m : Module). m.sheet.group) l.modules);
  few : length l.groups.items ≤ l.module-index;
}
