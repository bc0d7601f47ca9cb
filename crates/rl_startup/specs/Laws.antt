-- What holds of the rows of any modules.
use Rattle.std.specs.Prelude.{◌≡◌, ℕ, ◌≤◌, List, length, map}
use Rattle.std.specs.List.{AllByRecursion}
use Rattle.rl_names.specs.declared.row.Row.{Row}
use Rattle.rl_wire.specs.Startup.{AreWritable}
use Rattle.rl_startup.specs.declared.modules.Module.{Module}
use Rattle.rl_startup.specs.Rows.{names_of, rows_of, AreFit}

-- each has at most so many dependencies
abbrev pub HaveAtMost : ℕ → List Row → Type 0
HaveAtMost most rows = AllByRecursion (λ (r : Row). length r.deps ≤ most) rows

abbrev pub NeedAtMost : ℕ → List Module → Type 0
NeedAtMost most modules = AllByRecursion (λ (m : Module). length m.sheet.deps ≤ most) modules

-- the rows have the names of the modules, in their order, and as many dependencies as these; those of fit modules may be
-- written
pub record RowsAreLawful : Type 0 where
  pub names : (modules : List Module) → map (λ (r : Row). r.name) (rows_of modules) ≡ names_of modules
  pub deps : (modules : List Module) (most : ℕ) → NeedAtMost most modules → HaveAtMost most (rows_of modules)
  pub writable : (modules : List Module) → AreFit modules → AreWritable (rows_of modules)
