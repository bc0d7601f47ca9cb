-- Rows that a registry takes, and of which a startup text may be written.
use Rattle.std.specs.Prelude.{◌≡◌, ℕ, ◌≤◌, List, [], length}
use Rattle.std.specs.List.{AllByRecursion, filter_map}
use Rattle.rl_names.specs.Limits.{limit_of}
use Rattle.rl_names.specs.declared.counted.Counted.TheVariants as counted
use Rattle.rl_names.specs.declared.row.Row.{Row}
use Rattle.rl_view_spec.specs.Breach.{bad_index, repeated}
use Rattle.rl_wire.specs.Startup.{AreWritable}
use Rattle.rl_startup.specs.Laws.{HaveAtMost}

-- each dependency by number has a row among so many
abbrev pub HaveDepsBelow : ℕ → List Row → Type 0
HaveDepsBelow count rows = AllByRecursion (λ (row : Row). filter_map (bad_index count) row.deps ≡ []) rows

-- few rows with few dependencies, each name once, each dependency by number with a row, and each of them may be written
pub record Fine (rows : List Row) : Type 0 where
  pub few : length rows ≤ limit_of counted.Rows
  pub few_deps : HaveAtMost (limit_of counted.Dependencies) rows
  pub once : repeated rows ≡ []
  pub below : HaveDepsBelow (length rows) rows
  pub writable : AreWritable rows
