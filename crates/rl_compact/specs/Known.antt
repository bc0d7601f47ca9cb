-- What is known of rows when they are compacted.
use Rattle.std.specs.Prelude.{◌≡◌, ℕ, List, Bool, map}
use Rattle.rl_names.specs.declared.row.Row.{Row}
use Rattle.rl_view_spec.specs.Numbers.{needed}
use Rattle.rl_view_spec.specs.Progress.{HasDistinctNames}
use Rattle.rl_rows.specs.Edges.{HasDepsWithin}
use Rattle.rl_compact.specs.Compact.{plain, barest}
use Rattle.rl_compact.specs.Laws.{lacks}
use Rattle.rl_compact.specs.Unresolved.{MarkUnresolved}

-- what each row depends on, without features and where each row that may be skipped is, and which rows stay as they are
pub record Known (rows : List Row) (edges bare : List (List ℕ)) (stays : List Bool) : Type 0 where
  pub distinct : HasDistinctNames (plain rows)
  pub within : HasDepsWithin (plain rows)
  pub edges_are : edges ≡ map (needed (plain rows)) rows
  pub bare_are : bare ≡ map (needed (barest rows)) rows
  pub unresolved : MarkUnresolved edges (map (lacks rows) rows) stays
