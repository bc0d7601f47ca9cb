-- What a registry keeps beside its rows.
use Rattle.std.specs.Prelude.{◌≡◌, ℕ, ◌<◌, ◌≤◌, List, Bool, length}
use Rattle.rl_names.specs.declared.counted.TheConstants as limits
use Rattle.rl_view_spec.specs.Closure.{Text, Registered, in_closures}
use Rattle.rl_view_spec.specs.Progress.{name_at}
use Rattle.rl_graph.specs.Graph.{marked}
use Rattle.rl_rows.specs.Edges.{HasDepsWithin, HasEdges, skips_of}
use Rattle.rl_rows.specs.Index.{IsIndex}

-- the index of the names, which rows are skipped, and the edges
pub record IsKept (r : Registered) (order : List ℕ) (skips : List Bool) (edges : List (List ℕ)) : Type 0 where
  pub few : length r.rows ≤ limits.MAX_ROWS
  pub within : HasDepsWithin r
  pub index : IsIndex r.rows order
  pub skips_are : skips ≡ skips_of r
  pub has_edges : HasEdges r edges

-- a mark for each row, which says whether it is in the closures of the names
pub record AreClosures (r : Registered) (names : List Text) (marks : List Bool) : Type 0 where
  pub long : length marks ≡ length r.rows
  pub each : (k : ℕ) → k < length r.rows → marked marks k ≡ in_closures r names (name_at r k)
