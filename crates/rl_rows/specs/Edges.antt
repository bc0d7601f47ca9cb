-- The edges of rows: for each the numbers of the rows that it depends on.
use Rattle.std.specs.Prelude.{◌≡◌, ℕ, ◌<◌, ◌↔◌, List, Bool, IsTrue, Some, length, map, slice_get, Contains}
use Rattle.std.specs.List.{list_all}
use Rattle.rl_names.specs.declared.row.Row.{Row}
use Rattle.rl_graph.specs.Graph.{next_in, IsWithin}
use Rattle.rl_view_spec.specs.Closure.{Registered, deps_of, has_feature}
use Rattle.rl_view_spec.specs.Direct.{is_within}
use Rattle.rl_view_spec.specs.Numbers.{needed}
use Rattle.rl_view_spec.specs.Progress.{name_at, HasDistinctNames}

-- each dependency by number has a row
abbrev pub HasDepsWithin : Registered → Type 0
HasDepsWithin r = (row : ℕ) (found : Row) → slice_get r.rows row ≡ Some found → IsTrue (list_all (is_within r) found.deps)

-- which rows are skipped
abbrev pub skips_of : Registered → List Bool
skips_of r = map (λ row. has_feature r row.skip) r.rows

-- no name stands twice, and the edges of a row lead to the rows that it depends on
pub record HasEdges (r : Registered) (edges : List (List ℕ)) : Type 0 where
  pub distinct : HasDistinctNames r
  pub edges_are : edges ≡ map (needed r) r.rows

-- the edges of a row lead to the rows of its dependencies
pub record IsIndexed (r : Registered) (edges : List (List ℕ)) : Type 0 where
  pub long : length edges ≡ length r.rows
  pub within : IsWithin edges
  pub distinct : (a b : ℕ) → a < length r.rows → b < length r.rows → name_at r a ≡ name_at r b → a ≡ b
  pub each : (a b : ℕ) → a < length r.rows → b < length r.rows → Contains (next_in edges a) b ↔ Contains (deps_of r (name_at r a)) (name_at r b)
