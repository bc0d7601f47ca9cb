-- What compaction changes, and what it does not.
use Rattle.std.specs.Prelude.{◌≡◌, ◌≢◌, ◌↔◌, ◌==◌, ℕ, ◌<◌, List, Bool, true, false, not, AllPairs, Contains, IsTrue, flat_map}
use Rattle.std.specs.Prelude.{length, map, slice_get, slice_set, Some, None}
use Rattle.std.specs.List.{list_all, list_any, remove}
use Rattle.std.specs.Option.{option_map_or}
use Rattle.rl_names.specs.declared.row.Row.{Row}
use Rattle.rl_names.specs.declared.row.Dep.{Dep}
use Rattle.rl_view_spec.specs.Closure.{Text, dep_name, in_closure, resolves}
use Rattle.rl_graph.specs.Graph.{next_in, marked, MarksReached}
use Rattle.rl_view_spec.specs.Direct.{is_within}
use Rattle.rl_view_spec.specs.Numbers.{needed}
use Rattle.rl_view_spec.specs.Progress.{name_at, HasDistinctNames}
use Rattle.rl_compact.specs.Unmarked.{unmarked}
use Rattle.rl_compact.specs.Unresolved.{MarkUnresolved}
use Rattle.rl_compact.specs.Compact.{plain, barest, names_in, left, compacted, brings, Brings}

-- the test says what chains do
abbrev pub BringsByChains : Type 0
BringsByChains = (rows : List Row) (from last : Text) → IsTrue (brings rows from last) ↔ Brings rows from last

-- closures are the same, under every set of features
abbrev pub ClosuresStay : Type 0
ClosuresStay =
    (rows : List Row) (features : List Text) (name member : Text)
    → in_closure (record { rows = compacted rows; features = features }) name member ≡ in_closure (record { rows = rows; features = features }) name member

-- the row, without the dependency that stands there
abbrev pub less_row : ℕ → Row → Row
less_row j row = record row { deps = remove row.deps j }

-- the rows, without one dependency of one row
abbrev pub less : List Row → ℕ → ℕ → List Row
less rows k j = option_map_or (λ row. slice_set rows k (less_row j row)) (slice_get rows k) rows

-- under some set of features the closure of the name has lost a member
pub record Loses (rows rows' : List Row) (name : Text) : Type 0 where
  pub features : List Text
  pub member : Text
  pub had : in_closure (record { rows = rows; features = features }) name member ≡ true
  pub lost : in_closure (record { rows = rows'; features = features }) name member ≡ false

-- a row without a skip, whose closure without features resolves, and which depends on no name twice
pub record IsPlainRow (rows : List Row) (row : Row) : Type 0 where
  pub skip : row.skip ≡ None
  pub closed : resolves (plain rows) row.name ≡ true
  pub once : AllPairs (λ a b. a ≢ b) (names_in rows row)

-- each dependency that is left in such a row is needed
abbrev pub EachIsNeeded : Type 0
EachIsNeeded =
    (rows : List Row) (k j : ℕ) (row : Row) (dep : Dep) (name : Text) → HasDistinctNames (plain rows) → slice_get rows k ≡ Some row →
    IsPlainRow rows row
    → slice_get (left rows row) j ≡ Some dep → dep_name (plain rows) dep ≡ Some name
    → Loses (compacted rows) (less (compacted rows) k j) row.name

-- Where the edges are those of rows without a skip, and the marks are what chains of two or more numbers lead to from
-- the row's dependencies, the mark of a row says whether one of them brings it.
abbrev pub MarksSayBrought : Type 0
MarksSayBrought =
    (rows : List Row) (edges : List (List ℕ)) (row : Row) (marks : List Bool) (k : ℕ) → HasDistinctNames (plain rows) →
    edges ≡ map (needed (barest rows)) rows
    → MarksReached edges (flat_map (next_in edges) (needed (plain rows) row)) marks → k < length rows
    → marked marks k ≡ list_any (λ from. brings rows from (name_at (plain rows) k)) (names_in rows row)

-- some dependency of the row has no row
abbrev pub lacks : List Row → Row → Bool
lacks rows row = not (length (needed (plain rows) row) == length row.deps)

-- where the edges are those without features, the marks say which rows stay as they are
abbrev pub MarksSayUnresolved : Type 0
MarksSayUnresolved =
    (rows : List Row) (edges : List (List ℕ)) (marks : List Bool) (k : ℕ) → HasDistinctNames (plain rows)
    → ((row : Row) → Contains rows row → list_all (is_within (plain rows)) row.deps ≡ true) → edges ≡ map (needed (plain rows)) rows
    → MarkUnresolved edges (map (lacks rows) rows) marks → k < length rows → marked marks k ≡ not (resolves (plain rows) (name_at (plain rows) k))

-- what is left of a row that resolves is what is not marked
abbrev pub LeftIsUnmarked : Type 0
LeftIsUnmarked =
    (rows : List Row) (edges : List (List ℕ)) (row : Row) (marks : List Bool) → HasDistinctNames (plain rows) → edges ≡ map (needed (barest rows)) rows
    → MarksReached edges (flat_map (next_in edges) (needed (plain rows) row)) marks → resolves (plain rows) row.name ≡ true → lacks rows row ≡ false
    → left rows row ≡ unmarked row.deps (needed (plain rows) row) marks
