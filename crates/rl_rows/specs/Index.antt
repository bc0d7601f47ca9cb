-- An index of rows: their numbers, in the order of their names.
use Rattle.std.specs.Prelude.{◌≡◌, ◌≢◌, ℕ, ◌<◌, List, [], Bool, true, false, Option, Some, None, AllPairs, length, slice_get, IsPermutation}
use Rattle.std.specs.List.{range_with_len}
use Rattle.std.specs.List.Sorted.{IsSortedByKey}
use Rattle.std.specs.Option.{option_map_or}
use Rattle.std.specs.Ordering.{nat_cmp, is_lt}
use Rattle.std.specs.Cmp.Lexicographic.{slice_cmp}
use Rattle.rl_names.specs.declared.row.Row.{Row}
use Rattle.rl_view_spec.specs.Closure.{Text, Registered}
use Rattle.rl_view_spec.specs.Progress.{name_at}

-- the name of the row of a number, and none past the last row
abbrev pub name_in : List Row → ℕ → Text
name_in rows row = option_map_or (λ found. found.name) (slice_get rows row) []

abbrev pub AreDistinct : List Row → Type 0
AreDistinct rows = AllPairs (λ a b. a.name ≢ b.name) rows

-- each number of a row once, in the byte order of the names
pub record IsIndex (rows : List Row) (order : List ℕ) : Type 0 where
  pub shuffled : IsPermutation (range_with_len 0 (length rows)) order
  pub sorted : IsSortedByKey (name_in rows) (slice_cmp nat_cmp) order

-- the row of least name, in byte order, of those that pass the test, or none where none passes
abbrev pub IsLeastRow : Registered → (ℕ → Bool) → Option ℕ → Type 0
IsLeastRow r test None = (k : ℕ) → k < length r.rows → test k ≡ false
IsLeastRow r test (Some row) =
    (row < length r.rows) × (test row ≡ true) × ((k : ℕ) → k < length r.rows → test k ≡ true →
    is_lt (slice_cmp nat_cmp (name_at r k) (name_at r row)) ≡ false)
