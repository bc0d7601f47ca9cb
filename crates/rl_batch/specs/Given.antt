-- Rows that a registry is asked for, and what is promised of their batches.
use Rattle.std.specs.Prelude.{◌≡◌, ◌≢◌, ◌≤◌, ◌<◌, ◌⊎◌, ◌^◌, ℕ, List, [], Bool, false, All, AllPairs, IsFalse}
use Rattle.std.specs.Prelude.{length, flat_map, option_map, slice_get}
use Rattle.std.specs.List.{filter_map}
use Rattle.std.specs.List.Sorted.{IsPermutation}
use Rattle.std.specs.Option.{option_map_or}
use Rattle.rl_names.specs.Query.{size_of}
use Rattle.rl_names.specs.declared.query.Query.{Query}
use Rattle.rl_view_spec.specs.Closure.{Registered}
use Rattle.rl_book_spec.specs.Batches.{Numbered}
use Rattle.rl_view_spec.specs.Rows.{is_private}
use Rattle.rl_book_spec.specs.declared.Batch.{Batch}

-- the rows of these numbers, with their numbers
abbrev pub numbered_rows : Registered → List ℕ → List Numbered
numbered_rows r rows = filter_map (λ row. option_map (λ found. (row, found)) (slice_get r.rows row)) rows

abbrev pub is_private_at : Registered → ℕ → Bool
is_private_at r row = option_map_or (λ found. is_private found.group) (slice_get r.rows row) false

-- rows that may be asked for: each has a number below the count, stands once, and is not private
pub record MayBeAsked (r : Registered) (rows : List ℕ) : Type 0 where
  pub within : All (λ row. row < length r.rows) rows
  pub once : AllPairs (λ a b. a ≢ b) rows
  pub public : All (λ row. IsFalse (is_private_at r row)) rows

-- what queries begin with: no modules and no version
pub record IsBase (base : Query) : Type 0 where
  pub modules : base.modules ≡ []
  pub version : base.version ≡ []
  pub short : size_of base < 2 ^ 59

-- together the batches hold each row once, and a query is within the limit unless it asks for one row
pub record AskFor (rows : List ℕ) (limit : ℕ) (batches : List Batch) : Type 0 where
  pub each : IsPermutation rows (flat_map (λ batch. batch.rows) batches)
  pub fits : All (λ batch. (length batch.query ≤ limit) ⊎ (length batch.rows ≡ 1)) batches
