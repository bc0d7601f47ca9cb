-- Sorted rows cut where a row does not go on with those before it.
use Rattle.std.specs.Prelude.{◌≡◌, ℕ, ◌<◌, ◌+◌, ◌&&◌, ◌==◌, ◌∷◌, [], ◌++◌, List, drop, take, Bool, All}
use Rattle.std.specs.Prelude.{if◌then◌else◌, bytes_eq, map, nat_le, option_and_then, slice_get, Option, Some}
use Rattle.std.specs.Borrow.{Bor}
use Rattle.rl_names.specs.declared.query.Query.{Query}
use Rattle.rl_names.specs.declared.row.Row.{Row}
use Rattle.rl_view_spec.specs.Closure.{Text, Registered}
use Rattle.rl_view_spec.specs.Numbers.{number_of}
use Rattle.rl_view_spec.specs.Progress.{HasDistinctNames}
use Rattle.rl_book_spec.specs.Batches.{Numbered, added_len, collected_len, goes_on, group_rank, is_one_split, names_in, source_name}

-- a number beside a row that is borrowed
abbrev pub seen : ℕ × Bor Row → Numbered
seen pair = (pair.0, pair.1.now)

-- the rows of a registry with their numbers
pub record AreOf (r : Registered) (rows : List Numbered) : Type 0 where
  pub there : All (λ numbered. slice_get r.rows numbered.0 ≡ Some numbered.1) rows
  pub distinct : HasDistinctNames r

abbrev pub cuts_from : {X : Type 0} → (List X → X → Bool) → List X → List X → List (List X)
cuts_from joins batch [] = batch ∷ []
cuts_from joins batch (x ∷ xs) = if joins batch x then cuts_from joins (batch ++ x ∷ []) xs else batch ∷ cuts_from joins (x ∷ []) xs

-- a list cut before each element that does not join what was collected since the last cut
abbrev pub cuts : {X : Type 0} → (List X → X → Bool) → List X → List (List X)
cuts joins [] = []
cuts joins (x ∷ xs) = cuts_from joins (x ∷ []) xs

abbrev pub goes : Query → ℕ → List Numbered → Numbered → Bool
goes base limit rows numbered = goes_on base limit rows numbered

-- two rows have one source and one group
abbrev pub is_split : Row → Row → Bool
is_split a b = bytes_eq (source_name a.source) (source_name b.source) && (group_rank a.group == group_rank b.group)

-- a row goes on behind a base of this length
abbrev pub fits : ℕ → ℕ → List Numbered → Numbered → Bool
fits base limit rows numbered =
    is_one_split rows numbered
    && nat_le (base + 23 + collected_len (names_in rows) + added_len (names_in rows) numbered.1.name) limit

-- so many of the rows are what is cut off first
abbrev pub Fills : ℕ → ℕ → List Numbered → ℕ → Type 0
Fills base limit rows count =
    (joins : List Numbered → Numbered → Bool) (first : Numbered) (more : List Numbered) → rows ≡ first ∷ more
    → ((batch : List Numbered) (x : Numbered) → joins (first ∷ batch) x ≡ fits base limit (first ∷ batch) x)
    → cuts joins rows ≡ take count rows ∷ cuts joins (drop count rows)

-- so many of the rows go on with one another
abbrev pub Open : ℕ → ℕ → List Numbered → ℕ → Type 0
Open base limit rows at =
    (joins : List Numbered → Numbered → Bool) (first : Numbered) (more : List Numbered) → rows ≡ first ∷ more
    → ((batch : List Numbered) (x : Numbered) → joins (first ∷ batch) x ≡ fits base limit (first ∷ batch) x)
    → 0 < at → cuts joins rows ≡ cuts_from joins (take at rows) (drop at rows)

abbrev pub version_at : Registered → Text → Option Text
version_at r name = option_and_then (λ row. option_and_then (λ found. found.version) (slice_get r.rows row)) (number_of r name)

abbrev pub numbers_in : List Numbered → List ℕ
numbers_in rows = map (λ numbered. numbered.0) rows

abbrev pub head_source : List Numbered → Text
head_source [] = []
head_source (row ∷ rows) = row.1.source
