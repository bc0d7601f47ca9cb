-- What follows of the definitions of a view, as statements.
use Rattle.std.specs.Prelude.{◌≡◌, ◌≢◌, ◌<◌, ◌↔◌, ◌⊎◌, ◌||◌, ◌==◌, ◌++◌, ◌∷◌, ℕ, Bool, List, Contains, IsTrue}
use Rattle.std.specs.Prelude.{IsFalse, length, Some, None, slice_get}
use Rattle.std.specs.List.{AllByRecursion, list_all}
use Rattle.std.specs.Ordering.{nat_cmp, is_lt}
use Rattle.std.specs.Cmp.Lexicographic.{slice_cmp}
use Rattle.rl_names.specs.declared.row.Row.{Row}
use Rattle.rl_view_spec.specs.Closure.{Text, Registered, InClosure, IsCyclic, Resolves, has_row, has_feature, Unknown, Cycle, refusal_of}
use Rattle.rl_view_spec.specs.Progress.{Progress, name_at, is_skipped_at, is_done, all_needed, is_runnable, next_row, phase_of, HasDistinctNames}
use Rattle.rl_view_spec.specs.Direct.{all_direct, is_directly_runnable, RanDirectly, after_run, dep_passes, is_within}
use Rattle.rl_view_spec.specs.View.{View, Event, all_answered, is_touched, is_good, is_implementation, first_of, progress_of, state_of, log_of}
use Rattle.rl_view_spec.specs.Headline.{IsLawful, RunsOnceAndAfter, Headline}
use Rattle.rl_view_spec.specs.declared.Phase.TheVariants as phase

-- each request of the events was accepted
abbrev pub AreLawful : View → List Event → Type 0
AreLawful v past = AllByRecursion (IsLawful v.registered) past

-- ---- direct dependencies and closures

-- where each row that ran had its direct dependencies done, those of a row are done exactly where all else of its closure is
abbrev pub DirectIsClosure : Type 0
DirectIsClosure =
    (t : Progress) → HasDistinctNames t.registered → RanDirectly t → (row : ℕ) → row < length t.registered.rows
    → all_needed t.registered row (λ other. other == row || is_done t other) ≡ all_direct t.registered row (λ other. other == row || is_done t other)

-- so a table that looks at direct dependencies alone runs the same rows
abbrev pub RunsDirectly : Type 0
RunsDirectly =
    (t : Progress) → HasDistinctNames t.registered → RanDirectly t → (row : ℕ) → row < length t.registered.rows
    → is_runnable t row ≡ is_directly_runnable t row

-- under the same premise a row is done exactly where all of its closure is
abbrev pub DoneIsClosure : Type 0
DoneIsClosure =
    (t : Progress) → HasDistinctNames t.registered → RanDirectly t → (row : ℕ) → row < length t.registered.rows
    → is_done t row ≡ all_needed t.registered row (is_done t)

-- a run of a runnable row keeps the premise
abbrev pub RanDirectlyStays : Type 0
RanDirectlyStays =
    (t : Progress) → HasDistinctNames t.registered → RanDirectly t → (row : ℕ) (threw : Bool) → row < length t.registered.rows
    → IsTrue (is_runnable t row) → RanDirectly (after_run t (row, threw))

-- each view has it
abbrev pub ViewsRanDirectly : Type 0
ViewsRanDirectly = (v : View) (past : List Event) → HasDistinctNames v.registered → RanDirectly (progress_of v past (log_of v past))

-- the direct dependencies, read off the row's list, where each number in it has a row
abbrev pub DirectByDeps : Type 0
DirectByDeps =
    (r : Registered) → HasDistinctNames r → (row : ℕ) (found : Row) (test : ℕ → Bool) → slice_get r.rows row ≡ Some found →
    IsTrue (list_all (is_within r) found.deps)
    → all_direct r row test ≡ (has_feature r found.skip || list_all (dep_passes r test) found.deps)

-- ---- the log

abbrev pub RunOnceAndAfter : Type 0
RunOnceAndAfter = (v : View) (past : List Event) → AreLawful v past → RunsOnceAndAfter v past

-- after each event nothing may run
abbrev pub RunsOut : Type 0
RunsOut = (v : View) (past : List Event) → next_row (progress_of v past (log_of v past)) ≡ None

-- nothing is taken away
abbrev pub LogGrows : Type 0
LogGrows = (v : View) (event : Event) (past : List Event) → (added : List ℕ) × (log_of v (event ∷ past) ≡ log_of v past ++ added)

-- A row that belongs in the log: it is touched, is not skipped, has an implementation, and all else that it needs is good.
pub record Belongs (v : View) (past : List Event) (row : ℕ) : Type 0 where
  pub inside : row < length v.registered.rows
  pub touched : IsTrue (is_touched v past (name_at v.registered row))
  pub kept : IsFalse (is_skipped_at v.registered row)
  pub answered : IsTrue (is_implementation (first_of v past (name_at v.registered row)))
  pub good : (other : Text) → InClosure v.registered (name_at v.registered row) other → other ≢ name_at v.registered row → IsTrue (is_good v past other)

abbrev pub LogHoldsWhatBelongs : Type 0
LogHoldsWhatBelongs =
    (v : View) (past : List Event) → AreLawful v past → HasDistinctNames v.registered
    → (row : ℕ) → Contains (log_of v past) row ↔ Belongs v past row

-- ---- the states

-- the table of a view tells the state of each row
abbrev pub ProgressTellsStates : Type 0
ProgressTellsStates =
    (v : View) (past : List Event) → AreLawful v past → HasDistinctNames v.registered
    → (row : ℕ) → row < length v.registered.rows → phase_of (progress_of v past (log_of v past)) row ≡ state_of v past (name_at v.registered row)

abbrev pub HeadlineHolds : Type 0
HeadlineHolds = (v : View) (past : List Event) → Headline v past

-- Once each touched row is answered, each touched name is ready, in error or missing.
abbrev pub AnsweredIsDecided : Type 0
AnsweredIsDecided =
    (v : View) (past : List Event) → AreLawful v past → IsTrue (all_answered v past)
    → (name : Text) → IsTrue (is_touched v past name)
    → (state_of v past name ≡ phase.Ready) ⊎ (state_of v past name ≡ phase.Error) ⊎ (state_of v past name ≡ phase.Missing)

-- ---- refusals

-- a name of the closures that has no row
abbrev pub IsUnknown : Registered → List Text → Text → Type 0
IsUnknown r names member = ((name : Text) × Contains names name × InClosure r name member) × IsFalse (has_row r member)

-- a name of the closures that leads back to itself
abbrev pub IsLooped : Registered → List Text → Text → Type 0
IsLooped r names member = ((name : Text) × Contains names name × InClosure r name member) × IsCyclic r member

-- of the names that have the property, the least in byte order
pub record IsLeast (P : Text → Type 0) (name : Text) : Type 0 where
  pub holds : P name
  pub below : (other : Text) → P other → IsFalse (is_lt (slice_cmp nat_cmp other name))

abbrev pub AcceptedWhereResolved : Type 0
AcceptedWhereResolved = (r : Registered) (names : List Text) → (refusal_of r names ≡ None) ↔ ((name : Text) → Contains names name → Resolves r name)

abbrev pub UnknownIsLeast : Type 0
UnknownIsLeast = (r : Registered) (names : List Text) (name : Text) → (refusal_of r names ≡ Some (Unknown name)) ↔ IsLeast (IsUnknown r names) name

abbrev pub CycleIsLeast : Type 0
CycleIsLeast =
    (r : Registered) (names : List Text) (name : Text)
    → (refusal_of r names ≡ Some (Cycle name)) ↔ (((member : Text) → IsUnknown r names member → ⊥) × IsLeast (IsLooped r names) name)
