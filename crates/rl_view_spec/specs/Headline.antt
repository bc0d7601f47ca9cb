-- What holds of every view: at most once, after its dependencies, and ready exactly where all it needs is good.
use Rattle.std.specs.Prelude.{◌≡◌, ◌≢◌, ◌<◌, ◌↔◌, ◌⊎◌, ◌++◌, ◌∷◌, ℕ, List, AllPairs, Contains, IsTrue, length, true}
use Rattle.std.specs.List.{AllByRecursion, list_all}
use Rattle.rl_view_spec.specs.Closure.{Text, Registered, InClosure, is_skipped, resolves}
use Rattle.rl_view_spec.specs.Progress.{name_at, HasDistinctNames}
use Rattle.rl_view_spec.specs.View.{View, Event, is_touched, is_good, state_of, throws_at, log_of}
use Rattle.rl_view_spec.specs.declared.Phase.TheVariants as phase

-- among the rows that ran so far, one has the name and did not throw
abbrev pub RanWell : View → List Event → List ℕ → Text → Type 0
RanWell v past before name = (row : ℕ) × Contains before row × (name_at v.registered row ≡ name) × (throws_at v past name ≢ true)

-- No row runs twice. Where a row ran, each other member of its closure is skipped, or ran earlier and did not throw.
pub record RunsOnceAndAfter (v : View) (past : List Event) : Type 0 where
  pub once : AllPairs (λ a b. a ≢ b) (log_of v past)
  pub after :
      (before later : List ℕ) (row : ℕ) → log_of v past ≡ before ++ row ∷ later
      → (other : Text) → InClosure v.registered (name_at v.registered row) other → other ≢ name_at v.registered row
      → IsTrue (is_skipped v.registered other) ⊎ RanWell v past before other

-- A touched name is ready exactly where all of its closure is good, and then each member that is not skipped ran.
pub record ReadyWhereGood (v : View) (past : List Event) (name : Text) : Type 0 where
  pub ready : (state_of v past name ≡ phase.Ready) ↔ ((member : Text) → InClosure v.registered name member → IsTrue (is_good v past member))
  pub ran :
      state_of v past name ≡ phase.Ready → (row : ℕ) → row < length v.registered.rows → InClosure v.registered name (name_at v.registered row)
      → IsTrue (is_skipped v.registered (name_at v.registered row)) ⊎ Contains (log_of v past) row

-- each request was accepted: its names resolve
abbrev pub IsLawful : Registered → Event → Type 0
IsLawful r event = IsTrue (list_all (resolves r) event.requested)

-- the client's part of the headline, for any view whose rows have distinct names and whose requests were accepted
abbrev pub Headline : View → List Event → Type 0
Headline v past =
    HasDistinctNames v.registered
    → AllByRecursion (IsLawful v.registered) past
    → RunsOnceAndAfter v past × ((name : Text) → IsTrue (is_touched v past name) → ReadyWhereGood v past name)
