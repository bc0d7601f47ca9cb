-- What does not depend on the order of events.
use Rattle.std.specs.Prelude.{◌≡◌, ℕ, List, Contains, nat_eq}
use Rattle.std.specs.List.{list_any}
use Rattle.rl_view_spec.specs.Closure.{Text}
use Rattle.rl_view_spec.specs.Progress.{name_at, HasDistinctNames}
use Rattle.rl_view_spec.specs.View.{View, Event, Throws, is_touched, first_of, throws_at, state_of, log_of}
use Rattle.rl_view_spec.specs.Laws.{AreLawful}

-- two pasts with the same touched names and the same outcomes
pub record HaveSameOutcomes (v : View) (one other : List Event) : Type 0 where
  pub touched : (name : Text) → is_touched v one name ≡ is_touched v other name
  pub outcomes : (name : Text) → first_of v one name ≡ first_of v other name

-- they have the same states,
abbrev pub SameStates : Type 0
SameStates = (v : View) (one other : List Event) → HaveSameOutcomes v one other → (name : Text) → state_of v one name ≡ state_of v other name

-- and the same rows ran
abbrev pub SameRows : Type 0
SameRows =
    (v : View) (one other : List Event) → HasDistinctNames v.registered → AreLawful v one → AreLawful v other → HaveSameOutcomes v one other
    → (row : ℕ) → list_any (nat_eq row) (log_of v one) ≡ list_any (nat_eq row) (log_of v other)

-- the view, with other observers
abbrev pub observed_by : View → Throws → View
observed_by v other = record { registered = v.registered; throws = other }

-- What observers would have said of rows that did not run changes nothing.
abbrev pub OnlyRunsThrow : Type 0
OnlyRunsThrow =
    (v : View) (past : List Event) (other : Throws) → HasDistinctNames v.registered → AreLawful v past
    → ((row : ℕ) → Contains (log_of v past) row → throws_at v past (name_at v.registered row)
    ≡ throws_at (observed_by v other) past (name_at v.registered row))
    → (log_of v past ≡ log_of (observed_by v other) past) × ((name : Text) → state_of v past name ≡ state_of (observed_by v other) past name)
