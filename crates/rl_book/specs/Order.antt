-- Where views end, and that it does not depend on the order in which answers come.
use Rattle.std.specs.Prelude.{◌≡◌, ℕ, Bool, Contains, nat_eq, ◌⊎◌, IsTrue}
use Rattle.std.specs.List.{list_any}
use Rattle.rl_names.specs.declared.name.Key.{Key}
use Rattle.rl_view_spec.specs.Closure.{Text}
use Rattle.rl_view_spec.specs.Progress.{name_at}
use Rattle.rl_view_spec.specs.View.{is_touched, state_of, throws_at}
use Rattle.rl_view_spec.specs.declared.Phase.TheVariants as phase
use Rattle.rl_book_spec.specs.Given.{outcome_of}
use Rattle.rl_book_spec.specs.Kept.{Booked, IsBook, events_in, rows_run, traffic_in, view_in}
use Rattle.rl_book_spec.specs.Laws.{AnswersAreWhole}
use Rattle.rl_book_spec.specs.Traffic.{all_settled}
use Rattle.rl_book_spec.specs.declared.Call.{Call}
use Rattle.rl_book.specs.Calls.{HasExecuted, IsRun, Rests, Told, watched_in}
use Rattle.rl_book.specs.Serving.{with_call}
use Rattle.rl_book.specs.declared.answer.Run.{Run}

-- ---- who says what threw

-- each row that executed threw as they say of what it was answered with
abbrev pub ThrewAs : (Key → Text → Bool) → Booked → Type 0
ThrewAs says b =
    (row : ℕ) (threw : Bool) → Contains b.ran (row, threw) → threw ≡ throws_at (watched_in says b) (events_in b) (name_at b.opening.registered row)

-- executions of which they are told leave it so,
abbrev pub ExecutionsThrowAs : Type 0
ExecutionsThrowAs = (says : Key → Text → Bool) (old new : Booked) (told told' : Told) → HasExecuted says old new told told' → ThrewAs says old → ThrewAs says new

-- and so does a call that is noted
abbrev pub NotesThrowAs : Type 0
NotesThrowAs = (says : Key → Text → Bool) (call : Call) (b : Booked) → IsBook b → ThrewAs says b → ThrewAs says (with_call call b)

-- ---- two views

-- a view of which nothing is due, under observers who say this
pub record IsAtRest (says : Key → Text → Bool) (b : Booked) : Type 0 where
  pub book : IsBook b
  pub rests : Rests b
  pub threw : ThrewAs says b

-- the same rows and features, the same touched names and the same outcomes, wherever these came from and in whatever order
pub record HaveSame (one other : Booked) : Type 0 where
  pub registered : one.opening.registered ≡ other.opening.registered
  pub touched : (name : Text) → is_touched (view_in one) (events_in one) name ≡ is_touched (view_in other) (events_in other) name
  pub outcomes : (name : Text) → outcome_of one.opening one.past name ≡ outcome_of other.opening other.past name

-- an execution says the same as another
pub record RunAlike (one other : Run) : Type 0 where
  pub key : one.key ≡ other.key
  pub script : one.script ≡ other.script
  pub threw : one.threw ≡ other.threw

-- the same states, the same rows executed, and each with the same text
pub record EndAlike (one other : Booked) : Type 0 where
  pub states : (name : Text) → state_of (view_in one) (events_in one) name ≡ state_of (view_in other) (events_in other) name
  pub rows : (row : ℕ) → list_any (nat_eq row) (rows_run one) ≡ list_any (nat_eq row) (rows_run other)
  pub texts :
      (ran ran' : ℕ × Bool) (run run' : Run) → Contains one.ran ran → Contains other.ran ran' → ran.0 ≡ ran'.0 → IsRun one ran run → IsRun other ran' run'
      → RunAlike run run'

-- so the order of answers changes nothing of where two views end
abbrev pub OrderIsFree : Type 0
OrderIsFree = (says : Key → Text → Bool) (one other : Booked) → IsAtRest says one → IsAtRest says other → HaveSame one other → EndAlike one other

-- ---- a view that is settled

-- Where each answer had a part for each row of its batch, each touched name is ready, in error or missing by the view's history.
abbrev pub SettledIsDecided : Type 0
SettledIsDecided =
    (b : Booked) → IsBook b → AnswersAreWhole b.opening b.past → IsTrue (all_settled (traffic_in b)) → (name : Text)
    → IsTrue (is_touched (view_in b) (events_in b) name)
    → (state_of (view_in b) (events_in b) name ≡ phase.Ready) ⊎ (state_of (view_in b) (events_in b) name ≡ phase.Error)
    ⊎ (state_of (view_in b) (events_in b) name ≡ phase.Missing)
