-- What the steps of a script keep, whatever their order.
use Rattle.std.specs.Prelude.{◌≡◌, ◌++◌, ◌↔◌, ℕ, List, Bool, IsTrue, flat_map, is_none, Some, None}
use Rattle.rl_view_spec.specs.Closure.{Text, InClosure, least}
use Rattle.rl_view_spec.specs.Progress.{HasDistinctNames, name_at}
use Rattle.rl_view_spec.specs.Rows.{AreRegistrable}
use Rattle.rl_view_spec.specs.View.{View, Event, Throws, is_touched, log_of, state_of}
use Rattle.rl_view_spec.specs.declared.Phase.TheVariants as phase
use Rattle.rl_view_spec.specs.Headline.{RunsOnceAndAfter, ReadyWhereGood}
use Rattle.rl_view_spec.specs.Laws.{AreLawful, IsLeast}
use Rattle.rl_view_spec.specs.Order.{HaveSameOutcomes}
use Rattle.rl_script_spec.specs.Output.{all_ready, events_of, line, run_line, replies_of, summary_of}
use Rattle.rl_script_spec.specs.Script.{lines_of, rows_in, verdict_of, view_of, history_of, Prints}
use Rattle.rl_script_spec.specs.Unready.{blamed, is_to_blame, unready_of}
use Rattle.rl_script_spec.specs.declared.Step.{Step}

-- the same outcomes give the same summary
abbrev pub SameSummaries : Type 0
SameSummaries =
    (number : ℕ) (v : View) (one other : List Event) → HasDistinctNames v.registered → AreLawful v one → AreLawful v other →
    HaveSameOutcomes v one other
    → summary_of number v one ≡ summary_of number v other

-- the events of a script's steps are lawful
abbrev pub StepsAreLawful : Type 0
StepsAreLawful = (v : View) (steps : List Step) → AreLawful v (events_of v.registered steps)

-- so the headline stands of every script whose rows have distinct names
abbrev pub ScriptsHold : Type 0
ScriptsHold =
    (v : View) (steps : List Step) → HasDistinctNames v.registered
    → RunsOnceAndAfter v (events_of v.registered steps)
    × ((name : Text) → IsTrue (is_touched v (events_of v.registered steps) name) → ReadyWhereGood v (events_of v.registered steps) name)

-- the rows of a script are such as a registry takes
abbrev pub RowsAreRegistrable : Type 0
RowsAreRegistrable = (bytes : Text) → AreRegistrable (rows_in (lines_of bytes))

-- The headline, of the view that a script speaks of: no row runs twice, each runs after its dependencies, and a touched
-- name is ready exactly where all of its closure is good.
pub record IsSound (throws : Throws) (bytes : Text) : Type 0 where
  pub runs : RunsOnceAndAfter (view_of throws bytes) (history_of throws bytes)
  pub ready : (name : Text) → IsTrue (is_touched (view_of throws bytes) (history_of throws bytes) name) →
      ReadyWhereGood (view_of throws bytes) (history_of throws bytes) name

-- it stands of every script that is printed
abbrev pub PrintedHolds : Type 0
PrintedHolds = (throws : Throws) (bytes text : Text) (ready : Bool) → verdict_of throws bytes ≡ Prints text ready → IsSound throws bytes

-- one step as it is printed: its reply, and the rows that ran for it
pub record Printing : Type 0 where
  pub reply : Text
  pub ran : List ℕ

abbrev pub printing_text : View → List Event → Printing → Text
printing_text v past printing = line printing.reply ++ flat_map (λ row. run_line v past (name_at v.registered row)) printing.ran

-- The replies have a line for each step and a line for each run, and all these runs, in order, are the log.
abbrev pub RepliesTellLog : Type 0
RepliesTellLog =
    (v : View) (past : List Step)
    → (printings : List Printing) × (replies_of v past ≡ flat_map (printing_text v (events_of v.registered past)) printings)
    × (flat_map (λ printing. printing.ran) printings ≡ log_of v (events_of v.registered past))

-- Why not everything was served is told exactly where something was not.
abbrev pub ToldWhereNotServed : Type 0
ToldWhereNotServed = (v : View) (past : List Step) → is_none (unready_of v past) ≡ all_ready v past

-- a member of the closure that is to blame by itself
abbrev pub IsBlamed : View → List Event → Text → Text → Type 0
IsBlamed v past name member = InClosure v.registered name member × IsTrue (is_to_blame v past member)

-- What is told of a touched name is of the least member that is to blame, and nothing is told exactly where the name is ready.
abbrev pub BlamedIsLeast : Type 0
BlamedIsLeast =
    (v : View) (past : List Event) → AreLawful v past → (name : Text) → IsTrue (is_touched v past name)
    → ((member : Text) → (least (blamed v past name) ≡ Some member) ↔ IsLeast (IsBlamed v past name) member)
    × ((least (blamed v past name) ≡ None) ↔ (state_of v past name ≡ phase.Ready))
