-- What a view keeps, and what it is of its history.
use Rattle.std.specs.Prelude.{◌≡◌, ◌+◌, ◌≤◌, ◌<◌, ◌^◌, ℕ, List, if◌then◌else◌, fold, length, map, nat_lt, option_and_then, reverse, slice_get}
use Rattle.std.specs.Prelude.{vec_capacity, Bool, Option, Some, None, Result, Ok, Err, [], false}
use Rattle.std.specs.Option.{option_map_or}
use Rattle.rl_names.specs.declared.row.Row.{Row}
use Rattle.rl_view_spec.specs.Closure.{Text, row_of}
use Rattle.rl_view_spec.specs.Progress.{Progress, name_at}
use Rattle.rl_view_spec.specs.View.{GivenUp}
use Rattle.rl_view.specs.Seen as seen
use Rattle.rl_view.specs.Seen.{HasSeen}
use Rattle.rl_wire.specs.StartupReading.{startup_of}
use Rattle.rl_wire.specs.declared.part.Part.{Part}
use Rattle.rl_wire.specs.declared.startup.Startup.{Startup}
use Rattle.rl_batch.specs.Given.{IsBase}
use Rattle.rl_batch.specs.Requests.{open_count}
use Rattle.rl_book_spec.specs.Given.{given_at_touch, given_to}
use Rattle.rl_book_spec.specs.Kept.{Booked, IsBook, events_in, rows_run, traffic_in, view_in}
use Rattle.rl_book_spec.specs.Opening.{Opening}
use Rattle.rl_book_spec.specs.Traffic.{Traffic, asked_of, may_be_lost}
use Rattle.rl_book_spec.specs.declared.Call.{Call}
use Rattle.rl_book_spec.specs.declared.Origin.{Origin}
use Rattle.rl_book_spec.specs.declared.Origin.TheVariants as origin
use Rattle.rl_book.specs.Calls.{IsRun}
use Rattle.rl_book.specs.Opens.{opening_of}
use Rattle.rl_book.specs.Held.{AreNamed, gifts_of}
use Rattle.rl_book.specs.declared.answer.Run.{Run}
use Rattle.rl_book.specs.declared.given.Delivered.{Delivered}
use Rattle.rl_book.specs.declared.visit.Visit.TheInside.{Inside}

-- ---- the history

abbrev pub rows_in : Result Startup ℕ → List Row
rows_in (Ok said) = said.rows
rows_in (Err line) = []

-- the rows that a startup text registers
unfoldable pub rows_said : Text → List Row
rows_said startup = rows_in (startup_of startup)

-- the history that it stands for
abbrev pub booked : Inside → Booked
booked b = record {
  startup = b.startup;
  embedded = b.plan.embedded;
  opening = opening_of b.plan (rows_said b.startup) b.held.embedded b.held.store.pairs;
  past = reverse b.calls.items;
  ran = map (λ run. (run.row, run.threw)) b.runs.items;
}

-- ---- what was given

-- What is kept of the part that a name was given: the part that it took of an answer. What else it was given it has from its
-- first touch, and there it is found again.
abbrev pub KeepsPart : Opening → List Call → Text → Option Delivered → Type 0
KeepsPart o past name (Some kept) = given_to o past name ≡ Some (kept.part, origin.Wire kept.mark)
KeepsPart o past name None = (given : Part × Origin) → given_to o past name ≡ Some given
    → option_and_then (given_at_touch o) (row_of o.registered name) ≡ Some given

-- so for each row
pub record KeepsParts (o : Opening) (past : List Call) (delivered : List (Option Delivered)) : Type 0 where
  pub long : length delivered ≡ length o.registered.rows
  pub each :
      (row : ℕ) (kept : Option Delivered) → slice_get delivered row ≡ Some kept → KeepsPart o past (name_at o.registered row) kept

-- ---- what is kept beside it

-- what it keeps beside its calls is what follows of them
pub record IsKept (b : Inside) : Type 0 where
  pub book : IsBook (booked b)
  pub base : IsBase b.plan.base
  pub seen : HasSeen (view_in (booked b)) (events_in (booked b)) (rows_run (booked b)) b.table
  pub gifts : b.held.gifts ≡ gifts_of (booked b).opening
  pub named : AreNamed (booked b).opening
  pub parts : KeepsParts (booked b).opening (booked b).past b.delivered.items
  pub requests : b.requests ≡ traffic_in (booked b)
  pub runs : (at : ℕ) (run : Run) → slice_get b.runs.items at ≡ Some run → IsRun (booked b) (run.row, run.threw) run
  -- each execution is of another row
  pub few_runs : length b.runs.items ≤ length (rows_said b.startup)
  pub room_to_run : length (rows_said b.startup) ≤ vec_capacity b.runs
  -- numbers of calls have 32 bits, and those of the losses that may still come
  pub few_calls : length b.calls.items + open_count b.requests.asks < 2 ^ 32
  -- room to note one loss of each ask that was not lost
  pub room : length b.calls.items + open_count b.requests.asks ≤ vec_capacity b.calls

-- ---- rows that are given up

-- each of these rows that counts is given up
abbrev pub after_giving_up : List ℕ → Progress → Progress
after_giving_up rows t = fold (λ progress row. seen.given_to row (Some GivenUp) progress) t rows

-- the rows of the batch of an ask, where the next loss of that batch is the third
abbrev pub after_third : Traffic → ℕ → Progress → Progress
after_third t ask progress =
    option_map_or (λ pair. if nat_lt 1 pair.1.losses then after_giving_up pair.1.batch.rows progress else progress) (asked_of t ask) progress

-- an ask that may be lost
abbrev pub may_be_lost_at : Traffic → ℕ → Bool
may_be_lost_at t ask = option_map_or may_be_lost (asked_of t ask) false

-- what is no answer counts as a loss where the ask may be lost
abbrev pub after_refusal : Traffic → ℕ → Progress → Progress
after_refusal t ask progress = if may_be_lost_at t ask then after_third t ask progress else progress
