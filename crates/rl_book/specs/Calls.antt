-- What the calls of a view answer, and what they leave.
use Rattle.std.specs.Prelude.{◌≡◌, ◌+◌, ◌≤◌, ◌<◌, ◌++◌, ◌∷◌, [], ℕ, List, Bool, true, false, IsTrue, IsFalse, if◌then◌else◌, is_none, length, map, nat_le, not}
use Rattle.std.specs.Prelude.{option_and_then, option_map, slice_get, Option, Some, None, Result, Ok, Err}
use Rattle.std.specs.Option.{option_map_or}
use Rattle.rl_names.specs.declared.name.Key.{Key}
use Rattle.rl_names.specs.declared.part.Message.{Message}
use Rattle.rl_names.specs.declared.text.NoMemory.{NoMemory}
use Rattle.rl_view_spec.specs.Closure.{Text, has_row}
use Rattle.rl_view_spec.specs.Progress.{name_at, next_row}
use Rattle.rl_view_spec.specs.View.{View, is_implementation, progress_of, state_of, throws_at}
use Rattle.rl_view_spec.specs.declared.Phase.{Phase}
use Rattle.rl_view.specs.Heard.{after_hearing, executions_of, watched}
use Rattle.rl_wire.specs.declared.part.Part.{Part}
use Rattle.rl_wire.specs.declared.part.Part.TheVariants.{Impl}
use Rattle.rl_batch.specs.Requests.{MayBeLost}
use Rattle.rl_book_spec.specs.Given.{given_to, outcome_of}
use Rattle.rl_book_spec.specs.Kept.{Booked, Notes, events_in, is_due, rows_run, traffic_in, view_in}
use Rattle.rl_book_spec.specs.Traffic.{Traffic, asked_of, is_settled}
use Rattle.rl_book_spec.specs.declared.Batch.{Batch}
use Rattle.rl_book_spec.specs.declared.Call.TheVariants.{Take, Lose}
use Rattle.rl_book_spec.specs.declared.Mark.{Mark}
use Rattle.rl_book_spec.specs.declared.Origin.{Origin}
use Rattle.rl_book.specs.declared.answer.Ask.{Ask}
use Rattle.rl_book.specs.declared.answer.Lost.{Lost}
use Rattle.rl_book.specs.declared.answer.Lost.TheVariants as lost
use Rattle.rl_book.specs.declared.answer.Run.{Run}
use Rattle.rl_book.specs.declared.error.LoseRefusal.{LoseRefusal}
use Rattle.rl_book.specs.declared.error.LoseRefusal.TheVariants as kept

-- a row was answered with an implementation
abbrev pub is_answered : Booked → ℕ → Bool
is_answered b row = is_implementation (outcome_of b.opening b.past (name_at b.opening.registered row))

-- the row that executes next
abbrev pub due_row : Booked → Option ℕ
due_row b = next_row (progress_of (view_in b) (events_in b) (rows_run b))

-- nothing executes any more
abbrev pub Rests : Booked → Type 0
Rests b = IsFalse (is_due b)

-- ---- asks

-- the batch that waits first
abbrev pub first_waiting : Traffic → Option Batch
first_waiting t = option_and_then (λ number. option_map (λ sent. sent.batch) (slice_get t.batches number)) (slice_get t.waiting 0)

-- the ask that comes next is for that one
abbrev pub next_ask : Traffic → Option Ask
next_ask t = option_map (λ batch. record { number = length t.asks; source = batch.source; query = batch.query }) (first_waiting t)

abbrev pub Takes : Result (Option Ask) NoMemory → Booked → Booked → Type 0
Takes (Ok ask) old new = (ask ≡ next_ask (traffic_in old)) × Notes Take old new
Takes (Err error) old new = new ≡ old

-- some batch waits
abbrev pub has_waiting : Traffic → Bool
has_waiting t = not (is_none (slice_get t.waiting 0))

-- the batch that an ask is for
abbrev pub batch_at : Traffic → ℕ → Option Batch
batch_at t ask = option_map (λ pair. pair.1.batch) (asked_of t ask)

abbrev pub is_lost_at : Traffic → ℕ → Bool
is_lost_at t ask = option_map_or (λ pair. pair.0.lost) (asked_of t ask) false

abbrev pub is_settled_at : Traffic → ℕ → Bool
is_settled_at t ask = option_map_or (λ pair. is_settled pair.1) (asked_of t ask) false

-- ---- losses

-- how many asks of the batch of this one were lost
abbrev pub losses_at : Traffic → ℕ → ℕ
losses_at t ask = option_map_or (λ pair. pair.1.losses) (asked_of t ask) 0

-- what the loss of an ask leads to
abbrev pub lost_by : Traffic → ℕ → Lost
lost_by t ask = if nat_le 2 (losses_at t ask) then lost.GivenUp else lost.Again (losses_at t ask + 1)

-- a number without an ask, then a batch that is settled, then an ask that was lost
abbrev pub Refuses : LoseRefusal → Traffic → ℕ → Type 0
Refuses (kept.NoSuchAsk number asks) t ask = (number ≡ ask) × (asks ≡ length t.asks) × (asks ≤ ask)
Refuses (kept.Settled number) t ask = (number ≡ ask) × (ask < length t.asks) × IsTrue (is_settled_at t ask)
Refuses (kept.LostBefore number) t ask = (number ≡ ask) × (ask < length t.asks) × IsFalse (is_settled_at t ask) × IsTrue (is_lost_at t ask)

abbrev pub Loses : Result Lost LoseRefusal → ℕ → Option Mark → Booked → Booked → Type 0
Loses (Ok answer) ask mark old new = MayBeLost (traffic_in old) ask × (answer ≡ lost_by (traffic_in old) ask) × Notes (Lose ask mark) old new
Loses (Err refusal) ask mark old new = Refuses refusal (traffic_in old) ask × (new ≡ old)

-- ---- executions

-- the execution of a row by a part from somewhere, of which no observer was told yet
pub record Executing (row : ℕ) (part : Part) (from : Origin) (run : Run) : Type 0 where
  pub row_is : run.row ≡ row
  pub quiet : run.threw ≡ false
  pub origin_is : run.origin ≡ from
  pub part_is : (styles : Text) × (messages : List Message) × (part ≡ Impl run.key.name run.key.version run.script styles messages)

-- what each observer was told
abbrev pub Told : Type 0
Told = List (List (Key × Text))

-- the view, as who observes it says
abbrev pub watched_in : (Key → Text → Bool) → Booked → View
watched_in says b = watched says b.opening.registered

-- the executions of these rows, each with whether one of the observers throws for it
abbrev pub runs_by : (Key → Text → Bool) → Booked → List ℕ → List (ℕ × Bool)
runs_by says b rows = map (λ row. (row, throws_at (watched_in says b) (events_in b) (name_at b.opening.registered row))) rows

-- Nothing but this was done: these rows executed, in order. Each observer heard of them, each script under its key, and a row
-- threw where one of them throws.
pub record Executes (says : Key → Text → Bool) (rows : List ℕ) (old new : Booked) (told told' : Told) : Type 0 where
  pub ran : new ≡ record old { ran = old.ran ++ runs_by says old rows }
  pub heard : told' ≡ after_hearing (executions_of (watched_in says old) (events_in old) rows) told

-- nothing but executions of some rows was done
abbrev pub HasExecuted : (Key → Text → Bool) → Booked → Booked → Told → Told → Type 0
HasExecuted says old new told told' = (rows : List ℕ) × Executes says rows old new told told'

-- the row that was due executed, if one was; where memory ran out nobody heard of it
abbrev pub ExecutesNext : (Key → Text → Bool) → Result Bool NoMemory → Booked → Booked → Told → Told → Type 0
ExecutesNext says (Ok true) old new told told' = (row : ℕ) × (due_row old ≡ Some row) × Executes says (row ∷ []) old new told told'
ExecutesNext says (Ok false) old new told told' = Rests old × (new ≡ old) × (told' ≡ told)
ExecutesNext says (Err error) old new told told' = IsTrue (is_due old) × (new ≡ old) × (told' ≡ told)

-- all that was due executed; where memory ran out the first rows did, and others are due
abbrev pub Resumes : (Key → Text → Bool) → Result (Unit {0}) NoMemory → Booked → Booked → Told → Told → Type 0
Resumes says (Ok done) old new told told' = HasExecuted says old new told told' × Rests new
Resumes says (Err error) old new told told' = HasExecuted says old new told told' × IsTrue (is_due new)

-- an execution: the row, the part that it was answered with and where that came from, and whether an observer threw
pub record IsRun (b : Booked) (ran : ℕ × Bool) (run : Run) : Type 0 where
  pub row : run.row ≡ ran.0
  pub threw : run.threw ≡ ran.1
  pub name : run.key.name ≡ name_at b.opening.registered ran.0
  pub part :
      (styles : Text) × (messages : List Message)
      × (given_to b.opening b.past run.key.name ≡ Some (Impl run.key.name run.key.version run.script styles messages, run.origin))

-- ---- looking

-- the state of a name, where it has a row; while executions are due nothing is said of it
abbrev pub StateIs : Booked → Text → Option Phase → Type 0
StateIs b name None = IsFalse (has_row b.opening.registered name)
StateIs b name (Some phase) = IsTrue (has_row b.opening.registered name) × (Rests b → phase ≡ state_of (view_in b) (events_in b) name)
