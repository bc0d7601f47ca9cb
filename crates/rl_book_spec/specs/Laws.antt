-- What follows of the definitions of batches and calls, as statements.
use Rattle.std.specs.Prelude.{◌+◌, ◌==◌, ◌&&◌, count_by, fold, not, true, is_none, slice_set, ◌++◌, ◌≡◌, ◌≤◌, ◌<◌}
use Rattle.std.specs.Prelude.{◌⊎◌, ⊤, ℕ, List, [], ◌∷◌, Contains, IsTrue, IsFalse, flat_map, length, Some, None, is_some}
use Rattle.std.specs.Prelude.{if◌then◌else◌, option_map, slice_get, Ok}
use Rattle.std.specs.List.{list_any}
use Rattle.std.specs.List.Sorted.{IsPermutation}
use Rattle.rl_names.specs.declared.query.Query.{Query}
use Rattle.rl_view_spec.specs.Closure.{Text, Registered, in_closures, is_skipped}
use Rattle.rl_view_spec.specs.Progress.{Progress, name_at, next_row, is_skipped_at, outcome_at, row_numbers, HasDistinctNames}
use Rattle.rl_view_spec.specs.View.{View, Event, Implementation, Throws, answer_in, is_touched, first_of, kind_of, log_of, progress_of, throws_at}
use Rattle.rl_view_spec.specs.Order.{observed_by}
use Rattle.rl_view_spec.specs.View as view
use Rattle.rl_view_spec.specs.Keys.{never}
use Rattle.rl_view_spec.specs.Laws.{AreLawful}
use Rattle.rl_book_spec.specs.Batches.{Numbered, batch_of, rows_of_batches}
use Rattle.rl_book_spec.specs.Book.{bring, events_of, loss, parts_for}
use Rattle.rl_book_spec.specs.Given.{given_to, outcome_of}
use Rattle.rl_book_spec.specs.Opening as opening
use Rattle.rl_book_spec.specs.declared.Batch.{Batch}
use Rattle.rl_book_spec.specs.declared.Origin.{Origin}
use Rattle.rl_book_spec.specs.declared.Stored.{Stored}
use Rattle.rl_names.specs.declared.part.Message.{Message}
use Rattle.rl_wire.specs.declared.part.Part.TheVariants.{Impl}
use Rattle.rl_book_spec.specs.Kept.{IsStage, is_quiet}
use Rattle.rl_book_spec.specs.Opening.{Opening, part_of, view_of}
use Rattle.rl_book_spec.specs.Traffic.{Traffic, all_settled, asked_of, holds, is_settled, requested_by, traffic_of}
use Rattle.rl_book_spec.specs.declared.Asked.{Asked}
use Rattle.rl_book_spec.specs.declared.Sent.{Sent}
use Rattle.rl_book_spec.specs.declared.Call.{Call}
use Rattle.rl_book_spec.specs.declared.Call.TheVariants.{Deliver}
use Rattle.rl_wire.specs.Reading.{answer_of}
use Rattle.rl_wire.specs.declared.part.Part.{Part}

-- ---- views

-- the events of the calls are lawful, whatever the calls are: so each law of views holds of them
abbrev pub BooksAreLawful : Type 0
BooksAreLawful = (throws : Throws) (o : Opening) (past : List Call) → AreLawful (view_of throws o) (events_of o past)

-- what the calls request is what their events request
abbrev pub RequestsTouch : Type 0
RequestsTouch =
    (throws : Throws) (o : Opening) (past : List Call) (name : Text)
    → list_any (λ call. in_closures o.registered (requested_by o.registered call) name) past ≡ is_touched (view_of throws o) (events_of o past) name

-- ---- batches

-- the batches together hold each row as often as it is given
abbrev pub BatchesHoldRows : Type 0
BatchesHoldRows = (base : Query) (limit : ℕ) (rows : List Numbered) → IsPermutation rows (flat_map (λ batch. batch) (rows_of_batches base limit rows))

-- none of them is empty
abbrev pub BatchesAreFilled : Type 0
BatchesAreFilled = (base : Query) (limit : ℕ) (rows batch : List Numbered) → Contains (rows_of_batches base limit rows) batch → 0 < length batch

-- a query is longer than the limit only where it asks for one row
abbrev pub QueriesFit : Type 0
QueriesFit =
    (base : Query) (limit : ℕ) (rows batch : List Numbered) → base.modules ≡ [] → base.version ≡ []
    → Contains (rows_of_batches base limit rows) batch
    → (length (batch_of base batch).query ≤ limit) ⊎ (length batch ≡ 1)

-- ---- batches and asks

-- how often a batch waits, and how many of its asks are open and how many were lost
abbrev pub times_waiting : Traffic → ℕ → ℕ
times_waiting t batch = count_by (λ other. other == batch) t.waiting

abbrev pub open_asks : Traffic → ℕ → ℕ
open_asks t batch = count_by (λ asked. not asked.lost && (asked.batch == batch)) t.asks

abbrev pub lost_asks : Traffic → ℕ → ℕ
lost_asks t batch = count_by (λ asked. asked.lost && (asked.batch == batch)) t.asks

-- A batch that is not settled waits once or has one open ask, and never both. One that is settled does not wait.
pub record IsSomewhere (t : Traffic) (batch : ℕ) (sent : Sent) : Type 0 where
  pub losses : lost_asks t batch ≡ sent.losses
  pub few : sent.losses ≤ 3
  pub outstanding : IsFalse (is_settled sent) → times_waiting t batch + open_asks t batch ≡ 1
  pub settled : IsTrue (is_settled sent) → times_waiting t batch ≡ 0

-- each batch of a view is so, and nothing else waits or is asked for
pub record IsTraffic (t : Traffic) : Type 0 where
  pub each : (batch : ℕ) (sent : Sent) → slice_get t.batches batch ≡ Some sent → IsSomewhere t batch sent
  pub none : (batch : ℕ) → length t.batches ≤ batch → times_waiting t batch + open_asks t batch + lost_asks t batch ≡ 0

abbrev pub BatchesAreSomewhere : Type 0
BatchesAreSomewhere = (o : Opening) (past : List Call) → IsTraffic (traffic_of o past)

-- ---- what is not answered yet

-- a batch that is not settled holds the row of the name
pub record IsAskedFor (r : Registered) (t : Traffic) (name : Text) : Type 0 where
  pub batch : ℕ
  pub sent : Sent
  pub there : slice_get t.batches batch ≡ Some sent
  pub held : IsTrue (holds r sent.batch name)
  pub waits : IsFalse (is_settled sent)

-- an answer that is delivered has a part for each row of its ask's batch
abbrev pub IsWhole : Opening → Traffic → Call → Type 0
IsWhole o t (Deliver ask bytes mark) =
    (parts : List Part) (pair : Asked × Sent) → answer_of bytes ≡ Ok parts → asked_of t ask ≡ Some pair
    → (name : Text) → IsTrue (holds o.registered pair.1.batch name) → IsTrue (is_some (part_of parts name))
IsWhole o t other = ⊤

-- each that was
abbrev pub AnswersAreWhole : Opening → List Call → Type 0
AnswersAreWhole o [] = ⊤
AnswersAreWhole o (call ∷ past) = IsWhole o (traffic_of o past) call × AnswersAreWhole o past

-- where answers are whole, a touched row that is not skipped has an outcome, or a batch that is not settled asks for it,
abbrev pub TouchedIsAskedFor : Type 0
TouchedIsAskedFor =
    (throws : Throws) (o : Opening) (past : List Call) → HasDistinctNames o.registered → AnswersAreWhole o past → (row : ℕ)
    → row < length o.registered.rows
    → IsTrue (is_touched (view_of throws o) (events_of o past) (name_at o.registered row)) → IsFalse (is_skipped o.registered (name_at o.registered row))
    → IsTrue (is_some (first_of (view_of throws o) (events_of o past) (name_at o.registered row)))
    ⊎ IsAskedFor o.registered (traffic_of o past) (name_at o.registered row)

-- so once all batches are settled each touched row is skipped or has an outcome
abbrev pub SettledIsAnswered : Type 0
SettledIsAnswered =
    (throws : Throws) (o : Opening) (past : List Call) → HasDistinctNames o.registered → AnswersAreWhole o past → IsTrue (all_settled (traffic_of o past))
    → IsTrue (view.all_answered (view_of throws o) (events_of o past))

-- Where answers are short that does not follow: all batches of some view are settled, and a touched row of it, which is not
-- skipped, has no outcome.
abbrev pub ShortAnswersSettle : Type 0
ShortAnswersSettle =
    (o : Opening) × (past : List Call) × HasDistinctNames o.registered × IsTrue (all_settled (traffic_of o past))
    × IsFalse (view.all_answered (view_of never o) (events_of o past))

-- ---- what a call adds

-- what a name was given stays given
abbrev pub GivenStays : Type 0
GivenStays =
    (o : Opening) (past : List Call) (call : Call) (name : Text) (given : Part × Origin) → given_to o past name ≡ Some given
    → given_to o (call ∷ past) name ≡ Some given

-- a row that a batch may hold: it is touched and not skipped
pub record IsAsked (o : Opening) (past : List Call) (row : ℕ) : Type 0 where
  pub within : row < length o.registered.rows
  pub touched : IsTrue (is_touched (view_of never o) (events_of o past) (name_at o.registered row))
  pub kept : IsFalse (is_skipped_at o.registered row)

abbrev pub BatchesAskForTouched : Type 0
BatchesAskForTouched =
    (o : Opening) (past : List Call) (batch : ℕ) (sent : Sent) (row : ℕ) → slice_get (traffic_of o past).batches batch ≡ Some sent
    → Contains sent.batch.rows row → IsAsked o past row

-- the progress with the outcome of a row, where the event is the first to answer it
abbrev pub with_first : View → Event → List Event → Progress → ℕ → Progress
with_first v event past t row =
    if is_none (outcome_at t row) && is_some (first_of v (event ∷ past) (name_at v.registered row))
    then record t {
      cells = slice_set t.cells row (record {
        touched = true;
        outcome =
            option_map kind_of (first_of v (event ∷ past) (name_at v.registered row));
      });
    }
    else t

-- an event that requests nothing changes the progress so, row by row, and nothing else of it
abbrev pub EventsAnswerRows : Type 0
EventsAnswerRows =
    (v : View) (event : Event) (past : List Event) (log : List ℕ) → event.requested ≡ [] → IsStage v past log
    → progress_of v (event ∷ past) log ≡ fold (with_first v event past) (progress_of v past log) (row_numbers v.registered)

-- ---- how far a book has executed

-- where nothing may run it is the whole log
abbrev pub StageEnds : Type 0
StageEnds = (v : View) (past : List Event) (log : List ℕ) → IsStage v past log → next_row (progress_of v past log) ≡ None → log ≡ log_of v past

-- the next row that runs leads on
abbrev pub StageGoesOn : Type 0
StageGoesOn = (v : View) (past : List Event) (log : List ℕ) (row : ℕ) → IsStage v past log → next_row (progress_of v past log) ≡ Some row
    → IsStage v past (log ++ row ∷ [])

-- where nothing may run an event may come,
abbrev pub StageBegins : Type 0
StageBegins =
    (v : View) (event : Event) (past : List Event) (log : List ℕ) → IsStage v past log → next_row (progress_of v past log) ≡ None
    → IsStage v (event ∷ past) log

-- and a quiet one at any moment: it leaves due what is due
abbrev pub StageStays : Type 0
StageStays = (v : View) (event : Event) (past : List Event) (log : List ℕ) → IsTrue (is_quiet event) → IsStage v past log
    → IsStage v (event ∷ past) log

abbrev pub QuietChangesNothing : Type 0
QuietChangesNothing =
    (v : View) (event : Event) (past : List Event) (log : List ℕ) → IsTrue (is_quiet event) → next_row (progress_of v (event ∷ past) log)
    ≡ next_row (progress_of v past log)

-- it is a front of the log
abbrev pub StageIsFront : Type 0
StageIsFront = (v : View) (past : List Event) (log : List ℕ) → IsStage v past log → (rest : List ℕ) × (log_of v past ≡ log ++ rest)

-- what observers would say of rows that did not run yet changes nothing of it
abbrev pub StageUnderOthers : Type 0
StageUnderOthers =
    (v : View) (other : Throws) (past : List Event) (log : List ℕ) → IsStage v past log
    → ((row : ℕ) → Contains log row → throws_at v past (name_at v.registered row) ≡ throws_at (observed_by v other) past (name_at v.registered row))
    → IsStage (observed_by v other) past log

-- the events of asks and losses are quiet
abbrev pub LossesAreQuiet : Type 0
LossesAreQuiet = (o : Opening) (t : Traffic) (ask : ℕ) → IsTrue (is_quiet (loss o t ask))

-- ---- parts

-- each stored part is an implementation of its key
abbrev pub IsOfKey : Stored → Type 0
IsOfKey stored = (script styles : Text) × (messages : List Message) × (stored.part ≡ Impl stored.key.name stored.key.version script styles messages)

-- where an outcome is an implementation, a part was given for it that says the same
abbrev pub GivenIsOutcome : Type 0
GivenIsOutcome =
    (o : Opening) (past : List Call) (name version script : Text) → HasDistinctNames o.registered → outcome_of o past name
    ≡ Some (Implementation version script)
    → (given : Part × Origin) × (given_to o past name ≡ Some given) × (opening.answer_of given.0 ≡ Implementation version script)

-- what an answer brings a name: the first part of that name, where the batch holds its row
abbrev pub DeliveryGives : Type 0
DeliveryGives =
    (r : Registered) (batch : Batch) (parts : List Part) (name : Text)
    → answer_in name (bring (parts_for r batch parts)) ≡ (if holds r batch name then option_map opening.answer_of (part_of parts name) else None)
