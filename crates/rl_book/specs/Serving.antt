-- How a call is served: what was due executes, the call is noted, and what it made due executes.
use Rattle.std.specs.Prelude.{◌≡◌, ◌≤◌, ◌<◌, ◌⊎◌, ◌∷◌, ⊤, ℕ, List, Bool, IsTrue, count_by, length, not, Some, None, Result, Ok, Err}
use Rattle.rl_names.specs.declared.name.Key.{Key}
use Rattle.rl_names.specs.declared.text.NoMemory.{NoMemory}
use Rattle.rl_view_spec.specs.Closure.{Text, Cycle, Unknown, refusal_of, resolves}
use Rattle.rl_wire.specs.Arguments.{TellsLine}
use Rattle.rl_wire.specs.Reading.{answer_of}
use Rattle.rl_wire.specs.declared.part.Part.{Part}
use Rattle.rl_book_spec.specs.Given.{took_by}
use Rattle.rl_book_spec.specs.Kept.{Booked, Notes, is_due, traffic_in}
use Rattle.rl_book_spec.specs.declared.Call.{Call}
use Rattle.rl_book_spec.specs.declared.Call.TheVariants.{Using, Load, Deliver}
use Rattle.rl_book_spec.specs.declared.Mark.{Mark}
use Rattle.rl_book_spec.specs.declared.Took.{Took}
use Rattle.rl_book.specs.Calls.{HasExecuted, Rests, Told, losses_at}
use Rattle.rl_book.specs.declared.error.DeliverError.{DeliverError}
use Rattle.rl_book.specs.declared.error.DeliverError.TheVariants as undelivered
use Rattle.rl_book.specs.declared.error.UsingError.{UsingError}
use Rattle.rl_book.specs.declared.error.UsingError.TheVariants as refused

-- a call is noted, and nothing executes for it yet
abbrev pub with_call : Call → Booked → Booked
with_call call b = record b { past = call ∷ b.past }

-- What was due executes, until nothing is; then the call is noted, and then rows execute.
pub record Serves (says : Key → Text → Bool) (call : Call) (old new : Booked) (told told' : Told) : Type 0 where
  pub between : Booked
  pub heard : Told
  pub first : HasExecuted says old between told heard
  pub rests : Rests between
  pub later : HasExecuted says (with_call call between) new heard told'

-- memory ran out before the call was noted, or when only executions were left
abbrev pub StopsShort : (Key → Text → Bool) → Call → Type 0 → Booked → Booked → Told → Told → Type 0
StopsShort says call accepted old new told told' =
    HasExecuted says old new told told' ⊎ (accepted × Serves says call old new told told' × IsTrue (is_due new))

-- ---- using

-- the names were requested together, or refused for the least name to blame
abbrev pub RequestsAll : (Key → Text → Bool) → Result (Unit {0}) UsingError → List Text → Booked → Booked → Told → Told → Type 0
RequestsAll says (Ok done) names old new told told' =
    (refusal_of old.opening.registered names ≡ None) × Serves says (Using names) old new told told' × Rests new
RequestsAll says (Err (refused.Unknown name)) names old new told told' =
    (refusal_of old.opening.registered names ≡ Some (Unknown name)) × HasExecuted says old new told told' × Rests new
RequestsAll says (Err (refused.Cycle name)) names old new told told' =
    (refusal_of old.opening.registered names ≡ Some (Cycle name)) × HasExecuted says old new told told' × Rests new
RequestsAll says (Err refused.NoMemory) names old new told told' =
    StopsShort says (Using names) (refusal_of old.opening.registered names ≡ None) old new told told'

-- where nothing is due the names are noted, or nothing changes
abbrev pub NotesUsing : Result (Unit {0}) UsingError → List Text → Booked → Booked → Type 0
NotesUsing (Ok done) names old new = (refusal_of old.opening.registered names ≡ None) × Notes (Using names) old new
NotesUsing (Err (refused.Unknown name)) names old new = (refusal_of old.opening.registered names ≡ Some (Unknown name)) × (new ≡ old)
NotesUsing (Err (refused.Cycle name)) names old new = (refusal_of old.opening.registered names ≡ Some (Cycle name)) × (new ≡ old)
NotesUsing (Err refused.NoMemory) names old new = new ≡ old

-- ---- load

-- at so many places the name does not resolve
abbrev pub dropped_of : Booked → List Text → ℕ
dropped_of b names = count_by (λ name. not (resolves b.opening.registered name)) names

-- each name was requested that resolves, and the other places were counted
abbrev pub LoadsEach : (Key → Text → Bool) → Result ℕ NoMemory → List Text → Booked → Booked → Told → Told → Type 0
LoadsEach says (Ok dropped) names old new told told' = (dropped ≡ dropped_of old names) × Serves says (Load names) old new told told' × Rests new
LoadsEach says (Err error) names old new told told' = StopsShort says (Load names) ⊤ old new told told'

-- where nothing is due the names are noted, or nothing changes
abbrev pub NotesLoad : Result ℕ NoMemory → List Text → Booked → Booked → Type 0
NotesLoad (Ok dropped) names old new = (dropped ≡ dropped_of old names) × Notes (Load names) old new
NotesLoad (Err error) names old new = new ≡ old

-- ---- deliver

-- a well-formed answer to an ask that there is
pub record IsAnswer (b : Booked) (ask : ℕ) (bytes : Text) : Type 0 where
  pub parts : List Part
  pub read : answer_of bytes ≡ Ok parts
  pub asked : ask < length (traffic_in b).asks

-- what becomes of its parts: so many rows have an outcome since, and the other parts were passed over
abbrev pub TellsTook : Took → Booked → ℕ → Text → Mark → Type 0
TellsTook took b ask bytes mark = (answer : IsAnswer b ask bytes) × (took ≡ took_by b.opening b.past (Deliver ask bytes mark) answer.parts)

-- no ask has the number
pub record IsNoAsk (b : Booked) (ask number asks : ℕ) : Type 0 where
  pub number_is : number ≡ ask
  pub asks_are : asks ≡ length (traffic_in b).asks
  pub beyond : asks ≤ ask

-- what is no answer came to an ask that there is; so many asks of its batch are lost by then
pub record IsBadWire (old new : Booked) (ask : ℕ) (bytes : Text) (line tries : ℕ) : Type 0 where
  pub asked : ask < length (traffic_in old).asks
  pub bad : TellsLine (answer_of bytes) line
  pub tries_are : tries ≡ losses_at (traffic_in new) ask

-- The answer was taken in, or what is none, which counts as a loss where the ask may be lost; or no ask has the number.
abbrev pub Delivers : (Key → Text → Bool) → Result Took DeliverError → ℕ → Text → Mark → Booked → Booked → Told → Told → Type 0
Delivers says (Ok took) ask bytes mark old new told told' =
    TellsTook took old ask bytes mark × Serves says (Deliver ask bytes mark) old new told told' × Rests new
Delivers says (Err (undelivered.NoSuchAsk number asks)) ask bytes mark old new told told' =
    IsNoAsk old ask number asks × HasExecuted says old new told told' × Rests new
Delivers says (Err (undelivered.BadWire line tries)) ask bytes mark old new told told' =
    IsBadWire old new ask bytes line tries × Serves says (Deliver ask bytes mark) old new told told' × Rests new
Delivers says (Err undelivered.NoMemory) ask bytes mark old new told told' =
    StopsShort says (Deliver ask bytes mark) (IsAnswer old ask bytes) old new told told'

-- where nothing is due the answer is noted, or nothing changes
abbrev pub NotesDelivery : Result Took DeliverError → ℕ → Text → Mark → Booked → Booked → Type 0
NotesDelivery (Ok took) ask bytes mark old new = TellsTook took old ask bytes mark × Notes (Deliver ask bytes mark) old new
NotesDelivery (Err (undelivered.NoSuchAsk number asks)) ask bytes mark old new = IsNoAsk old ask number asks × (new ≡ old)
NotesDelivery (Err (undelivered.BadWire line tries)) ask bytes mark old new =
    IsBadWire old new ask bytes line tries × Notes (Deliver ask bytes mark) old new
NotesDelivery (Err undelivered.NoMemory) ask bytes mark old new = new ≡ old
