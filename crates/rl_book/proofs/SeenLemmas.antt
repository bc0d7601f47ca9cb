-- What a table has seen after an event, whatever ran before it.
use mathlib.Core.Path.{fun_ext}
use Rattle.std.proofs.Common.{◌≡◌, ℕ, ◌<◌, List, [], ◌∷◌, Bool, true, false, ◌&&◌, length, map, Option, Some, None, refl, ap, sym, ◌∙◌, append_assoc, append-nil}
use Rattle.std.specs.Prelude.{Contains, fold, if◌then◌else◌, is_none, is_some, nat_lt, option_map}
use Rattle.std.specs.Option.{option_map_or}
use Rattle.rl_names.specs.declared.row.Row.{Row}
use Rattle.rl_view_spec.specs.Closure.{Text, Registered}
use Rattle.rl_view_spec.specs.Keys.{never, version_of}
use Rattle.rl_view_spec.specs.Progress.{Cell, Progress, HasDistinctNames, name_at, outcome_at, row_numbers}
use Rattle.rl_view_spec.specs.View.{View, Event, Answer, GivenUp, Throws, first_of, is_touched, kind_of, log_of, progress_of}
use Rattle.rl_view_spec.specs.declared.Outcome.TheVariants as outcome
use Rattle.rl_view_spec.proofs.ObservedLemmas.{first_same}
use Rattle.rl_view_spec.proofs.PlacesLemmas.{name_there}
use Rattle.rl_view_spec.proofs.ToolsLemmas.{contains_head, contains_tail, place_there}
use Rattle.rl_states.specs.Changes.{after_outcome}
use Rattle.rl_view.specs.Seen.{HasSeen, IsDue, counts_at, given_to, registered_now, with_answers}
use Rattle.rl_view.proofs.BroughtLemmas.{seen_given}
use Rattle.rl_view.proofs.NowLemmas.{first_asked}
use Rattle.rl_book_spec.specs.Book.{bring, events_of, given_up, loss, nothing}
use Rattle.rl_book_spec.specs.Given.{registered_after}
use Rattle.rl_book_spec.specs.Kept.{IsStage}
use Rattle.rl_book_spec.specs.Laws.{with_first}
use Rattle.rl_book_spec.specs.Opening.{Opening, view_of}
use Rattle.rl_book_spec.specs.Traffic.{asked_of, may_be_lost, traffic_of}
use Rattle.rl_book_spec.specs.declared.Asked.{Asked}
use Rattle.rl_book_spec.specs.declared.Call.{Call}
use Rattle.rl_book_spec.specs.declared.Sent.{Sent}
use Rattle.rl_book_spec.proofs.AskedForLemmas.{asked_sent}
use Rattle.rl_book_spec.proofs.LaterLemmas.{batches_ask, events_answer}
use Rattle.rl_book_spec.proofs.LawfulLemmas.{loss_requests}
use Rattle.rl_book.specs.Kept.{after_giving_up, after_third}

-- the progress by what was touched, what came and what ran
abbrev pub seen_with : View → (Text → Bool) → (Text → Option Answer) → List (ℕ × Bool) → Progress
seen_with v touched first ran = record {
  registered = record v.registered {
    rows = map {A = Row} {B = Row} (λ row. record row { version = version_of (first row.name) row.version }) v.registered.rows;
  };
  cells = map {A = Row} {B = Cell} (λ row. record { touched = touched row.name; outcome = option_map kind_of (first row.name) }) v.registered.rows;
  ran = ran;
  executing = None;
}

-- the progress of a view by what it has seen and what ran
abbrev pub seen_by : View → List Event → List (ℕ × Bool) → Progress
seen_by v past ran = seen_with v (is_touched v past) (first_of v past) ran

-- ---- events that bring nothing

pub seen_nothing : (v : View) (past : List Event) (ran : List (ℕ × Bool)) → seen_by v (nothing ∷ past) ran ≡ seen_by v past ran
seen_nothing v past ran = ap (λ (first : Text → Option Answer). seen_with v (is_touched v past) first ran) (fun_ext (first_asked v [] past))

-- ---- rows that are given up

abbrev if_counts : Bool → ℕ → Progress → Progress
if_counts counts k t = if counts then after_outcome k outcome.GivenUp t else t

beside_runs : (b : Bool) (k : ℕ) (t : Progress) (ran : List (ℕ × Bool))
    → if_counts b k (record t { ran = ran }) ≡ record (if_counts b k t) { ran = ran }
beside_runs true k t ran = refl
beside_runs false k t ran = refl

given_up_here : (v : View) (event : Event) (past : List Event) (ran : List (ℕ × Bool)) (k : ℕ) → HasDistinctNames v.registered
    → k < length v.registered.rows
    → given_to k (Some GivenUp) (seen_by v (event ∷ past) ran)
    ≡ seen_by v (with_answers ((name_at v.registered k, GivenUp) ∷ []) event ∷ past) ran
given_up_here v event past ran k distinct low =
    let m = place_there v.registered.rows k low in
    let t : Progress = seen_by v (event ∷ past) (progress_of v (event ∷ past) (log_of v past)).ran in
    let due : IsDue v event past t = record { distinct = distinct; table = refl } in
    let seen = seen_given v (λ (row : Row). Some GivenUp) event past k m.0 m.1 t (given_to k (Some GivenUp) t) due refl in
    beside_runs (counts_at t k) k t ran
    ∙ ap (λ (p : Progress). record p { ran = ran }) seen.table
    ∙ ap (λ (name : Text). seen_by v (with_answers ((name, GivenUp) ∷ []) event ∷ past) ran) (sym (name_there v.registered k m.0 m.1))

abbrev lost_rows : Registered → List ℕ → List (Text × Answer)
lost_rows r rows = map (λ row. (name_at r row, GivenUp)) rows

pub given_up_all : (v : View) (event : Event) (past : List Event) (ran : List (ℕ × Bool)) (rows : List ℕ) → HasDistinctNames v.registered
    → ((row : ℕ) → Contains rows row → row < length v.registered.rows)
    → after_giving_up rows (seen_by v (event ∷ past) ran) ≡ seen_by v (with_answers (lost_rows v.registered rows) event ∷ past) ran
given_up_all v event past ran [] distinct within =
    ap (λ (came : List (Text × Answer)). seen_by v (record event { came = came } ∷ past) ran) (sym (append-nil event.came))
given_up_all v event past ran (k ∷ rows) distinct within =
    let next : Event = with_answers ((name_at v.registered k, GivenUp) ∷ []) event in
    ap (after_giving_up rows) (given_up_here v event past ran k distinct (within k (contains_head k rows)))
    ∙ given_up_all v next past ran rows distinct (λ row c. within row (contains_tail k rows row c))
    ∙ ap (λ (came : List (Text × Answer)). seen_by v (record event { came = came } ∷ past) ran)
    (append_assoc event.came ((name_at v.registered k, GivenUp) ∷ []) (lost_rows v.registered rows))

-- ---- what ran stays

fold_ran : (v : View) (event : Event) (past : List Event) (t : Progress) (rows : List ℕ) → (fold (with_first v event past) t rows).ran ≡ t.ran
fold_ran v event past t [] = refl
fold_ran v event past t (row ∷ rows) =
    fold_ran v event past (with_first v event past t row) rows
    ∙ either (is_none (outcome_at t row) && is_some (first_of v (event ∷ past) (name_at v.registered row))) _ refl
  where
    either : (b : Bool) (s : Progress) → s.ran ≡ t.ran → (if b then s else t).ran ≡ t.ran
    either true s e = e
    either false s e = refl

ran_stays : (v : View) (event : Event) (past : List Event) (log : List ℕ) → event.requested ≡ [] → IsStage v past log
    → (progress_of v (event ∷ past) log).ran ≡ (progress_of v past log).ran
ran_stays v event past log asks stage =
    ap (λ (p : Progress). p.ran) (events_answer v event past log asks stage) ∙ fold_ran v event past (progress_of v past log) (row_numbers v.registered)

-- a table by what it has seen and its own runs
pub seen_own : (v : View) (past : List Event) (log : List ℕ) (t : Progress) → HasSeen v past log t → t ≡ seen_by v past t.ran
seen_own v past log t s = s.table ∙ ap (seen_by v past) (sym (ap (λ (p : Progress). p.ran) s.table))

-- an event that asks for nothing came
pub seen_after : (v : View) (event : Event) (past : List Event) (log : List ℕ) (t t' : Progress) → HasSeen v past log t → IsStage v past log
    → event.requested ≡ [] → t' ≡ seen_by v (event ∷ past) t.ran → HasSeen v (event ∷ past) log t'
seen_after v event past log t t' s stage asks e = record {
  distinct = s.distinct;
  table = e ∙ ap (seen_by v (event ∷ past)) (ap (λ (p : Progress). p.ran) s.table ∙ sym (ran_stays v event past log asks stage));
}

-- nothing came
pub seen_quiet : (v : View) (past : List Event) (log : List ℕ) (t : Progress) → HasSeen v past log t → IsStage v past log
    → HasSeen v (nothing ∷ past) log t
seen_quiet v past log t s stage = seen_after v nothing past log t t s stage refl (seen_own v past log t s ∙ sym (seen_nothing v past t.ran))

-- ---- a loss

abbrev table_by : Progress → Option (Asked × Sent) → Progress
table_by t found = option_map_or (λ pair. if nat_lt 1 pair.1.losses then after_giving_up pair.1.batch.rows t else t) found t

abbrev event_if : Registered → Sent → Bool → Event
event_if r sent third = if third then bring (given_up r sent.batch) else nothing

abbrev event_by : Registered → Option (Asked × Sent) → Event
event_by r found = option_map_or (λ pair. event_if r pair.1 (may_be_lost pair && nat_lt 1 pair.1.losses)) found nothing

-- the loss of an ask that may be lost came
pub seen_loss : (throws : Throws) (o : Opening) (past : List Call) (ask : ℕ) (log : List ℕ) (t : Progress) (pair : Asked × Sent)
    → HasSeen (view_of throws o) (events_of o past) log t → IsStage (view_of throws o) (events_of o past) log
    → asked_of (traffic_of o past) ask ≡ Some pair → may_be_lost pair ≡ true
    → HasSeen (view_of throws o) (loss o (traffic_of o past) ask ∷ events_of o past) log (after_third (traffic_of o past) ask t)
seen_loss throws o past ask log t pair s stage there lost =
    let v : View = view_of throws o in
    let events : List Event = events_of o past in
    seen_after v (loss o (traffic_of o past) ask) events log t (after_third (traffic_of o past) ask t) s stage (loss_requests o (traffic_of o past) ask)
    (ap (table_by t) there ∙ step (nat_lt 1 pair.1.losses)
    ∙ ap (λ (b : Bool). seen_by v (event_if o.registered pair.1 (b && nat_lt 1 pair.1.losses) ∷ events) t.ran) (sym lost)
    ∙ ap (λ (found : Option (Asked × Sent)). seen_by v (event_by o.registered found ∷ events) t.ran) (sym there))
  where
    step : (third : Bool) → (if third then after_giving_up pair.1.batch.rows t else t)
        ≡ seen_by (view_of throws o) (event_if o.registered pair.1 third ∷ events_of o past) t.ran
    step false = seen_own (view_of throws o) (events_of o past) log t s ∙ sym (seen_nothing (view_of throws o) (events_of o past) t.ran)
    step true =
        ap (after_giving_up pair.1.batch.rows)
        (seen_own (view_of throws o) (events_of o past) log t s ∙ sym (seen_nothing (view_of throws o) (events_of o past) t.ran))
        ∙ given_up_all (view_of throws o) nothing (events_of o past) t.ran pair.1.batch.rows s.distinct
        (λ row c. (batches_ask o past pair.0.batch pair.1 row (asked_sent (traffic_of o past) ask pair there) c).within)

-- ---- the rows by now

pub registered_seen_in : (throws : Throws) (o : Opening) (past : List Call)
    → registered_now (view_of throws o) (events_of o past) ≡ registered_after o past
registered_seen_in throws o past =
    ap (λ (first : Text → Option Answer). record {
      rows = map {A = Row} {B = Row} (λ row. record row { version = version_of (first row.name) row.version }) o.registered.rows;
      features = o.registered.features;
    })
    (fun_ext (λ name. first_same (view_of throws o) never (events_of o past) name))
