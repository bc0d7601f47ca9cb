-- The part that is kept of a name says what its outcome is.
use Rattle.std.proofs.Common.{◌≡◌, ℕ, List, [], ◌∷◌, Bool, true, false, ◌&&◌, not, map, Option, Some, None, refl, ap, sym, subst}
use Rattle.std.proofs.Common.{◌∙◌}
use Rattle.std.specs.Prelude.{bytes_eq, Contains, filter, find, option_and_then, option_map, is_none, is_some, if◌then◌else◌, slice_get, Result, Ok, Err}
use Rattle.std.specs.Option.{option_map_or, option_or}
use Rattle.std.proofs.lemmas.Bool.{both_ways}
use Rattle.std.proofs.lemmas.Option.{slice_get-get_or}
use Rattle.rl_names.specs.declared.row.Row.{Row}
use Rattle.rl_view_spec.specs.Closure.{Text, Registered, closure_rows, in_closures, is_skipped, row_of}
use Rattle.rl_view_spec.specs.Progress.{HasDistinctNames}
use Rattle.rl_view_spec.specs.View.{Answer, Implementation, Failed, answer_in, is_implementation, is_touched, or_else}
use Rattle.rl_view_spec.proofs.ChainsLemmas.{same}
use Rattle.rl_view_spec.proofs.DepsLemmas.{filter_map_contains}
use Rattle.rl_view_spec.proofs.PlacesLemmas.{apart, name_there, place_of, row_named}
use Rattle.rl_view_spec.proofs.ToolsLemmas.{filter_contains, found_in, found_place}
use Rattle.rl_wire.specs.Reading as wire
use Rattle.rl_wire.specs.declared.part.Part.{Part}
use Rattle.rl_book_spec.specs.Book.{nothing, bring, parts_for, request, loss, delivery, event_of, events_of}
use Rattle.rl_book_spec.specs.Given.{outcome_of, given_at_touch, given_in, given_by, given_to}
use Rattle.rl_view_spec.specs.Keys.{never}
use Rattle.rl_book_spec.specs.Laws.{DeliveryGives, GivenIsOutcome}
use Rattle.rl_book_spec.specs.Opening.{Opening, answer_at_touch, answer_of, part_name, part_of, stored_of, view_of}
use Rattle.rl_view_spec.specs.Requests.{accepted, accepted_each}
use Rattle.rl_view_spec.specs.Rows.{is_private}
use Rattle.rl_book_spec.specs.Traffic.{Traffic, asked_of, holds, traffic_of}
use Rattle.rl_book_spec.specs.declared.Asked.{Asked}
use Rattle.rl_book_spec.specs.declared.Sent.{Sent}
use Rattle.rl_book_spec.specs.declared.Call.{Call}
use Rattle.rl_book_spec.specs.declared.Call.TheVariants.{Using, Load, Take, Deliver, Lose}
use Rattle.rl_book_spec.specs.declared.Origin.{Origin}
use Rattle.rl_book_spec.specs.declared.Origin.TheVariants as origin
use Rattle.rl_book_spec.specs.declared.Stored.{Stored}
use Rattle.rl_book_spec.proofs.StageLemmas.{loss_quiet, quiet_answer}

-- ---- answers

abbrev pair_of : Part → Text × Answer
pair_of part = (part_name part, answer_of part)

abbrev is_named : Text → Text × Answer → Bool
is_named name coming = bytes_eq coming.0 name

pub delivery_gives : DeliveryGives
delivery_gives r batch [] name = step (holds r batch name)
  where
    step : (b : Bool) → None ≡ (if b then option_map answer_of (part_of [] name) else None)
    step true = refl
    step false = refl
delivery_gives r batch (part ∷ parts) name = step (bytes_eq (part_name part) name) refl (holds r batch (part_name part)) refl
    (delivery_gives r batch parts name)
  where
    step : (named : Bool) → bytes_eq (part_name part) name ≡ named → (held : Bool) → holds r batch (part_name part) ≡ held
        → option_map (λ (coming : Text × Answer). coming.1) (find (is_named name) (parts_for r batch parts))
        ≡ (if holds r batch name then option_map answer_of (part_of parts name) else None)
        → option_map (λ (coming : Text × Answer). coming.1) (find (is_named name)
        (map pair_of (if held then part ∷ filter (λ (part : Part). holds r batch (part_name part)) parts
        else filter (λ (part : Part). holds r batch (part_name part)) parts)))
        ≡ (if holds r batch name then option_map answer_of (if named then Some part else part_of parts name) else None)
    step true e true f later =
        let held : holds r batch name ≡ true = ap (holds r batch) (sym (same (part_name part) name e)) ∙ f in
        ap (λ (b : Bool). option_map (λ (coming : Text × Answer). coming.1)
        (if b then Some (pair_of part) else find (is_named name) (parts_for r batch parts))) e
        ∙ ap (λ (b : Bool). if b then Some (answer_of part) else None) (sym held)
    step true e false f later =
        let held : holds r batch name ≡ false = ap (holds r batch) (sym (same (part_name part) name e)) ∙ f in
        later ∙ ap (λ (b : Bool). if b then option_map answer_of (part_of parts name) else None) held
        ∙ ap (λ (b : Bool). if b then Some (answer_of part) else None) (sym held)
    step false e true f later =
        ap (λ (b : Bool). option_map (λ (coming : Text × Answer). coming.1)
        (if b then Some (pair_of part) else find (is_named name) (parts_for r batch parts))) e ∙ later
    step false e false f later = later

-- ---- what each call gives

abbrev pub Given : Option (Part × Origin) → Text → Text → Type 0
Given o version script = (given : Part × Origin) × (o ≡ Some given) × (answer_of given.0 ≡ Implementation version script)

-- the row of a name is the one that stands there
row_is : (r : Registered) → HasDistinctNames r → (row : Row) → Contains r.rows row → row_of r row.name ≡ Some row
row_is r distinct row c =
    let there : slice_get r.rows c.0 ≡ Some row = slice_get-get_or r.rows c.0 row c.1 ∙ ap Some c.2 in
    let p = place_of r row.name (row_named r row c) in
    let k : p.at ≡ c.0 = apart r distinct p.at c.0 p.inside c.1 (p.named ∙ sym (name_there r c.0 row there)) in
    let e : Some p.row ≡ Some row = sym p.there ∙ ap (slice_get r.rows) k ∙ there in
    p.found ∙ e

touch_gives : (o : Opening) (row : Row) (version script : Text) → answer_at_touch o row ≡ Some (Implementation version script)
    → Given (given_at_touch o row) version script
touch_gives o row version script = step (part_of o.embedded row.name) (is_private row.group) (stored_of o row)
  where
    step : (part : Option Part) (private : Bool) (stored : Option Stored)
        → or_else (option_map answer_of part) (if private then Some Failed else option_map (λ (stored : Stored). answer_of stored.part) stored)
        ≡ Some (Implementation version script)
        → Given (option_or (option_map (λ (part : Part). (part, origin.Embedded)) part)
        (if private then None else option_map (λ (stored : Stored). (stored.part, origin.Stored stored.wire)) stored)) version script
    step (Some part) private stored e = ((part, origin.Embedded), refl, cc)
    step None true stored e = cc
    step None false None e = cc
    step None false (Some stored) e = ((stored.part, origin.Stored stored.wire), refl, cc)

request_gives : (o : Opening) (names : List Text) (name version script : Text) → HasDistinctNames o.registered → answer_in name (request o names)
    ≡ Some (Implementation version script)
    → Given (option_and_then (given_at_touch o) (row_of o.registered name)) version script
request_gives o names name version script distinct = step (find (is_named name) (request o names).came) refl
  where
    step : (found : Option (Text × Answer)) → find (is_named name) (request o names).came ≡ found
        → option_map (λ (coming : Text × Answer). coming.1) found
        ≡ Some (Implementation version script)
        → Given (option_and_then (given_at_touch o) (row_of o.registered name)) version script
    step None e h = cc
    step (Some coming) e h =
        let is : coming.1 ≡ Implementation version script = cc in
        let m = filter_map_contains (λ (row : Row). option_map (λ (answer : Answer). (row.name, answer)) (answer_at_touch o row))
        (closure_rows o.registered names) coming (found_in (is_named name) (request o names).came coming e) in
        let c : Contains o.registered.rows m.0 = (filter_contains (λ (row : Row). in_closures o.registered names row.name) o.registered.rows m.0 m.1).0 in
        let passes = found_place (is_named name) (request o names).came coming e in
        of_row m.0 c coming is (same coming.0 name passes.2) (answer_at_touch o m.0) refl m.2
      where
        of_row : (row : Row) → Contains o.registered.rows row → (coming : Text × Answer) → coming.1 ≡ Implementation version script → coming.0
            ≡ name → (answer : Option Answer) → answer_at_touch o row ≡ answer
            → option_map (λ (answer : Answer). (row.name, answer)) answer ≡ Some coming
            → Given (option_and_then (given_at_touch o) (row_of o.registered name)) version script
        of_row row c coming is named None a h = cc
        of_row row c coming is named (Some answer) a h =
            let pair : (row.name, answer) ≡ coming = cc in
            let name_is : row.name ≡ name = ap (λ (p : Text × Answer). p.0) pair ∙ named in
            let answer_is : answer ≡ Implementation version script = ap (λ (p : Text × Answer). p.1) pair ∙ is in
            let there : row_of o.registered name ≡ Some row = ap (row_of o.registered) (sym name_is) ∙ row_is o.registered distinct row c in
            subst (λ (found : Option Row). Given (option_and_then (given_at_touch o) found) version script) (sym there)
            (touch_gives o row version script (a ∙ ap Some answer_is))

delivery_given : (o : Opening) (t : Traffic) (ask : ℕ) (parts : List Part) (from : Origin) (name version script : Text)
    → answer_in name (delivery o t ask (Ok parts)) ≡ Some (Implementation version script)
    → Given (option_map (λ (part : Part). (part, from)) (part_of parts name)) version script
delivery_given o t ask parts from name version script = outer (asked_of t ask)
  where
    given : (part : Option Part) → option_map answer_of part ≡ Some (Implementation version script)
        → Given (option_map (λ (part : Part). (part, from)) part) version script
    given None h = cc
    given (Some part) h = ((part, from), refl, cc)

    inner : (held : Bool) → (if held then option_map answer_of (part_of parts name) else None) ≡ Some (Implementation version script)
        → Given (option_map (λ (part : Part). (part, from)) (part_of parts name)) version script
    inner true h = given (part_of parts name) h
    inner false h = cc

    outer : (found : Option (Asked × Sent)) → answer_in name (option_map_or
        (λ (pair : Asked × Sent). bring (parts_for o.registered pair.1.batch parts)) found nothing) ≡ Some (Implementation version script)
        → Given (option_map (λ (part : Part). (part, from)) (part_of parts name)) version script
    outer None h = cc
    outer (Some pair) h = inner (holds o.registered pair.1.batch name) (sym (delivery_gives o.registered pair.1.batch parts name) ∙ h)

-- a loss brings no implementation
loss_gives : (o : Opening) (t : Traffic) (ask : ℕ) (name version script : Text) → answer_in name (loss o t ask) ≡ Some (Implementation version script)
    → ⊥
loss_gives o t ask name version script h = both_ways (is_implementation (answer_in name (loss o t ask)))
    (quiet_answer (loss o t ask) name (loss_quiet o t ask)) (ap is_implementation h)

deliver_gives : (o : Opening) (t : Traffic) (ask : ℕ) (read : Result (List Part) ℕ) (from : Origin) (name version script : Text)
    → answer_in name (delivery o t ask read) ≡ Some (Implementation version script)
    → Given (given_in name read from) version script
deliver_gives o t ask (Ok parts) from name version script h = delivery_given o t ask parts from name version script h
deliver_gives o t ask (Err line) from name version script h = absurd (loss_gives o t ask name version script h)

call_gives : (o : Opening) (past : List Call) (call : Call) (name version script : Text) → HasDistinctNames o.registered
    → answer_in name (event_of o past call) ≡ Some (Implementation version script)
    → Given (given_by o call name) version script
call_gives o past (Using names) name version script distinct h = request_gives o (accepted o.registered names) name version script distinct h
call_gives o past (Load names) name version script distinct h = request_gives o (accepted_each o.registered names) name version script distinct h
call_gives o past Take name version script distinct h = cc
call_gives o past (Deliver ask bytes mark) name version script distinct h =
    deliver_gives o (traffic_of o past) ask (wire.answer_of bytes) (origin.Wire mark) name version script h
call_gives o past (Lose ask mark) name version script distinct h = absurd (loss_gives o (traffic_of o past) ask name version script h)

pub given_outcome : GivenIsOutcome
given_outcome o [] name version script distinct h = cc
given_outcome o (call ∷ past) name version script distinct h =
    step (outcome_of o past name) refl (λ before. given_outcome o past name version script distinct before)
  where
    due : Bool
    due = is_touched (view_of never o) (events_of o (call ∷ past)) name && not (is_skipped o.registered name)

    now : (due : Bool) → (if due then answer_in name (event_of o past call) else None) ≡ Some (Implementation version script)
        → Given (if is_some (if due then answer_in name (event_of o past call) else None) then given_by o call name else given_to o past name) version script
    now false e = cc
    now true e = subst (λ (found : Option Answer). Given (if is_some found then given_by o call name else given_to o past name) version script) (sym e)
        (call_gives o past call name version script distinct e)

    step : (before : Option Answer) → outcome_of o past name ≡ before → (outcome_of o past name ≡ Some (Implementation version script)
        → Given (given_to o past name) version script)
        → Given (given_to o (call ∷ past) name) version script
    step (Some answer) e earlier =
        let kept : outcome_of o (call ∷ past) name ≡ Some answer = ap (λ (found : Option Answer). or_else found
        (if due then answer_in name (event_of o past call) else None)) e in
        subst (λ (found : Option Answer). Given (if is_none found && is_some (outcome_of o (call ∷ past) name) then given_by o call name
        else given_to o past name) version script) (sym e)
        (earlier (e ∙ sym kept ∙ h))
    step None e earlier =
        let fresh : outcome_of o (call ∷ past) name ≡ (if due then answer_in name (event_of o past call) else None) =
        ap (λ (found : Option Answer). or_else found (if due then answer_in name (event_of o past call) else None)) e in
        subst (λ (found : Option Answer). Given (if is_none found && is_some (outcome_of o (call ∷ past) name) then given_by o call name
        else given_to o past name) version script) (sym e)
        (subst (λ (found : Option Answer). Given (if is_some found then given_by o call name else given_to o past name) version script) (sym fresh)
        (now due (sym fresh ∙ h)))
