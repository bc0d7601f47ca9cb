-- A touched row without an outcome is asked for by a batch that is not settled, where answers are whole.
use Rattle.std.proofs.Common.{◌≡◌, ℕ, zero, suc, ◌+◌, List, [], ◌∷◌, ◌++◌, Bool, true, false, ◌&&◌, ◌||◌, not, length}
use Rattle.std.proofs.Common.{map, Option, Some, None, refl, ap, sym, subst, ◌∙◌, ◌⊎◌, ⊎_elim, inl, inr, arith}
use Rattle.std.specs.Prelude.{Contains, slice_get, slice_set, filter, option_map, is_some, is_none, if◌then◌else◌, nat_le, nat_lt, nat_eq}
use Rattle.std.specs.Prelude.{bytes_eq, Result, Ok, Err}
use Rattle.std.specs.List.{enumerate_from, list_any}
use Rattle.std.specs.Option.{option_map_or}
use Rattle.std.proofs.lemmas.Bool.{and_from, or_left, both_ways, cases_Bool, eqb-true, eqb-false, false_from_ne_true, not_from_false, true_from_ne_false}
use Rattle.std.proofs.lemmas.Bool.Decides.{nat_tests}
use Rattle.std.proofs.lemmas.Option.{slice_get-get_or}
use Rattle.rl_names.specs.declared.row.Row.{Row}
use Rattle.rl_names.specs.declared.query.Query.{Query}
use Rattle.rl_view_spec.specs.Closure.{Text, Registered, closure_rows, has_feature, in_closures, is_skipped}
use Rattle.rl_view_spec.specs.Progress.{name_at}
use Rattle.rl_view_spec.specs.View.{View, Event, Answer, GivenUp, Throws, answer_in, or_else, is_touched, touches, first_of}
use Rattle.rl_view_spec.proofs.ChainsLemmas.{same}
use Rattle.rl_view_spec.proofs.DepsLemmas.{contains_filter_map}
use Rattle.rl_view_spec.proofs.PlacesLemmas.{alike, bytes_eq-from, name_there, skip_there, skips_alike}
use Rattle.rl_view_spec.proofs.ToolsLemmas.{any_one, one_any, all_each, each_all, contains_map, contains_filter, found_place, place_in, place_there, some_found}
use Rattle.rl_wire.specs.Reading as wire
use Rattle.rl_wire.specs.declared.part.Part.{Part}
use Rattle.rl_book_spec.specs.Batches.{Numbered, batch_of, rows_of_batches}
use Rattle.rl_book_spec.specs.Book.{nothing, bring, given_up, parts_for, request, loss, delivery, event_of, events_of}
use Rattle.rl_book_spec.specs.Laws.{IsAskedFor, IsWhole, AnswersAreWhole, TouchedIsAskedFor, SettledIsAnswered}
use Rattle.rl_book_spec.specs.Opening.{Opening, answer_at_touch, answer_of, part_name, part_of, view_of}
use Rattle.rl_view_spec.specs.Requests.{accepted, accepted_each}
use Rattle.rl_book_spec.specs.Traffic.{Traffic, after_answer, after_loss, all_settled, asked_of, batches_for, fresh, holds, is_given_up, is_left}
use Rattle.rl_book_spec.specs.Traffic.{is_settled, may_be_lost, requested_by, traffic_of, with_batches, with_delivery, with_loss, without}
use Rattle.rl_book_spec.specs.declared.Asked.{Asked}
use Rattle.rl_book_spec.specs.declared.Sent.{Sent}
use Rattle.rl_book_spec.specs.declared.Batch.{Batch}
use Rattle.rl_book_spec.specs.declared.Call.{Call}
use Rattle.rl_book_spec.specs.declared.Call.TheVariants.{Using, Load, Take, Deliver, Lose}
use Rattle.rl_book_spec.proofs.BatchesLemmas.{in_a_batch}
use Rattle.rl_book_spec.proofs.LawfulLemmas.{event_requests, requests_touch}
use Rattle.rl_book_spec.proofs.ListsLemmas.{get_behind, get_front, get_set, get_set_other, numbered}

-- ---- an event answers a name

-- it does where it brings an answer for it
answered : (name : Text) (event : Event) (answer : Answer) → Contains event.came (name, answer) → is_some (answer_in name event) ≡ true
answered name event answer c =
    let m = some_found (λ (coming : Text × Answer). bytes_eq coming.0 name) event.came (name, answer) c (alike name) in
    ap (λ (o : Option (Text × Answer)). is_some (option_map (λ (coming : Text × Answer). coming.1) o)) m.1

-- a touched name that is not skipped has an outcome after an event that answers it
abbrev has_first : View → List Event → Text → Bool
has_first v past name = is_some (first_of v past name)

pub still_some : (before later : Option Answer) → is_some before ≡ true → is_some (or_else before later) ≡ true
still_some None later h = cc
still_some (Some answer) later h = refl

first_stays : (v : View) (event : Event) (past : List Event) (name : Text) → has_first v past name ≡ true → has_first v (event ∷ past) name ≡ true
first_stays v event past name = still_some (first_of v past name)
    (if is_touched v (event ∷ past) name && not (is_skipped v.registered name) then answer_in name event else None)

first_comes : (v : View) (event : Event) (past : List Event) (name : Text) → is_touched v (event ∷ past) name ≡ true → is_skipped v.registered name
    ≡ false → is_some (answer_in name event) ≡ true → has_first v (event ∷ past) name ≡ true
first_comes v event past name touched kept h = step (first_of v past name) (is_touched v (event ∷ past) name && not (is_skipped v.registered name))
    (and_from (is_touched v (event ∷ past) name) (not (is_skipped v.registered name)) touched (not_from_false (is_skipped v.registered name) kept))
  where
    step : (o : Option Answer) (b : Bool) → b ≡ true → is_some (or_else o (if b then answer_in name event else None)) ≡ true
    step (Some answer) b e = refl
    step None true e = h
    step None false e = cc

-- an answer with a part for a row of the batch
delivered_answers : (r : Registered) (batch : Batch) (parts : List Part) (name : Text) → holds r batch name ≡ true → is_some (part_of parts name)
    ≡ true → is_some (answer_in name (bring (parts_for r batch parts))) ≡ true
delivered_answers r batch parts name held given = step (part_of parts name) refl given
  where
    step : (o : Option Part) → part_of parts name ≡ o → is_some o ≡ true → is_some (answer_in name (bring (parts_for r batch parts))) ≡ true
    step None e h = cc
    step (Some part) e h =
        let m = found_place (λ (part : Part). bytes_eq (part_name part) name) parts part e in
        let named : part_name part ≡ name = same (part_name part) name m.2 in
        let kept : holds r batch (part_name part) ≡ true = ap (holds r batch) named ∙ held in
        let c : Contains (parts_for r batch parts) (part_name part, answer_of part) =
        contains_map (λ (part : Part). (part_name part, answer_of part)) (filter (λ (part : Part). holds r batch (part_name part)) parts) part
        (contains_filter (λ (part : Part). holds r batch (part_name part)) parts part (place_in parts m.0 part m.1) kept) in
        answered name (bring (parts_for r batch parts)) (answer_of part) (subst (λ (n : Text). Contains (parts_for r batch parts) (n, answer_of part)) named c)

-- giving a batch up
given_up_answers : (r : Registered) (batch : Batch) (name : Text) → holds r batch name ≡ true → is_some (answer_in name (bring (given_up r batch)))
    ≡ true
given_up_answers r batch name held =
    let m = any_one (λ (row : ℕ). bytes_eq (name_at r row) name) batch.rows held in
    let c : Contains (given_up r batch) (name_at r m.0, GivenUp) = contains_map (λ (row : ℕ). (name_at r row, GivenUp)) batch.rows m.0 m.1 in
    answered name (bring (given_up r batch)) GivenUp (subst (λ (n : Text). Contains (given_up r batch) (n, GivenUp)) (same (name_at r m.0) name m.2) c)

-- a request for a row that is answered at once
request_answers : (o : Opening) (names : List Text) (row : Row) (answer : Answer) → Contains o.registered.rows row
    → in_closures o.registered names row.name ≡ true → answer_at_touch o row ≡ Some answer
    → is_some (answer_in row.name (request o names)) ≡ true
request_answers o names row answer c within e =
    answered row.name (request o names) answer
    (contains_filter_map (λ (row : Row). option_map (λ (answer : Answer). (row.name, answer)) (answer_at_touch o row)) (closure_rows o.registered names) row
    (row.name, answer)
    (contains_filter (λ (row : Row). in_closures o.registered names row.name) o.registered.rows row c within)
    (ap (option_map (λ (answer : Answer). (row.name, answer))) e))

-- ---- a new batch holds each row that is left

pub batch_rows : (base : Query) (rows : List Numbered) → (batch_of base rows).rows ≡ map (λ (p : Numbered). p.0) rows
batch_rows base [] = refl
batch_rows base (row ∷ rows) = refl

batch_holds : (r : Registered) (base : Query) (rows : List Numbered) (k : ℕ) (row : Row) → slice_get r.rows k ≡ Some row → Contains rows (k, row)
    → holds r (batch_of base rows) row.name ≡ true
batch_holds r base rows k row there c =
    ap (list_any (λ (row' : ℕ). bytes_eq (name_at r row') row.name)) (batch_rows base rows)
    ∙ one_any (λ (row' : ℕ). bytes_eq (name_at r row') row.name) (map (λ (p : Numbered). p.0) rows) k
    (contains_map (λ (p : Numbered). p.0) rows (k, row) c)
    (bytes_eq-from (name_at r k) row.name (name_there r k row there))

new_batch : (o : Opening) (past : List Call) (names : List Text) (k : ℕ) (row : Row) → slice_get o.registered.rows k ≡ Some row
    → is_left o past names (k, row) ≡ true
    → (batch : Batch) × Contains (batches_for o past names) batch × (holds o.registered batch row.name ≡ true)
new_batch o past names k row there left =
    let waiting : List Numbered = filter (is_left o past names) (enumerate_from 0 o.registered.rows) in
    let zero_plus : 0 + k ≡ k = omega arith in
    let c : Contains waiting (k, row) = contains_filter (is_left o past names) (enumerate_from 0 o.registered.rows) (k, row)
    (subst (λ (n : ℕ). Contains (enumerate_from 0 o.registered.rows) (n, row)) zero_plus (numbered 0 o.registered.rows k row there)) left in
    let m = in_a_batch o.base o.limit waiting (k, row) c in
    (batch_of o.base m.0, contains_map (batch_of o.base) (rows_of_batches o.base o.limit waiting) m.0 m.1, batch_holds o.registered o.base m.0 k row there m.2)

new_asked : (o : Opening) (past : List Call) (names : List Text) (t : Traffic) (k : ℕ) (row : Row) → slice_get o.registered.rows k ≡ Some row
    → is_left o past names (k, row) ≡ true
    → IsAskedFor o.registered (with_batches (batches_for o past names) t) row.name
new_asked o past names t k row there left =
    let m = new_batch o past names k row there left in
    let place = contained_at (map fresh (batches_for o past names)) (fresh m.0) (contains_map fresh (batches_for o past names) m.0 m.1) in
    record {
      batch = length t.batches + place.0;
      sent = fresh m.0;
      there = get_behind t.batches (map fresh (batches_for o past names)) place.0 (fresh m.0) place.1;
      held = m.2;
      waits = refl;
    }
  where
    contained_at : {X : Type 0} (xs : List X) (x : X) → Contains xs x → (k : ℕ) × (slice_get xs k ≡ Some x)
    contained_at [] x c = absurd (omega (arith, c.1))
    contained_at (y ∷ xs) x (zero, low, e) = (zero, ap Some e)
    contained_at (y ∷ xs) x (suc k, low, e) = let m = contained_at xs x (k, omega arith, e) in (suc m.0, m.1)

-- ---- a call keeps what is asked for, or answers it

pub asked_sent : (t : Traffic) (ask : ℕ) (pair : Asked × Sent) → asked_of t ask ≡ Some pair → slice_get t.batches pair.0.batch ≡ Some pair.1
asked_sent t ask pair = outer (slice_get t.asks ask)
  where
    inner : (asked : Asked) (o : Option Sent) → slice_get t.batches asked.batch ≡ o → option_map_or (λ (sent : Sent). Some (asked, sent)) o None
        ≡ Some pair → slice_get t.batches pair.0.batch ≡ Some pair.1
    inner asked None e h = cc
    inner asked (Some sent) e h = let first : (asked, sent) ≡ pair = cc in subst (λ (p : Asked × Sent). slice_get t.batches p.0.batch ≡ Some p.1) first e

    outer : (o : Option Asked) → option_map_or (λ (asked : Asked). option_map_or (λ (sent : Sent). Some (asked, sent))
        (slice_get t.batches asked.batch) None) o None ≡ Some pair → slice_get t.batches pair.0.batch ≡ Some pair.1
    outer None h = cc
    outer (Some asked) h = inner asked (slice_get t.batches asked.batch) refl h

same_sent : (t : Traffic) (k : ℕ) (a b : Sent) → slice_get t.batches k ≡ Some a → slice_get t.batches k ≡ Some b → a ≡ b
same_sent t k a b e f = let g : Some a ≡ Some b = sym e ∙ f in cc

-- another batch changes
other_asked : (r : Registered) (t : Traffic) (name : Text) (place : ℕ) (sent : Sent) (waiting : List ℕ) (asks : List Asked) (a : IsAskedFor r t name)
    → (a.batch ≡ place → ⊥)
    → IsAskedFor r (record { batches = slice_set t.batches place sent; waiting = waiting; asks = asks }) name
other_asked r t name place sent waiting asks a apart = record {
  batch = a.batch;
  sent = a.sent;
  there = get_set_other t.batches a.batch place sent apart
      ∙ a.there;
  held = a.held;
  waits = a.waits;
}

not_delivered : (sent : Sent) → is_settled sent ≡ false → sent.delivered ≡ false
not_delivered sent h = false_from_ne_true sent.delivered (λ e. both_ways (is_settled sent) h (or_left sent.delivered (is_given_up sent) e))

-- it is lost for the first or second time
still_open : (sent : Sent) → is_settled sent ≡ false → nat_lt 1 sent.losses ≡ false → is_settled (record sent { losses = sent.losses + 1 }) ≡ false
still_open sent h few =
    let low : nat_le 3 (sent.losses + 1) ≡ false = few_left sent.losses few in
    ap (λ (b : Bool). b || nat_le 3 (sent.losses + 1)) (not_delivered sent h) ∙ low
  where
    few_left : (n : ℕ) → nat_lt 1 n ≡ false → nat_le 3 (n + 1) ≡ false
    few_left n e = grind (arith, nat_tests)

loss_step : (o : Opening) (t : Traffic) (ask : ℕ) (name : Text) (a : IsAskedFor o.registered t name)
    → (is_some (answer_in name (loss o t ask)) ≡ true) ⊎ IsAskedFor o.registered (after_loss t ask) name
loss_step o t ask name a = outer (asked_of t ask) refl
  where
    answered_now : (pair : Asked × Sent) → a.sent ≡ pair.1 → is_some (answer_in name (bring (given_up o.registered pair.1.batch))) ≡ true
    answered_now pair e = given_up_answers o.registered pair.1.batch name (subst (λ (sent : Sent). holds o.registered sent.batch name ≡ true) e a.held)

    here : (pair : Asked × Sent) → a.batch ≡ pair.0.batch → slice_get t.batches pair.0.batch ≡ Some pair.1 → (many : Bool)
        → nat_lt 1 pair.1.losses ≡ many
        → (is_some (answer_in name (if many then bring (given_up o.registered pair.1.batch) else nothing)) ≡ true)
        ⊎ IsAskedFor o.registered (with_loss ask pair.0 pair.1 t) name
    here pair place sent true e = inl (answered_now pair (same_sent t a.batch a.sent pair.1 a.there (ap (slice_get t.batches) place ∙ sent)))
    here pair place sent false e =
        let eq : a.sent ≡ pair.1 = same_sent t a.batch a.sent pair.1 a.there (ap (slice_get t.batches) place ∙ sent) in
        inr (record {
          batch = pair.0.batch;
          sent = record pair.1 { losses = pair.1.losses + 1 };
          there = get_set t.batches pair.0.batch pair.1 (record pair.1 { losses = pair.1.losses + 1 }) sent;
          held = subst (λ (sent : Sent). holds o.registered sent.batch name ≡ true) eq a.held;
          waits = still_open pair.1 (subst (λ (sent : Sent). is_settled sent ≡ false) eq a.waits) e;
        })

    lost : (pair : Asked × Sent) → slice_get t.batches pair.0.batch ≡ Some pair.1 → (b : Bool)
        → (is_some (answer_in name (if b && nat_lt 1 pair.1.losses then bring (given_up o.registered pair.1.batch) else nothing)) ≡ true)
        ⊎ IsAskedFor o.registered (if b then with_loss ask pair.0 pair.1 t else t) name
    lost pair sent false = inr a
    lost pair sent true = ⊎_elim (λ e. here pair (eqb-true a.batch pair.0.batch e) sent (nat_lt 1 pair.1.losses) refl)
        (λ e. inr (other_asked o.registered t name pair.0.batch (record pair.1 { losses = pair.1.losses + 1 })
        (t.waiting ++ (if nat_le 2 pair.1.losses then [] else pair.0.batch ∷ [])) (slice_set t.asks ask (record pair.0 { lost = true })) a
        (eqb-false a.batch pair.0.batch e)))
        (cases_Bool (nat_eq a.batch pair.0.batch))

    outer : (found : Option (Asked × Sent)) → asked_of t ask ≡ found
        → (is_some (answer_in name (option_map_or (λ (pair : Asked × Sent). if may_be_lost pair && nat_lt 1 pair.1.losses
        then bring (given_up o.registered pair.1.batch) else nothing) found nothing)) ≡ true)
        ⊎ IsAskedFor o.registered (option_map_or (λ (pair : Asked × Sent). if may_be_lost pair then with_loss ask pair.0 pair.1 t else t) found t) name
    outer None e = inr a
    outer (Some pair) e = lost pair (asked_sent t ask pair e) (may_be_lost pair)

delivery_step : (o : Opening) (t : Traffic) (ask : ℕ) (read : Result (List Part) ℕ) (name : Text)
    → ((parts : List Part) (pair : Asked × Sent) → read ≡ Ok parts → asked_of t ask ≡ Some pair → (name : Text)
    → holds o.registered pair.1.batch name ≡ true → is_some (part_of parts name) ≡ true)
    → (a : IsAskedFor o.registered t name) → (is_some (answer_in name (delivery o t ask read)) ≡ true)
    ⊎ IsAskedFor o.registered (after_answer t ask read) name
delivery_step o t ask (Err line) name whole a = loss_step o t ask name a
delivery_step o t ask (Ok parts) name whole a = outer (asked_of t ask) refl
  where
    there : (pair : Asked × Sent) → asked_of t ask ≡ Some pair
        → (is_some (answer_in name (bring (parts_for o.registered pair.1.batch parts))) ≡ true)
        ⊎ IsAskedFor o.registered (with_delivery pair.0 pair.1 t) name
    there pair e = ⊎_elim
        (λ same_place.
        let eq : a.sent ≡ pair.1 = same_sent t a.batch a.sent pair.1 a.there
        (ap (slice_get t.batches) (eqb-true a.batch pair.0.batch same_place) ∙ asked_sent t ask pair e) in
        let held : holds o.registered pair.1.batch name ≡ true = subst (λ (sent : Sent). holds o.registered sent.batch name ≡ true) eq a.held in
        inl (delivered_answers o.registered pair.1.batch parts name held (whole parts pair refl e name held)))
        (λ apart. inr (other_asked o.registered t name pair.0.batch (record pair.1 { delivered = true }) (without pair.0.batch t.waiting) t.asks a
        (eqb-false a.batch pair.0.batch apart)))
        (cases_Bool (nat_eq a.batch pair.0.batch))

    outer : (found : Option (Asked × Sent)) → asked_of t ask ≡ found
        → (is_some (answer_in name (option_map_or (λ (pair : Asked × Sent). bring (parts_for o.registered pair.1.batch parts)) found nothing)) ≡ true)
        ⊎ IsAskedFor o.registered (option_map_or (λ (pair : Asked × Sent). with_delivery pair.0 pair.1 t) found t) name
    outer None e = inr a
    outer (Some pair) e = there pair e

request_step : (r : Registered) (t : Traffic) (new : List Batch) (name : Text) → IsAskedFor r t name → IsAskedFor r (with_batches new t) name
request_step r t new name a = record {
  batch = a.batch;
  sent = a.sent;
  there = get_front t.batches (map fresh new) a.batch a.sent a.there;
  held =
      a.held;
  waits = a.waits;
}

pub call_step : (o : Opening) (past : List Call) (call : Call) (name : Text) → IsWhole o (traffic_of o past) call
    → (a : IsAskedFor o.registered (traffic_of o past) name)
    → (is_some (answer_in name (event_of o past call)) ≡ true) ⊎ IsAskedFor o.registered (traffic_of o (call ∷ past)) name
call_step o past (Using names) name whole a = inr (request_step o.registered (traffic_of o past) (batches_for o past (accepted o.registered names)) name a)
call_step o past (Load names) name whole a = inr (request_step o.registered (traffic_of o past) (batches_for o past (accepted_each o.registered names)) name a)
call_step o past Take name whole a = inr (record { batch = a.batch; sent = a.sent; there = a.there; held = a.held; waits = a.waits })
call_step o past (Deliver ask bytes mark) name whole a = delivery_step o (traffic_of o past) ask (wire.answer_of bytes) name whole a
call_step o past (Lose ask mark) name whole a = loss_step o (traffic_of o past) ask name a

-- ---- a row that is touched for the first time

-- a call that touches a row which no call before it touched answers it or has it asked for
new_step : (o : Opening) (past : List Call) (call : Call) (k : ℕ) (row : Row) → slice_get o.registered.rows k ≡ Some row
    → has_feature o.registered row.skip ≡ false
    → list_any (λ (call : Call). in_closures o.registered (requested_by o.registered call) row.name) past ≡ false
    → in_closures o.registered (requested_by o.registered call) row.name ≡ true
    → (is_some (answer_in row.name (event_of o past call)) ≡ true) ⊎ IsAskedFor o.registered (traffic_of o (call ∷ past)) row.name
new_step o past call k row there kept fresh now = by call now
  where
    left : (names : List Text) → in_closures o.registered names row.name ≡ true → answer_at_touch o row ≡ None → is_left o past names (k, row)
        ≡ true
    left names within none =
        and_from (in_closures o.registered names row.name && not (list_any
        (λ (call : Call). in_closures o.registered (requested_by o.registered call) row.name) past) && not (has_feature o.registered row.skip))
        (is_none (answer_at_touch o row))
        (and_from (in_closures o.registered names row.name && not (list_any
        (λ (call : Call). in_closures o.registered (requested_by o.registered call) row.name) past)) (not (has_feature o.registered row.skip))
        (and_from (in_closures o.registered names row.name) (not (list_any
        (λ (call : Call). in_closures o.registered (requested_by o.registered call) row.name) past)) within
        (not_from_false (list_any (λ (call : Call). in_closures o.registered (requested_by o.registered call) row.name) past) fresh))
        (not_from_false (has_feature o.registered row.skip) kept))
        (ap is_none none)

    asks : (names : List Text) → in_closures o.registered names row.name ≡ true → (answer : Option Answer) → answer_at_touch o row ≡ answer
        → (is_some (answer_in row.name (request o names)) ≡ true) ⊎ IsAskedFor o.registered
        (with_batches (batches_for o past names) (traffic_of o past)) row.name
    asks names within (Some answer) e = inl (request_answers o names row answer (place_in o.registered.rows k row there) within e)
    asks names within None e = inr (new_asked o past names (traffic_of o past) k row there (left names within e))

    none_touched : in_closures o.registered [] row.name ≡ true → ⊥
    none_touched e = cc

    by : (call : Call) → in_closures o.registered (requested_by o.registered call) row.name ≡ true
        → (is_some (answer_in row.name (event_of o past call)) ≡ true) ⊎ IsAskedFor o.registered (traffic_of o (call ∷ past)) row.name
    by (Using names) within = asks (accepted o.registered names) within (answer_at_touch o row) refl
    by (Load names) within = asks (accepted_each o.registered names) within (answer_at_touch o row) refl
    by Take within = absurd (none_touched within)
    by (Deliver ask bytes mark) within = absurd (none_touched within)
    by (Lose ask mark) within = absurd (none_touched within)

-- ---- all calls

abbrev Answered : Throws → Opening → List Call → Text → Type 0
Answered throws o past name = (has_first (view_of throws o) (events_of o past) name ≡ true) ⊎ IsAskedFor o.registered (traffic_of o past) name

row_asked : (throws : Throws) (o : Opening) (past : List Call) → AnswersAreWhole o past → (k : ℕ) (row : Row) → slice_get o.registered.rows k
    ≡ Some row
    → has_feature o.registered row.skip ≡ false → is_skipped o.registered row.name ≡ false
    → is_touched (view_of throws o) (events_of o past) row.name ≡ true → Answered throws o past row.name
row_asked throws o [] whole k row there kept kept' touched = cc
row_asked throws o (call ∷ past) whole k row there kept kept' touched =
    step (is_touched (view_of throws o) (events_of o past) row.name) refl (λ before. row_asked throws o past whole.1 k row there kept kept' before)
  where
    answer : (is_some (answer_in row.name (event_of o past call)) ≡ true) ⊎ IsAskedFor o.registered (traffic_of o (call ∷ past)) row.name
        → Answered throws o (call ∷ past) row.name
    answer (inl h) = inl (first_comes (view_of throws o) (event_of o past call) (events_of o past) row.name touched kept' h)
    answer (inr a) = inr a

    now : is_touched (view_of throws o) (events_of o past) row.name ≡ false → in_closures o.registered (requested_by o.registered call) row.name ≡ true
    now e = sym (ap (λ (names : List Text). in_closures o.registered names row.name) (event_requests o past call))
        ∙ true_from_ne_false (touches o.registered row.name (event_of o past call))
        (λ f. both_ways (touches o.registered row.name (event_of o past call) || is_touched (view_of throws o) (events_of o past) row.name)
        (or_false f e) touched)
      where
        or_false : {a b : Bool} → a ≡ false → b ≡ false → (a || b) ≡ false
        or_false {a} {b} e f = ap (λ (c : Bool). c || b) e ∙ f

    earlier : Answered throws o past row.name → Answered throws o (call ∷ past) row.name
    earlier (inl h) = inl (first_stays (view_of throws o) (event_of o past call) (events_of o past) row.name h)
    earlier (inr a) = answer (call_step o past call row.name whole.0 a)

    step : (b : Bool) → is_touched (view_of throws o) (events_of o past) row.name ≡ b
        → (is_touched (view_of throws o) (events_of o past) row.name ≡ true → Answered throws o past row.name)
        → Answered throws o (call ∷ past) row.name
    step true e recursion = earlier (recursion e)
    step false e recursion = answer (new_step o past call k row there kept (requests_touch throws o past row.name ∙ e) (now e))

pub touched_asked : TouchedIsAskedFor
touched_asked throws o past distinct whole number low touched kept =
    let m = place_there o.registered.rows number low in
    let named : name_at o.registered number ≡ m.0.name = name_there o.registered number m.0 m.1 in
    let skips : has_feature o.registered m.0.skip ≡ false = sym (skip_there o.registered number m.0 m.1) ∙ skips_alike o.registered distinct number low
    ∙ kept in
    subst (λ (name : Text). Answered throws o past name) (sym named)
    (row_asked throws o past whole number m.0 m.1 skips (ap (is_skipped o.registered) (sym named) ∙ kept)
    (ap (is_touched (view_of throws o) (events_of o past)) (sym named) ∙ touched))

-- no batch is asked for any more
none_left : (r : Registered) (t : Traffic) (name : Text) → all_settled t ≡ true → IsAskedFor r t name → ⊥
none_left r t name settled a = both_ways (is_settled a.sent) a.waits (all_each is_settled t.batches a.sent settled (place_in t.batches a.batch a.sent a.there))

pub settled_answered : SettledIsAnswered
settled_answered throws o past distinct whole settled =
    each_all (λ (row : Row). not (is_touched (view_of throws o) (events_of o past) row.name) || is_skipped o.registered row.name
    || is_some (first_of (view_of throws o) (events_of o past) row.name)) o.registered.rows
    (λ row c. step row c (is_touched (view_of throws o) (events_of o past) row.name) refl (is_skipped o.registered row.name) refl)
  where
    first : (row : Row) → Contains o.registered.rows row → is_touched (view_of throws o) (events_of o past) row.name ≡ true
        → is_skipped o.registered row.name ≡ false
        → Answered throws o past row.name → is_some (first_of (view_of throws o) (events_of o past) row.name) ≡ true
    first row c touched kept (inl h) = h
    first row c touched kept (inr a) = absurd (none_left o.registered (traffic_of o past) row.name settled a)

    asked : (row : Row) → Contains o.registered.rows row → is_touched (view_of throws o) (events_of o past) row.name ≡ true
        → is_skipped o.registered row.name ≡ false → Answered throws o past row.name
    asked row c touched kept =
        let there : slice_get o.registered.rows c.0 ≡ Some row = slice_get-get_or o.registered.rows c.0 row c.1 ∙ ap Some c.2 in
        let skips : has_feature o.registered row.skip ≡ false = sym (skip_there o.registered c.0 row there) ∙ skips_alike o.registered distinct c.0 c.1
        ∙ ap (is_skipped o.registered) (name_there o.registered c.0 row there) ∙ kept in
        row_asked throws o past whole c.0 row there skips kept touched

    step : (row : Row) → Contains o.registered.rows row → (b : Bool) → is_touched (view_of throws o) (events_of o past) row.name ≡ b → (s : Bool)
        → is_skipped o.registered row.name ≡ s
        → (not b || s || is_some (first_of (view_of throws o) (events_of o past) row.name)) ≡ true
    step row c false e s f = refl
    step row c true e true f = refl
    step row c true e false f = first row c e f (asked row c e f)
