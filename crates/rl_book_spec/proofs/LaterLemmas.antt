-- What a call adds to what was there.
use Rattle.std.proofs.Common.{◌≡◌, ℕ, ◌+◌, List, [], ◌∷◌, ◌++◌, Bool, true, false, ◌&&◌, ◌||◌, not, length}
use Rattle.std.proofs.Common.{map, Option, Some, None, refl, ap, sym, subst, ◌∙◌, ⊎_elim, arith, append_assoc, append-nil}
use Rattle.std.specs.Prelude.{Contains, filter, flat_map, fold, is_none, is_some, if◌then◌else◌, nat_eq, option_map, slice_get, slice_set}
use Rattle.std.specs.Prelude.{Result, Ok, Err}
use Rattle.std.specs.List.{enumerate_from, list_any}
use Rattle.std.specs.Option.{option_map_or}
use Rattle.std.proofs.lemmas.Bool.{cases_Bool, eqb-false, eqb-true, or_left, or_right}
use Rattle.std.proofs.lemmas.List.Sorted.{Contains-permutation, IsPermutation-sym}
use Rattle.std.proofs.lemmas.List.{length-map}
use Rattle.std.proofs.lemmas.List.Elements.{Contains-append_left}
use Rattle.std.proofs.lemmas.Option.{slice_get_within}
use Rattle.rl_names.specs.declared.row.Row.{Row}
use Rattle.rl_view_spec.specs.Closure.{Text, has_feature, in_closures, is_skipped}
use Rattle.rl_view_spec.specs.Progress.{Cell, Progress, name_at, outcome_at}
use Rattle.rl_view_spec.specs.View.{View, Event, Answer, answer_in, cell_of, first_of, is_implementation, is_touched, kind_of, log_of, or_else}
use Rattle.rl_view_spec.specs.View.{progress_of, throws_at, throws_for}
use Rattle.rl_view_spec.specs.Keys.{never}
use Rattle.rl_view_spec.proofs.LogLemmas.{first_kept, log_fits, logged_fit}
use Rattle.rl_view_spec.proofs.PlacesLemmas.{name_there, skip_there}
use Rattle.rl_view_spec.proofs.StepsLemmas.{map_alike}
use Rattle.rl_view_spec.proofs.ToolsLemmas.{contains_flat_map, filter_contains, place_in}
use Rattle.rl_wire.specs.Reading as wire
use Rattle.rl_wire.specs.declared.part.Part.{Part}
use Rattle.rl_book_spec.specs.Batches.{Numbered, batch_of, rows_of_batches}
use Rattle.rl_book_spec.specs.Book.{event_of, events_of}
use Rattle.rl_book_spec.specs.Given.{given_by, given_to, outcome_of}
use Rattle.rl_book_spec.specs.Kept.{IsStage}
use Rattle.rl_book_spec.specs.Laws.{BatchesAskForTouched, EventsAnswerRows, GivenStays, IsAsked, with_first}
use Rattle.rl_book_spec.specs.Opening.{Opening, answer_at_touch, view_of}
use Rattle.rl_book_spec.specs.Traffic.{Traffic, after_answer, after_loss, asked_of, batches_for, fresh, is_left, may_be_lost, requested_by}
use Rattle.rl_book_spec.specs.Traffic.{traffic_of, with_batches, with_delivery, with_loss}
use Rattle.rl_book_spec.specs.declared.Asked.{Asked}
use Rattle.rl_book_spec.specs.declared.Batch.{Batch}
use Rattle.rl_book_spec.specs.declared.Sent.{Sent}
use Rattle.rl_book_spec.specs.declared.Call.{Call}
use Rattle.rl_book_spec.specs.declared.Call.TheVariants.{Using, Load, Take, Deliver, Lose}
use Rattle.rl_book_spec.specs.declared.Origin.{Origin}
use Rattle.rl_book_spec.proofs.AskedForLemmas.{asked_sent, batch_rows, still_some}
use Rattle.rl_book_spec.proofs.BatchesLemmas.{batches_hold_rows}
use Rattle.rl_book_spec.proofs.LawfulLemmas.{event_requests}
use Rattle.rl_book_spec.proofs.ListsLemmas.{get_either, get_set, get_set_other, map_has, place_of_number}
use Rattle.rl_book_spec.proofs.StageLemmas.{stage_front}

-- ---- what was given

outcome_stays : (o : Opening) (past : List Call) (call : Call) (name : Text) → is_some (outcome_of o past name) ≡ true
    → is_some (outcome_of o (call ∷ past) name) ≡ true
outcome_stays o past call name = still_some (outcome_of o past name)
    (if is_touched (view_of never o) (events_of o (call ∷ past)) name && not (is_skipped o.registered name)
    then answer_in name (event_of o past call) else None)

-- what was given has an outcome
pub given_answered : (o : Opening) (past : List Call) (name : Text) (given : Part × Origin) → given_to o past name ≡ Some given
    → is_some (outcome_of o past name) ≡ true
given_answered o [] name given h = cc
given_answered o (call ∷ past) name given h =
    step (is_some (outcome_of o (call ∷ past) name)) refl (is_none (outcome_of o past name)) h
    (λ g. outcome_stays o past call name (given_answered o past name given g))
  where
    step : (now : Bool) → is_some (outcome_of o (call ∷ past) name) ≡ now → (fresh : Bool)
        → (if fresh && now then given_by o call name else given_to o past name) ≡ Some given
        → (given_to o past name ≡ Some given → is_some (outcome_of o (call ∷ past) name) ≡ true)
        → is_some (outcome_of o (call ∷ past) name) ≡ true
    step true e fresh g before = e
    step false e true g before = before g
    step false e false g before = before g

pub given_stays : GivenStays
given_stays o past call name given h = step (outcome_of o past name) refl (given_answered o past name given h)
  where
    step : (before : Option Answer) → outcome_of o past name ≡ before → is_some before ≡ true → given_to o (call ∷ past) name ≡ Some given
    step None e s = cc
    step (Some answer) e s = ap (λ (found : Option Answer). if is_none found && is_some (outcome_of o (call ∷ past) name) then given_by o call name
        else given_to o past name) e ∙ h

-- ---- the rows that an event answers

at_front : {X : Type 0} (xs : List X) (x : X) (ys : List X) → slice_get (xs ++ x ∷ ys) (length xs) ≡ Some x
at_front [] x ys = refl
at_front (z ∷ xs) x ys = at_front xs x ys

set_behind : {X : Type 0} (xs : List X) (x y : X) (ys : List X) → slice_set (xs ++ x ∷ ys) (length xs) y ≡ xs ++ y ∷ ys
set_behind [] x y ys = refl
set_behind (z ∷ xs) x y ys = ap (λ zs. z ∷ zs) (set_behind xs x y ys)

module _ (v : View) (event : Event) (past : List Event) (log : List ℕ) (asks : event.requested ≡ []) where
  -- the progress, of which these are the cells
  abbrev with_cells : List Cell → Progress
  with_cells cells = record (progress_of v past log) { cells = cells }

  abbrev cell : Bool → Option Answer → Cell
  cell touched first = record { touched = touched; outcome = option_map kind_of first }

  abbrev later : Bool → Bool → Option Answer → Option Answer → Option Answer
  later touched kept before answer = or_else before (if touched && kept then answer else None)

  touched_as_before : (name : Text) → is_touched v past name ≡ is_touched v (event ∷ past) name
  touched_as_before name = sym (ap (λ (names : List Text). in_closures v.registered names name || is_touched v past name) asks)

  -- whether an answer is the first, by what was before it
  chosen : (touched kept : Bool) (before answer : Option Answer) (front rest : List Cell)
      → (if is_none (option_map kind_of before) && is_some (later touched kept before answer)
      then with_cells (front ++ cell true (later touched kept before answer) ∷ rest) else with_cells (front ++ cell touched before ∷ rest))
      ≡ with_cells (front ++ cell touched (later touched kept before answer) ∷ rest)
  chosen touched kept (Some b) answer front rest = refl
  chosen true true None (Some a) front rest = refl
  chosen true true None None front rest = refl
  chosen true false None answer front rest = refl
  chosen false kept None answer front rest = refl

  abbrev before_cell : Row → Cell
  before_cell row = cell_of v past row

  abbrev after_cell : Row → Cell
  after_cell row = cell_of v (event ∷ past) row

  -- the row whose turn it is
  turn : (done todo : List Row) (row : Row) → v.registered.rows ≡ done ++ row ∷ todo
      → with_first v event past (with_cells (map after_cell done ++ before_cell row ∷ map before_cell todo)) (length done)
      ≡ with_cells (map after_cell done ++ after_cell row ∷ map before_cell todo)
  turn done todo row e =
      let there : slice_get v.registered.rows (length done) ≡ Some row = ap (λ (rows : List Row). slice_get rows (length done)) e ∙ at_front done row todo
      in
      let named : name_at v.registered (length done) ≡ row.name = name_there v.registered (length done) row there in
      let front : List Cell = map after_cell done in
      let rest : List Cell = map before_cell todo in
      let long : length front ≡ length done = length-map done after_cell in
      let first : Option Answer = first_of v (event ∷ past) row.name in
      let cells : List Cell = front ++ before_cell row ∷ rest in
      let found : slice_get cells (length done) ≡ Some (before_cell row) =
      ap (slice_get cells) (sym long) ∙ at_front front (before_cell row) rest in
      let put : slice_set cells (length done) (cell true first) ≡ front ++ cell true first ∷ rest =
      ap (λ (n : ℕ). slice_set cells n (cell true first)) (sym long) ∙ set_behind front (before_cell row) (cell true first) rest in
      ap (λ (name : Text). if is_none (outcome_at (with_cells cells) (length done)) && is_some (first_of v (event ∷ past) name)
      then with_cells (slice_set cells (length done) (cell true (first_of v (event ∷ past) name))) else with_cells cells) named
      ∙ ap (λ (o : Option Cell). if is_none (option_map_or (λ (c : Cell). c.outcome) o None) && is_some first
      then with_cells (slice_set cells (length done) (cell true first)) else with_cells cells) found
      ∙ ap (λ (xs : List Cell). if is_none (option_map kind_of (first_of v past row.name)) && is_some first then with_cells xs else with_cells cells) put
      ∙ ap (λ (touched : Bool). if is_none (option_map kind_of (first_of v past row.name)) && is_some first
      then with_cells (front ++ cell true first ∷ rest) else with_cells (front ++ cell touched (first_of v past row.name) ∷ rest))
      (touched_as_before row.name)
      ∙ chosen (is_touched v (event ∷ past) row.name) (not (is_skipped v.registered row.name)) (first_of v past row.name)
      (answer_in row.name event) front rest

  turns : (n : ℕ) (done todo : List Row) → length done ≡ n → v.registered.rows ≡ done ++ todo
      → fold (with_first v event past) (with_cells (map after_cell done ++ map before_cell todo)) (map (λ (p : ℕ × Row). p.0) (enumerate_from n todo))
      ≡ with_cells (map after_cell (done ++ todo))
  turns n done [] long e = ap (λ (xs : List Cell). with_cells xs) (append-nil (map after_cell done))
      ∙ ap (λ (xs : List Row). with_cells (map after_cell xs)) (sym (append-nil done))
  turns n done (row ∷ todo) long e =
      let F : Progress → ℕ → Progress = with_first v event past in
      let numbers : List ℕ = map (λ (p : ℕ × Row). p.0) (enumerate_from (n + 1) todo) in
      ap (λ (k : ℕ). fold F (F (with_cells (map after_cell done ++ before_cell row ∷ map before_cell todo)) k) numbers) (sym long)
      ∙ ap (λ (t : Progress). fold F t numbers) (turn done todo row e)
      ∙ ap (λ (xs : List Cell). fold F (with_cells xs) numbers) (sym (moved done row todo))
      ∙ turns (n + 1) (done ++ row ∷ []) todo (longer done row ∙ ap (λ (k : ℕ). k + 1) long) (e ∙ sym (append_assoc done (row ∷ []) todo))
      ∙ ap (λ (xs : List Row). with_cells (map after_cell xs)) (append_assoc done (row ∷ []) todo)
    where
      longer : (done : List Row) (row : Row) → length (done ++ row ∷ []) ≡ length done + 1
      longer [] row = refl
      longer (x ∷ done) row = let e : length (done ++ row ∷ []) ≡ length done + 1 = longer done row in omega (arith, e)

      moved : (done : List Row) (row : Row) (todo : List Row) → map after_cell (done ++ row ∷ []) ++ map before_cell todo
          ≡ map after_cell done ++ after_cell row ∷ map before_cell todo
      moved [] row todo = refl
      moved (x ∷ done) row todo = ap (λ (xs : List Cell). after_cell x ∷ xs) (moved done row todo)

-- the rows of a stage have implementations
logged_answered : (v : View) (past : List Event) (log : List ℕ) (row : ℕ) → IsStage v past log → Contains log row
    → is_implementation (first_of v past (name_at v.registered row)) ≡ true
logged_answered v past log row stage c =
    let front = stage_front v past log stage in
    let in_log : Contains (log_of v past) row = subst (λ (xs : List ℕ). Contains xs row) (sym front.1) (Contains-append_left log front.0 row c) in
    (logged_fit v past (log_of v past) row (log_fits v past) in_log).1.answered

pub events_answer : EventsAnswerRows
events_answer v event past log asks stage =
    ap (λ (runs : List (ℕ × Bool)). record (progress_of v (event ∷ past) log) { ran = runs })
    (map_alike (λ (row : ℕ). (row, throws_at v (event ∷ past) (name_at v.registered row)))
    (λ (row : ℕ). (row, throws_at v past (name_at v.registered row))) log
    (λ row c. ap (λ (o : Option Answer). (row, throws_for v.throws (name_at v.registered row) o))
    (first_kept v event past (name_at v.registered row) (logged_answered v past log row stage c))))
    ∙ sym (turns v event past log asks 0 [] v.registered.rows refl refl)

-- ---- the rows of batches

-- a name that the view has touched stays touched
touched_stays : (o : Opening) (past : List Call) (call : Call) (row : ℕ) → IsAsked o past row → IsAsked o (call ∷ past) row
touched_stays o past call row asked = record {
  within = asked.within;
  touched = or_right (in_closures o.registered (event_of o past call).requested (name_at o.registered row))
      (is_touched (view_of never o) (events_of o past) (name_at o.registered row)) asked.touched;
  kept = asked.kept;
}

-- a list of batches, each of which holds rows of the property
abbrev Hold : (ℕ → Type 0) → List Sent → Type 0
Hold P batches = (batch : ℕ) (sent : Sent) (row : ℕ) → slice_get batches batch ≡ Some sent → Contains sent.batch.rows row → P row

-- which a change of what is counted keeps
set_holds : (P : ℕ → Type 0) (batches : List Sent) (at : ℕ) (old new : Sent) → slice_get batches at ≡ Some old
    → old.batch ≡ new.batch → Hold P batches → Hold P (slice_set batches at new)
set_holds P batches at old new there same hold batch sent row e c = ⊎_elim
    (λ here.
    let k : batch ≡ at = eqb-true batch at here in
    let is : Some new ≡ Some sent = sym (get_set batches at old new there) ∙ sym (ap (slice_get (slice_set batches at new)) k) ∙ e in
    let sent_is : new ≡ sent = cc in
    hold at old row there (subst (λ (rows : List ℕ). Contains rows row) (sym (ap (λ (b : Batch). b.rows) same
    ∙ ap (λ (s : Sent). s.batch.rows) sent_is)) c))
    (λ apart. hold batch sent row (sym (get_set_other batches batch at new (eqb-false batch at apart)) ∙ e) c)
    (cases_Bool (nat_eq batch at))

loss_holds : (P : ℕ → Type 0) (t : Traffic) (ask : ℕ) → Hold P t.batches → Hold P (after_loss t ask).batches
loss_holds P t ask hold = outer (asked_of t ask) refl
  where
    inner : (b : Bool) (pair : Asked × Sent) → slice_get t.batches pair.0.batch ≡ Some pair.1
        → Hold P (if b then with_loss ask pair.0 pair.1 t else t).batches
    inner false pair e = hold
    inner true pair e = set_holds P t.batches pair.0.batch pair.1 (record pair.1 { losses = pair.1.losses + 1 }) e refl hold

    outer : (found : Option (Asked × Sent)) → asked_of t ask ≡ found
        → Hold P (option_map_or (λ (pair : Asked × Sent). if may_be_lost pair then with_loss ask pair.0 pair.1 t else t) found t).batches
    outer None e = hold
    outer (Some pair) e = inner (may_be_lost pair) pair (asked_sent t ask pair e)

answer_holds : (P : ℕ → Type 0) (t : Traffic) (ask : ℕ) (read : Result (List Part) ℕ) → Hold P t.batches
    → Hold P (after_answer t ask read).batches
answer_holds P t ask (Err line) hold = loss_holds P t ask hold
answer_holds P t ask (Ok parts) hold = outer (asked_of t ask) refl
  where
    outer : (found : Option (Asked × Sent)) → asked_of t ask ≡ found
        → Hold P (option_map_or (λ (pair : Asked × Sent). with_delivery pair.0 pair.1 t) found t).batches
    outer None e = hold
    outer (Some pair) e = set_holds P t.batches pair.0.batch pair.1 (record pair.1 { delivered = true }) (asked_sent t ask pair e) refl hold

flat_has : {X : Type 0} (lists : List (List X)) (list : List X) (x : X) → Contains lists list → Contains list x
    → Contains (flat_map (λ (xs : List X). xs) lists) x
flat_has lists list x c d = contains_flat_map (λ xs. xs) lists list x c d

request_asks : (o : Opening) (past : List Call) (call : Call) (batch : Batch) (row : ℕ)
    → Contains (batches_for o past (requested_by o.registered call)) batch → Contains batch.rows row → IsAsked o (call ∷ past) row
request_asks o past call batch row c d =
    let names : List Text = requested_by o.registered call in
    let left : List Numbered = filter (is_left o past names) (enumerate_from 0 o.registered.rows) in
    let made = map_has (batch_of o.base) (rows_of_batches o.base o.limit left) batch c in
    let of_rows : Contains (map (λ (p : Numbered). p.0) made.0) row =
    subst (λ (rows : List ℕ). Contains rows row) (sym (ap (λ (b : Batch). b.rows) made.2) ∙ batch_rows o.base made.0) d in
    let numbered = map_has (λ (p : Numbered). p.0) made.0 row of_rows in
    let in_all : Contains (flat_map (λ (rows : List Numbered). rows) (rows_of_batches o.base o.limit left)) numbered.0 =
    flat_has (rows_of_batches o.base o.limit left) made.0 numbered.0 made.1 numbered.1 in
    let in_left : Contains left numbered.0 =
    Contains-permutation (flat_map (λ (rows : List Numbered). rows) (rows_of_batches o.base o.limit left)) left numbered.0
    (IsPermutation-sym left (flat_map (λ (rows : List Numbered). rows) (rows_of_batches o.base o.limit left))
    (batches_hold_rows o.base o.limit left)) in_all in
    let passes = filter_contains (is_left o past names) (enumerate_from 0 o.registered.rows) numbered.0 in_left in
    let place = place_of_number 0 o.registered.rows numbered.0 passes.0 in
    let k : numbered.0.0 ≡ place.0 = place.1 ∙ (omega arith) in
    let here : slice_get o.registered.rows row ≡ Some numbered.0.1 = ap (slice_get o.registered.rows) (sym numbered.2 ∙ k) ∙ place.2 in
    let named : name_at o.registered row ≡ numbered.0.1.name = name_there o.registered row numbered.0.1 here in
    let parts = left_parts (in_closures o.registered names numbered.0.1.name)
    (not (list_any (λ (call : Call). in_closures o.registered (requested_by o.registered call) numbered.0.1.name) past))
    (has_feature o.registered numbered.0.1.skip) (is_none (answer_at_touch o numbered.0.1)) passes.1 in
    record {
      within = slice_get_within o.registered.rows row numbered.0.1 here;
      touched = or_left (in_closures o.registered (event_of o past call).requested (name_at o.registered row))
          (is_touched (view_of never o) (events_of o past) (name_at o.registered row))
          (ap (λ (names : List Text). in_closures o.registered names (name_at o.registered row)) (event_requests o past call)
          ∙ ap (in_closures o.registered names) named ∙ parts.0);
      kept = skip_there o.registered row numbered.0.1 here ∙ parts.1;
    }
  where
    left_parts : (a b c d : Bool) → (a && b && not c && d) ≡ true → (a ≡ true) × (c ≡ false)
    left_parts true true false true h = (refl, refl)
    left_parts true true true d h = cc
    left_parts true true false false h = cc
    left_parts true false c d h = cc
    left_parts false b c d h = cc

new_holds : (o : Opening) (past : List Call) (call : Call) (t : Traffic)
    → Hold (IsAsked o (call ∷ past)) t.batches
    → Hold (IsAsked o (call ∷ past)) (with_batches (batches_for o past (requested_by o.registered call)) t).batches
new_holds o past call t hold batch sent row e c = ⊎_elim
    (λ old. hold batch sent row old c)
    (λ new. let made = map_has fresh (batches_for o past (requested_by o.registered call)) sent
    (place_in (map fresh (batches_for o past (requested_by o.registered call))) new.0 sent new.2) in
    request_asks o past call made.0 row made.1 (subst (λ (s : Sent). Contains s.batch.rows row) (sym made.2) c))
    (get_either t.batches (map fresh (batches_for o past (requested_by o.registered call))) batch sent e)

pub batches_ask : BatchesAskForTouched
batches_ask o [] batch sent row e c = cc
batches_ask o (call ∷ past) batch sent row e c =
    on call (λ batch sent row e c. touched_stays o past call row (batches_ask o past batch sent row e c)) batch sent row e c
  where
    on : (call : Call) → Hold (IsAsked o (call ∷ past)) (traffic_of o past).batches
        → Hold (IsAsked o (call ∷ past)) (traffic_of o (call ∷ past)).batches
    on (Using names) hold = new_holds o past (Using names) (traffic_of o past) hold
    on (Load names) hold = new_holds o past (Load names) (traffic_of o past) hold
    on Take hold = hold
    on (Deliver ask bytes mark) hold = answer_holds (IsAsked o (Deliver ask bytes mark ∷ past)) (traffic_of o past) ask (wire.answer_of bytes) hold
    on (Lose ask mark) hold = loss_holds (IsAsked o (Lose ask mark ∷ past)) (traffic_of o past) ask hold
