-- What a request brings a view, and what is asked for.
use Rattle.std.proofs.Common.{◌≡◌, ◌≢◌, ℕ, zero, suc, ◌+◌, ◌<◌, List, [], ◌∷◌, ◌++◌, Bool, true, false, cond, ◌&&◌, not, length, map, get_or}
use Rattle.std.proofs.Common.{Option, Some, None, refl, ap, ap₂, sym, subst, ◌∙◌, arith, append_assoc, append-nil}
use Rattle.std.specs.Prelude.{All, AllPairs, Contains, filter, fold, if◌then◌else◌, is_none, option_and_then, option_map, option_to_list, slice_get}
use Rattle.std.specs.List.{cons_option, enumerate_from, filter_map, list_any}
use Rattle.std.specs.Option.{option_map_or, option_or}
use Rattle.std.proofs.lemmas.Bool.{and_parts, not-true, or_parts}
use Rattle.std.proofs.lemmas.List.Elements.{All-filter, Contains-get_or}
use Rattle.std.proofs.lemmas.List.Kept.{AllPairs-filter}
use Rattle.rl_names.specs.declared.row.Row.{Row}
use Rattle.rl_view_spec.specs.Closure.{Text, Registered, has_feature, in_closures, is_skipped}
use Rattle.rl_view_spec.specs.Keys.{version_of}
use Rattle.rl_view_spec.specs.Numbers.{closure_numbers}
use Rattle.rl_view_spec.specs.Progress.{Progress, is_skipped_at, is_touched_at, name_at, row_numbers}
use Rattle.rl_view_spec.specs.Requests.{given_by}
use Rattle.rl_view_spec.specs.Rows.{is_private}
use Rattle.rl_view_spec.specs.View.{View, Event, Answer, Failed, Throws, answer_in, first_of, is_touched, log_of, or_else, touches}
use Rattle.rl_view_spec.proofs.PlacesLemmas.{name_there, skip_there}
use Rattle.rl_view_spec.proofs.ToolsLemmas.{contains_head, contains_tail, filter_contains, place_there}
use Rattle.rl_states.specs.Changes.{after_touch}
use Rattle.rl_view.specs.Seen.{HasSeen, IsDue, asks, brought_at, given_to, versioned, with_answers}
use Rattle.rl_view.proofs.BroughtLemmas.{brought_all, seen_given}
use Rattle.rl_view.proofs.NowLemmas.{alike_now, closures_now}
use Rattle.rl_view.proofs.ReadingsLemmas.{registered_seen, row_seen, touched_seen}
use Rattle.rl_view.proofs.TouchesLemmas.{closure_within, seen_touch}
use Rattle.rl_wire.specs.declared.part.Part.{Part}
use Rattle.rl_batch.specs.Given.{MayBeAsked, is_private_at, numbered_rows}
use Rattle.rl_book_spec.specs.Book.{events_of, request}
use Rattle.rl_book_spec.specs.Given.{given_at_touch}
use Rattle.rl_book_spec.specs.Opening.{Opening, answer_at_touch, answer_of, part_of, stored_of, view_of}
use Rattle.rl_book_spec.specs.Traffic.{is_left, requested_by}
use Rattle.rl_book_spec.specs.declared.Call.{Call}
use Rattle.rl_book_spec.specs.declared.Origin.{Origin}
use Rattle.rl_book_spec.specs.declared.Origin.TheVariants as origin
use Rattle.rl_book_spec.specs.declared.Stored.{Stored}
use Rattle.rl_book_spec.proofs.LawfulLemmas.{requests_touch}
use Rattle.rl_book.specs.Held.{Gift, gift_for, gifts_of}
use Rattle.rl_book.specs.Requesting.{after_held, after_request, answer_by, answer_held_at, is_left_at, left_of}
use Rattle.rl_book.proofs.HeldLemmas.{gift_there}

-- ---- rows are given their answers, in order

joined : {X : Type 0} (o : Option X) (xs : List X) → option_to_list o ++ xs ≡ cons_option o xs
joined None xs = refl
joined (Some x) xs = refl

module _ (v : View) (answer : Row → Option Answer) (gifts : List Gift) (past : List Event)
    (held : (k : ℕ) (row : Row) → slice_get v.registered.rows k ≡ Some row → answer_by (gift_for gifts k) row.group ≡ answer row) where
  pub due_all : (event : Event) (rows : List ℕ) (t : Progress) → IsDue v event past t → ((k : ℕ) → Contains rows k → k < length v.registered.rows)
      → IsDue v (with_answers (filter_map (brought_at answer v.registered) rows) event) past (fold (after_held gifts) t rows)
  due_all event [] t s within =
      subst (λ (came : List (Text × Answer)). IsDue v (record event { came = came }) past t) (sym (append-nil event.came)) s
  due_all event (k ∷ rows) t s within =
      let m = place_there v.registered.rows k (within k (contains_head k rows)) in
      let row : Row = m.0 in
      let seen : slice_get t.registered.rows k ≡ Some (versioned v (event ∷ past) row) = row_seen v (event ∷ past) (log_of v past) t s k row m.1 in
      let given : after_held gifts t k ≡ given_to k (answer row) t =
      ap (λ (found : Option Row). given_to k (option_and_then (λ (found : Row). answer_by (gift_for gifts k) found.group) found) t) seen
      ∙ ap (λ (answer : Option Answer). given_to k answer t) (held k row m.1) in
      let next = seen_given v answer event past k row m.1 t (after_held gifts t k) s given in
      let brought : brought_at answer v.registered k ≡ given_by answer row = ap (option_and_then (given_by answer)) m.1 in
      let more : List (Text × Answer) = filter_map (brought_at answer v.registered) rows in
      subst (λ (came : List (Text × Answer)). IsDue v (record event { came = came }) past (fold (after_held gifts) (after_held gifts t k) rows))
      (append_assoc event.came (option_to_list (given_by answer row)) more
      ∙ ap (λ (came : List (Text × Answer)). event.came ++ came)
      (joined (given_by answer row) more ∙ ap (λ (first : Option (Text × Answer)). cons_option first more) (sym brought)))
      (due_all (with_answers (option_to_list (given_by answer row)) event) rows (after_held gifts t k) next
      (λ j c. within j (contains_tail k rows j c)))

-- ---- what rows are given at once

-- a row is answered by what it is given, or by an error where it is private
touched_by : (o : Opening) (row : Row) → answer_by (given_at_touch o row) row.group ≡ answer_at_touch o row
touched_by o row = step (part_of o.embedded row.name) (is_private row.group) (stored_of o row)
  where
    step : (part : Option Part) (private : Bool) (stored : Option Stored)
        → or_else (option_map (λ (given : Part × Origin). answer_of given.0)
        (option_or (option_map (λ (part : Part). (part, origin.Embedded)) part)
        (if private then None else option_map (λ (stored : Stored). (stored.part, origin.Stored stored.wire)) stored)))
        (if private then Some Failed else None)
        ≡ or_else (option_map answer_of part)
        (if private then Some Failed else option_map (λ (stored : Stored). answer_of stored.part) stored)
    step None true stored = refl
    step None false None = refl
    step None false (Some stored) = refl
    step (Some part) private stored = refl

pub held_alike : (o : Opening) (gifts : List Gift) (k : ℕ) (row : Row) → gifts ≡ gifts_of o → slice_get o.registered.rows k ≡ Some row
    → answer_by (gift_for gifts k) row.group ≡ answer_at_touch o row
held_alike o gifts k row are there = ap (λ (gift : Gift). answer_by gift row.group) (gift_there o gifts k row are there) ∙ touched_by o row

module _ (throws : Throws) (o : Opening) (past : List Call) (log : List ℕ) (t : Progress) (gifts : List Gift) (are : gifts ≡ gifts_of o)
    (s : HasSeen (view_of throws o) (events_of o past) log t) where
  abbrev v : View
  v = view_of throws o

  abbrev events : List Event
  events = events_of o past

  pub closures_here : (names : List Text) → closure_numbers t.registered names ≡ closure_numbers o.registered names
  closures_here names =
      ap (λ (r : Registered). closure_numbers r names) (registered_seen v events log t s) ∙ closures_now v events names

  -- ---- what is asked for

  untouched_none : (past : List Event) (name : Text) → is_touched v past name ≡ false → first_of v past name ≡ None
  untouched_none [] name e = refl
  untouched_none (event ∷ past) name e =
      let parts = or_parts (touches o.registered name event) (is_touched v past name) e in
      ap (λ (first : Option Answer). or_else first (if is_touched v (event ∷ past) name && not (is_skipped o.registered name)
      then answer_in name event else None)) (untouched_none past name parts.1)
      ∙ ap (λ (b : Bool). or_else None (if b && not (is_skipped o.registered name) then answer_in name event else None)) e

  answer_here : (k : ℕ) (row : Row) → slice_get o.registered.rows k ≡ Some row → answer_held_at gifts t.registered k ≡ answer_at_touch o row
  answer_here k row there =
      ap (option_and_then (λ (found : Row). answer_by (gift_for gifts k) found.group)) (row_seen v events log t s k row there)
      ∙ held_alike o gifts k row are there

  touched_here : (k : ℕ) (row : Row) → slice_get o.registered.rows k ≡ Some row
      → is_touched_at t k ≡ list_any (λ call. in_closures o.registered (requested_by o.registered call) row.name) past
  touched_here k row there = touched_seen v events log t s k row there ∙ sym (requests_touch throws o past row.name)

  skipped_here : (k : ℕ) (row : Row) → slice_get o.registered.rows k ≡ Some row → is_skipped_at t.registered k ≡ has_feature o.registered row.skip
  skipped_here k row there =
      ap (λ (r : Registered). is_skipped_at r k) (registered_seen v events log t s)
      ∙ (alike_now v events).skips k ∙ skip_there o.registered k row there

  module _ (names : List Text) where
    regroup : (c a b d : Bool) → (c && (a && b && d)) ≡ (c && a && b && d)
    regroup true a b d = refl
    regroup false a b d = refl

    left_here : (k : ℕ) (row : Row) → slice_get o.registered.rows k ≡ Some row
        → (in_closures o.registered names (name_at o.registered k) && is_left_at gifts t k) ≡ is_left o past names (k, row)
    left_here k row there =
        ap (λ (name : Text). in_closures o.registered names name && is_left_at gifts t k) (name_there o.registered k row there)
        ∙ ap (λ (b : Bool). in_closures o.registered names row.name
        && (not b && not (is_skipped_at t.registered k) && is_none (answer_held_at gifts t.registered k))) (touched_here k row there)
        ∙ ap₂ (λ (b : Bool) (answer : Option Answer). in_closures o.registered names row.name
        && (not (list_any (λ call. in_closures o.registered (requested_by o.registered call) row.name) past) && not b && is_none answer))
        (skipped_here k row there) (answer_here k row there)
        ∙ regroup (in_closures o.registered names row.name)
        (not (list_any (λ call. in_closures o.registered (requested_by o.registered call) row.name) past))
        (not (has_feature o.registered row.skip)) (is_none (answer_at_touch o row))

    -- it has the version that it was registered with
    still_here : (k : ℕ) (row : Row) → slice_get o.registered.rows k ≡ Some row → is_left o past names (k, row) ≡ true
        → slice_get t.registered.rows k ≡ Some row
    still_here k row there h =
        let touched : Bool = list_any (λ call. in_closures o.registered (requested_by o.registered call) row.name) past in
        let kept : Bool = not (has_feature o.registered row.skip) in
        let asked : Bool = in_closures o.registered names row.name in
        let first = and_parts (asked && not touched && kept) (is_none (answer_at_touch o row)) h in
        let second = and_parts (asked && not touched) kept first.0 in
        let third = and_parts asked (not touched) second.0 in
        let none : first_of v events row.name ≡ None =
        untouched_none events row.name (sym (requests_touch throws o past row.name) ∙ not-true touched third.1) in
        row_seen v events log t s k row there ∙ ap (λ (first : Option Answer). Some (record row { version = version_of first row.version })) none

-- ---- by numbers and by numbered elements

by_rows : {X : Type 0} (at : ℕ → Option X) (p q : ℕ → Bool) (s : ℕ × X → Bool) (n : ℕ) (xs : List X)
    → ((k : ℕ) (x : X) → slice_get xs k ≡ Some x → ((q (n + k) && p (n + k)) ≡ s (n + k, x)) × (s (n + k, x) ≡ true → at (n + k) ≡ Some x))
    → filter_map (λ k. option_map (λ found. (k, found)) (at k)) (filter p (filter q (map (λ (numbered : ℕ × X). numbered.0) (enumerate_from n xs))))
    ≡ filter s (enumerate_from n xs)
by_rows at p q s n [] each = refl
by_rows {X = X} at p q s n (x ∷ xs) each =
    let first : n + 0 ≡ n = omega arith in
    let here = each zero x refl in
    let passes : (q n && p n) ≡ s (n, x) = subst (λ (m : ℕ). (q m && p m) ≡ s (m, x)) first here.0 in
    let found : s (n, x) ≡ true → at n ≡ Some x = subst (λ (m : ℕ). s (m, x) ≡ true → at m ≡ Some x) first here.1 in
    let rest = by_rows at p q s (n + 1) xs (λ k y e. let next : n + suc k ≡ (n + 1) + k = omega arith in
    subst (λ (m : ℕ). ((q m && p m) ≡ s (m, y)) × (s (m, y) ≡ true → at m ≡ Some y)) next (each (suc k) y e)) in
    step (q n) (p n) (s (n, x)) refl passes found rest
  where
    numbers : List ℕ
    numbers = filter q (map (λ (numbered : ℕ × X). numbered.0) (enumerate_from (n + 1) xs))

    step : (a b c : Bool) → p n ≡ b → (a && b) ≡ c → (c ≡ true → at n ≡ Some x)
        → filter_map (λ k. option_map (λ found. (k, found)) (at k)) (filter p numbers) ≡ filter s (enumerate_from (n + 1) xs)
        → filter_map (λ k. option_map (λ found. (k, found)) (at k)) (filter p (cond a (n ∷ numbers) numbers))
        ≡ cond c ((n, x) ∷ filter s (enumerate_from (n + 1) xs)) (filter s (enumerate_from (n + 1) xs))
    step true true true e g found rest =
        ap (λ (b : Bool). filter_map (λ k. option_map (λ found. (k, found)) (at k)) (cond b (n ∷ filter p numbers) (filter p numbers))) e
        ∙ ap₂ cons_option (ap (option_map (λ found. (n, found))) (found refl)) rest
    step true false false e g found rest =
        ap (λ (b : Bool). filter_map (λ k. option_map (λ found. (k, found)) (at k)) (cond b (n ∷ filter p numbers) (filter p numbers))) e ∙ rest
    step false b false e g found rest = rest
    step true true false e g found rest = cc
    step true false true e g found rest = cc
    step false b true e g found rest = cc

-- the rows that are left in the table are those that the request leaves
pub left_rows : (throws : Throws) (o : Opening) (past : List Call) (log : List ℕ) (t : Progress) (names : List Text) (gifts : List Gift)
    → gifts ≡ gifts_of o → HasSeen (view_of throws o) (events_of o past) log t
    → numbered_rows t.registered (left_of gifts t (closure_numbers t.registered names))
    ≡ filter (is_left o past names) (enumerate_from 0 o.registered.rows)
left_rows throws o past log t names gifts are s =
    ap (λ (rows : List ℕ). numbered_rows t.registered (left_of gifts t rows)) (closures_here throws o past log t gifts are s names)
    ∙ by_rows (slice_get t.registered.rows) (is_left_at gifts t) (λ row. in_closures o.registered names (name_at o.registered row))
    (is_left o past names) 0 o.registered.rows
    (λ k row there. let zero : k ≡ 0 + k = omega arith in
    subst (λ (m : ℕ). ((in_closures o.registered names (name_at o.registered m) && is_left_at gifts t m) ≡ is_left o past names (m, row))
    × (is_left o past names (m, row) ≡ true → slice_get t.registered.rows m ≡ Some row)) zero
    (left_here throws o past log t gifts are s names k row there, still_here throws o past log t gifts are s names k row there))

-- ---- what came

pub asked_due : (throws : Throws) (o : Opening) (past : List Call) (t : Progress) (names : List Text) (gifts : List Gift) → gifts ≡ gifts_of o
    → HasSeen (view_of throws o) (events_of o past) (log_of (view_of throws o) (events_of o past)) t
    → IsDue (view_of throws o) (request o names) (events_of o past) (after_request gifts (closure_numbers t.registered names) t)
asked_due throws o past t names gifts are s =
    let v : View = view_of throws o in
    let events : List Event = events_of o past in
    let r : Registered = o.registered in
    let rows : List ℕ = closure_numbers t.registered names in
    let same : rows ≡ closure_numbers r names = closures_here throws o past (log_of v events) t gifts are s names in
    let held : Row → Option Answer = answer_at_touch o in
    let touched = seen_touch v names events t (after_touch rows t) s refl in
    let all : IsDue v (with_answers (filter_map (brought_at held r) (closure_numbers r names)) (asks names)) events
    (fold (after_held gifts) (after_touch rows t) (closure_numbers r names)) =
    due_all v held gifts events (λ k row there. held_alike o gifts k row are there) (asks names) (closure_numbers r names) (after_touch rows t) touched
    (λ k c. subst (λ (j : ℕ). j < length r.rows) c.2 (closure_within r names c.0 k c.1)) in
    subst (λ (xs : List ℕ). IsDue v (request o names) events (fold (after_held gifts) (after_touch rows t) xs)) (sym same)
    (subst (λ (came : List (Text × Answer)). IsDue v (record { requested = names; came = came }) events
    (fold (after_held gifts) (after_touch rows t) (closure_numbers r names))) (brought_all held r names) all)

-- ---- rows that may be asked for

number_at : {X : Type 0} (n : ℕ) (xs : List X) (k d : ℕ) → k < length (map (λ (numbered : ℕ × X). numbered.0) (enumerate_from n xs))
    → get_or (map (λ (numbered : ℕ × X). numbered.0) (enumerate_from n xs)) k d ≡ n + k
number_at n [] k d low = absurd (omega (arith, low))
number_at n (x ∷ xs) zero d low = omega arith
number_at n (x ∷ xs) (suc k) d low = number_at (n + 1) xs k d (omega (arith, low)) ∙ (omega arith)

numbers_apart : {X : Type 0} (n : ℕ) (xs : List X) → AllPairs (λ (a b : ℕ). a ≢ b) (map (λ (numbered : ℕ × X). numbered.0) (enumerate_from n xs))
numbers_apart n xs i j d lt low e =
    let at = number_at n xs i d (omega (arith, lt, low)) in
    let other = number_at n xs j d low in
    absurd (omega (arith, lt, at, other, e))

pub closure_once : (r : Registered) (names : List Text) → AllPairs (λ (a b : ℕ). a ≢ b) (closure_numbers r names)
closure_once r names = AllPairs-filter (λ (a b : ℕ). a ≢ b) (λ row. in_closures r names (name_at r row)) (row_numbers r) (numbers_apart 0 r.rows)

left_public : (gifts : List Gift) (r : Registered) (k : ℕ) → is_none (answer_held_at gifts r k) ≡ true → is_private_at r k ≡ false
left_public gifts r k h = step (slice_get r.rows k) h
  where
    inner : (answer : Option Answer) (private : Bool) → is_none (or_else answer (if private then Some Failed else None)) ≡ true → private ≡ false
    inner None true h = cc
    inner None false h = refl
    inner (Some answer) private h = cc

    step : (found : Option Row) → is_none (option_and_then (λ (found : Row). answer_by (gift_for gifts k) found.group) found) ≡ true
        → option_map_or (λ (found : Row). is_private found.group) found false ≡ false
    step None h = refl
    step (Some row) h = inner (option_map (λ (given : Part × Origin). answer_of given.0) (gift_for gifts k)) (is_private row.group) h

pub may_be_asked : (gifts : List Gift) (t : Progress) (rows : List ℕ) → All (λ row. row < length t.registered.rows) rows
    → AllPairs (λ (a b : ℕ). a ≢ b) rows → MayBeAsked t.registered (left_of gifts t rows)
may_be_asked gifts t rows within once = record {
  within = All-filter (is_left_at gifts t) (λ row. row < length t.registered.rows) rows within;
  once = AllPairs-filter (λ (a b : ℕ). a ≢ b) (is_left_at gifts t) rows once;
  public = λ k d low.
      let row : ℕ = get_or (left_of gifts t rows) k d in
      let left = (filter_contains (is_left_at gifts t) rows row (Contains-get_or (left_of gifts t rows) k d low)).1 in
      left_public gifts t.registered row
      (and_parts (not (is_touched_at t row) && not (is_skipped_at t.registered row)) (is_none (answer_held_at gifts t.registered row)) left).1;
}
