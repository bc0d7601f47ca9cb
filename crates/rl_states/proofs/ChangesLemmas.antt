-- What a table keeps stays in agreement with the progress, whatever changes.
use Rattle.std.proofs.Common.{◌≡◌, ◌≢◌, ℕ, suc, ◌+◌, ◌<◌, ◌≤◌, List, [], ◌∷◌, Bool, true, false, cond, ◌&&◌, ◌||◌}
use Rattle.std.proofs.Common.{not, length, set, get_or, map, replicate, nat_eq, nat_lt, Option, Some, None, refl, ap, sym, subst, ◌∙◌, ⊎_elim, arith}
use Rattle.std.specs.Prelude.{Contains, count_by, fold, option_map, slice_get}
use Rattle.std.specs.List.{list_any, zip}
use Rattle.std.specs.Option.{option_map_or}
use Rattle.std.proofs.lemmas.Bool.{both_ways, cases_eq, cases_lt, eqb-true, eqb-false, eq-eqb, ne_eqb, lt-ltb, le-ltb, or_cases, or_left, or_right}
use Rattle.std.proofs.lemmas.List.{length-map, map-set, get_or-replicate, length-replicate, get_or_past}
use Rattle.std.proofs.lemmas.List.Folds.{fold-map}
use Rattle.std.proofs.lemmas.List.Sums.{sum_by-cons}
use Rattle.std.proofs.lemmas.Option.{IfSome_then, slice_get-map, slice_get_past, get_or_from_slice_get}
use Rattle.rl_names.specs.declared.row.Row.{Row}
use Rattle.rl_view_spec.specs.declared.Outcome.{Outcome}
use Rattle.rl_view_spec.specs.Closure.{Registered}
use Rattle.rl_view_spec.specs.Numbers.{needs_of}
use Rattle.rl_view_spec.specs.Progress.{Cell, Progress, is_touched_at, is_skipped_at, outcome_at, is_lost, has_thrown, is_done, HasDistinctNames}
use Rattle.rl_view_spec.proofs.ToolsLemmas.{contains_none, place_there}
use Rattle.rl_rows.proofs.EdgesLemmas.{needs_within}
use Rattle.rl_states.specs.declared.standing.Standing.{Standing}
use Rattle.rl_states.specs.Changes.{fresh_progress, after_touch, after_outcome}
use Rattle.rl_graph.specs.Graph.{marked, next_in, IsWithin}
use Rattle.rl_graph.specs.Marks.{IsClosed, Spreads}
use Rattle.rl_graph.proofs.SpreadingLemmas.{PassesOn, passes_along}
use Rattle.rl_graph.proofs.ToolsLemmas.{contains_head, contains_one}
use Rattle.rl_states.specs.Standings.{by_place, cell_of, for_rows, fresh, touch_at}
use Rattle.rl_states.specs.Users.{AreUsers}
use Rattle.rl_states.specs.Kept.{is_broken_at, IsStanding, Spoils, AreSpoiled, IsTable}
use Rattle.rl_graph.proofs.CountsLemmas.{counted_in, some_counted}
use Rattle.rl_states.proofs.TablesLemmas.{has_needs, touched_is}
use Rattle.rl_states.proofs.StandingsLemmas.{place, same_places, length_places, set_place, set_by_place, by_place_same, over_numbers, over_at, length_rows}
use Rattle.rl_states.proofs.StandingsLemmas.{count_agree}

-- ---- standings that change and run as before

-- each place of the one list has a place of the other
pub from_place : {X : Type 0} (f : ℕ → X → X) (xs : List X) (k : ℕ) (y : X) → slice_get (by_place f xs) k ≡ Some y →
    (x : X) × (slice_get xs k ≡ Some x) × (y ≡ f k x)
from_place {X = X} f xs k y e = step (slice_get xs k) refl
  where
    step : (o : Option X) → slice_get xs k ≡ o → (x : X) × (slice_get xs k ≡ Some x) × (y ≡ f k x)
    step None none = let g : None ≡ Some y = sym (place f xs k ∙ ap (option_map (f k)) none) ∙ e in cc
    step (Some x) some =
        let g : Some (f k x) ≡ Some y = sym (place f xs k ∙ ap (option_map (f k)) some) ∙ e in
        let same : y ≡ f k x = cc in
        (x, some, same)

pub counted_alike : (f : ℕ → Standing → Standing) (standings : List Standing) → ((k : ℕ) (s : Standing) → (f k s).ran ≡ s.ran) →
    count_by (λ s. s.ran) (by_place f standings) ≡ count_by (λ s. s.ran) standings
counted_alike f standings h =
    sym (fold-map (λ (a : ℕ) (b : Bool). a + cond b 1 0) (λ (s : Standing). s.ran) 0 (by_place f standings))
    ∙ ap (λ (bs : List Bool). fold (λ (a : ℕ) (b : Bool). a + cond b 1 0) 0 bs) same
    ∙ fold-map (λ (a : ℕ) (b : Bool). a + cond b 1 0) (λ (s : Standing). s.ran) 0 standings
  where
    both : (k : ℕ) (o : Option Standing) → option_map (λ (s : Standing). s.ran) (option_map (f k) o) ≡ option_map (λ (s : Standing). s.ran) o
    both k None = refl
    both k (Some s) = ap Some (h k s)

    same : map (λ (s : Standing). s.ran) (by_place f standings) ≡ map (λ (s : Standing). s.ran) standings
    same = same_places (map (λ (s : Standing). s.ran) (by_place f standings)) (map (λ (s : Standing). s.ran) standings) (λ k.
        slice_get-map (λ (s : Standing). s.ran) (by_place f standings) k ∙ ap (option_map (λ (s : Standing). s.ran)) (place f standings k)
        ∙ both k (slice_get standings k)
        ∙ sym (slice_get-map (λ (s : Standing). s.ran) standings k))

pub cells_alike : (f : ℕ → Standing → Standing) (g : ℕ → Cell → Cell) (standings : List Standing) (cells : List Cell) →
    ((k : ℕ) (s : Standing) → cell_of (f k s) ≡ g k (cell_of s)) → cells ≡ map cell_of standings
    → by_place g cells ≡ map cell_of (by_place f standings)
cells_alike f g standings cells h e = ap (by_place g) e ∙ same_places (by_place g (map cell_of standings)) (map cell_of (by_place f standings)) (λ k.
    place g (map cell_of standings) k ∙ ap (option_map (g k)) (slice_get-map cell_of standings k) ∙ both k (slice_get standings k)
    ∙ sym (ap (option_map cell_of) (place f standings k)) ∙ sym (slice_get-map cell_of (by_place f standings) k))
  where
    both : (k : ℕ) (o : Option Standing) → option_map (g k) (option_map cell_of o) ≡ option_map cell_of (option_map (f k) o)
    both k None = refl
    both k (Some s) = ap Some (sym (h k s))

-- rows that are broken as before spoil as before
pub spoiled_alike : (t u : Progress) (marks : List Bool) → t.registered ≡ u.registered → ((row : ℕ) → is_broken_at u row ≡ is_broken_at t row) →
    AreSpoiled t marks → AreSpoiled u marks
spoiled_alike t u marks e h m = record {
  long = m.long ∙ ap (λ (r : Registered). length r.rows) e;
  spoils = record {
    broken = λ row low b. m.spoils.broken row (omega (arith, low, ap (λ (r : Registered). length r.rows) e)) (sym (h row) ∙ b);
    upward = λ row need c b. m.spoils.upward row need (subst (λ (r : Registered). Contains (needs_of r row) need) (sym e) c) b;
  };
  least = λ test s row b. m.least test (record {
    broken = λ other low d. s.broken other (omega (arith, low, ap (λ (r : Registered). length r.rows) e)) (h other ∙ d);
    upward = λ other need c d. s.upward other need (subst (λ (r : Registered). Contains (needs_of r other) need) e c) d;
  }) row b;
}

-- cells that change, where all else that is kept of the standings stays
kept_cells : (t : Progress) (cells : List Cell) (f : ℕ → Standing → Standing) (standings : List Standing) (users : List (List ℕ))
    (marks marks' : List Bool) → IsTable t standings users marks
    → ((k : ℕ) (s : Standing) → ((f k s).ran ≡ s.ran) × ((f k s).done ≡ s.done) × ((f k s).waits ≡ s.waits))
    → cells ≡ map cell_of (by_place f standings) → AreSpoiled (record t { cells = cells }) marks' →
    IsTable (record t { cells = cells }) (by_place f standings) users marks'
kept_cells t cells f standings users marks marks' k h e spoiled = record {
  few = k.few;
  distinct = k.distinct;
  long = length_places f standings ∙ k.long;
  cells = e;
  each = λ row s at.
      let m = from_place f standings row s at in
      let is : IsStanding t row m.0 = k.each row m.0 m.1 in
      record {
        ran = ap (λ (x : Standing). x.ran) m.2 ∙ (h row m.0).0 ∙ is.ran;
        done = ap (λ (x : Standing). x.done) m.2 ∙ (h row m.0).1 ∙ is.done;
        waits = ap (λ (x : Standing). x.waits) m.2 ∙ (h row m.0).2 ∙ is.waits;
      };
  indexed = k.indexed;
  spoiled = spoiled;
  counted = k.counted ∙ sym (counted_alike f standings (λ row s. (h row s).0));
  inside = k.inside;
  after = k.after;
  running = IfSome_then t.executing k.running (λ row m. record { inside = m.inside; kept = m.kept; first = m.first; after = m.after });
}

-- ---- rows are touched

touched_cell : (rows : List ℕ) (k : ℕ) (s : Standing) →
    ◌≡◌ {A = Cell} (cell_of (touch_at rows k s)) (cond (list_any (nat_eq k) rows) (record (cell_of s) { touched = true }) (cell_of s))
touched_cell rows k s = step (list_any (nat_eq k) rows)
  where
    step : (b : Bool) → ◌≡◌ {A = Cell} (cell_of (cond b (record s { touched = true }) s)) (cond b (record (cell_of s) { touched = true }) (cell_of s))
    step true = refl
    step false = refl

pub touch_cells : (rows : List ℕ) (t : Progress) (standings : List Standing) → t.cells ≡ map cell_of standings →
    (after_touch rows t).cells ≡ map cell_of (by_place (touch_at rows) standings)
touch_cells rows t standings e = cells_alike (touch_at rows) (λ k cell. cond (list_any (nat_eq k) rows) (record cell { touched = true }) cell) standings
    t.cells (touched_cell rows) e

touched_outcome : (rows : List ℕ) (t : Progress) (row : ℕ) → outcome_at (after_touch rows t) row ≡ outcome_at t row
touched_outcome rows t row =
    ap (λ (o : Option Cell). option_map_or (λ (cell : Cell). cell.outcome) o None)
    (place (λ k cell. cond (list_any (nat_eq k) rows) (record cell { touched = true }) cell) t.cells row)
    ∙ step (list_any (nat_eq row) rows) (slice_get t.cells row)
  where
    step : (b : Bool) (o : Option Cell) → option_map_or (λ (cell : Cell). cell.outcome)
        (option_map (λ (cell : Cell). cond b (record cell { touched = true }) cell) o) None ≡ option_map_or (λ (cell : Cell). cell.outcome) o None
    step b None = refl
    step true (Some cell) = refl
    step false (Some cell) = refl

pub kept_touch : (rows : List ℕ) (t : Progress) (standings : List Standing) (users : List (List ℕ)) (marks : List Bool) →
    IsTable t standings users marks → IsTable (after_touch rows t) (by_place (touch_at rows) standings) users marks
kept_touch rows t standings users marks k =
    kept_cells t (after_touch rows t).cells (touch_at rows) standings users marks marks k (λ row s. step (list_any (nat_eq row) rows) s)
    (touch_cells rows t standings k.cells)
    (spoiled_alike t (after_touch rows t) marks refl (λ row. ap (λ (o : Option Outcome). is_lost o || has_thrown t row) (touched_outcome rows t row))
    k.spoiled)
  where
    step : (b : Bool) (s : Standing) → ((cond b (record s { touched = true }) s).ran ≡ s.ran) × ((cond b (record s { touched = true }) s).done ≡ s.done)
        × ((cond b (record s { touched = true }) s).waits ≡ s.waits)
    step true s = (refl, refl, refl)
    step false s = (refl, refl, refl)

-- ---- users and needs

pub user_needs : (r : Registered) (users : List (List ℕ)) (need user : ℕ) → AreUsers r users → Contains (next_in users need) user →
    (user ≢ need) × Contains (needs_of r user) need
user_needs r users need user u c = ⊎_elim (λ lt. step lt (nat_eq user need) refl)
    (λ ge. absurd (contains_none user (subst (λ (xs : List ℕ). Contains xs user) (get_or_past users need [] (omega (arith, ge, u.long))) c)))
    (cases_lt need (length r.rows))
  where
    step : need < length r.rows → (b : Bool) → nat_eq user need ≡ b → (user ≢ need) × Contains (needs_of r user) need
    step lt true e =
        let none : count_by (nat_eq user) (next_in users need) ≡ 0 = u.each need user lt
        ∙ ap (λ (b : Bool). cond b 0 (count_by (nat_eq need) (needs_of r user))) e in
        absurd (counted_in user (next_in users need) none c)
    step lt false e =
        let same : count_by (nat_eq user) (next_in users need) ≡ count_by (nat_eq need) (needs_of r user) = u.each need user lt
        ∙ ap (λ (b : Bool). cond b 0 (count_by (nat_eq need) (needs_of r user))) e in
        (eqb-false user need e, some_counted need (needs_of r user) (λ z. counted_in user (next_in users need) (same ∙ z) c))

pub need_used : (r : Registered) (users : List (List ℕ)) (need user : ℕ) → AreUsers r users → Contains (needs_of r user) need → user ≢ need →
    Contains (next_in users need) user
need_used r users need user u c ne =
    let low : need < length r.rows = needs_within r user need c in
    let same : count_by (nat_eq user) (next_in users need) ≡ count_by (nat_eq need) (needs_of r user) = u.each need user low
    ∙ ap (λ (b : Bool). cond b 0 (count_by (nat_eq need) (needs_of r user))) (ne_eqb user need ne) in
    some_counted user (next_in users need) (λ z. counted_in need (needs_of r user) (sym same ∙ z) c)

pub users_within : (r : Registered) (users : List (List ℕ)) → AreUsers r users → IsWithin users
users_within r users u row next c = omega (arith, u.long, has_needs r next row (user_needs r users row next u c).1)

pub users_closed : (t : Progress) (users : List (List ℕ)) (marks : List Bool) → AreUsers t.registered users → AreSpoiled t marks → IsClosed users marks
users_closed t users marks u m row next h c = m.spoils.upward next row (user_needs t.registered users row next u c).1 h

-- one row more is broken
pub spoiled_more : (t u : Progress) (users : List (List ℕ)) (row : ℕ) (marks marks' : List Bool) → t.registered ≡ u.registered →
    ((other : ℕ) → is_broken_at u other ≡ (is_broken_at t other || nat_eq other row)) → row < length t.registered.rows
    → AreUsers t.registered users → AreSpoiled t marks → length marks' ≡ length marks → Spreads users (row ∷ []) marks marks' →
    AreSpoiled u marks'
spoiled_more t u users row marks marks' e h low us m long s = record {
  long = long ∙ m.long ∙ ap (λ (r : Registered). length r.rows) e;
  spoils = record { broken = broken'; upward = upward' };
  least = least';
}
  where
    broken' : (other : ℕ) → other < length u.registered.rows → is_broken_at u other ≡ true → marked marks' other ≡ true
    broken' other there b = ⊎_elim
        (λ was. s.keeps other (m.spoils.broken other (omega (arith, there, ap (λ (r : Registered). length r.rows) e)) was))
        (λ here. subst (λ (k : ℕ). marked marks' k ≡ true) (sym (eqb-true other row here)) (s.begins row (contains_head row [])))
        (or_cases (is_broken_at t other) (nat_eq other row) (sym (h other) ∙ b))

    upward' : (user need : ℕ) → Contains (needs_of u.registered user) need → marked marks' need ≡ true → marked marks' user ≡ true
    upward' user need c b = ⊎_elim
        (λ same. subst (λ (k : ℕ). marked marks' k ≡ true) (sym same) b)
        (λ ne. s.closed need user b (need_used t.registered users need user us (subst (λ (r : Registered). Contains (needs_of r user) need) (sym e) c) ne))
        (cases_eq user need)

    least' : (test : ℕ → Bool) → Spoils u test → (other : ℕ) → marked marks' other ≡ true → test other ≡ true
    least' test q other b = ⊎_elim
        (λ was. m.least test before other was)
        (λ r. passes_along users test spreads r.walk.0 r.start other (ap test (sym (contains_one row r.start r.is_start)) ∙ here) r.walk.1)
        (s.only other b)
      where
        before : Spoils t test
        before = record {
          broken = λ k there d. q.broken k (omega (arith, there, ap (λ (r : Registered). length r.rows) e))
              (h k ∙ or_left (is_broken_at t k) (nat_eq k row) d);
          upward = λ k need c d. q.upward k need (subst (λ (r : Registered). Contains (needs_of r k) need) e c) d;
        }

        here : test row ≡ true
        here = q.broken row (omega (arith, low, ap (λ (r : Registered). length r.rows) e))
            (h row ∙ or_right (is_broken_at t row) (nat_eq row row) (eq-eqb row row refl))

        spreads : PassesOn users test
        spreads need user d c = q.upward user need (subst (λ (r : Registered). Contains (needs_of r user) need) e
            (user_needs t.registered users need user us c).1) d

-- ---- a row is answered

abbrev pub answer_at : ℕ → Outcome → ℕ → Standing → Standing
answer_at row o k s = cond (nat_eq k row) (record s { outcome = Some o }) s

pub answered : (row : ℕ) (o : Outcome) (standings : List Standing) (d : Standing) → row < length standings →
    set standings row (record (get_or standings row d) { outcome = Some o }) ≡ by_place (answer_at row o) standings
answered row o standings d low =
    let same : standings ≡ by_place (λ k s. s) standings = by_place_same (λ k s. s) standings (λ k s. refl) in
    ap (λ (ss : List Standing). set ss row (record (get_or ss row d) { outcome = Some o })) same
    ∙ set_by_place (λ k s. s) (answer_at row o) (λ s. record s { outcome = Some o }) standings row d low
    (λ s. ap (λ (b : Bool). cond b (record s { outcome = Some o }) s) (sym (eq-eqb row row refl)))
    (λ k s ne. ap (λ (b : Bool). cond b (record s { outcome = Some o }) s) (sym (ne_eqb k row ne)))

pub answer_cells : (row : ℕ) (o : Outcome) (t : Progress) (standings : List Standing) → t.cells ≡ map cell_of standings → row < length standings →
    is_touched_at t row ≡ true → (after_outcome row o t).cells ≡ map cell_of (by_place (answer_at row o) standings)
answer_cells row o t standings e low touched =
    let m = place_there standings row low in
    let was : m.0.touched ≡ true = sym (touched_is t standings row m.0 e m.1) ∙ touched in
    let read : get_or standings row m.0 ≡ m.0 = get_or_from_slice_get standings row m.0 m.0 m.1 in
    ap (λ (cells : List Cell). set cells row (record { touched = true; outcome = Some o })) e
    ∙ ap (λ (b : Bool). set (map cell_of standings) row (record { touched = b; outcome = Some o })) (sym was)
    ∙ ap (λ (s : Standing). set (map cell_of standings) row (record { touched = s.touched; outcome = Some o })) (sym read)
    ∙ sym (map-set cell_of standings row (record (get_or standings row m.0) { outcome = Some o }))
    ∙ ap (map cell_of) (answered row o standings m.0 low)

cells_low : (t : Progress) (row : ℕ) → is_touched_at t row ≡ true → row < length t.cells
cells_low t row h = ⊎_elim (λ lt. lt)
    (λ ge. absurd (both_ways (is_touched_at t row) (ap (λ (o : Option Cell). option_map_or (λ (cell : Cell). cell.touched) o false)
    (slice_get_past t.cells row ge)) h))
    (cases_lt row (length t.cells))

-- a row that was touched has a standing
pub touched_low : (t : Progress) (standings : List Standing) (row : ℕ) → t.cells ≡ map cell_of standings → is_touched_at t row ≡ true →
    row < length standings
touched_low t standings row e h = omega (arith, cells_low t row h, ap length e, length-map standings cell_of)

answered_outcome : (row : ℕ) (o : Outcome) (t : Progress) (k : ℕ) → row < length t.cells →
    outcome_at (after_outcome row o t) k ≡ cond (nat_eq k row) (Some o) (outcome_at t k)
answered_outcome row o t k low =
    ap (λ (c : Option Cell). option_map_or (λ (cell : Cell). cell.outcome) c None) (set_place t.cells row (record { touched = true; outcome = Some o }) k low)
    ∙ step (nat_eq k row)
  where
    step : (b : Bool) → option_map_or (λ (cell : Cell). cell.outcome) (cond b (Some (record { touched = true; outcome = Some o })) (slice_get t.cells k))
        None ≡ cond b (Some o) (outcome_at t k)
    step true = refl
    step false = refl

-- so the rows that are broken are as before where this is an implementation, and else one more
broken_after : (row : ℕ) (o : Outcome) (t : Progress) (k : ℕ) → row < length t.cells → outcome_at t row ≡ None →
    is_broken_at (after_outcome row o t) k ≡ (is_broken_at t k || (nat_eq k row && is_lost (Some o)))
broken_after row o t k low none = ap (λ (c : Option Outcome). is_lost c || has_thrown t k) (answered_outcome row o t k low) ∙ step (nat_eq k row) refl
  where
    step : (b : Bool) → nat_eq k row ≡ b → (is_lost (cond b (Some o) (outcome_at t k)) || has_thrown t k)
        ≡ ((is_lost (outcome_at t k) || has_thrown t k) || (b && is_lost (Some o)))
    step true e =
        let was : outcome_at t k ≡ None = ap (outcome_at t) (eqb-true k row e) ∙ none in
        rw was (swap (is_lost (Some o)) (has_thrown t k))
      where
        swap : (a b : Bool) → (a || b) ≡ ((false || b) || a)
        swap true true = refl
        swap true false = refl
        swap false true = refl
        swap false false = refl
    step false e = same (is_lost (outcome_at t k) || has_thrown t k)
      where
        same : (a : Bool) → a ≡ (a || false)
        same true = refl
        same false = refl

pub kept_outcome : (row : ℕ) (o : Outcome) (t : Progress) (standings : List Standing) (users : List (List ℕ)) (marks marks' : List Bool) →
    IsTable t standings users marks → is_touched_at t row ≡ true → AreSpoiled (after_outcome row o t) marks'
    → IsTable (after_outcome row o t) (by_place (answer_at row o) standings) users marks'
kept_outcome row o t standings users marks marks' k touched spoiled =
    kept_cells t (after_outcome row o t).cells (answer_at row o) standings users marks marks' k (λ other s. step (nat_eq other row) s)
    (answer_cells row o t standings k.cells (touched_low t standings row k.cells touched) touched) spoiled
  where
    step : (b : Bool) (s : Standing) → ((cond b (record s { outcome = Some o }) s).ran ≡ s.ran)
        × ((cond b (record s { outcome = Some o }) s).done ≡ s.done) × ((cond b (record s { outcome = Some o }) s).waits ≡ s.waits)
    step true s = (refl, refl, refl)
    step false s = (refl, refl, refl)

pub spoiled_kept : (row : ℕ) (o : Outcome) (t : Progress) (marks : List Bool) → is_touched_at t row ≡ true → outcome_at t row ≡ None →
    is_lost (Some o) ≡ false → AreSpoiled t marks → AreSpoiled (after_outcome row o t) marks
spoiled_kept row o t marks touched none kept m = spoiled_alike t (after_outcome row o t) marks refl (λ k.
    broken_after row o t k (cells_low t row touched) none ∙ ap (λ (b : Bool). is_broken_at t k || (nat_eq k row && b)) kept
    ∙ step (is_broken_at t k) (nat_eq k row)) m
  where
    step : (a b : Bool) → (a || (b && false)) ≡ a
    step true b = refl
    step false true = refl
    step false false = refl

pub broken_lost : (row : ℕ) (o : Outcome) (t : Progress) (k : ℕ) → is_touched_at t row ≡ true → outcome_at t row ≡ None →
    is_lost (Some o) ≡ true → is_broken_at (after_outcome row o t) k ≡ (is_broken_at t k || nat_eq k row)
broken_lost row o t k touched none lost = broken_after row o t k (cells_low t row touched) none
    ∙ ap (λ (b : Bool). is_broken_at t k || (nat_eq k row && b)) lost ∙ step (is_broken_at t k) (nat_eq k row)
  where
    step : (a b : Bool) → (a || (b && true)) ≡ (a || b)
    step true b = refl
    step false true = refl
    step false false = refl

-- the standings after the write
pub written : (row : ℕ) (o : Outcome) (standings : List Standing) (s : Standing) → row < length standings → s ≡ get_or standings row s →
    set standings row (record s { outcome = Some o }) ≡ by_place (answer_at row o) standings
written row o standings s low is = ap (λ (x : Standing). set standings row (record x { outcome = Some o })) is ∙ answered row o standings s low

-- ---- nothing happened yet

done_fresh : (r : Registered) (row : ℕ) → is_skipped_at r row ≡ is_done (fresh_progress r) row
done_fresh r row = step (is_skipped_at r row)
  where
    step : (b : Bool) → b ≡ (b || false)
    step true = refl
    step false = refl

unbroken : (r : Registered) (row : ℕ) → is_broken_at (fresh_progress r) row ≡ false
unbroken r row = ap (λ (o : Option Cell). is_lost (option_map_or (λ (cell : Cell). cell.outcome) o None) || false)
    (slice_get-map (λ (found : Row). record { touched = false; outcome = None }) r.rows row) ∙ step (slice_get r.rows row)
  where
    step : (o : Option Row) → (is_lost (option_map_or (λ (cell : Cell). cell.outcome)
        (option_map (λ (found : Row). let c : Cell = record { touched = false; outcome = None } in c) o) None) || false) ≡ false
    step None = refl
    step (Some found) = refl

none_counted : (p : Standing → Bool) (standings : List Standing) → ((k : ℕ) (s : Standing) → slice_get standings k ≡ Some s → p s ≡ false) →
    count_by p standings ≡ 0
none_counted p [] h = refl
none_counted p (s ∷ standings) h =
    let here : ◌≡◌ {A = ℕ} (cond (p s) 1 0) 0 = ap (λ (b : Bool). cond b 1 0) (h 0 s refl) in
    omega (arith, sum_by-cons (λ (x : Standing). cond (p x) 1 0) s standings, here, none_counted p standings (λ k x at. h (suc k) x at))

pub spoiled_fresh : (r : Registered) → AreSpoiled (fresh_progress r) (replicate (length r.rows) false)
spoiled_fresh r = record {
  long = length-replicate (length r.rows) false;
  spoils = record {
    broken = λ row low b. absurd (both_ways (is_broken_at (fresh_progress r) row) (unbroken r row) b);
    upward =
        λ row need c b. absurd (both_ways (marked (replicate (length r.rows) false) need) (unmarked need) b);
  };
  least = λ test h row b. absurd (both_ways (marked (replicate (length r.rows) false) row) (unmarked row) b);
}
  where
    unmarked : (row : ℕ) → marked (replicate (length r.rows) false) row ≡ false
    unmarked row = ⊎_elim (λ lt. get_or-replicate (length r.rows) row false false lt)
        (λ ge. get_or_past (replicate (length r.rows) false) row false (omega (arith, ge, length-replicate (length r.rows) false)))
        (cases_lt row (length r.rows))

pub kept_fresh : (r : Registered) (users : List (List ℕ)) → length r.rows ≤ 4096 → HasDistinctNames r → AreUsers r users →
    IsTable (fresh_progress r) (for_rows r (fresh r)) users (replicate (length r.rows) false)
kept_fresh r users few distinct u = record {
  few = few;
  distinct = distinct;
  long = length_rows r (fresh r);
  cells = cells;
  each = λ row s at.
      let is : s ≡ fresh r row = (over_at (fresh r) (length r.rows) row s at).1 in
      record {
        ran = ap (λ (x : Standing). x.ran) is;
        done = ap (λ (x : Standing). x.done) is ∙ done_fresh r row;
        waits = ap (λ (x : Standing). x.waits) is
            ∙ count_agree (λ other. not (nat_eq other row || is_skipped_at r other)) (λ other. not (nat_eq other row || is_done (fresh_progress r) other))
            (needs_of r row) (λ other c. ap (λ (b : Bool). not (nat_eq other row || b)) (done_fresh r other));
      };
  indexed = u;
  spoiled = spoiled_fresh r;
  counted = sym (none_counted (λ s. s.ran) (for_rows r (fresh r)) (λ k s at. ap (λ (x : Standing). x.ran) (over_at (fresh r) (length r.rows) k s at).1));
  inside = λ row h. absurd (both_ways false refl h);
  after = λ row h. absurd (both_ways false refl h);
  running = tt;
}
  where
    cells : (fresh_progress r).cells ≡ map cell_of (for_rows r (fresh r))
    cells = same_places (fresh_progress r).cells (map cell_of (for_rows r (fresh r))) (λ k.
        slice_get-map (λ (found : Row). let c : Cell = record { touched = false; outcome = None } in c) r.rows k
        ∙ ⊎_elim (λ lt. within k lt) (λ ge. past k ge) (cases_lt k (length r.rows))
        ∙ sym (slice_get-map cell_of (for_rows r (fresh r)) k ∙ ap (option_map cell_of) (over_numbers (fresh r) (length r.rows) k)))
      where
        within : (k : ℕ) → k < length r.rows
            → option_map (λ (found : Row). let c : Cell = record { touched = false; outcome = None } in c) (slice_get r.rows k)
            ≡ option_map cell_of (cond (nat_lt k (length r.rows)) (Some (fresh r k)) None)
        within k lt =
            let m = place_there r.rows k lt in
            ap (option_map (λ (found : Row). let c : Cell = record { touched = false; outcome = None } in c)) m.1
            ∙ sym (ap (λ (b : Bool). option_map cell_of (cond b (Some (fresh r k)) None)) (lt-ltb k (length r.rows) lt))

        past : (k : ℕ) → length r.rows ≤ k
            → option_map (λ (found : Row). let c : Cell = record { touched = false; outcome = None } in c) (slice_get r.rows k)
            ≡ option_map cell_of (cond (nat_lt k (length r.rows)) (Some (fresh r k)) None)
        past k ge =
            ap (option_map (λ (found : Row). let c : Cell = record { touched = false; outcome = None } in c)) (slice_get_past r.rows k ge)
            ∙ sym (ap (λ (b : Bool). option_map cell_of (cond b (Some (fresh r k)) None)) (le-ltb k (length r.rows) ge))

pub fresh_view : (r : Registered) (standings : List Standing) (log : List ℕ) (threw : List Bool) → standings ≡ for_rows r (fresh r) → log ≡ [] →
    threw ≡ [] → (fresh_progress r).cells ≡ map cell_of (for_rows r (fresh r))
    → ◌≡◌ {A = Progress} (record { registered = r; cells = map cell_of standings; ran = zip log threw; executing = None }) (fresh_progress r)
fresh_view r standings log threw e f g h =
    ap (λ (cells : List Cell). let p : Progress = record { registered = r; cells = cells; ran = zip log threw; executing = None } in p)
    (ap (map cell_of) e ∙ sym h)
    ∙ ap (λ (xs : List ℕ). let p : Progress = record { registered = r; cells = (fresh_progress r).cells; ran = zip xs threw; executing = None } in p) f
