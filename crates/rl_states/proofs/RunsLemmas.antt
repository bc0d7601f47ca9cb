-- What a table keeps when a row is chosen, and when it ran.
use Rattle.std.proofs.Common.{◌≡◌, ◌≢◌, ℕ, ◌+◌, ◌<◌, ◌≤◌, List, [], ◌∷◌, ◌++◌, Bool, true, false, cond, ◌&&◌}
use Rattle.std.proofs.Common.{◌||◌, not, length, set, get_or, map, nat_eq, Option, Some, None, refl, ap, sym, subst, ◌∙◌, ⊎_elim, arith}
use Rattle.std.proofs.Common.{length-append}
use Rattle.std.specs.Prelude.{IfSome, count_by, option_map, slice_get, All}
use Rattle.std.specs.List.{list_any, zip}
use Rattle.std.proofs.lemmas.Bool.{both_ways, cases_eq, eqb-true, eqb-false, eq-eqb, ne_eqb, false_from_ne_true, or_cases, or_left, or_right}
use Rattle.std.proofs.lemmas.List.Elements.{Contains-get_or}
use Rattle.std.proofs.lemmas.List.Folds.{list_any-append}
use Rattle.std.proofs.lemmas.List.Sums.{sum_by-set}
use Rattle.std.proofs.lemmas.Option.{slice_get_within, get_or_from_slice_get}
use Rattle.rl_view_spec.specs.Numbers.{needs_of}
use Rattle.rl_view_spec.specs.Progress.{Cell, Progress, is_skipped_at, has_run, has_thrown, is_done, is_lost, outcome_at, next_row}
use Rattle.rl_view_spec.proofs.ToolsLemmas.{all_each, each_all, place_there}
use Rattle.rl_states.specs.declared.standing.Standing.{Standing}
use Rattle.rl_states.specs.Changes.{after_ran}
use Rattle.rl_graph.specs.Graph.{next_in}
use Rattle.rl_states.specs.Standings.{by_place, cell_of, release_at}
use Rattle.rl_states.specs.Users.{AreUsers}
use Rattle.rl_states.specs.Kept.{waits_of, needs_done, is_broken_at, IsStanding, AreSpoiled, IsRunning, IsTable}
use Rattle.rl_states.proofs.ChangesLemmas.{from_place, spoiled_alike, counted_alike, cells_alike, user_needs}
use Rattle.rl_graph.proofs.CountsLemmas.{count_fewer}
use Rattle.rl_states.proofs.StandingsLemmas.{place, same_places, length_places, set_by_place, by_place_same, count_agree}
use Rattle.rl_states.proofs.TablesLemmas.{next_runs, has_needs, well_ran}

-- ---- a row is chosen

pub kept_next : (t : Progress) (o : Option ℕ) (standings : List Standing) (users : List (List ℕ)) (marks : List Bool) →
    IsTable t standings users marks → o ≡ next_row t → IsTable (record t { executing = o }) standings users marks
kept_next t o standings users marks k e = record {
  few = k.few;
  distinct = k.distinct;
  long = k.long;
  cells = k.cells;
  each = λ row s at. let is : IsStanding t row s = k.each row s at in record { ran = is.ran; done = is.done; waits = is.waits };
  indexed = k.indexed;
  spoiled = spoiled_alike t (record t { executing = o }) marks refl (λ row. refl) k.spoiled;
  counted = k.counted;
  inside = k.inside;
  after = k.after;
  running = step o e;
}
  where
    step : (p : Option ℕ) → p ≡ next_row t → IfSome p (IsRunning (record t { executing = o }))
    step None f = tt
    step (Some row) f = let m : IsRunning t row = next_runs t standings users marks row k (sym f) in
        record { inside = m.inside; kept = m.kept; first = m.first; after = m.after }

-- ---- what is known after a run

pub has_run_after : (t : Progress) (row : ℕ) (threw : Bool) (k : ℕ) → has_run (after_ran row threw t) k ≡ (has_run t k || nat_eq row k)
has_run_after t row threw k = list_any-append (λ (run : ℕ × Bool). nat_eq run.0 k) t.ran ((row, threw) ∷ [])
    ∙ ap (λ (b : Bool). has_run t k || b) (last (nat_eq row k))
  where
    last : (b : Bool) → (b || false) ≡ b
    last true = refl
    last false = refl

has_thrown_after : (t : Progress) (row : ℕ) (threw : Bool) (k : ℕ) → has_thrown (after_ran row threw t) k ≡ (has_thrown t k || (nat_eq row k && threw))
has_thrown_after t row threw k = list_any-append (λ (run : ℕ × Bool). nat_eq run.0 k && run.1) t.ran ((row, threw) ∷ [])
    ∙ ap (λ (b : Bool). has_thrown t k || b) (last (nat_eq row k && threw))
  where
    last : (b : Bool) → (b || false) ≡ b
    last true = refl
    last false = refl

is_done_after : (t : Progress) (row : ℕ) (threw : Bool) (k : ℕ) → is_done (after_ran row threw t) k ≡ (is_done t k || (nat_eq row k && not threw))
is_done_after t row threw k =
    ap (λ (b : Bool). is_skipped_at t.registered k || b) (list_any-append (λ (run : ℕ × Bool). nat_eq run.0 k && not run.1) t.ran ((row, threw) ∷ []))
    ∙ step (is_skipped_at t.registered k) (list_any (λ (run : ℕ × Bool). nat_eq run.0 k && not run.1) t.ran) (nat_eq row k && not threw)
  where
    step : (a b c : Bool) → (a || (b || (c || false))) ≡ ((a || b) || c)
    step true b c = refl
    step false true c = refl
    step false false true = refl
    step false false false = refl

-- the row that runs was not done
undone : (t : Progress) (row : ℕ) → IsRunning t row → is_done t row ≡ false
undone t row m = false_from_ne_true (is_done t row) (λ d. ⊎_elim
    (λ s. both_ways (is_skipped_at t.registered row) m.kept s)
    (λ w. both_ways (has_run t row) m.first (well_ran t row w))
    (or_cases (is_skipped_at t.registered row) (list_any (λ (run : ℕ × Bool). nat_eq run.0 row && not run.1) t.ran) d))

stays_done : (t : Progress) (row : ℕ) (threw : Bool) (k : ℕ) → is_done t k ≡ true → is_done (after_ran row threw t) k ≡ true
stays_done t row threw k d = is_done_after t row threw k ∙ or_left (is_done t k) (nat_eq row k && not threw) d

needs_stay : (t : Progress) (row : ℕ) (threw : Bool) (k : ℕ) → needs_done t k ≡ true → needs_done (after_ran row threw t) k ≡ true
needs_stay t row threw k h = each_all (λ other. nat_eq other k || is_done (after_ran row threw t) other) (needs_of t.registered k) (λ other c. ⊎_elim
    (λ e. or_left (nat_eq other k) (is_done (after_ran row threw t) other) e)
    (λ d. or_right (nat_eq other k) (is_done (after_ran row threw t) other) (stays_done t row threw other d))
    (or_cases (nat_eq other k) (is_done t other) (all_each (λ other. nat_eq other k || is_done t other) (needs_of t.registered k) other h c)))

-- a row that threw is not done
waits_thrown : (t : Progress) (row k : ℕ) → waits_of t k ≡ waits_of (after_ran row true t) k
waits_thrown t row k = count_agree (λ other. not (nat_eq other k || is_done t other)) (λ other. not (nat_eq other k || is_done (after_ran row true t) other))
    (needs_of t.registered k)
    (λ other c. ap (λ (b : Bool). not (nat_eq other k || b)) (sym (is_done_after t row true other ∙ step (is_done t other) (nat_eq row other))))
  where
    step : (a b : Bool) → (a || (b && false)) ≡ a
    step true b = refl
    step false true = refl
    step false false = refl

-- for one that did not each of its users waits less, once for each time that it names it
waits_released : (t : Progress) (users : List (List ℕ)) (row k : ℕ) → AreUsers t.registered users → IsRunning t row →
    waits_of (after_ran row false t) k + count_by (nat_eq k) (next_in users row) ≡ waits_of t k
waits_released t users row k u m = step (nat_eq k row) refl
  where
    done : (other : ℕ) → is_done (after_ran row false t) other ≡ (is_done t other || nat_eq other row)
    done other = is_done_after t row false other ∙ ap (λ (b : Bool). is_done t other || b)
        (turn (nat_eq row other) (nat_eq other row) (λ e. eq-eqb other row (sym (eqb-true row other e))) (λ e. eq-eqb row other (sym (eqb-true other row e))))
      where
        turn : (a b : Bool) → (a ≡ true → b ≡ true) → (b ≡ true → a ≡ true) → (a && true) ≡ b
        turn true b f g = sym (f refl)
        turn false true f g = g refl
        turn false false f g = refl

    assoc : (a b c : Bool) → (a || (b || c)) ≡ ((a || b) || c)
    assoc true b c = refl
    assoc false b c = refl

    step : (b : Bool) → nat_eq k row ≡ b → waits_of (after_ran row false t) k + count_by (nat_eq k) (next_in users row) ≡ waits_of t k
    step true e =
        let none : count_by (nat_eq k) (next_in users row) ≡ 0 = u.each row k m.inside
        ∙ ap (λ (b : Bool). cond b 0 (count_by (nat_eq row) (needs_of t.registered k))) e in
        let same : waits_of (after_ran row false t) k ≡ waits_of t k =
        count_agree (λ other. not (nat_eq other k || is_done (after_ran row false t) other)) (λ other. not (nat_eq other k || is_done t other))
        (needs_of t.registered k)
        (λ other c. ap not (ap (λ (b : Bool). nat_eq other k || b) (done other)
        ∙ own (nat_eq other k) (is_done t other) (nat_eq other row) (ap (nat_eq other) (eqb-true k row e)))) in
        omega (arith, none, same)
      where
        own : (a b c : Bool) → a ≡ c → (a || (b || c)) ≡ (a || b)
        own true b c f = refl
        own false true c f = refl
        own false false c f = sym f
    step false e =
        let some : count_by (nat_eq k) (next_in users row) ≡ count_by (nat_eq row) (needs_of t.registered k) = u.each row k m.inside
        ∙ ap (λ (b : Bool). cond b 0 (count_by (nat_eq row) (needs_of t.registered k))) e in
        let apart : nat_eq row k ≡ false = ne_eqb row k (λ f. eqb-false k row e (sym f)) in
        omega (
          arith,
          some,
          count_fewer (λ other. nat_eq other k || is_done t other) (λ other. nat_eq other k || is_done (after_ran row false t) other) row
              (needs_of t.registered k)
              (ap (λ (b : Bool). b || is_done t row) apart ∙ undone t row m)
              (λ other. ap (λ (b : Bool). nat_eq other k || b) (done other) ∙ assoc (nat_eq other k) (is_done t other) (nat_eq other row)),
        )

-- ---- the standings after a run

abbrev pub ran_at : ℕ → Bool → ℕ → Standing → Standing
ran_at row threw k s = cond (nat_eq k row) (record s { ran = true; done = not threw }) s

pub ran_written : (row : ℕ) (threw : Bool) (standings : List Standing) (s : Standing) → row < length standings → s ≡ get_or standings row s →
    set standings row (record s { ran = true; done = not threw }) ≡ by_place (ran_at row threw) standings
ran_written row threw standings s low is =
    let same : standings ≡ by_place (λ k x. x) standings = by_place_same (λ k x. x) standings (λ k x. refl) in
    ap (λ (x : Standing). set standings row (record x { ran = true; done = not threw })) is
    ∙ ap (λ (ss : List Standing). set ss row (record (get_or ss row s) { ran = true; done = not threw })) same
    ∙ set_by_place (λ k x. x) (ran_at row threw) (λ x. record x { ran = true; done = not threw }) standings row s low
    (λ x. ap (λ (b : Bool). cond b (record x { ran = true; done = not threw }) x) (sym (eq-eqb row row refl)))
    (λ k x ne. ap (λ (b : Bool). cond b (record x { ran = true; done = not threw }) x) (sym (ne_eqb k row ne)))

-- one more ran
ran_counted : (row : ℕ) (threw : Bool) (standings : List Standing) (s : Standing) → slice_get standings row ≡ Some s → s.ran ≡ false →
    count_by (λ x. x.ran) (by_place (ran_at row threw) standings) ≡ count_by (λ x. x.ran) standings + 1
ran_counted row threw standings s at h =
    let low : row < length standings = slice_get_within standings row s at in
    let read : get_or standings row s ≡ s = get_or_from_slice_get standings row s s at in
    let was : ◌≡◌ {A = ℕ} (cond (get_or standings row s).ran 1 0) 0 = ap (λ (x : Standing). cond x.ran 1 0) read
    ∙ ap (λ (b : Bool). cond b 1 0) h in
    ap (count_by (λ x. x.ran)) (sym (ran_written row threw standings s low (sym read)))
    ∙ omega (arith, sum_by-set (λ (x : Standing). cond x.ran 1 0) standings row (record s { ran = true; done = not threw }) s low, was)

-- what the table keeps then, where the standings agree
kept_ran : (t : Progress) (row : ℕ) (threw : Bool) (f : ℕ → Standing → Standing) (standings : List Standing) (users : List (List ℕ))
    (marks marks' : List Bool) → IsTable t standings users marks → IsRunning t row
    → ((k : ℕ) (s : Standing) → cell_of (f k s) ≡ cell_of s) →
    ((k : ℕ) (s : Standing) → slice_get standings k ≡ Some s → IsStanding (after_ran row threw t) k (f k s))
    → count_by (λ x. x.ran) (by_place f standings) ≡ count_by (λ x. x.ran) standings + 1 → AreSpoiled (after_ran row threw t) marks' →
    IsTable (after_ran row threw t) (by_place f standings) users marks'
kept_ran t row threw f standings users marks marks' k m seen each counted spoiled = record {
  few = k.few;
  distinct = k.distinct;
  long = length_places f standings ∙ k.long;
  cells = by_place_same (λ j cell. cell) t.cells (λ j cell. refl) ∙ cells_alike f (λ j cell. cell) standings t.cells seen k.cells;
  each = λ other s at. let p = from_place f standings other s at in subst (IsStanding (after_ran row threw t) other) (sym p.2) (each other p.0 p.1);
  indexed = k.indexed;
  spoiled = spoiled;
  counted = omega (arith, length-append t.ran ((row, threw) ∷ []), k.counted, counted);
  inside = λ other h. ⊎_elim (λ was. k.inside other was) (λ e. subst (λ (j : ℕ). j < length t.registered.rows) (eqb-true row other e) m.inside)
      (or_cases (has_run t other) (nat_eq row other) (sym (has_run_after t row threw other) ∙ h));
  after = λ other h. needs_stay t row threw other (⊎_elim (λ was. k.after other was)
      (λ e. subst (λ (j : ℕ). needs_done t j ≡ true) (eqb-true row other e) m.after)
      (or_cases (has_run t other) (nat_eq row other) (sym (has_run_after t row threw other) ∙ h)));
  running = tt;
}

-- whether it ran and is done
ran_fits : (t : Progress) (row : ℕ) (threw : Bool) (k : ℕ) (s : Standing) → IsRunning t row → IsStanding t k s →
    ((ran_at row threw k s).ran ≡ has_run (after_ran row threw t) k) × ((ran_at row threw k s).done ≡ is_done (after_ran row threw t) k)
ran_fits t row threw k s m is = ⊎_elim (λ e. here e) (λ ne. there ne) (cases_eq k row)
  where
    here : k ≡ row → ((ran_at row threw k s).ran ≡ has_run (after_ran row threw t) k)
        × ((ran_at row threw k s).done ≡ is_done (after_ran row threw t) k)
    here e =
        let at : nat_eq k row ≡ true = eq-eqb k row e in
        let back : nat_eq row k ≡ true = eq-eqb row k (sym e) in
        let was : is_done t k ≡ false = ap (is_done t) e ∙ undone t row m in (
          ap (λ (b : Bool). (cond b (record s { ran = true; done = not threw }) s).ran) at
              ∙ sym (has_run_after t row threw k ∙ or_right (has_run t k) (nat_eq row k) back),
          ap (λ (b : Bool). (cond b (record s { ran = true; done = not threw }) s).done) at
              ∙ sym (is_done_after t row threw k ∙ ap (λ (b : Bool). b || (nat_eq row k && not threw)) was ∙ ap (λ (b : Bool). b && not threw) back),
        )

    there : k ≢ row → ((ran_at row threw k s).ran ≡ has_run (after_ran row threw t) k)
        × ((ran_at row threw k s).done ≡ is_done (after_ran row threw t) k)
    there ne =
        let at : nat_eq k row ≡ false = ne_eqb k row ne in
        let back : nat_eq row k ≡ false = ne_eqb row k (λ e. ne (sym e)) in (
          ap (λ (b : Bool). (cond b (record s { ran = true; done = not threw }) s).ran) at ∙ is.ran
              ∙ sym (has_run_after t row threw k ∙ ap (λ (b : Bool). has_run t k || b) back ∙ off (has_run t k)),
          ap (λ (b : Bool). (cond b (record s { ran = true; done = not threw }) s).done) at ∙ is.done
              ∙ sym (is_done_after t row threw k ∙ ap (λ (b : Bool). is_done t k || (b && not threw)) back ∙ off (is_done t k)),
        )
      where
        off : (b : Bool) → (b || false) ≡ b
        off true = refl
        off false = refl

ran_keeps : (row : ℕ) (threw : Bool) (k : ℕ) (s : Standing) → ((ran_at row threw k s).waits ≡ s.waits) × (cell_of (ran_at row threw k s) ≡ cell_of s)
ran_keeps row threw k s = step (nat_eq k row)
  where
    step : (b : Bool) → ((cond b (record s { ran = true; done = not threw }) s).waits ≡ s.waits)
        × (cell_of (cond b (record s { ran = true; done = not threw }) s) ≡ cell_of s)
    step true = (refl, refl)
    step false = (refl, refl)

-- ---- the row threw

pub broken_thrown : (t : Progress) (row k : ℕ) → is_broken_at (after_ran row true t) k ≡ (is_broken_at t k || nat_eq k row)
broken_thrown t row k =
    ap (λ (b : Bool). is_lost (outcome_at t k) || b) (has_thrown_after t row true k)
    ∙ step (is_lost (outcome_at t k)) (has_thrown t k) (nat_eq row k) (nat_eq k row) (λ e. eq-eqb k row (sym (eqb-true row k e)))
    (λ e. eq-eqb row k (sym (eqb-true k row e)))
  where
    step : (a b c d : Bool) → (c ≡ true → d ≡ true) → (d ≡ true → c ≡ true) → (a || (b || (c && true))) ≡ ((a || b) || d)
    step true b c d f g = refl
    step false true c d f g = refl
    step false false true d f g = sym (f refl)
    step false false false true f g = g refl
    step false false false false f g = refl

pub kept_thrown : (t : Progress) (row : ℕ) (standings : List Standing) (users : List (List ℕ)) (marks marks' : List Bool) →
    IsTable t standings users marks → IsRunning t row → AreSpoiled (after_ran row true t) marks'
    → IsTable (after_ran row true t) (by_place (ran_at row true) standings) users marks'
kept_thrown t row standings users marks marks' k m spoiled =
    let p = place_there standings row (omega (arith, m.inside, k.long)) in
    kept_ran t row true (ran_at row true) standings users marks marks' k m (λ j s. (ran_keeps row true j s).1)
    (λ j s at. let is : IsStanding t j s = k.each j s at in
    let fits = ran_fits t row true j s m is in
    record { ran = fits.0; done = fits.1; waits = (ran_keeps row true j s).0 ∙ is.waits ∙ waits_thrown t row j })
    (ran_counted row true standings p.0 p.1 ((k.each row p.0 p.1).ran ∙ m.first)) spoiled

-- ---- the row did not throw

pub spoiled_ran : (t : Progress) (row : ℕ) (marks : List Bool) → AreSpoiled t marks → AreSpoiled (after_ran row false t) marks
spoiled_ran t row marks m = spoiled_alike t (after_ran row false t) marks refl (λ k.
    ap (λ (b : Bool). is_lost (outcome_at t k) || b) (has_thrown_after t row false k) ∙ step (is_lost (outcome_at t k)) (has_thrown t k) (nat_eq row k)) m
  where
    step : (a b c : Bool) → (a || (b || (c && false))) ≡ (a || b)
    step true b c = refl
    step false true c = refl
    step false false true = refl
    step false false false = refl

-- two changes, place by place
pub by_both : (f g : ℕ → Standing → Standing) (standings : List Standing) →
    by_place g (by_place f standings) ≡ by_place (λ k s. g k (f k s)) standings
by_both f g standings = same_places (by_place g (by_place f standings)) (by_place (λ k s. g k (f k s)) standings) (λ k.
    place g (by_place f standings) k ∙ ap (option_map (g k)) (place f standings k) ∙ step k (slice_get standings k)
    ∙ sym (place (λ k s. g k (f k s)) standings k))
  where
    step : (k : ℕ) (o : Option Standing) → option_map (g k) (option_map (f k) o) ≡ option_map (λ s. g k (f k s)) o
    step k None = refl
    step k (Some s) = refl

pub kept_well : (t : Progress) (row : ℕ) (standings : List Standing) (users : List (List ℕ)) (marks : List Bool) → IsTable t standings users marks →
    IsRunning t row
    → IsTable (after_ran row false t) (by_place (release_at (next_in users row)) (by_place (ran_at row false) standings)) users marks
kept_well t row standings users marks k m =
    let p = place_there standings row (omega (arith, m.inside, k.long)) in
    subst (λ (ss : List Standing). IsTable (after_ran row false t) ss users marks)
    (sym (by_both (ran_at row false) (release_at (next_in users row)) standings))
    (kept_ran t row false (λ j s. release_at (next_in users row) j (ran_at row false j s)) standings users marks marks k m
    (λ j s. (ran_keeps row false j s).1)
    (λ j s at. let is : IsStanding t j s = k.each j s at in
    let fits = ran_fits t row false j s m is in
    record { ran = fits.0; done = fits.1; waits = omega (arith, (ran_keeps row false j s).0, is.waits, waits_released t users row j k.indexed m) })
    (ap (count_by (λ x. x.ran)) (sym (by_both (ran_at row false) (release_at (next_in users row)) standings))
    ∙ counted_alike (release_at (next_in users row)) (by_place (ran_at row false) standings) (λ j s. refl)
    ∙ ran_counted row false standings p.0 p.1 ((k.each row p.0 p.1).ran ∙ m.first))
    (spoiled_ran t row marks k.spoiled))

-- each user waits for as many as it is released
pub waits_enough : (t : Progress) (row : ℕ) (standings : List Standing) (users : List (List ℕ)) (marks : List Bool) → IsTable t standings users marks →
    IsRunning t row
    → (k : ℕ) (s : Standing) → slice_get (by_place (ran_at row false) standings) k ≡ Some s → count_by (nat_eq k) (next_in users row) ≤ s.waits
waits_enough t row standings users marks k m j s at =
    let p = from_place (ran_at row false) standings j s at in
    omega (arith, ap (λ (x : Standing). x.waits) p.2, (ran_keeps row false j p.0).0, (k.each j p.0 p.1).waits, waits_released t users row j k.indexed m)

pub users_low : (t : Progress) (row : ℕ) (standings : List Standing) (users : List (List ℕ)) (marks : List Bool) → IsTable t standings users marks →
    (n : ℕ) → n ≡ length standings → All (λ user. user < n) (next_in users row)
users_low t row standings users marks k n e = λ i d low.
    omega (
      arith,
      e,
      k.long,
      has_needs t.registered (get_or (next_in users row) i d) row
          (user_needs t.registered users row (get_or (next_in users row) i d) k.indexed (Contains-get_or (next_in users row) i d low)).1,
    )

-- ---- the log

pub zip_push : (xs : List ℕ) (ys : List Bool) (x : ℕ) (y : Bool) → length ys ≡ length xs →
    zip (xs ++ x ∷ []) (ys ++ y ∷ []) ≡ zip xs ys ++ (x, y) ∷ []
zip_push [] [] x y e = refl
zip_push [] (b ∷ ys) x y e = absurd (omega (arith, e))
zip_push (a ∷ xs) [] x y e = absurd (omega (arith, e))
zip_push (a ∷ xs) (b ∷ ys) x y e = ap (λ (zs : List (ℕ × Bool)). (a, b) ∷ zs) (zip_push xs ys x y (omega (arith, e)))

-- ---- the fields after a run

pub running_in : (t u : Progress) (row : ℕ) (standings : List Standing) (users : List (List ℕ)) (marks : List Bool) → IsTable t standings users marks →
    t ≡ u → u.executing ≡ Some row → IsRunning t row
running_in t u row standings users marks k e h = subst (λ (o : Option ℕ). IfSome o (IsRunning t)) (ap (λ (p : Progress). p.executing) e ∙ h) k.running

seen_cells : (f : ℕ → Standing → Standing) (standings : List Standing) (cells : List Cell) →
    ((k : ℕ) (s : Standing) → cell_of (f k s) ≡ cell_of s) → cells ≡ map cell_of standings → map cell_of (by_place f standings) ≡ cells
seen_cells f standings cells h e = sym (by_place_same (λ j cell. cell) cells (λ j cell. refl) ∙ cells_alike f (λ j cell. cell) standings cells h e)

seen_ran : (t : Progress) (row : ℕ) (threw : Bool) (cells : List Cell) (ran : List (ℕ × Bool)) → cells ≡ t.cells →
    ran ≡ t.ran ++ (row, threw) ∷ [] → ◌≡◌ {A = Progress} (record { registered = t.registered; cells = cells; ran = ran; executing = None })
    (after_ran row threw t)
seen_ran t row threw cells ran e f =
    ap (λ (cs : List Cell). let p : Progress = record { registered = t.registered; cells = cs; ran = ran; executing = None } in p) e
    ∙ ap (λ (rs : List (ℕ × Bool)). let p : Progress = record { registered = t.registered; cells = t.cells; ran = rs; executing = None } in p) f

pub thrown_view : (t : Progress) (row : ℕ) (threw : Bool) (standings standings' : List Standing) (ran : List (ℕ × Bool)) →
    t.cells ≡ map cell_of standings → standings' ≡ by_place (ran_at row threw) standings → ran ≡ t.ran ++ (row, threw) ∷ []
    → ◌≡◌ {A = Progress} (record { registered = t.registered; cells = map cell_of standings'; ran = ran; executing = None }) (after_ran row threw t)
thrown_view t row threw standings standings' ran e w f = seen_ran t row threw (map cell_of standings') ran
    (ap (map cell_of) w ∙ seen_cells (ran_at row threw) standings t.cells (λ k s. (ran_keeps row threw k s).1) e) f

pub well_view : (t : Progress) (row : ℕ) (threw : Bool) (us : List ℕ) (standings standings' : List Standing) (ran : List (ℕ × Bool)) →
    t.cells ≡ map cell_of standings → standings' ≡ by_place (release_at us) (by_place (ran_at row threw) standings) →
    ran ≡ t.ran ++ (row, threw) ∷ []
    → ◌≡◌ {A = Progress} (record { registered = t.registered; cells = map cell_of standings'; ran = ran; executing = None }) (after_ran row threw t)
well_view t row threw us standings standings' ran e w f =
    seen_ran t row threw (map cell_of standings') ran
    (ap (map cell_of) (w ∙ by_both (ran_at row threw) (release_at us) standings)
    ∙ seen_cells (λ k s. release_at us k (ran_at row threw k s)) standings t.cells (λ k s. (ran_keeps row threw k s).1) e) f

pub thrown_table : (t : Progress) (row : ℕ) (threw : Bool) (standings standings' : List Standing) (users : List (List ℕ)) (marks marks' : List Bool)
    (ran : List (ℕ × Bool)) → IsTable t standings users marks → IsRunning t row → threw ≡ true
    → standings' ≡ by_place (ran_at row threw) standings → ran ≡ t.ran ++ (row, threw) ∷ [] → AreSpoiled (after_ran row true t) marks' →
    IsTable (record { registered = t.registered; cells = map cell_of standings'; ran = ran; executing = None }) standings' users marks'
thrown_table t row false standings standings' users marks marks' ran k m e w f spoiled = cc
thrown_table t row true standings standings' users marks marks' ran k m e w f spoiled =
    subst (λ (p : Progress). IsTable p standings' users marks') (sym (thrown_view t row true standings standings' ran k.cells w f))
    (subst (λ (ss : List Standing). IsTable (after_ran row true t) ss users marks') (sym w) (kept_thrown t row standings users marks marks' k m spoiled))

pub well_table : (t : Progress) (row : ℕ) (threw : Bool) (us : List ℕ) (standings standings' : List Standing) (users : List (List ℕ)) (marks : List Bool)
    (ran : List (ℕ × Bool)) → IsTable t standings users marks → IsRunning t row → threw ≡ false
    → us ≡ next_in users row → standings' ≡ by_place (release_at us) (by_place (ran_at row threw) standings) →
    ran ≡ t.ran ++ (row, threw) ∷ [] → IsTable (record { registered = t.registered; cells = map cell_of standings'; ran = ran; executing = None })
    standings' users marks
well_table t row true us standings standings' users marks ran k m e l w f = cc
well_table t row false us standings standings' users marks ran k m e l w f =
    subst (λ (p : Progress). IsTable p standings' users marks) (sym (well_view t row false us standings standings' ran k.cells w f))
    (subst (λ (ss : List Standing). IsTable (after_ran row false t) ss users marks)
    (sym (w ∙ ap (λ (xs : List ℕ). by_place (release_at xs) (by_place (ran_at row false) standings)) l)) (kept_well t row standings users marks k m))
