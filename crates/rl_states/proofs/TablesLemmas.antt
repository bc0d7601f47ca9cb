-- What a table keeps tells which row runs next and the states.
use Rattle.std.proofs.Common.{◌≡◌, ℕ, zero, suc, ◌+◌, ◌<◌, List, [], ◌∷◌, Bool, true, false, cond, ◌&&◌, ◌||◌, not, length, set}
use Rattle.std.proofs.Common.{get_or, map, nat_eq, nat_lt, Option, Some, None, refl, ap, sym, subst, ◌∙◌, ⊎_elim, arith}
use Rattle.std.specs.Prelude.{Contains, count_by, find, option_map, position, slice_get}
use Rattle.std.specs.List.{enumerate_from, list_any, position_or_len}
use Rattle.std.specs.Option.{option_map_or}
use Rattle.std.proofs.lemmas.Bool.{and_parts, both_ways, cases_lt, false_from_ne_true, true_from_ne_false, lt-ltb, le-ltb, not_from_false}
use Rattle.std.proofs.lemmas.Bool.Decides.{nat_tests}
use Rattle.std.proofs.lemmas.List.{length-set}
use Rattle.std.proofs.lemmas.List.Folds.{find_at}
use Rattle.std.proofs.lemmas.List.Sums.{count_by-le-length, sum_by-set}
use Rattle.std.proofs.lemmas.Option.{slice_get-map, slice_get_past, slice_get_within, get_or_from_slice_get}
use Rattle.rl_names.specs.declared.row.Row.{Row}
use Rattle.rl_view_spec.specs.declared.Phase.{Phase}
use Rattle.rl_view_spec.specs.declared.Outcome.{Outcome}
use Rattle.rl_view_spec.specs.declared.Phase.TheVariants as phase
use Rattle.rl_view_spec.specs.Closure.{Registered, in_closure}
use Rattle.rl_view_spec.specs.Numbers.{needed, needs_of}
use Rattle.rl_view_spec.specs.Progress.{Cell, Progress, name_at, row_numbers, is_touched_at, is_skipped_at, outcome_at, is_impl, is_missing, has_run, is_done}
use Rattle.rl_view_spec.specs.Progress.{all_needed, is_runnable, next_row, phase_of, HasDistinctNames}
use Rattle.rl_view_spec.specs.Direct.{all_direct, RanDirectly}
use Rattle.rl_view_spec.specs.Reach.{LeadsAt}
use Rattle.rl_view_spec.proofs.ChainsLemmas.{led_in_closure, reaches_from_led}
use Rattle.rl_view_spec.proofs.DirectLemmas.{direct_is_closure, done_is_closure, runnable_directly}
use Rattle.rl_view_spec.proofs.LogLemmas.{Runnable, runnable_parts}
use Rattle.rl_view_spec.proofs.OnceLemmas.{found_passes}
use Rattle.rl_view_spec.proofs.PlacesLemmas.{needed_each, each_needed, number_within}
use Rattle.rl_view_spec.proofs.ReachLemmas.{edges_lead}
use Rattle.rl_view_spec.proofs.ResolveLemmas.{within_itself, within_on}
use Rattle.rl_view_spec.proofs.StatesLemmas.{iff_same}
use Rattle.rl_view_spec.proofs.ToolsLemmas.{any_one, one_any, contains_none, found_in, place_there}
use Rattle.rl_rows.proofs.EdgesLemmas.{needs_within}
use Rattle.rl_states.specs.declared.standing.Standing.{Standing}
use Rattle.rl_graph.specs.Graph.{marked}
use Rattle.rl_states.specs.Standings.{cell_of, may_run, phase_by}
use Rattle.rl_states.specs.Kept.{is_broken_at, IsStanding, Spoils, AreSpoiled, IsRunning, IsTable}
use Rattle.rl_states.proofs.NeedsLemmas.{direct_by_needs, needs_are_edges, waits_none}

-- ---- what is seen of a row

cell_at : (t : Progress) (standings : List Standing) (row : ℕ) (s : Standing) → t.cells ≡ map cell_of standings → slice_get standings row ≡ Some s →
    slice_get t.cells row ≡ Some (cell_of s)
cell_at t standings row s e at = ap (λ (cells : List Cell). slice_get cells row) e ∙ slice_get-map cell_of standings row ∙ ap (option_map cell_of) at

pub touched_is : (t : Progress) (standings : List Standing) (row : ℕ) (s : Standing) → t.cells ≡ map cell_of standings →
    slice_get standings row ≡ Some s → is_touched_at t row ≡ s.touched
touched_is t standings row s e at = ap (λ (o : Option Cell). option_map_or (λ (cell : Cell). cell.touched) o false) (cell_at t standings row s e at)

pub outcome_is : (t : Progress) (standings : List Standing) (row : ℕ) (s : Standing) → t.cells ≡ map cell_of standings →
    slice_get standings row ≡ Some s → outcome_at t row ≡ s.outcome
outcome_is t standings row s e at = ap (λ (o : Option Cell). option_map_or (λ (cell : Cell). cell.outcome) o None) (cell_at t standings row s e at)

-- ---- which row runs next

pub ran_directly : (t : Progress) (standings : List Standing) (users : List (List ℕ)) (marks : List Bool) → IsTable t standings users marks →
    RanDirectly t
ran_directly t standings users marks k row h = direct_by_needs t.registered row (λ other. nat_eq other row || is_done t other) k.distinct (k.inside row h)
    ∙ k.after row h

-- a run that did not throw is a run
pub well_ran : (t : Progress) (row : ℕ) → list_any (λ (run : ℕ × Bool). nat_eq run.0 row && not run.1) t.ran ≡ true → has_run t row ≡ true
well_ran t row h =
    let m = any_one (λ (run : ℕ × Bool). nat_eq run.0 row && not run.1) t.ran h in
    one_any (λ (run : ℕ × Bool). nat_eq run.0 row) t.ran m.0 m.1 (and_parts (nat_eq m.0.0 row) (not m.0.1) m.2).0

pub may_run_is : (t : Progress) (standings : List Standing) (users : List (List ℕ)) (marks : List Bool) (row : ℕ) (s : Standing) →
    IsTable t standings users marks → slice_get standings row ≡ Some s → may_run s ≡ is_runnable t row
may_run_is t standings users marks row s k at =
    let low : row < length t.registered.rows = omega (arith, slice_get_within standings row s at, k.long) in
    let is : IsStanding t row s = k.each row s at in
    let waits : nat_eq s.waits 0 ≡ all_direct t.registered row (λ other. nat_eq other row || is_done t other) =
    ap (λ (n : ℕ). nat_eq n 0) is.waits ∙ waits_none t row
    ∙ sym (direct_by_needs t.registered row (λ other. nat_eq other row || is_done t other) k.distinct low) in
    rw (sym (touched_is t standings row s k.cells at), sym (outcome_is t standings row s k.cells at), is.ran, is.done, waits)
    (step (is_touched_at t row) (is_skipped_at t.registered row) (is_impl (outcome_at t row)) (has_run t row)
    (list_any (λ (run : ℕ × Bool). nat_eq run.0 row && not run.1) t.ran)
    (all_direct t.registered row (λ other. nat_eq other row || is_done t other)) (well_ran t row)
    ∙ sym (runnable_directly t k.distinct (ran_directly t standings users marks k) row low))
  where
    step : (touched skipped impl ran well needs : Bool) → (well ≡ true → ran ≡ true) →
        (touched && impl && not ran && not (skipped || well) && needs) ≡ (touched && not skipped && impl && not ran && needs)
    step false skipped impl ran well needs h = refl
    step true true false ran well needs h = refl
    step true true true true well needs h = refl
    step true true true false well needs h = refl
    step true false false ran well needs h = refl
    step true false true true well needs h = refl
    step true false true false true needs h = let e : false ≡ true = h refl in cc
    step true false true false false needs h = refl

numbers_at : (n : ℕ) (rows : List Row) (k : ℕ) → slice_get (map (λ (numbered : ℕ × Row). numbered.0) (enumerate_from n rows)) k
    ≡ cond (nat_lt k (length rows)) (Some (n + k)) None
numbers_at n [] k = let t : nat_lt k 0 ≡ false = le-ltb k 0 (omega arith) in ap (λ (b : Bool). cond b (Some (n + k)) None) (sym t)
numbers_at n (row ∷ rows) zero =
    let t : nat_lt 0 (length (row ∷ rows)) ≡ true = lt-ltb 0 (length (row ∷ rows)) (omega arith) in
    let e : n ≡ n + 0 = omega arith in
    ap (λ (m : ℕ). Some m) e ∙ ap (λ (b : Bool). cond b (Some (n + 0)) None) (sym t)
numbers_at n (row ∷ rows) (suc k) =
    let t : nat_lt (suc k) (length (row ∷ rows)) ≡ nat_lt k (length rows) = grind (arith, nat_tests) in
    let e : (n + 1) + k ≡ n + suc k = omega arith in
    numbers_at (n + 1) rows k ∙ ap (λ (m : ℕ). cond (nat_lt k (length rows)) (Some m) None) e
    ∙ ap (λ (b : Bool). cond b (Some (n + suc k)) None) (sym t)

first_alike : {X : Type 0} (p : X → Bool) (q : ℕ → Bool) (n : ℕ) (xs : List X) (rows : List Row) → length xs ≡ length rows →
    ((k : ℕ) (x : X) → slice_get xs k ≡ Some x → p x ≡ q (n + k))
    → position_or_len q (map (λ (numbered : ℕ × Row). numbered.0) (enumerate_from n rows)) ≡ position_or_len p xs
first_alike p q n [] [] e h = refl
first_alike p q n [] (row ∷ rows) e h = absurd (omega (arith, e))
first_alike p q n (x ∷ xs) [] e h = absurd (omega (arith, e))
first_alike p q n (x ∷ xs) (row ∷ rows) e h =
    let here : q n ≡ p x = ap q (omega arith) ∙ sym (h 0 x refl) in
    rw (here, first_alike p q (n + 1) xs rows (omega (arith, e)) (λ k y at. h (suc k) y at ∙ ap q (omega arith))) refl

pub first_found : {X : Type 0} (p : X → Bool) (q : ℕ → Bool) (xs : List X) (r : Registered) → length xs ≡ length r.rows →
    ((k : ℕ) (x : X) → slice_get xs k ≡ Some x → p x ≡ q k) → position p xs ≡ find q (row_numbers r)
first_found p q xs r e h =
    let m : ℕ = position_or_len p xs in
    let same : position_or_len q (row_numbers r) ≡ m = first_alike p q 0 xs r.rows e (λ k x at. h k x at ∙ ap q (omega arith)) in
    ap (λ (n : ℕ). cond (nat_lt m n) (Some m) None) e
    ∙ ap (λ (j : ℕ). cond (nat_lt m (length r.rows)) (Some j) None) (omega arith)
    ∙ sym (numbers_at 0 r.rows m)
    ∙ ap (slice_get (row_numbers r)) (sym same)
    ∙ sym (find_at q (row_numbers r))

pub next_is : (t : Progress) (standings : List Standing) (users : List (List ℕ)) (marks : List Bool) → IsTable t standings users marks →
    position may_run standings ≡ next_row t
next_is t standings users marks k = first_found may_run (is_runnable t) standings t.registered k.long
    (λ row s at. may_run_is t standings users marks row s k at)

pub next_runs : (t : Progress) (standings : List Standing) (users : List (List ℕ)) (marks : List Bool) (row : ℕ) → IsTable t standings users marks →
    next_row t ≡ Some row → IsRunning t row
next_runs t standings users marks row k e =
    let low : row < length t.registered.rows = number_within t.registered row (found_in (is_runnable t) (row_numbers t.registered) row e) in
    let m : Runnable t row = runnable_parts t row (found_passes (is_runnable t) (row_numbers t.registered) row e) in
    record {
      inside = low;
      kept = m.kept;
      first = m.fresh;
      after =
          sym (direct_by_needs t.registered row (λ other. nat_eq other row || is_done t other) k.distinct low)
          ∙ sym (direct_is_closure t k.distinct (ran_directly t standings users marks k) row low) ∙ m.needed;
    }

-- ---- fewer rows ran than there are

ran_below : (standings : List Standing) (row : ℕ) (s : Standing) → slice_get standings row ≡ Some s → s.ran ≡ false →
    count_by (λ standing. standing.ran) standings < length standings
ran_below standings row s at h =
    let low : row < length standings = slice_get_within standings row s at in
    let read : get_or standings row s ≡ s = get_or_from_slice_get standings row s s at in
    let was : ◌≡◌ {A = ℕ} (cond (get_or standings row s).ran 1 0) 0 = ap (λ (x : Standing). cond x.ran 1 0) read
    ∙ ap (λ (b : Bool). cond b 1 0) h in
    omega (
      arith,
      sum_by-set (λ (x : Standing). cond x.ran 1 0) standings row (record s { ran = true }) s low,
      was,
      count_by-le-length (λ (x : Standing). x.ran) (set standings row (record s { ran = true })),
      length-set standings row (record s { ran = true }),
    )

pub fewer_ran : (t : Progress) (standings : List Standing) (users : List (List ℕ)) (marks : List Bool) (row : ℕ) → IsTable t standings users marks →
    IsRunning t row → length t.ran < length t.registered.rows
fewer_ran t standings users marks row k m =
    let p = place_there standings row (omega (arith, m.inside, k.long)) in
    omega (arith, ran_below standings row p.0 p.1 ((k.each row p.0 p.1).ran ∙ m.first), k.counted, k.long)

-- ---- the states

-- the rows of closures with a broken row
abbrev pub has_broken : Progress → ℕ → Bool
has_broken t row = not (all_needed t.registered row (λ other. not (is_broken_at t other)))

pub has_needs : (r : Registered) (row need : ℕ) → Contains (needs_of r row) need → row < length r.rows
has_needs r row need c = ⊎_elim (λ lt. lt)
    (λ ge. absurd (contains_none need (subst (λ (o : Option Row). Contains (option_map_or (needed r) o []) need) (slice_get_past r.rows row ge) c)))
    (cases_lt row (length r.rows))

-- what a row needs is in its closure
need_within : (r : Registered) (row need : ℕ) → HasDistinctNames r → Contains (needs_of r row) need →
    in_closure r (name_at r row) (name_at r need) ≡ true
need_within r row need distinct c =
    let low : row < length r.rows = has_needs r row need c in
    reaches_from_led r (name_at r row) (name_at r need) (
      name_at r need
          ∷ [],
      (((needs_are_edges r distinct).means row need low (needs_within r row need c)).0 c, refl),
    )

broken_spoils : (t : Progress) → HasDistinctNames t.registered → Spoils t (has_broken t)
broken_spoils t distinct = record {
  broken = λ row low h. itself row low h (all_needed t.registered row (λ other. not (is_broken_at t other))) refl;
  upward = λ row need c h. up row need c h (all_needed t.registered row (λ other. not (is_broken_at t other))) refl;
}
  where
    itself : (row : ℕ) → row < length t.registered.rows → is_broken_at t row ≡ true → (b : Bool) →
        all_needed t.registered row (λ other. not (is_broken_at t other)) ≡ b → not b ≡ true
    itself row low h false e = refl
    itself row low h true e = absurd (both_ways (not (is_broken_at t row)) (ap not h)
        (needed_each t.registered row (λ other. not (is_broken_at t other)) e row low (within_itself t.registered (name_at t.registered row))))

    up : (row need : ℕ) → Contains (needs_of t.registered row) need → has_broken t need ≡ true → (b : Bool) →
        all_needed t.registered row (λ other. not (is_broken_at t other)) ≡ b → not b ≡ true
    up row need c h false e = refl
    up row need c h true e = absurd (both_ways (has_broken t need)
        (ap not (each_needed t.registered need (λ other. not (is_broken_at t other)) (λ other low w.
        needed_each t.registered row (λ other. not (is_broken_at t other)) e other low
        (within_on t.registered (name_at t.registered row) (name_at t.registered need) (name_at t.registered other)
        (need_within t.registered row need distinct c) w))))
        h)

unmarked_along : (t : Progress) (marks : List Bool) → Spoils t (marked marks) → (rows : List ℕ) (row last : ℕ) →
    LeadsAt (needs_of t.registered) row rows last → marked marks row ≡ false → marked marks last ≡ false
unmarked_along t marks m [] row last l h = ap (marked marks) (sym l) ∙ h
unmarked_along t marks m (next ∷ rows) row last l h =
    unmarked_along t marks m rows next last l.1 (false_from_ne_true (marked marks next) (λ e. both_ways (marked marks row) h (m.upward row next l.0 e)))

pub spoiled_is : (t : Progress) (marks : List Bool) (row : ℕ) → HasDistinctNames t.registered → AreSpoiled t marks → row < length t.registered.rows →
    marked marks row ≡ has_broken t row
spoiled_is t marks row distinct m low = iff_same (marked marks row) (has_broken t row)
    (λ h. m.least (has_broken t) (broken_spoils t distinct) row h)
    (λ h. true_from_ne_false (marked marks row) (λ off. both_ways (has_broken t row) (ap not (none off)) h))
  where
    none : marked marks row ≡ false → all_needed t.registered row (λ other. not (is_broken_at t other)) ≡ true
    none off = each_needed t.registered row (λ other. not (is_broken_at t other)) (λ other there c.
        let p = (edges_lead t.registered (needs_of t.registered) distinct (needs_are_edges t.registered distinct) row other low there).1
        (led_in_closure t.registered (name_at t.registered row) (name_at t.registered other) c) in
        let off' : marked marks other ≡ false = unmarked_along t marks m.spoils p.0 row other p.1 off in
        not_from_false (is_broken_at t other) (false_from_ne_true (is_broken_at t other)
        (λ b. both_ways (marked marks other) off' (m.spoils.broken other there b))))

abbrev phase_from : Bool → Bool → Option Outcome → Bool → Phase
phase_from touched ready outcome spoiled =
    cond (not touched) phase.Registered (cond ready phase.Ready
    (cond (is_missing outcome) phase.Missing (cond spoiled phase.Error (cond (is_impl outcome) phase.Loaded phase.Loading))))

pub phase_is : (t : Progress) (standings : List Standing) (users : List (List ℕ)) (marks : List Bool) (row : ℕ) (s : Standing) →
    IsTable t standings users marks → slice_get standings row ≡ Some s
    → phase_by s (marked marks row) ≡ phase_of t row
phase_is t standings users marks row s k at =
    let low : row < length t.registered.rows = omega (arith, slice_get_within standings row s at, k.long) in
    let ready : s.done ≡ all_needed t.registered row (is_done t) = (k.each row s at).done
    ∙ done_is_closure t k.distinct (ran_directly t standings users marks k) row low in
    ap (λ (b : Bool). phase_from b s.done s.outcome (marked marks row)) (sym (touched_is t standings row s k.cells at))
    ∙ ap (λ (b : Bool). phase_from (is_touched_at t row) b s.outcome (marked marks row)) ready
    ∙ ap (λ (o : Option Outcome). phase_from (is_touched_at t row) (all_needed t.registered row (is_done t)) o (marked marks row))
    (sym (outcome_is t standings row s k.cells at))
    ∙ ap (phase_from (is_touched_at t row) (all_needed t.registered row (is_done t)) (outcome_at t row)) (spoiled_is t marks row k.distinct k.spoiled low)
