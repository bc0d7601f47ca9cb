-- One run after another.
use Rattle.std.proofs.Common.{◌≡◌, ℕ, suc, ◌<◌, ◌≤◌, List, [], ◌∷◌, ◌++◌, Bool, true, false, cond, ◌||◌, not, length, Some}
use Rattle.std.proofs.Common.{None, refl, ap, sym, subst, ◌∙◌, ⊎_elim, arith, append_assoc, append-nil, nat_eq}
use Rattle.std.specs.Prelude.{Contains, drop, filter}
use Rattle.std.proofs.lemmas.Bool.{both_ways, eq-eqb, not-true, not_from_false, not_from_true, or_left, or_parts, or_right}
use Rattle.std.proofs.lemmas.List.{drop_at, map_push}
use Rattle.std.proofs.lemmas.List.Folds.{list_any-append}
use Rattle.rl_view_spec.specs.Progress.{Progress, name_at, row_numbers, has_run, is_runnable, next_row}
use Rattle.rl_view_spec.specs.View.{View, Event, throws_at, progress_of, run_times, log_of}
use Rattle.rl_view_spec.proofs.LogLemmas.{next_inside, runnable_parts}
use Rattle.rl_view_spec.proofs.OnceLemmas.{found_passes}
use Rattle.rl_view_spec.proofs.PlacesLemmas.{number_within}
use Rattle.rl_view_spec.proofs.StepsLemmas.{loop_ends, runs_one_more}
use Rattle.rl_view_spec.proofs.ToolsLemmas.{contains_cases, contains_none, found_in}
use Rattle.rl_states.specs.Changes.{after_ran}
use Rattle.rl_view.specs.Seen.{HasSeen, IsDue, registered_now}
use Rattle.rl_view.proofs.NowLemmas.{next_now, progress_by}

-- after a run more
pub seen_ran : (v : View) (past : List Event) (log : List ℕ) (k : ℕ) (t t' : Progress) → HasSeen v past log t
    → t' ≡ after_ran k (throws_at v past (name_at v.registered k)) t → HasSeen v past (log ++ k ∷ []) t'
seen_ran v past log k t t' s e = record {
  distinct = s.distinct;
  table = e ∙ ap (after_ran k (throws_at v past (name_at v.registered k))) s.table
      ∙ ap (progress_by (registered_now v past) (progress_of v past log).cells)
      (sym (map_push (λ (row : ℕ). (row, throws_at v past (name_at v.registered row))) log k));
}

-- what runs next in the table is what runs next in the view
pub next_seen : (v : View) (past : List Event) (log : List ℕ) (t : Progress) → HasSeen v past log t → next_row t ≡ next_row (progress_of v past log)
next_seen v past log t s = ap next_row s.table ∙ next_now v past log

-- some runs for an event
pub record Runs (v : View) (event : Event) (past : List Event) (t : Progress) (added : List ℕ) : Type 0 where
  pub times : ℕ
  pub are : run_times v (event ∷ past) times (log_of v past) ≡ log_of v past ++ added
  pub seen : HasSeen v (event ∷ past) (log_of v past ++ added) t

pub runs_begin : (v : View) (event : Event) (past : List Event) (t : Progress) → IsDue v event past t → Runs v event past t []
runs_begin v event past t s = record {
  times = 0;
  are = sym (append-nil (log_of v past));
  seen = subst (λ (log : List ℕ). HasSeen v (event ∷ past) log t) (sym (append-nil (log_of v past))) s;
}

pub runs_more : (v : View) (event : Event) (past : List Event) (added : List ℕ) (k : ℕ) (t t' : Progress)
    → Runs v event past t added → next_row t ≡ Some k → t' ≡ after_ran k (throws_at v (event ∷ past) (name_at v.registered k)) t
    → Runs v event past t' (added ++ k ∷ [])
runs_more v event past added k t t' runs next e =
    let now : List Event = event ∷ past in
    let log : List ℕ = log_of v past in
    let due : next_row (progress_of v now (log ++ added)) ≡ Some k = sym (next_seen v now (log ++ added) t runs.seen) ∙ next in
    let due' : next_row (progress_of v now (run_times v now runs.times log)) ≡ Some k = ap (λ (xs : List ℕ). next_row (progress_of v now xs)) runs.are
    ∙ due in
    let one : (log ++ added) ++ k ∷ [] ≡ log ++ (added ++ k ∷ []) = append_assoc log added (k ∷ []) in
    record {
      times = suc runs.times;
      are = runs_one_more v now runs.times log k due' ∙ ap (λ (xs : List ℕ). xs ++ k ∷ []) runs.are ∙ one;
      seen = subst (λ (xs : List ℕ). HasSeen v now xs t') one (seen_ran v now (log ++ added) k t t' runs.seen e);
    }

-- at the end the log is that of the view
pub runs_are : (v : View) (event : Event) (past : List Event) (t : Progress) (added : List ℕ) → Runs v event past t added → next_row t ≡ None
    → log_of v past ++ added ≡ log_of v (event ∷ past)
runs_are v event past t added runs end =
    sym runs.are
    ∙ loop_ends v event past runs.times
    (ap (λ (xs : List ℕ). next_row (progress_of v (event ∷ past) xs)) runs.are ∙ sym (next_seen v (event ∷ past) (log_of v past ++ added) t runs.seen)
    ∙ end)

pub runs_seen : (v : View) (event : Event) (past : List Event) (t : Progress) (added : List ℕ) → Runs v event past t added → next_row t ≡ None
    → HasSeen v (event ∷ past) (log_of v (event ∷ past)) t
runs_seen v event past t added runs end = subst (λ (xs : List ℕ). HasSeen v (event ∷ past) xs t) (runs_are v event past t added runs end) runs.seen

-- and the runs are those that it added
pub runs_added : (v : View) (event : Event) (past : List Event) (t : Progress) (added : List ℕ) → Runs v event past t added → next_row t ≡ None
    → added ≡ drop (length (log_of v past)) (log_of v (event ∷ past))
runs_added v event past t added runs end =
    sym (drop_at (log_of v past) added (length (log_of v past)) refl) ∙ ap (drop (length (log_of v past))) (runs_are v event past t added runs end)

-- the row that runs is a row of the view
pub runs_inside : (v : View) (event : Event) (past : List Event) (t : Progress) (added : List ℕ) (k : ℕ) → Runs v event past t added →
    next_row t ≡ Some k
    → k < length v.registered.rows
runs_inside v event past t added k runs next =
    next_inside v (event ∷ past) (log_of v past ++ added) k (sym (next_seen v (event ∷ past) (log_of v past ++ added) t runs.seen) ∙ next)

-- ---- how many rows did not run

abbrev pub left : Progress → ℕ
left t = length (filter (λ row. not (has_run t row)) (row_numbers t.registered))

no_more : (p q : ℕ → Bool) (xs : List ℕ) → ((j : ℕ) → q j ≡ true → p j ≡ true) → length (filter q xs) ≤ length (filter p xs)
no_more p q [] both = omega arith
no_more p q (x ∷ xs) both = step (p x) (q x) (both x) (no_more p q xs both)
  where
    step : (a b : Bool) → (b ≡ true → a ≡ true) → length (filter q xs) ≤ length (filter p xs)
        → length (cond b (x ∷ filter q xs) (filter q xs)) ≤ length (cond a (x ∷ filter p xs) (filter p xs))
    step true true i l = omega arith
    step true false i l = omega arith
    step false false i l = l
    step false true i l = absurd (both_ways false refl (i refl))

-- where one passes no more there are fewer
fewer : (p q : ℕ → Bool) (xs : List ℕ) (k : ℕ) → Contains xs k → p k ≡ true → q k ≡ false → ((j : ℕ) → q j ≡ true → p j ≡ true)
    → length (filter q xs) < length (filter p xs)
fewer p q [] k c passes fails both = absurd (contains_none k c)
fewer p q (x ∷ xs) k c passes fails both = ⊎_elim
    (λ e. here (p x) (q x) (ap p e ∙ passes) (ap q e ∙ fails))
    (λ d. there (p x) (q x) (both x) (fewer p q xs k d passes fails both))
    (contains_cases x xs k c)
  where
    here : (a b : Bool) → a ≡ true → b ≡ false → length (cond b (x ∷ filter q xs) (filter q xs)) < length (cond a (x ∷ filter p xs) (filter p xs))
    here true false e f = omega (arith, no_more p q xs both)
    here true true e f = cc
    here false b e f = cc

    there : (a b : Bool) → (b ≡ true → a ≡ true) → length (filter q xs) < length (filter p xs)
        → length (cond b (x ∷ filter q xs) (filter q xs)) < length (cond a (x ∷ filter p xs) (filter p xs))
    there true true i l = omega arith
    there true false i l = omega arith
    there false false i l = l
    there false true i l = absurd (both_ways false refl (i refl))

-- a run leaves fewer
pub left_ran : (t t' : Progress) (k : ℕ) (threw : Bool) → next_row t ≡ Some k → t' ≡ after_ran k threw t → left t' < left t
left_ran t t' k threw next e =
    subst (λ (p : Progress). left p < left t) (sym e)
    (fewer (λ row. not (has_run t row)) (λ row. not (has_run (after_ran k threw t) row)) (row_numbers t.registered) k
    (found_in (is_runnable t) (row_numbers t.registered) k next)
    (not_from_false (has_run t k) (runnable_parts t k (found_passes (is_runnable t) (row_numbers t.registered) k next)).fresh)
    (not_from_true (has_run (after_ran k threw t) k) (ran k (eq-eqb k k refl)))
    (λ j h. not_from_false (has_run t j)
    (or_parts (has_run t j) (nat_eq k j || false) (sym (list_any-append (λ run. nat_eq run.0 j) t.ran ((k, threw) ∷ []))
    ∙ not-true (has_run (after_ran k threw t) j) h)).0))
  where
    ran : (j : ℕ) → nat_eq k j ≡ true → has_run (after_ran k threw t) j ≡ true
    ran j q = list_any-append (λ run. nat_eq run.0 j) t.ran ((k, threw) ∷ []) ∙ or_right (has_run t j) (nat_eq k j || false) (or_left (nat_eq k j) false q)

pub next_within : (t : Progress) (row : ℕ) → next_row t ≡ Some row → row < length t.registered.rows
next_within t row next = number_within t.registered row (found_in (is_runnable t) (row_numbers t.registered) row next)
