-- A table that looks at direct dependencies alone runs the same rows.
use Rattle.std.proofs.Common.{◌≡◌, ℕ, ◌<◌, List, [], ◌∷◌, Bool, true, false, cond, ◌&&◌, ◌||◌, not, nat_eq, length, Option, Some}
use Rattle.std.proofs.Common.{None, refl, ap, sym, subst, ◌∙◌, ⊎_elim}
use Rattle.std.specs.Prelude.{Contains, bytes_eq}
use Rattle.std.specs.List.{list_any, filter_map}
use Rattle.std.proofs.lemmas.List.Elements.{Contains-append_left}
use Rattle.std.proofs.lemmas.Bool.{and_parts, or_cases, or_left, or_right, cases_eq, eqb-true, eq-eqb}
use Rattle.std.proofs.lemmas.List.Folds.{list_any-append}
use Rattle.rl_names.specs.declared.row.Row.{Row}
use Rattle.rl_view_spec.specs.Closure.{Text, Registered, Leads, is_skipped_row, row_of, has_row, is_among, deps_of, deps_of_row, dep_name}
use Rattle.rl_view_spec.specs.Progress.{Progress, name_at, is_skipped_at, is_touched_at, outcome_at, is_impl, has_run, is_done, is_runnable, all_needed}
use Rattle.rl_view_spec.specs.Progress.{row_numbers, HasDistinctNames}
use Rattle.rl_view_spec.specs.View.{View, Event, progress_of, log_of}
use Rattle.rl_view_spec.specs.Direct.{deps_at, all_direct, is_directly_runnable, RanDirectly, after_run}
use Rattle.rl_view_spec.proofs.ChainsLemmas.{same, reaches_from_led, led_in_closure, row_from_dep}
use Rattle.rl_view_spec.proofs.ToolsLemmas.{any_one, one_any, all_each, each_all, contains_none}
use Rattle.rl_view_spec.proofs.PlacesLemmas.{place_of, number_in, number_within, number_named, apart, skips_alike, deps_alike, needed_each, each_needed}
use Rattle.rl_view_spec.proofs.PlacesLemmas.{bytes_eq-from, not_first, not_given}
use Rattle.rl_view_spec.proofs.ResolveLemmas.{within_itself}
use Rattle.rl_view_spec.proofs.StatesLemmas.{iff_same}
use Rattle.rl_view_spec.proofs.LogLemmas.{Fit, log_fits, split_at, ran_logged, logged_well}

pub direct_each : (r : Registered) (row : ℕ) (test : ℕ → Bool) → all_direct r row test ≡ true → (other : ℕ) → other < length r.rows →
    Contains (deps_at r row) (name_at r other) → test other ≡ true
direct_each r row test h other low c =
    not_first (is_among (deps_at r row) (name_at r other)) (test other)
    (all_each (λ (other : ℕ). not (is_among (deps_at r row) (name_at r other)) || test other) (row_numbers r) other h (number_in r other low))
    (one_any (bytes_eq (name_at r other)) (deps_at r row) (name_at r other) c (bytes_eq-from (name_at r other) (name_at r other) refl))

pub each_direct : (r : Registered) (row : ℕ) (test : ℕ → Bool) →
    ((other : ℕ) → other < length r.rows → Contains (deps_at r row) (name_at r other) → test other ≡ true) → all_direct r row test ≡ true
each_direct r row test f = each_all (λ (other : ℕ). not (is_among (deps_at r row) (name_at r other)) || test other) (row_numbers r)
    (λ other c. not_given (is_among (deps_at r row) (name_at r other)) (test other) (λ e.
    let m = any_one (bytes_eq (name_at r other)) (deps_at r row) e in
    f other (number_within r other c) (subst (λ (x : Text). Contains (deps_at r row) x) (sym (same (name_at r other) m.0 m.2)) m.1)))

-- a dependency from which a chain leads to a row has a row
pub step_has_row : (r : Registered) (next : Text) (rest : List Text) (last : Text) → Leads r next rest last → has_row r last ≡ true →
    has_row r next ≡ true
step_has_row r next [] last l h = subst (λ (x : Text). has_row r x ≡ true) (sym l) h
step_has_row r next (x ∷ rest) last l h = row_from_dep r (row_of r next) x l.0

no_deps : (r : Registered) (o : Option Row) → is_skipped_row r o ≡ true → deps_of_row r o ≡ []
no_deps r None h = refl
no_deps r (Some row) h = ap (λ (b : Bool). cond b [] (filter_map (dep_name r) row.deps)) h

-- what a done row leads to is done
done_on : (t : Progress) → HasDistinctNames t.registered → RanDirectly t → (k : ℕ) → k < length t.registered.rows → is_done t k ≡ true →
    (chain : List Text) (other : ℕ) → other < length t.registered.rows
    → Leads t.registered (name_at t.registered k) chain (name_at t.registered other) → is_done t other ≡ true
done_on t distinct ran k low done [] other there l = subst (λ (m : ℕ). is_done t m ≡ true) (apart t.registered distinct k other low there l) done
done_on t distinct ran k low done (next ∷ rest) other there l = ⊎_elim
    (λ s. let e : deps_of t.registered (name_at t.registered k)
    ≡ [] = no_deps t.registered (row_of t.registered (name_at t.registered k)) (sym (skips_alike t.registered distinct k low) ∙ s) in
    absurd (contains_none next (subst (λ (xs : List Text). Contains xs next) e l.0)))
    (λ w. let m = any_one (λ (run : ℕ × Bool). nat_eq run.0 k && not run.1) t.ran w in
    let has : has_run t k ≡ true = one_any (λ (run : ℕ × Bool). nat_eq run.0 k) t.ran m.0 m.1 (and_parts (nat_eq m.0.0 k) (not m.0.1) m.2).0 in
    let p = place_of t.registered next (step_has_row t.registered next rest (name_at t.registered other) l.1 (number_named t.registered other there)) in
    let passes : (nat_eq p.at k || is_done t p.at) ≡ true = direct_each t.registered k (λ other. nat_eq other k || is_done t other) (ran k has) p.at p.inside
    (subst (λ (x : Text). Contains (deps_at t.registered k) x) (sym p.named)
    (subst (λ (xs : List Text). Contains xs next) (sym (deps_alike t.registered distinct k low)) l.0)) in
    let done' : is_done t p.at ≡ true = ⊎_elim (λ e. subst (λ (m : ℕ). is_done t m ≡ true) (sym (eqb-true p.at k e)) done) (λ d. d)
    (or_cases (nat_eq p.at k) (is_done t p.at) passes) in
    done_on t distinct ran p.at p.inside done' rest other there
    (subst (λ (x : Text). Leads t.registered x rest (name_at t.registered other)) (sym p.named) l.1))
    (or_cases (is_skipped_at t.registered k) (list_any (λ (run : ℕ × Bool). nat_eq run.0 k && not run.1) t.ran) done)

-- what a row leads to whose dependencies are done is done
direct_on : (t : Progress) → HasDistinctNames t.registered → RanDirectly t → (row : ℕ) → row < length t.registered.rows →
    all_direct t.registered row (λ other. nat_eq other row || is_done t other) ≡ true
    → (chain : List Text) (other : ℕ) → other < length t.registered.rows →
    Leads t.registered (name_at t.registered row) chain (name_at t.registered other) → (nat_eq other row || is_done t other) ≡ true
direct_on t distinct ran row low direct [] other there l = or_left (nat_eq other row) (is_done t other)
    (eq-eqb other row (apart t.registered distinct other row there low (sym l)))
direct_on t distinct ran row low direct (next ∷ rest) other there l =
    let p = place_of t.registered next (step_has_row t.registered next rest (name_at t.registered other) l.1 (number_named t.registered other there)) in
    let on : Leads t.registered (name_at t.registered p.at) rest (name_at t.registered other) =
    subst (λ (x : Text). Leads t.registered x rest (name_at t.registered other)) (sym p.named) l.1 in
    ⊎_elim
    (λ e. direct_on t distinct ran row low direct rest other there
    (subst (λ (m : ℕ). Leads t.registered (name_at t.registered m) rest (name_at t.registered other)) (eqb-true p.at row e) on))
    (λ d. or_right (nat_eq other row) (is_done t other) (done_on t distinct ran p.at p.inside d rest other there on))
    (or_cases (nat_eq p.at row) (is_done t p.at)
    (direct_each t.registered row (λ other. nat_eq other row || is_done t other) direct p.at p.inside
    (subst (λ (x : Text). Contains (deps_at t.registered row) x) (sym p.named)
    (subst (λ (xs : List Text). Contains xs next) (sym (deps_alike t.registered distinct row low)) l.0))))

-- direct dependencies are in the closure
needed_direct : (t : Progress) → HasDistinctNames t.registered → (row : ℕ) → row < length t.registered.rows →
    all_needed t.registered row (λ other. nat_eq other row || is_done t other) ≡ true
    → all_direct t.registered row (λ other. nat_eq other row || is_done t other) ≡ true
needed_direct t distinct row low h = each_direct t.registered row (λ other. nat_eq other row || is_done t other) (λ other there c.
    needed_each t.registered row (λ other. nat_eq other row || is_done t other) h other there
    (reaches_from_led t.registered (name_at t.registered row) (name_at t.registered other) (
      name_at t.registered other ∷ [],
      (
        subst (λ (xs : List Text). Contains xs (name_at t.registered other)) (deps_alike t.registered distinct row low) c,
        refl,
      ),
    )))

-- all of the closure is done where all direct dependencies are
pub direct_is_closure : (t : Progress) → HasDistinctNames t.registered → RanDirectly t → (row : ℕ) → row < length t.registered.rows
    → all_needed t.registered row (λ other. nat_eq other row || is_done t other)
    ≡ all_direct t.registered row (λ other. nat_eq other row || is_done t other)
direct_is_closure t distinct ran row low = iff_same (all_needed t.registered row (λ other. nat_eq other row || is_done t other))
    (all_direct t.registered row (λ other. nat_eq other row || is_done t other))
    (λ h. needed_direct t distinct row low h)
    (λ h. each_needed t.registered row (λ other. nat_eq other row || is_done t other) (λ other there c.
    let m = led_in_closure t.registered (name_at t.registered row) (name_at t.registered other) c in
    direct_on t distinct ran row low h m.0 other there m.1))

pub runnable_directly : (t : Progress) → HasDistinctNames t.registered → RanDirectly t → (row : ℕ) → row < length t.registered.rows →
    is_runnable t row ≡ is_directly_runnable t row
runnable_directly t distinct ran row low =
    ap (λ (b : Bool). is_touched_at t row && not (is_skipped_at t.registered row) && is_impl (outcome_at t row) && not (has_run t row) && b)
    (direct_is_closure t distinct ran row low)

-- a row is done where all of its closure is
pub done_is_closure : (t : Progress) → HasDistinctNames t.registered → RanDirectly t → (row : ℕ) → row < length t.registered.rows →
    is_done t row ≡ all_needed t.registered row (is_done t)
done_is_closure t distinct ran row low = iff_same (is_done t row) (all_needed t.registered row (is_done t))
    (λ h. each_needed t.registered row (is_done t) (λ other there c.
    let m = led_in_closure t.registered (name_at t.registered row) (name_at t.registered other) c in
    done_on t distinct ran row low h m.0 other there m.1))
    (λ h. needed_each t.registered row (is_done t) h row low (within_itself t.registered (name_at t.registered row)))

-- ---- the premise stands after each run, and in each view

-- a row that is runnable, or was, had all that it depends on done
pub ran_directly_on : (t : Progress) → HasDistinctNames t.registered → RanDirectly t → (row : ℕ) (threw : Bool) → row < length t.registered.rows →
    is_runnable t row ≡ true → RanDirectly (after_run t (row, threw))
ran_directly_on t distinct ran row threw low h k has = ⊎_elim
    (λ before. weaker k (ran k before))
    (λ now. ⊎_elim
    (λ e. subst (λ (m : ℕ). all_direct t.registered m (λ other. nat_eq other m || is_done (after_run t (row, threw)) other) ≡ true) (eqb-true row k e)
    (weaker row (needed_direct t distinct row low (and_parts
    (is_touched_at t row && not (is_skipped_at t.registered row) && is_impl (outcome_at t row) && not (has_run t row))
    (all_needed t.registered row (λ other. nat_eq other row || is_done t other)) h).1)))
    (λ none. cc)
    (or_cases (nat_eq row k) false now))
    (or_cases (has_run t k) (list_any (λ (run : ℕ × Bool). nat_eq run.0 k) ((row, threw) ∷ []))
    (sym (list_any-append (λ (run : ℕ × Bool). nat_eq run.0 k) t.ran ((row, threw) ∷ [])) ∙ has))
  where
    still_done : (other : ℕ) → is_done t other ≡ true → is_done (after_run t (row, threw)) other ≡ true
    still_done other d = ⊎_elim (λ s. or_left (is_skipped_at t.registered other) _ s)
        (λ w. or_right (is_skipped_at t.registered other) _
        (list_any-append (λ (run : ℕ × Bool). nat_eq run.0 other && not run.1) t.ran ((row, threw) ∷ [])
        ∙ or_left (list_any (λ (run : ℕ × Bool). nat_eq run.0 other && not run.1) t.ran) _ w))
        (or_cases (is_skipped_at t.registered other) (list_any (λ (run : ℕ × Bool). nat_eq run.0 other && not run.1) t.ran) d)

    weaker : (k : ℕ) → all_direct t.registered k (λ other. nat_eq other k || is_done t other) ≡ true →
        all_direct t.registered k (λ other. nat_eq other k || is_done (after_run t (row, threw)) other) ≡ true
    weaker k d = each_direct t.registered k (λ other. nat_eq other k || is_done (after_run t (row, threw)) other) (λ other there c. ⊎_elim
        (λ e. or_left (nat_eq other k) _ e)
        (λ e. or_right (nat_eq other k) _ (still_done other e))
        (or_cases (nat_eq other k) (is_done t other) (direct_each t.registered k (λ other. nat_eq other k || is_done t other) d other there c)))

pub view_ran_directly : (v : View) (past : List Event) → HasDistinctNames v.registered → RanDirectly (progress_of v past (log_of v past))
view_ran_directly v past distinct k has =
    let log : List ℕ = log_of v past in
    let s = split_at log k (ran_logged v past log k has) in
    let fit : Fit v past s.0 k = (log_fits v past).at s.0 s.1 k s.2 in
    needed_direct (progress_of v past log) distinct k fit.inside
    (each_needed v.registered k (λ other. nat_eq other k || is_done (progress_of v past log) other) (λ other there c. ⊎_elim
    (λ e. or_left (nat_eq other k) _ (eq-eqb other k e))
    (λ ne. or_right (nat_eq other k) _ (⊎_elim
    (λ skipped. or_left (is_skipped_at v.registered other) _ skipped)
    (λ w. or_right (is_skipped_at v.registered other) _ (logged_well v past log other
    (subst (λ (xs : List ℕ). Contains xs other) (sym s.2) (Contains-append_left s.0 (k ∷ s.1) other w.0)) w.1.1))
    (fit.needed other there c ne)))
    (cases_eq other k)))
