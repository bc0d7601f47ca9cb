-- No row runs twice, and each after what it needs.
use Rattle.std.proofs.Common.{◌≡◌, ◌≢◌, ℕ, zero, suc, ◌+◌, ◌≤◌, List, [], ◌∷◌, ◌++◌, true, false, ◌&&◌, ◌||◌, not}
use Rattle.std.proofs.Common.{◌⊎◌, nat_eq, length, Option, Some, None, refl, ap, sym, subst, ◌∙◌, inl, inr, ⊎_elim, arith, append-nil}
use Rattle.std.proofs.Common.{length-append}
use Rattle.std.specs.Prelude.{Contains, AllPairs, bytes_eq, option_to_list}
use Rattle.std.proofs.lemmas.Bool.{and_from, and_parts, or_cases, or_left, or_right, both_ways, cases_Bool, cases_eq, eqb-true, ne_eqb, eq-eqb, not_from_false}
use Rattle.std.proofs.lemmas.Bool.{not-true, false_from_ne_true}
use Rattle.std.proofs.lemmas.Map.Keys.{IsDistinct-from_apart}
use Rattle.std.proofs.lemmas.Map.Steps.{length-le_from_distinct_below}
use Rattle.rl_view_spec.specs.Closure.{Text, Registered, InClosure, IsCyclic, Resolves, in_closure, is_skipped}
use Rattle.rl_view_spec.specs.Progress.{Progress, name_at, next_row, is_skipped_at, is_runnable, is_done, row_numbers, has_run, HasDistinctNames}
use Rattle.rl_view_spec.specs.View.{View, Event, first_of, is_implementation, is_good, throws_at, progress_of, run_once, run_times, log_of}
use Rattle.rl_view_spec.specs.Headline.{RunsOnceAndAfter}
use Rattle.rl_view_spec.specs.Laws.{AreLawful, Belongs}
use Rattle.rl_view_spec.proofs.ChainsLemmas.{same, reaches_from_led, led_in_closure, count, without, count_le, count_without}
use Rattle.rl_view_spec.proofs.ToolsLemmas.{any_one, none_found}
use Rattle.rl_view_spec.proofs.PlacesLemmas.{place_of, number_in, apart, skips_alike, each_needed}
use Rattle.rl_view_spec.proofs.ResolveLemmas.{touched_resolves, touched_on, closure_on, leads_on, within_on, within_itself, closure_itself}
use Rattle.rl_view_spec.proofs.LogLemmas.{Fit, Fits, Fine, runnable_parts, runnable_from, log_fits, fits_once, logged_fit, next_inside, touched_row, impl_row}
use Rattle.rl_view_spec.proofs.LogLemmas.{ran_logged, logged_well}
use Rattle.rl_view_spec.proofs.OnceLemmas.{found_passes, runs_once, once_kept}

-- what a row that was fit to run needs, by name
pub fit_by_name : (v : View) (past : List Event) (before : List ℕ) (row : ℕ) → AreLawful v past → Fit v past before row
    → (other : Text) → InClosure v.registered (name_at v.registered row) other → other ≢ name_at v.registered row
    → (is_skipped v.registered other ≡ true) ⊎ ((at : ℕ) × Contains before at × (name_at v.registered at ≡ other) × Fine v past other)
fit_by_name v past before row lawful fit other m ne =
    let p = place_of v.registered other ((touched_resolves v past (name_at v.registered row) lawful fit.touched).known other m) in
    ⊎_elim (λ s. inl (sym p.skips ∙ s))
    (λ w. inr (p.at, w.0, p.named, subst (λ (name : Text). Fine v past name) p.named w.1))
    (fit.needed p.at p.inside
    (subst (λ (name : Text). in_closure v.registered (name_at v.registered row) name ≡ true) (sym p.named)
    (reaches_from_led v.registered (name_at v.registered row) other m))
    (λ e. ne (sym p.named ∙ ap (name_at v.registered) e)))

pub runs_once_and_after : (v : View) (past : List Event) → AreLawful v past → RunsOnceAndAfter v past
runs_once_and_after v past lawful = record {
  once = runs_once v past;
  after = λ before later row e other m ne. ⊎_elim (λ s. inl s)
      (λ w. inr (w.0, w.1, w.2, λ t. both_ways (throws_at v past other) w.3.1 t))
      (fit_by_name v past before row lawful ((log_fits v past).at before later row e) other m ne);
}

-- ---- after each event nothing may run

pub stays : (v : View) (past : List Event) (times : ℕ) (log : List ℕ) → next_row (progress_of v past log) ≡ None → run_times v past times log ≡ log
stays v past zero log e = refl
stays v past (suc times) log e =
    let once : run_once v past log ≡ log = ap (λ (o : Option ℕ). log ++ option_to_list o) e ∙ append-nil log in
    ap (run_times v past times) once ∙ stays v past times log e

longer : (v : View) (past : List Event) (log : List ℕ) (row : ℕ) → next_row (progress_of v past log) ≡ Some row →
    length (run_once v past log) ≡ length log + 1
longer v past log row e = ap (λ (o : Option ℕ). length (log ++ option_to_list o)) e ∙ length-append log (row ∷ [])

cases_next : (v : View) (past : List Event) (log : List ℕ) →
    (next_row (progress_of v past log) ≡ None) ⊎ ((row : ℕ) × (next_row (progress_of v past log) ≡ Some row))
cases_next v past log = step (next_row (progress_of v past log)) refl
  where
    step : (o : Option ℕ) → next_row (progress_of v past log) ≡ o →
        (next_row (progress_of v past log) ≡ None) ⊎ ((row : ℕ) × (next_row (progress_of v past log) ≡ Some row))
    step None e = inl e
    step (Some row) e = inr (row, e)

out_or_long : (v : View) (past : List Event) (times : ℕ) (log : List ℕ)
    → (next_row (progress_of v past (run_times v past times log)) ≡ None) ⊎ (length (run_times v past times log) ≡ length log + times)
out_or_long v past zero log = inr (omega arith)
out_or_long v past (suc times) log = ⊎_elim
    (λ e. inl (subst (λ (xs : List ℕ). next_row (progress_of v past xs) ≡ None) (sym (stays v past (suc times) log e)) e))
    (λ m. ⊎_elim (λ e. inl e) (λ e. inr (omega (arith, e, longer v past log m.0 m.1))) (out_or_long v past times (run_once v past log)))
    (cases_next v past log)

-- a log is no longer than the rows
pub short : (v : View) (past : List Event) (log : List ℕ) → AllPairs (λ (a b : ℕ). a ≢ b) log → Fits v past log →
    length log ≤ length v.registered.rows
short v past log once fits = length-le_from_distinct_below log (length v.registered.rows)
    (IsDistinct-from_apart nat_eq log (λ i j d lt low. ne_eqb _ _ (once i j d lt low)))
    (λ q h. let m = any_one (nat_eq q) log h in let f = logged_fit v past log m.0 fits m.1 in omega (arith, f.1.inside, eqb-true q m.0 m.2))

pub run_out : (v : View) (past : List Event) → next_row (progress_of v past (log_of v past)) ≡ None
run_out v [] = ⊎_elim (λ e. e)
    (λ m. let r = runnable_parts (progress_of v [] []) m.0 (found_passes (is_runnable (progress_of v [] [])) (row_numbers v.registered) m.0 m.1) in
    let t : false ≡ true = sym (touched_row v [] [] m.0 (next_inside v [] [] m.0 m.1)) ∙ r.touched in cc)
    (cases_next v [] [])
run_out v (event ∷ past) =
    let now : List Event = event ∷ past in
    let log : List ℕ = run_times v now (length v.registered.rows) (log_of v past) in
    ⊎_elim (λ e. e)
    (λ m. ⊎_elim (λ e. e)
    (λ long. absurd (omega (
      arith,
      long,
      longer v now log m.0 m.1,
      short v now (run_once v now log) (once_kept v now log (runs_once v now)) (fits_once v now log (log_fits v now)),
    )))
    (out_or_long v now (length v.registered.rows) (log_of v past)))
    (cases_next v now log)

-- ---- what the log holds

pub good_from_skipped : (v : View) (past : List Event) (name : Text) → is_skipped v.registered name ≡ true → is_good v past name ≡ true
good_from_skipped v past name s = or_left (is_skipped v.registered name) _ s

pub good_from_fine : (v : View) (past : List Event) (name : Text) → Fine v past name → is_good v past name ≡ true
good_from_fine v past name f = or_right (is_skipped v.registered name) _
    (and_from (is_implementation (first_of v past name)) (not (throws_at v past name)) f.0 (not_from_false (throws_at v past name) f.1))

pub logged_belongs : (v : View) (past : List Event) (row : ℕ) → AreLawful v past → Contains (log_of v past) row → Belongs v past row
logged_belongs v past row lawful c =
    let m = logged_fit v past (log_of v past) row (log_fits v past) c in
    let fit = m.1 in
    record {
      inside = fit.inside;
      touched = fit.touched;
      kept = fit.kept;
      answered = fit.answered;
      good = λ other c ne. ⊎_elim (λ s. good_from_skipped v past other s) (λ w. good_from_fine v past other w.3)
          (fit_by_name v past m.0 row lawful fit other c ne);
    }

-- two names that need one another
circle : (r : Registered) (a b : Text) → InClosure r a b → InClosure r b a → (a ≡ b → ⊥) → IsCyclic r a
circle r a b ([], l) y ne = absurd (ne l)
circle r a b (next ∷ chain, l) y ne = (next, chain ++ y.0, (l.0, leads_on r next chain b y.0 a l.1 y.1))

pub good_cases : (v : View) (past : List Event) (name : Text) → is_good v past name ≡ true →
    (is_skipped v.registered name ≡ true) ⊎ ((is_skipped v.registered name ≡ false) × Fine v past name)
good_cases v past name h = ⊎_elim (λ s. inl s)
    (λ u. let rest : (is_implementation (first_of v past name) && not (throws_at v past name))
    ≡ true = ⊎_elim (λ s. absurd (both_ways (is_skipped v.registered name) u s)) (λ e. e) (or_cases (is_skipped v.registered name) _ h) in
    let parts = and_parts (is_implementation (first_of v past name)) (not (throws_at v past name)) rest in
    inr (u, (parts.0, not-true (throws_at v past name) parts.1)))
    (cases_Bool (is_skipped v.registered name))

-- the closure of a member is smaller
pub smaller : (r : Registered) (name other : Text) (n : ℕ) → Resolves r name → InClosure r name other → other ≢ name →
    count (in_closure r name) r.rows ≤ suc n → count (in_closure r other) r.rows ≤ n
smaller r name other n res m ne h =
    let less : suc (count (without (in_closure r name) name) r.rows) ≤ count (in_closure r name) r.rows =
    count_without (in_closure r name) name r.rows (within_itself r name) (res.known name (closure_itself r name)) in
    let within : count (in_closure r other) r.rows ≤ count (without (in_closure r name) name) r.rows =
    count_le (without (in_closure r name) name) (in_closure r other) r.rows
    (λ y c. and_from (in_closure r name y) (not (bytes_eq y name)) (within_on r name other y (reaches_from_led r name other m) c)
    (not_from_false (bytes_eq y name) (false_from_ne_true (bytes_eq y name) (λ e.
    let back : InClosure r other name = subst (λ (z : Text). InClosure r other z) (same y name e) (led_in_closure r other y c) in
    res.acyclic name (closure_itself r name) (circle r name other m back (λ s. ne (sym s))))))) in
    omega (arith, less, within, h)

pub some_count : (r : Registered) (name : Text) → Resolves r name → count (in_closure r name) r.rows ≤ 0 → ⊥
some_count r name res h = absurd (omega (
  arith,
  h,
  count_without (in_closure r name) name r.rows (within_itself r name)
      (res.known name (closure_itself r name)),
))

-- what belongs in the log is there
pub belongs_within : (v : View) (past : List Event) (n : ℕ) (row : ℕ) → AreLawful v past → HasDistinctNames v.registered →
    count (in_closure v.registered (name_at v.registered row)) v.registered.rows ≤ n → Belongs v past row → Contains (log_of v past) row
belongs_within v past zero row lawful distinct h b = absurd (some_count v.registered (name_at v.registered row)
    (touched_resolves v past (name_at v.registered row) lawful b.touched) h)
belongs_within v past (suc n) row lawful distinct h b =
    let t : Progress = progress_of v past (log_of v past) in
    let r : Registered = v.registered in
    let name : Text = name_at v.registered row in
    let res : Resolves v.registered name = touched_resolves v past name lawful b.touched in
    ⊎_elim (λ ran. ran_logged v past (log_of v past) row ran)
    (λ fresh. absurd (both_ways (is_runnable t row)
    (none_found (is_runnable t) (row_numbers r) row (run_out v past) (number_in r row b.inside))
    (runnable_from t row (record {
      touched = touched_row v past (log_of v past) row b.inside ∙ b.touched;
      kept = b.kept;
      answered = impl_row v past (log_of v past) row b.inside ∙ b.answered;
      fresh = fresh;
      needed = each_needed r row (λ other. nat_eq other row || is_done t other) (λ other low c. ⊎_elim
          (λ e. or_left (nat_eq other row) (is_done t other) (eq-eqb other row e))
          (λ ne. or_right (nat_eq other row) (is_done t other)
          (let differs : name_at v.registered other ≢ name = λ s. ne (apart v.registered distinct other row low b.inside s) in
          let m : InClosure v.registered name (name_at v.registered other) = led_in_closure v.registered name (name_at v.registered other) c in
          ⊎_elim (λ s. or_left (is_skipped_at v.registered other) _ (skips_alike v.registered distinct other low ∙ s))
          (λ f. or_right (is_skipped_at v.registered other) _ (logged_well v past (log_of v past) other
          (belongs_within v past n other lawful distinct (smaller v.registered name (name_at v.registered other) n res m differs h) (record {
            inside = low;
            touched = touched_on v past name (name_at v.registered other) b.touched m;
            kept = skips_alike v.registered distinct other low ∙ f.0;
            answered = f.1.0;
            good = λ x c apart. b.good x (closure_on v.registered name (name_at v.registered other) x m c)
                (λ s. res.acyclic name (closure_itself v.registered name)
                (circle v.registered name (name_at v.registered other) m (subst (λ (y : Text). InClosure v.registered (name_at v.registered other) y) s c)
                (λ q. differs (sym q))));
          }))
          f.1.1))
          (good_cases v past (name_at v.registered other) (b.good (name_at v.registered other) m differs))))
          (cases_eq other row));
    }))))
    (cases_Bool (has_run t row))

pub belongs_logged : (v : View) (past : List Event) (row : ℕ) → AreLawful v past → HasDistinctNames v.registered → Belongs v past row →
    Contains (log_of v past) row
belongs_logged v past row lawful distinct b = belongs_within v past (count (in_closure v.registered (name_at v.registered row)) v.registered.rows) row lawful
    distinct (omega arith) b
