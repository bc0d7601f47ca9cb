-- Each row of the log was fit to run.
use Rattle.std.proofs.Common.{◌≡◌, ℕ, zero, suc, ◌<◌, List, [], ◌∷◌, ◌++◌, Bool, true, false, ◌&&◌, ◌||◌, not, ◌⊎◌, nat_eq}
use Rattle.std.proofs.Common.{length, map, Option, Some, None, refl, ap, sym, subst, ◌∙◌, inl, inr, ⊎_elim, append-nil}
use Rattle.std.specs.Prelude.{Contains, slice_get, option_map, option_to_list}
use Rattle.std.specs.List.{list_any}
use Rattle.std.specs.Option.{option_map_or}
use Rattle.std.proofs.lemmas.Bool.{and_from, and_parts, or_cases, or_right, eqb-true, eq-eqb, not_from_false, not-true}
use Rattle.std.proofs.lemmas.Option.{slice_get-map}
use Rattle.rl_names.specs.declared.row.Row.{Row}
use Rattle.rl_view_spec.specs.Closure.{Text, in_closure}
use Rattle.rl_view_spec.specs.Progress.{Progress, Cell, name_at, is_skipped_at, is_touched_at, outcome_at, is_impl, has_run, has_thrown, is_done, is_runnable}
use Rattle.rl_view_spec.specs.Progress.{next_row, row_numbers, all_needed}
use Rattle.rl_view_spec.specs.View.{View, Event, Answer, Implementation, Missing, Failed, GivenUp, or_else, touches, is_touched, first_of, is_implementation}
use Rattle.rl_view_spec.specs.View.{throws_at, throws_for, kind_of, cell_of, progress_of, run_once, run_times, log_of}
use Rattle.rl_view_spec.proofs.ToolsLemmas.{any_one, one_any, any_map, found_in, place_there, contains_head, contains_tail, contains_cases, contains_none}
use Rattle.rl_view_spec.proofs.PlacesLemmas.{name_there, number_within, needed_each}
use Rattle.rl_view_spec.proofs.OnceLemmas.{found_passes}

-- ---- what the table of a view says

pub touched_there : (v : View) (past : List Event) (log : List ℕ) (k : ℕ) (row : Row) → slice_get v.registered.rows k ≡ Some row →
    is_touched_at (progress_of v past log) k ≡ is_touched v past row.name
touched_there v past log k row h =
    ap (λ (o : Option Cell). option_map_or (λ (cell : Cell). cell.touched) o false)
    (slice_get-map (cell_of v past) v.registered.rows k ∙ ap (option_map (cell_of v past)) h)

pub outcome_there : (v : View) (past : List Event) (log : List ℕ) (k : ℕ) (row : Row) → slice_get v.registered.rows k ≡ Some row →
    outcome_at (progress_of v past log) k ≡ option_map kind_of (first_of v past row.name)
outcome_there v past log k row h =
    ap (λ (o : Option Cell). option_map_or (λ (cell : Cell). cell.outcome) o None)
    (slice_get-map (cell_of v past) v.registered.rows k ∙ ap (option_map (cell_of v past)) h)

pub impl_kind : (o : Option Answer) → is_impl (option_map kind_of o) ≡ is_implementation o
impl_kind None = refl
impl_kind (Some (Implementation version script)) = refl
impl_kind (Some Missing) = refl
impl_kind (Some Failed) = refl
impl_kind (Some GivenUp) = refl

pub touched_row : (v : View) (past : List Event) (log : List ℕ) (k : ℕ) → k < length v.registered.rows →
    is_touched_at (progress_of v past log) k ≡ is_touched v past (name_at v.registered k)
touched_row v past log k low = let m = place_there v.registered.rows k low in
    touched_there v past log k m.0 m.1 ∙ ap (is_touched v past) (sym (name_there v.registered k m.0 m.1))

pub outcome_row : (v : View) (past : List Event) (log : List ℕ) (k : ℕ) → k < length v.registered.rows →
    outcome_at (progress_of v past log) k ≡ option_map kind_of (first_of v past (name_at v.registered k))
outcome_row v past log k low = let m = place_there v.registered.rows k low in
    outcome_there v past log k m.0 m.1 ∙ ap (λ (name : Text). option_map kind_of (first_of v past name)) (sym (name_there v.registered k m.0 m.1))

pub impl_row : (v : View) (past : List Event) (log : List ℕ) (k : ℕ) → k < length v.registered.rows →
    is_impl (outcome_at (progress_of v past log) k) ≡ is_implementation (first_of v past (name_at v.registered k))
impl_row v past log k low = ap is_impl (outcome_row v past log k low) ∙ impl_kind (first_of v past (name_at v.registered k))

abbrev pub runs : View → List Event → List ℕ → List (ℕ × Bool)
runs v past log = map (λ (row : ℕ). (row, throws_at v past (name_at v.registered row))) log

pub ran_logged : (v : View) (past : List Event) (log : List ℕ) (k : ℕ) → has_run (progress_of v past log) k ≡ true → Contains log k
ran_logged v past log k h =
    let m = any_one (λ (row : ℕ). nat_eq row k) log (sym (any_map (λ (run : ℕ × Bool). nat_eq run.0 k)
    (λ (row : ℕ). (row, throws_at v past (name_at v.registered row))) log) ∙ h) in
    subst (λ (x : ℕ). Contains log x) (eqb-true m.0 k m.2) m.1

pub logged_ran : (v : View) (past : List Event) (log : List ℕ) (k : ℕ) → Contains log k → has_run (progress_of v past log) k ≡ true
logged_ran v past log k c =
    any_map (λ (run : ℕ × Bool). nat_eq run.0 k) (λ (row : ℕ). (row, throws_at v past (name_at v.registered row))) log
    ∙ one_any (λ (row : ℕ). nat_eq row k) log k c (eq-eqb k k refl)

abbrev pub ran_well : ℕ → ℕ × Bool → Bool
ran_well k run = nat_eq run.0 k && not run.1

abbrev ran_badly : ℕ → ℕ × Bool → Bool
ran_badly k run = nat_eq run.0 k && run.1

pub well_logged : (v : View) (past : List Event) (log : List ℕ) (k : ℕ) → list_any (ran_well k) (runs v past log) ≡ true →
    Contains log k × (throws_at v past (name_at v.registered k) ≡ false)
well_logged v past log k h =
    let m = any_one (λ (row : ℕ). nat_eq row k && not (throws_at v past (name_at v.registered row))) log
    (sym (any_map (ran_well k) (λ (row : ℕ). (row, throws_at v past (name_at v.registered row))) log) ∙ h) in
    let parts = and_parts (nat_eq m.0 k) (not (throws_at v past (name_at v.registered m.0))) m.2 in
    let e : m.0 ≡ k = eqb-true m.0 k parts.0 in (
      subst (λ (x : ℕ). Contains log x) e m.1,
      subst (λ (x : ℕ). throws_at v past (name_at v.registered x) ≡ false) e
          (not-true (throws_at v past (name_at v.registered m.0)) parts.1),
    )

pub logged_well : (v : View) (past : List Event) (log : List ℕ) (k : ℕ) → Contains log k → throws_at v past (name_at v.registered k) ≡ false →
    list_any (ran_well k) (runs v past log) ≡ true
logged_well v past log k c e =
    any_map (ran_well k) (λ (row : ℕ). (row, throws_at v past (name_at v.registered row))) log
    ∙ one_any (λ (row : ℕ). nat_eq row k && not (throws_at v past (name_at v.registered row))) log k c
    (and_from (nat_eq k k) (not (throws_at v past (name_at v.registered k))) (eq-eqb k k refl)
    (not_from_false (throws_at v past (name_at v.registered k)) e))

pub badly_logged : (v : View) (past : List Event) (log : List ℕ) (k : ℕ) → has_thrown (progress_of v past log) k ≡ true →
    Contains log k × (throws_at v past (name_at v.registered k) ≡ true)
badly_logged v past log k h =
    let m = any_one (λ (row : ℕ). nat_eq row k && throws_at v past (name_at v.registered row)) log
    (sym (any_map (ran_badly k) (λ (row : ℕ). (row, throws_at v past (name_at v.registered row))) log) ∙ h) in
    let parts = and_parts (nat_eq m.0 k) (throws_at v past (name_at v.registered m.0)) m.2 in
    let e : m.0 ≡ k = eqb-true m.0 k parts.0 in
    (subst (λ (x : ℕ). Contains log x) e m.1, subst (λ (x : ℕ). throws_at v past (name_at v.registered x) ≡ true) e parts.1)

pub logged_badly : (v : View) (past : List Event) (log : List ℕ) (k : ℕ) → Contains log k → throws_at v past (name_at v.registered k) ≡ true →
    has_thrown (progress_of v past log) k ≡ true
logged_badly v past log k c e =
    any_map (ran_badly k) (λ (row : ℕ). (row, throws_at v past (name_at v.registered row))) log
    ∙ one_any (λ (row : ℕ). nat_eq row k && throws_at v past (name_at v.registered row)) log k c
    (and_from (nat_eq k k) (throws_at v past (name_at v.registered k)) (eq-eqb k k refl) e)

-- ---- a row that was fit to run after these

-- an implementation for which no observer throws
abbrev pub Fine : View → List Event → Text → Type 0
Fine v past name = (is_implementation (first_of v past name) ≡ true) × (throws_at v past name ≡ false)

-- what a row needs is skipped, or ran before it and did not throw
pub record Fit (v : View) (past : List Event) (before : List ℕ) (row : ℕ) : Type 0 where
  pub inside : row < length v.registered.rows
  pub touched : is_touched v past (name_at v.registered row) ≡ true
  pub kept : is_skipped_at v.registered row ≡ false
  pub answered : is_implementation (first_of v past (name_at v.registered row)) ≡ true
  pub needed :
      (other : ℕ) → other < length v.registered.rows → in_closure v.registered (name_at v.registered row) (name_at v.registered other) ≡ true →
      (other ≡ row → ⊥)
      → (is_skipped_at v.registered other ≡ true) ⊎ (Contains before other × Fine v past (name_at v.registered other))

-- each row of a log was fit to run after those before it
pub record Fits (v : View) (past : List Event) (log : List ℕ) : Type 0 where
  pub at : (before later : List ℕ) (row : ℕ) → log ≡ before ++ row ∷ later → Fit v past before row

-- ---- a new event takes nothing away

pub or_else_kept : (o later : Option Answer) → is_implementation o ≡ true → or_else o later ≡ o
or_else_kept None later h = cc
or_else_kept (Some answer) later h = refl

pub first_kept : (v : View) (event : Event) (past : List Event) (name : Text) → is_implementation (first_of v past name) ≡ true →
    first_of v (event ∷ past) name ≡ first_of v past name
first_kept v event past name h = or_else_kept (first_of v past name) _ h

fit_kept : (v : View) (event : Event) (past : List Event) (before : List ℕ) (row : ℕ) → Fit v past before row → Fit v (event ∷ past) before row
fit_kept v event past before row f = record {
  inside = f.inside;
  touched = or_right (touches v.registered (name_at v.registered row) event) _ f.touched;
  kept = f.kept;
  answered = ap is_implementation (first_kept v event past (name_at v.registered row) f.answered) ∙ f.answered;
  needed = λ other low c apart. ⊎_elim (λ s. inl s)
      (λ w. inr (
        w.0,
        (
          ap is_implementation (first_kept v event past (name_at v.registered other) w.1.0) ∙ w.1.0,
          ap (throws_for v.throws (name_at v.registered other)) (first_kept v event past (name_at v.registered other) w.1.0) ∙ w.1.1,
        ),
      ))
      (f.needed other low c apart);
}

pub fits_kept : (v : View) (event : Event) (past : List Event) (log : List ℕ) → Fits v past log → Fits v (event ∷ past) log
fits_kept v event past log f = record { at = λ before later row e. fit_kept v event past before row (f.at before later row e) }

-- ---- lists

pub split_at : (log : List ℕ) (x : ℕ) → Contains log x → (before : List ℕ) × (later : List ℕ) × (log ≡ before ++ x ∷ later)
split_at [] x c = absurd (contains_none x c)
split_at (y ∷ log) x c = ⊎_elim (λ e. ([], log, ap (λ (z : ℕ). z ∷ log) e))
    (λ t. let m = split_at log x t in (y ∷ m.0, m.1, ap (λ (zs : List ℕ). y ∷ zs) m.2))
    (contains_cases y log x c)

pub split_contains : (before later : List ℕ) (x : ℕ) → Contains (before ++ x ∷ later) x
split_contains [] later x = contains_head x later
split_contains (y ∷ before) later x = contains_tail y (before ++ x ∷ later) x (split_contains before later x)

nothing_split : (before later : List ℕ) (x : ℕ) → [] ≡ before ++ x ∷ later → ⊥
nothing_split [] later x e = cc
nothing_split (y ∷ before) later x e = cc

split_push : (log : List ℕ) (row : ℕ) (before later : List ℕ) (x : ℕ) → log ++ row ∷ [] ≡ before ++ x ∷ later →
    ((log ≡ before) × (row ≡ x)) ⊎ ((rest : List ℕ) × (log ≡ before ++ x ∷ rest))
split_push [] row [] later x e = inl (refl, cc)
split_push [] row (b ∷ before) later x e = let g : [] ≡ before ++ x ∷ later = cc in absurd (nothing_split before later x g)
split_push (y ∷ log) row [] later x e = let g : y ≡ x = cc in inr (log, ap (λ (z : ℕ). z ∷ log) g)
split_push (y ∷ log) row (b ∷ before) later x e =
    let head : y ≡ b = cc in
    let tail : log ++ row ∷ [] ≡ before ++ x ∷ later = cc in
    ⊎_elim
    (λ m. let both : log ≡ before = m.0 in inl (cc, m.1))
    (λ m. let rest : log ≡ before ++ x ∷ m.0 = m.1 in inr (m.0, cc))
    (split_push log row before later x tail)

-- ---- one run more

-- a row of a log with fit rows was answered
pub logged_fit : (v : View) (past : List Event) (log : List ℕ) (row : ℕ) → Fits v past log → Contains log row →
    (before : List ℕ) × Fit v past before row
logged_fit v past log row f c = let m = split_at log row c in (m.0, f.at m.0 m.1 row m.2)

pub record Runnable (t : Progress) (row : ℕ) : Type 0 where
  pub touched : is_touched_at t row ≡ true
  pub kept : is_skipped_at t.registered row ≡ false
  pub answered : is_impl (outcome_at t row) ≡ true
  pub fresh : has_run t row ≡ false
  pub needed : all_needed t.registered row (λ other. nat_eq other row || is_done t other) ≡ true

pub runnable_parts : (t : Progress) (row : ℕ) → is_runnable t row ≡ true → Runnable t row
runnable_parts t row h =
    let a = and_parts (is_touched_at t row && not (is_skipped_at t.registered row) && is_impl (outcome_at t row) && not (has_run t row))
    (all_needed t.registered row (λ other. nat_eq other row || is_done t other)) h in
    let b = and_parts (is_touched_at t row && not (is_skipped_at t.registered row) && is_impl (outcome_at t row)) (not (has_run t row)) a.0 in
    let c = and_parts (is_touched_at t row && not (is_skipped_at t.registered row)) (is_impl (outcome_at t row)) b.0 in
    let d = and_parts (is_touched_at t row) (not (is_skipped_at t.registered row)) c.0 in
    record { touched = d.0; kept = not-true (is_skipped_at t.registered row) d.1; answered = c.1; fresh = not-true (has_run t row) b.1; needed = a.1 }

pub runnable_from : (t : Progress) (row : ℕ) → Runnable t row → is_runnable t row ≡ true
runnable_from t row f =
    and_from (is_touched_at t row && not (is_skipped_at t.registered row) && is_impl (outcome_at t row) && not (has_run t row))
    (all_needed t.registered row (λ other. nat_eq other row || is_done t other))
    (and_from (is_touched_at t row && not (is_skipped_at t.registered row) && is_impl (outcome_at t row)) (not (has_run t row))
    (and_from (is_touched_at t row && not (is_skipped_at t.registered row)) (is_impl (outcome_at t row))
    (and_from (is_touched_at t row) (not (is_skipped_at t.registered row)) f.touched (not_from_false (is_skipped_at t.registered row) f.kept))
    f.answered)
    (not_from_false (has_run t row) f.fresh))
    f.needed

fit_from_runnable : (v : View) (past : List Event) (log : List ℕ) (row : ℕ) → Fits v past log → row < length v.registered.rows →
    Runnable (progress_of v past log) row → Fit v past log row
fit_from_runnable v past log row f low r = record {
  inside = low;
  touched = sym (touched_row v past log row low) ∙ r.touched;
  kept = r.kept;
  answered = sym (impl_row v past log row low) ∙ r.answered;
  needed = λ other there c apart.
      ⊎_elim (λ same. absurd (apart (eqb-true other row same)))
      (λ done. ⊎_elim (λ s. inl s)
      (λ w. let m = well_logged v past log other w in
      let fit = logged_fit v past log other f m.0 in
      inr (m.0, (fit.1.answered, m.1)))
      (or_cases (is_skipped_at v.registered other) (list_any (ran_well other) (runs v past log)) done))
      (or_cases (nat_eq other row) (is_done (progress_of v past log) other)
      (needed_each v.registered row (λ other. nat_eq other row || is_done (progress_of v past log) other) r.needed other there c));
}

pub next_inside : (v : View) (past : List Event) (log : List ℕ) (row : ℕ) → next_row (progress_of v past log) ≡ Some row →
    row < length v.registered.rows
next_inside v past log row e = number_within v.registered row (found_in (is_runnable (progress_of v past log)) (row_numbers v.registered) row e)

pub fits_once : (v : View) (past : List Event) (log : List ℕ) → Fits v past log → Fits v past (run_once v past log)
fits_once v past log f = step (next_row (progress_of v past log)) refl
  where
    step : (o : Option ℕ) → next_row (progress_of v past log) ≡ o → Fits v past (log ++ option_to_list o)
    step None e = subst (λ (xs : List ℕ). Fits v past xs) (sym (append-nil log)) f
    step (Some row) e =
        let fit : Fit v past log row = fit_from_runnable v past log row f (next_inside v past log row e)
        (runnable_parts (progress_of v past log) row (found_passes (is_runnable (progress_of v past log)) (row_numbers v.registered) row e)) in
        record {
          at = λ before later x s. ⊎_elim
              (λ m. subst (λ (y : ℕ). Fit v past before y) m.1 (subst (λ (xs : List ℕ). Fit v past xs row) m.0 fit))
              (λ m. f.at before m.0 x m.1)
              (split_push log row before later x s);
        }

pub fits_many : (v : View) (past : List Event) (times : ℕ) (log : List ℕ) → Fits v past log → Fits v past (run_times v past times log)
fits_many v past zero log f = f
fits_many v past (suc times) log f = fits_many v past times (run_once v past log) (fits_once v past log f)

-- each row of a view's log was fit to run after those before it
pub log_fits : (v : View) (past : List Event) → Fits v past (log_of v past)
log_fits v [] = record { at = λ before later row e. absurd (nothing_split before later row e) }
log_fits v (event ∷ past) = fits_many v (event ∷ past) (length v.registered.rows) (log_of v past) (fits_kept v event past (log_of v past) (log_fits v past))
