-- What observers would say of rows that did not run changes nothing.
use Rattle.std.proofs.Common.{◌≡◌, ℕ, zero, suc, List, [], ◌∷◌, ◌++◌, Bool, true, false, ◌&&◌, not, length, Option, None, refl, ap, ap₂}
use Rattle.std.proofs.Common.{sym, subst, ◌∙◌, ⊎_elim}
use Rattle.std.specs.Prelude.{Contains, option_map, option_to_list, if◌then◌else◌}
use Rattle.std.proofs.lemmas.Bool.{cases_Bool, both_ways, false_from_ne_true}
use Rattle.std.proofs.lemmas.List.Elements.{Contains-append_left}
use Rattle.rl_names.specs.declared.row.Row.{Row}
use Rattle.rl_view_spec.specs.Closure.{Text, has_row, is_skipped}
use Rattle.rl_view_spec.specs.Progress.{Progress, Cell, name_at, next_row, phase_of}
use Rattle.rl_view_spec.specs.View.{View, Event, Answer, Throws, answer_in, or_else, kind_of, is_touched, first_of, throws_at, throws_for, cell_of, progress_of}
use Rattle.rl_view_spec.specs.View.{run_once, run_times, state_of, log_of}
use Rattle.rl_view_spec.specs.Order.{observed_by, OnlyRunsThrow}
use Rattle.rl_view_spec.proofs.PlacesLemmas.{place_of}
use Rattle.rl_view_spec.proofs.ResolveLemmas.{touched_resolves, closure_itself}
use Rattle.rl_view_spec.proofs.LogLemmas.{log_fits, logged_fit, first_kept}
use Rattle.rl_view_spec.proofs.OnceLemmas.{grows_many, log_grows}
use Rattle.rl_view_spec.proofs.StatesLemmas.{phase_alike, untouched}
use Rattle.rl_view_spec.proofs.StepsLemmas.{map_alike}

-- the outcomes do not depend on observers
pub first_same : (v : View) (other : Throws) (past : List Event) (name : Text) → first_of v past name ≡ first_of (observed_by v other) past name
first_same v other [] name = refl
first_same v other (event ∷ past) name =
    ap (λ (o : Option Answer). or_else o (if is_touched v (event ∷ past) name && not (is_skipped v.registered name) then answer_in name event else None))
    (first_same v other past name)

-- the observers agree on these rows
abbrev pub Agree : View → Throws → List Event → List ℕ → Type 0
Agree v other past log = (row : ℕ) → Contains log row →
    throws_at v past (name_at v.registered row) ≡ throws_at (observed_by v other) past (name_at v.registered row)

table_same : (v : View) (other : Throws) (past : List Event) (log : List ℕ) → Agree v other past log →
    progress_of v past log ≡ progress_of (observed_by v other) past log
table_same v other past log agree =
    ap₂ (λ (cells : List Cell) (ran : List (ℕ × Bool)). record { registered = v.registered; cells = cells; ran = ran; executing = None })
    (map_alike (cell_of v past) (cell_of (observed_by v other) past) v.registered.rows (λ row c. cells_same row))
    (map_alike (λ (row : ℕ). (row, throws_at v past (name_at v.registered row)))
    (λ (row : ℕ). (row, throws_at (observed_by v other) past (name_at v.registered row))) log (λ row c. ap (λ (b : Bool). (row, b)) (agree row c)))
  where
    cells_same : (row : Row) → cell_of v past row ≡ cell_of (observed_by v other) past row
    cells_same row = ap (λ (o : Option Answer). record { touched = is_touched v past row.name; outcome = option_map kind_of o })
        (first_same v other past row.name)

once_same : (v : View) (other : Throws) (past : List Event) (log : List ℕ) → Agree v other past log →
    run_once v past log ≡ run_once (observed_by v other) past log
once_same v other past log agree = ap (λ (t : Progress). log ++ option_to_list (next_row t)) (table_same v other past log agree)

pub times_same : (v : View) (other : Throws) (past : List Event) (times : ℕ) (log : List ℕ) → Agree v other past (run_times v past times log) →
    run_times v past times log ≡ run_times (observed_by v other) past times log
times_same v other past zero log agree = refl
times_same v other past (suc times) log agree =
    let m = grows_many v past times (run_once v past log) in
    let early : Agree v other past log = λ row c. agree row (subst (λ (xs : List ℕ). Contains xs row) (sym m.1)
    (Contains-append_left (run_once v past log) m.0 row (Contains-append_left log (option_to_list (next_row (progress_of v past log))) row c))) in
    times_same v other past times (run_once v past log) agree
    ∙ ap (run_times (observed_by v other) past times) (once_same v other past log early)

pub log_same : (v : View) (other : Throws) (past : List Event) → Agree v other past (log_of v past) → log_of v past ≡ log_of (observed_by v other) past
log_same v other [] agree = refl
log_same v other (event ∷ past) agree =
    let now : List Event = event ∷ past in
    let grown = log_grows v event past in
    let before : Agree v other past (log_of v past) = λ row c.
    (let name : Text = name_at v.registered row in
    let kept : first_of v now name ≡ first_of v past name =
    first_kept v event past name (logged_fit v past (log_of v past) row (log_fits v past) c).1.answered in
    let kept' : first_of (observed_by v other) now name ≡ first_of (observed_by v other) past name = sym (first_same v other now name) ∙ kept
    ∙ first_same v other past name in
    let later : throws_at v now name ≡ throws_at (observed_by v other) now name =
    agree row (subst (λ (xs : List ℕ). Contains xs row) (sym grown.1) (Contains-append_left (log_of v past) grown.0 row c)) in
    sym (ap (throws_for v.throws name) kept) ∙ later ∙ ap (throws_for other name) kept') in
    times_same v other now (length v.registered.rows) (log_of v past) agree
    ∙ ap (run_times (observed_by v other) now (length v.registered.rows)) (log_same v other past before)

pub only_runs_throw : OnlyRunsThrow
only_runs_throw v past other distinct lawful agree = (
  log_same v other past agree,
  λ name. ⊎_elim (λ has. rows name has) (λ no. gone name no)
      (cases_Bool (has_row v.registered name)),
)
  where
    rows : (name : Text) → has_row v.registered name ≡ true → state_of v past name ≡ state_of (observed_by v other) past name
    rows name has =
        let p = place_of v.registered name has in
        let tables : progress_of v past (log_of v past) ≡ progress_of (observed_by v other) past (log_of (observed_by v other) past) =
        table_same v other past (log_of v past) agree ∙ ap (progress_of (observed_by v other) past) (log_same v other past agree) in
        let states : state_of v past (name_at v.registered p.at) ≡ state_of (observed_by v other) past (name_at v.registered p.at) =
        sym (phase_alike v past lawful distinct p.at p.inside) ∙ ap (λ (t : Progress). phase_of t p.at) tables
        ∙ phase_alike (observed_by v other) past lawful distinct p.at p.inside in
        subst (λ (n : Text). state_of v past n ≡ state_of (observed_by v other) past n) p.named states

    gone : (name : Text) → has_row v.registered name ≡ false → state_of v past name ≡ state_of (observed_by v other) past name
    gone name no' =
        let e : is_touched v past name ≡ false = false_from_ne_true (is_touched v past name)
        (λ t. both_ways (has_row v.registered name) no' ((touched_resolves v past name lawful t).known name (closure_itself v.registered name))) in
        untouched v past name e ∙ sym (untouched (observed_by v other) past name e)
