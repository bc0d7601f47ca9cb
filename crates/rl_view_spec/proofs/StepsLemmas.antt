-- From one event to the next, and one run after another.
use Rattle.std.proofs.Common.{◌≡◌, ℕ, zero, suc, ◌+◌, ◌-◌, List, [], ◌∷◌, ◌++◌, Bool, true, false, ◌&&◌, ◌||◌, not, length}
use Rattle.std.proofs.Common.{map, Option, Some, None, refl, ap, sym, ◌∙◌, ⊎_elim, arith}
use Rattle.std.specs.Prelude.{Contains, option_map, option_to_list, if◌then◌else◌}
use Rattle.std.specs.Option.{option_or}
use Rattle.std.proofs.lemmas.Bool.{cases_lt}
use Rattle.rl_view_spec.specs.Closure.{Text, in_closures, is_skipped}
use Rattle.rl_view_spec.specs.Progress.{name_at, is_touched_at, outcome_at}
use Rattle.rl_view_spec.specs.View.{View, Event, Answer, answer_in, or_else, kind_of, is_touched, first_of, throws_at, throws_for, progress_of, run_once}
use Rattle.rl_view_spec.specs.View.{run_times, log_of}
use Rattle.rl_view_spec.specs.Steps.{RunsStay, TouchesRequested, AnswersOnce, RunsOneMore, LoopEnds, LoopIsFront, LoopIsShort}
use Rattle.rl_view_spec.specs.declared.Outcome.{Outcome}
use Rattle.rl_view_spec.proofs.ToolsLemmas.{contains_head, contains_tail}
use Rattle.rl_view_spec.proofs.PlacesLemmas.{skips_alike}
use Rattle.rl_view_spec.proofs.LogLemmas.{log_fits, fits_kept, fits_many, logged_fit, first_kept, touched_row, outcome_row}
use Rattle.rl_view_spec.proofs.OnceLemmas.{runs_once, once_many, grows_many}
use Rattle.rl_view_spec.proofs.AfterLemmas.{stays, run_out, short}

pub map_alike : {X Y : Type 0} (f g : X → Y) (xs : List X) → ((x : X) → Contains xs x → f x ≡ g x) → map f xs ≡ map g xs
map_alike f g [] h = refl
map_alike {X = X} {Y = Y} f g (x ∷ xs) h =
    ap (λ (y : Y). y ∷ map f xs) (h x (contains_head x xs)) ∙ ap (λ (ys : List Y). g x ∷ ys) (map_alike f g xs (λ y c. h y (contains_tail x xs y c)))

pub runs_stay : RunsStay
runs_stay v event past = map_alike
    (λ (row : ℕ). (row, throws_at v (event ∷ past) (name_at v.registered row))) (λ (row : ℕ). (row, throws_at v past (name_at v.registered row)))
    (log_of v past)
    (λ row c.
    let name : Text = name_at v.registered row in
    let m = logged_fit v past (log_of v past) row (log_fits v past) c in
    ap (λ (o : Option Answer). (row, throws_for v.throws name o)) (first_kept v event past name m.1.answered))

pub touches_requested : TouchesRequested
touches_requested v event past log row low =
    touched_row v (event ∷ past) log row low
    ∙ ap (λ (b : Bool). in_closures v.registered event.requested (name_at v.registered row) || b) (sym (touched_row v past log row low))

kind_or : (o later : Option Answer) → option_map kind_of (or_else o later) ≡ option_or (option_map kind_of o) (option_map kind_of later)
kind_or None later = refl
kind_or (Some answer) later = refl

kind_if : (b : Bool) (o : Option Answer) → option_map kind_of (if b then o else None) ≡ (if b then option_map kind_of o else None)
kind_if true o = refl
kind_if false o = refl

pub answers_once : AnswersOnce
answers_once v event past log distinct row low =
    let name : Text = name_at v.registered row in
    let due : Bool = is_touched v (event ∷ past) name && not (is_skipped v.registered name) in
    outcome_row v (event ∷ past) log row low
    ∙ kind_or (first_of v past name) (if due then answer_in name event else None)
    ∙ ap (λ (o : Option Outcome). option_or o (option_map kind_of (if due then answer_in name event else None))) (sym (outcome_row v past log row low))
    ∙ ap (option_or (outcome_at (progress_of v past log) row))
    (kind_if due (answer_in name event)
    ∙ ap (λ (b : Bool). if b && not (is_skipped v.registered name) then option_map kind_of (answer_in name event) else None)
    (sym (touched_row v (event ∷ past) log row low))
    ∙ ap (λ (b : Bool). if is_touched_at (progress_of v (event ∷ past) log) row && not b then option_map kind_of (answer_in name event) else None)
    (sym (skips_alike v.registered distinct row low)))

-- ---- one run after another

run_last : (v : View) (past : List Event) (times : ℕ) (log : List ℕ) → run_times v past (suc times) log ≡ run_once v past (run_times v past times log)
run_last v past zero log = refl
run_last v past (suc times) log = run_last v past times (run_once v past log)

pub runs_one_more : RunsOneMore
runs_one_more v past times log row e =
    run_last v past times log ∙ ap (λ (o : Option ℕ). run_times v past times log ++ option_to_list o) e

run_more : (v : View) (past : List Event) (times more : ℕ) (log : List ℕ) →
    run_times v past (times + more) log ≡ run_times v past more (run_times v past times log)
run_more v past zero more log = let e : zero + more ≡ more = omega arith in ap (λ (n : ℕ). run_times v past n log) e
run_more v past (suc times) more log =
    let e : suc times + more ≡ suc (times + more) = omega arith in
    ap (λ (n : ℕ). run_times v past n log) e ∙ run_more v past times more (run_once v past log)

pub loop_ends : LoopEnds
loop_ends v event past times e =
    let now : List Event = event ∷ past in
    let rows : ℕ = length v.registered.rows in
    ⊎_elim
    (λ lt. let n : times + (rows - times) ≡ rows = omega arith in
    sym (stays v now (rows - times) (run_times v now times (log_of v past)) e)
    ∙ sym (run_more v now times (rows - times) (log_of v past))
    ∙ ap (λ (n : ℕ). run_times v now n (log_of v past)) n)
    (λ ge. let n : times ≡ rows + (times - rows) = omega arith in
    ap (λ (n : ℕ). run_times v now n (log_of v past)) n
    ∙ run_more v now rows (times - rows) (log_of v past)
    ∙ stays v now (times - rows) (log_of v now) (run_out v now))
    (cases_lt times rows)

pub loop_is_front : LoopIsFront
loop_is_front v event past times =
    let now : List Event = event ∷ past in
    let rows : ℕ = length v.registered.rows in
    let m = grows_many v now rows (run_times v now times (log_of v past)) in
    let n : times + rows ≡ rows + times = omega arith in (
      m.0,
      sym (stays v now times (log_of v now) (run_out v now)) ∙ sym (run_more v now rows times (log_of v past))
          ∙ ap (λ (n : ℕ). run_times v now n (log_of v past)) (sym n)
          ∙ run_more v now times rows (log_of v past) ∙ m.1,
    )

pub loop_is_short : LoopIsShort
loop_is_short v event past times =
    let now : List Event = event ∷ past in
    short v now (run_times v now times (log_of v past)) (once_many v now times (log_of v past) (runs_once v past))
    (fits_many v now times (log_of v past) (fits_kept v event past (log_of v past) (log_fits v past)))
