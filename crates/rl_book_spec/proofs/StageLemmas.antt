-- How far a book has executed.
use Rattle.std.proofs.Common.{◌≡◌, ℕ, zero, suc, ◌<◌, List, [], ◌∷◌, ◌++◌, Bool, true, false, ◌&&◌, ◌||◌, not, length}
use Rattle.std.proofs.Common.{map, Option, Some, None, refl, ap, ap₂, sym, subst, ◌∙◌, inl, inr, append-nil}
use Rattle.std.specs.Prelude.{◌==◌, bytes_eq, Contains, find, option_map, option_to_list, if◌then◌else◌, nat_lt}
use Rattle.std.specs.List.{list_all, list_any}
use Rattle.std.specs.Option.{option_map_or}
use Rattle.std.proofs.lemmas.Bool.{and_parts, not-true}
use Rattle.rl_view_spec.specs.Closure.{Text, Registered, in_closures, is_skipped}
use Rattle.rl_view_spec.specs.Progress.{name_at, row_numbers, is_skipped_at, is_touched_at, outcome_at, is_impl, is_runnable, all_needed, next_row}
use Rattle.rl_view_spec.specs.View.{View, Event, Answer, Implementation, Missing, Failed, GivenUp, Throws, answer_in, or_else, is_touched, first_of}
use Rattle.rl_view_spec.specs.View.{is_implementation, throws_for, throws_at, progress_of, run_once, run_times, log_of}
use Rattle.rl_view_spec.proofs.AfterLemmas.{run_out, stays}
use Rattle.rl_view_spec.proofs.LogLemmas.{first_kept, impl_row, log_fits, logged_fit, runs, touched_row}
use Rattle.rl_view_spec.proofs.ObservedLemmas.{Agree, first_same, log_same, times_same}
use Rattle.rl_view_spec.specs.Order.{observed_by}
use Rattle.std.proofs.lemmas.List.Elements.{Contains-append_left}
use Rattle.rl_view_spec.proofs.OnceLemmas.{grows_many}
use Rattle.rl_view_spec.proofs.PlacesLemmas.{number_within}
use Rattle.rl_view_spec.proofs.StepsLemmas.{loop_ends, loop_is_front, map_alike, runs_one_more}
use Rattle.rl_view_spec.proofs.ToolsLemmas.{all_each, contains_head, contains_tail, found_in}
use Rattle.rl_book_spec.specs.Book.{nothing, bring, given_up}
use Rattle.rl_book_spec.specs.Kept.{is_nothing, is_quiet}
use Rattle.rl_book_spec.specs.Laws.{StageEnds, StageGoesOn, StageBegins, StageStays, StageIsFront, StageUnderOthers, QuietChangesNothing, LossesAreQuiet}
use Rattle.rl_book_spec.specs.Opening.{Opening}
use Rattle.rl_book_spec.specs.Traffic.{asked_of, may_be_lost}
use Rattle.rl_book_spec.specs.declared.Asked.{Asked}
use Rattle.rl_book_spec.specs.declared.Sent.{Sent}
use Rattle.rl_book_spec.specs.declared.Batch.{Batch}

-- ---- quiet events

quiet_nothing : (names : List Text) → is_nothing names ≡ true → names ≡ []
quiet_nothing [] h = refl
quiet_nothing (name ∷ names) h = cc

pub quiet_answer : (event : Event) (name : Text) → is_quiet event ≡ true → is_implementation (answer_in name event) ≡ false
quiet_answer event name h = step (find (λ (coming : Text × Answer). bytes_eq coming.0 name) event.came) refl
  where
    step : (o : Option (Text × Answer)) → find (λ (coming : Text × Answer). bytes_eq coming.0 name) event.came ≡ o
        → is_implementation (option_map (λ (coming : Text × Answer). coming.1) o) ≡ false
    step None e = refl
    step (Some coming) e = not-true (is_implementation (Some coming.1))
        (all_each (λ (coming : Text × Answer). not (is_implementation (Some coming.1))) event.came coming
        (and_parts (is_nothing event.requested) (list_all (λ (coming : Text × Answer). not (is_implementation (Some coming.1))) event.came) h).1
        (found_in (λ (coming : Text × Answer). bytes_eq coming.0 name) event.came coming e))

no_throw : (throws : Throws) (name : Text) (o : Option Answer) → is_implementation o ≡ false → throws_for throws name o ≡ false
no_throw throws name None h = refl
no_throw throws name (Some (Implementation version script)) h = cc
no_throw throws name (Some Missing) h = refl
no_throw throws name (Some Failed) h = refl
no_throw throws name (Some GivenUp) h = refl

if_none : (b : Bool) (o : Option Answer) → is_implementation o ≡ false → is_implementation (if b then o else None) ≡ false
if_none true o h = h
if_none false o h = refl

-- what a quiet event leaves as it was
module _ (v : View) (event : Event) (past : List Event) (quiet : is_quiet event ≡ true) where
  -- what it brings for a name, which is no implementation
  abbrev brought : Text → Option Answer
  brought name = if is_touched v (event ∷ past) name && not (is_skipped v.registered name) then answer_in name event else None

  none_brought : (name : Text) → is_implementation (brought name) ≡ false
  none_brought name = if_none (is_touched v (event ∷ past) name && not (is_skipped v.registered name)) (answer_in name event) (quiet_answer event name quiet)

  quiet_kind : (name : Text) → is_implementation (first_of v (event ∷ past) name) ≡ is_implementation (first_of v past name)
  quiet_kind name = step (first_of v past name)
    where
      step : (o : Option Answer) → is_implementation (or_else o (brought name)) ≡ is_implementation o
      step None = none_brought name
      step (Some answer) = refl

  quiet_throws : (name : Text) → throws_at v (event ∷ past) name ≡ throws_at v past name
  quiet_throws name = step (first_of v past name)
    where
      step : (o : Option Answer) → throws_for v.throws name (or_else o (brought name)) ≡ throws_for v.throws name o
      step None = no_throw v.throws name (brought name) (none_brought name)
      step (Some answer) = refl

  quiet_touched : (name : Text) → is_touched v (event ∷ past) name ≡ is_touched v past name
  quiet_touched name =
      ap (λ (names : List Text). in_closures v.registered names name || is_touched v past name)
      (quiet_nothing event.requested (and_parts (is_nothing event.requested)
      (list_all (λ (coming : Text × Answer). not (is_implementation (Some coming.1))) event.came) quiet).0)

-- what makes a row runnable
abbrev may_run : Registered → List (ℕ × Bool) → ℕ → Bool → Bool → Bool
may_run r ran row touched answered =
    touched && not (is_skipped_at r row) && answered && not (list_any (λ run. run.0 == row) ran)
    && all_needed r row (λ other. other == row || (is_skipped_at r other || list_any (λ run. run.0 == other && not run.1) ran))

find_alike : (p q : ℕ → Bool) (xs : List ℕ) → ((x : ℕ) → Contains xs x → p x ≡ q x) → find p xs ≡ find q xs
find_alike p q [] h = refl
find_alike p q (x ∷ xs) h =
    ap (λ (b : Bool). if b then Some x else find p xs) (h x (contains_head x xs))
    ∙ ap (λ (o : Option ℕ). if q x then Some x else o) (find_alike p q xs (λ y c. h y (contains_tail x xs y c)))

pub quiet_next : QuietChangesNothing
quiet_next v event past log h = find_alike (is_runnable (progress_of v (event ∷ past) log)) (is_runnable (progress_of v past log)) (row_numbers v.registered)
    (λ row c. same row (number_within v.registered row c))
  where
    ran : runs v (event ∷ past) log ≡ runs v past log
    ran = map_alike (λ (row : ℕ). (row, throws_at v (event ∷ past) (name_at v.registered row)))
        (λ (row : ℕ). (row, throws_at v past (name_at v.registered row))) log
        (λ row c. ap (λ (b : Bool). (row, b)) (quiet_throws v event past h (name_at v.registered row)))

    same : (row : ℕ) → row < length v.registered.rows → is_runnable (progress_of v (event ∷ past) log) row ≡ is_runnable (progress_of v past log) row
    same row low =
        ap₂ (λ (touched answered : Bool). may_run v.registered (runs v (event ∷ past) log) row touched answered)
        (touched_row v (event ∷ past) log row low ∙ quiet_touched v event past h (name_at v.registered row) ∙ sym (touched_row v past log row low))
        (impl_row v (event ∷ past) log row low ∙ quiet_kind v event past h (name_at v.registered row) ∙ sym (impl_row v past log row low))
        ∙ ap (λ (rs : List (ℕ × Bool)). may_run v.registered rs row (is_touched_at (progress_of v past log) row)
        (is_impl (outcome_at (progress_of v past log) row))) ran

-- ---- stages

quiet_times : (v : View) (event : Event) (past : List Event) → is_quiet event ≡ true → (times : ℕ) (log : List ℕ)
    → run_times v (event ∷ past) times log ≡ run_times v past times log
quiet_times v event past h zero log = refl
quiet_times v event past h (suc times) log =
    ap (λ (o : Option ℕ). run_times v (event ∷ past) times (log ++ option_to_list o)) (quiet_next v event past log h)
    ∙ quiet_times v event past h times (run_once v past log)

-- a quiet event adds nothing to the log
quiet_log : (v : View) (event : Event) (past : List Event) → is_quiet event ≡ true → log_of v (event ∷ past) ≡ log_of v past
quiet_log v event past h = quiet_times v event past h (length v.registered.rows) (log_of v past)
    ∙ stays v past (length v.registered.rows) (log_of v past) (run_out v past)

pub stage_ends : StageEnds
stage_ends v [] log s e = s
stage_ends v (event ∷ past) log (inl (times, is)) e = is ∙ loop_ends v event past times
    (ap (λ (xs : List ℕ). next_row (progress_of v (event ∷ past) xs)) (sym is) ∙ e)
stage_ends v (event ∷ past) log (inr (quiet, s)) e = stage_ends v past log s (sym (quiet_next v event past log quiet) ∙ e)
    ∙ sym (quiet_log v event past quiet)

pub stage_goes_on : StageGoesOn
stage_goes_on v [] log row s e = let none : None ≡ Some row = sym (run_out v []) ∙ ap (λ (xs : List ℕ). next_row (progress_of v [] xs)) (sym s) ∙ e
    in cc
stage_goes_on v (event ∷ past) log row (inl (times, is)) e =
    inl (
      suc times,
      ap (λ (xs : List ℕ). xs ++ row ∷ []) is ∙ sym (runs_one_more v (event ∷ past) times (log_of v past) row
          (ap (λ (xs : List ℕ). next_row (progress_of v (event ∷ past) xs)) (sym is) ∙ e)),
    )
stage_goes_on v (event ∷ past) log row (inr (quiet, s)) e = inr (quiet, stage_goes_on v past log row s (sym (quiet_next v event past log quiet) ∙ e))

pub stage_begins : StageBegins
stage_begins v event past log s e = inl (0, stage_ends v past log s e)

pub stage_stays : StageStays
stage_stays v event past log quiet s = inr (quiet, s)

pub stage_front : StageIsFront
stage_front v [] log s = ([], sym s ∙ sym (append-nil log))
stage_front v (event ∷ past) log (inl (times, is)) = let m = loop_is_front v event past times in (m.0, m.1 ∙ ap (λ (xs : List ℕ). xs ++ m.0) (sym is))
stage_front v (event ∷ past) log (inr (quiet, s)) = let m = stage_front v past log s in (m.0, quiet_log v event past quiet ∙ m.1)

-- ---- other observers

pub stage_others : StageUnderOthers
stage_others v other [] log s agree = s
stage_others v other (event ∷ past) log (inl (times, is)) agree =
    let grown = grows_many v (event ∷ past) times (log_of v past) in
    let early : Agree v other past (log_of v past) = λ row c.
    (let name : Text = name_at v.registered row in
    let kept : first_of v (event ∷ past) name ≡ first_of v past name = first_kept v event past name
    (logged_fit v past (log_of v past) row (log_fits v past) c).1.answered in
    let now : throws_at v (event ∷ past) name ≡ throws_at (observed_by v other) (event ∷ past) name =
    agree row (subst (λ (xs : List ℕ). Contains xs row) (sym is) (subst (λ (xs : List ℕ). Contains xs row) (sym grown.1)
    (Contains-append_left (log_of v past) grown.0 row c))) in
    let kept' : first_of (observed_by v other) (event ∷ past) name ≡ first_of (observed_by v other) past name =
    sym (first_same v other (event ∷ past) name) ∙ kept ∙ first_same v other past name in
    sym (ap (throws_for v.throws name) kept) ∙ now ∙ ap (throws_for other name) kept') in
    inl (
      times,
      is ∙ times_same v other (event ∷ past) times (log_of v past) (λ row c. agree row (subst (λ (xs : List ℕ). Contains xs row) (sym is) c))
          ∙ ap (run_times (observed_by v other) (event ∷ past) times) (log_same v other past early),
    )
stage_others v other (event ∷ past) log (inr (quiet, s)) agree =
    inr (
      quiet,
      stage_others v other past log s (λ row c. sym (quiet_throws v event past quiet (name_at v.registered row)) ∙ agree row c
          ∙ quiet_throws (observed_by v other) event past quiet (name_at v.registered row)),
    )

-- ---- losses

given_up_quiet : (o : Opening) (batch : Batch) → is_quiet (bring (given_up o.registered batch)) ≡ true
given_up_quiet o batch = all_given batch.rows
  where
    all_given : (rows : List ℕ) → list_all (λ (coming : Text × Answer). not (is_implementation (Some coming.1)))
        (map (λ (row : ℕ). (name_at o.registered row, GivenUp)) rows) ≡ true
    all_given [] = refl
    all_given (row ∷ rows) = all_given rows

pub loss_quiet : LossesAreQuiet
loss_quiet o t ask = step (asked_of t ask)
  where
    chosen : (b : Bool) (sent : Sent) → is_quiet (if b then bring (given_up o.registered sent.batch) else nothing) ≡ true
    chosen true sent = given_up_quiet o sent.batch
    chosen false sent = refl

    step : (found : Option (Asked × Sent)) → is_quiet (option_map_or (λ (pair : Asked × Sent). if may_be_lost pair && nat_lt 1 pair.1.losses
        then bring (given_up o.registered pair.1.batch) else nothing) found nothing) ≡ true
    step None = refl
    step (Some pair) = chosen (may_be_lost pair && nat_lt 1 pair.1.losses) pair.1
