-- A row runs: what the observers would have said of the rows that did not run before changes nothing.
use Rattle.std.proofs.Common.{◌≡◌, ℕ, ◌<◌, ◌≤◌, List, [], ◌∷◌, ◌++◌, Bool, true, false, ◌&&◌, ◌||◌, Option, Some, None, length, map, refl, ap, ap₂, sym}
use Rattle.std.proofs.Common.{subst, ◌∙◌, arith, length-append}
use Rattle.std.specs.Prelude.{Contains, bytes_eq, option_map}
use Rattle.std.proofs.lemmas.Bool.{and_parts, both_ways, false_from_ne_true}
use Rattle.std.proofs.lemmas.List.Elements.{Contains-append_left}
use Rattle.std.proofs.lemmas.List.Folds.{list_any-append}
use Rattle.rl_names.specs.declared.row.Row.{Row}
use Rattle.rl_view_spec.specs.Closure.{Text, Registered}
use Rattle.rl_view_spec.specs.Keys.{version_of}
use Rattle.rl_view_spec.specs.Order.{observed_by}
use Rattle.rl_view_spec.specs.Progress.{Cell, Progress, HasDistinctNames, has_run, is_runnable, name_at, next_row, row_numbers}
use Rattle.rl_view_spec.specs.View.{View, Event, Answer, Implementation, Missing, Failed, GivenUp, Throws, cell_of, first_of, is_implementation}
use Rattle.rl_view_spec.specs.View.{is_touched, kind_of, log_of, progress_of, throws_at, throws_for}
use Rattle.rl_view_spec.proofs.ChainsLemmas.{same}
use Rattle.rl_view_spec.proofs.LogLemmas.{Runnable, impl_row, log_fits, logged_fit, logged_ran, next_inside, runnable_parts}
use Rattle.rl_view_spec.proofs.AfterLemmas.{short}
use Rattle.rl_view_spec.proofs.ObservedLemmas.{Agree, first_same}
use Rattle.rl_view_spec.proofs.OnceLemmas.{found_passes, runs_once}
use Rattle.rl_view_spec.proofs.PlacesLemmas.{alike, apart, bytes_eq-from}
use Rattle.rl_view_spec.proofs.StepsLemmas.{map_alike}
use Rattle.rl_view_spec.proofs.ToolsLemmas.{any_one, contains_map}
use Rattle.rl_states.specs.Changes.{after_ran}
use Rattle.rl_view.specs.Seen.{HasSeen, registered_now}
use Rattle.rl_view.proofs.RunsLemmas.{seen_ran}
use Rattle.rl_book_spec.specs.Kept.{IsStage, threw_in}
use Rattle.rl_book_spec.specs.Opening.{Opening, view_of}
use Rattle.rl_book_spec.proofs.StageLemmas.{stage_front, stage_goes_on, stage_others}

-- ---- other observers, who agree on the rows that ran

progress_same : (v : View) (other : Throws) (past : List Event) (log : List ℕ) → Agree v other past log
    → progress_of v past log ≡ progress_of (observed_by v other) past log
progress_same v other past log agree =
    ap₂ (λ (cells : List Cell) (ran : List (ℕ × Bool)). record { registered = v.registered; cells = cells; ran = ran; executing = None })
    (map_alike (cell_of v past) (cell_of (observed_by v other) past) v.registered.rows
    (λ row c. ap (λ (o : Option Answer). record { touched = is_touched v past row.name; outcome = option_map kind_of o }) (first_same v other past row.name)))
    (map_alike (λ (row : ℕ). (row, throws_at v past (name_at v.registered row)))
    (λ (row : ℕ). (row, throws_at (observed_by v other) past (name_at v.registered row))) log (λ row c. ap (λ (b : Bool). (row, b)) (agree row c)))

registered_same : (v : View) (other : Throws) (past : List Event) → registered_now v past ≡ registered_now (observed_by v other) past
registered_same v other past =
    ap (λ (rows : List Row). record v.registered { rows = rows })
    (map_alike (λ (row : Row). record row { version = version_of (first_of v past row.name) row.version })
    (λ (row : Row). record row { version = version_of (first_of (observed_by v other) past row.name) row.version }) v.registered.rows
    (λ row c. ap (λ (o : Option Answer). record row { version = version_of o row.version }) (first_same v other past row.name)))

-- a table stands for both views
seen_same : (v : View) (other : Throws) (past : List Event) (log : List ℕ) (t : Progress) → Agree v other past log → HasSeen v past log t
    → HasSeen (observed_by v other) past log t
seen_same v other past log t agree s = record {
  distinct = s.distinct;
  table =
      s.table ∙ ap₂ (λ (p : Progress) (r : Registered). record p { registered = r }) (progress_same v other past log agree) (registered_same v other past);
}

-- ---- rows of a stage

stage_inside : (v : View) (past : List Event) (log : List ℕ) (row : ℕ) → IsStage v past log → Contains log row → row < length v.registered.rows
stage_inside v past log row stage c =
    let front = stage_front v past log stage in
    (logged_fit v past (log_of v past) row (log_fits v past)
    (subst (λ (xs : List ℕ). Contains xs row) (sym front.1) (Contains-append_left log front.0 row c))).1.inside

-- a stage has no more rows than there are
pub stage_short : (v : View) (past : List Event) (log : List ℕ) → IsStage v past log → length log ≤ length v.registered.rows
stage_short v past log stage =
    let front = stage_front v past log stage in
    let long = short v past (log_of v past) (runs_once v past) (log_fits v past) in
    let split = ap length front.1 in
    omega (arith, long, split, length-append log front.0)

-- ---- one row more threw, or did not

throws_alike : (name : Text) (one other : Throws) (o : Option Answer) → ((version script : Text) → one name version script ≡ other name version script)
    → throws_for one name o ≡ throws_for other name o
throws_alike name one other None h = refl
throws_alike name one other (Some (Implementation version script)) h = h version script
throws_alike name one other (Some Missing) h = refl
throws_alike name one other (Some Failed) h = refl
throws_alike name one other (Some GivenUp) h = refl

abbrev and_row : Bool → Bool → Bool → Bool
and_row before threw named = before || (threw && named || false)

and_not_named : (before threw : Bool) → and_row before threw false ≡ before
and_not_named true true = refl
and_not_named true false = refl
and_not_named false true = refl
and_not_named false false = refl

and_named : (threw : Bool) → and_row false threw true ≡ threw
and_named true = refl
and_named false = refl

-- the run of a row that is due
module _ (o : Opening) (past : List Event) (ran : List (ℕ × Bool)) (row : ℕ) (distinct : HasDistinctNames o.registered) where
  abbrev log : List ℕ
  log = map (λ (run : ℕ × Bool). run.0) ran

  abbrev before : View
  before = view_of (threw_in o.registered ran) o

  abbrev ran_with : Bool → List (ℕ × Bool)
  ran_with threw = ran ++ (row, threw) ∷ []

  abbrev after : Bool → View
  after threw = view_of (threw_in o.registered (ran_with threw)) o

  module _ (stage : IsStage before past log) (next : next_row (progress_of before past log) ≡ Some row) where
    parts : Runnable (progress_of before past log) row
    parts = runnable_parts (progress_of before past log) row
        (found_passes (is_runnable (progress_of before past log)) (row_numbers o.registered) row next)

    pub inside : row < length o.registered.rows
    inside = next_inside before past log row next

    pub answered : is_implementation (first_of before past (name_at o.registered row)) ≡ true
    answered = sym (impl_row before past log row inside) ∙ parts.answered

    -- no row that ran has its name
    not_named : (other : ℕ) → Contains log other → bytes_eq (name_at o.registered row) (name_at o.registered other) ≡ false
    not_named other c = false_from_ne_true (bytes_eq (name_at o.registered row) (name_at o.registered other)) (λ e.
        let k : row ≡ other = apart o.registered distinct row other inside (stage_inside before past log other stage c)
        (same (name_at o.registered row) (name_at o.registered other) e) in
        both_ways (has_run (progress_of before past log) row) parts.fresh
        (logged_ran before past log row (subst (λ (x : ℕ). Contains log x) (sym k) c)))

    threw_before : threw_in o.registered ran (name_at o.registered row) [] [] ≡ false
    threw_before = false_from_ne_true (threw_in o.registered ran (name_at o.registered row) [] []) (λ e.
        let m = any_one (λ (run : ℕ × Bool). run.1 && bytes_eq (name_at o.registered run.0) (name_at o.registered row)) ran e in
        let named : bytes_eq (name_at o.registered m.0.0) (name_at o.registered row) ≡ true =
        (and_parts m.0.1 (bytes_eq (name_at o.registered m.0.0) (name_at o.registered row)) m.2).1 in
        let back : bytes_eq (name_at o.registered row) (name_at o.registered m.0.0) ≡ true =
        bytes_eq-from (name_at o.registered row) (name_at o.registered m.0.0) (sym (same (name_at o.registered m.0.0) (name_at o.registered row) named)) in
        both_ways (bytes_eq (name_at o.registered row) (name_at o.registered m.0.0))
        (not_named m.0.0 (contains_map (λ (run : ℕ × Bool). run.0) ran m.0 m.1)) back)

    threw_with : (threw : Bool) (name : Text) (version script : Text) → threw_in o.registered (ran_with threw) name version script
        ≡ and_row (threw_in o.registered ran name version script) threw (bytes_eq (name_at o.registered row) name)
    threw_with threw name version script =
        list_any-append (λ (run : ℕ × Bool). run.1 && bytes_eq (name_at o.registered run.0) name) ran ((row, threw) ∷ [])

    agree : (threw : Bool) → Agree before (threw_in o.registered (ran_with threw)) past log
    agree threw other c =
        let name : Text = name_at o.registered other in
        throws_alike name (threw_in o.registered ran) (threw_in o.registered (ran_with threw)) (first_of before past name) (λ version script.
        sym (threw_with threw name version script
        ∙ ap (and_row (threw_in o.registered ran name version script) threw) (not_named other c)
        ∙ and_not_named (threw_in o.registered ran name version script) threw))
        ∙ ap (throws_for (threw_in o.registered (ran_with threw)) name) (first_same before (threw_in o.registered (ran_with threw)) past name)

    -- the row threw as it is noted
    throws_row : (threw : Bool) → throws_at (after threw) past (name_at o.registered row) ≡ threw
    throws_row threw = step (first_of (after threw) past name)
        (ap is_implementation (sym (first_same before (threw_in o.registered (ran_with threw)) past name)) ∙ answered)
      where
        name : Text
        name = name_at o.registered row

        step : (o' : Option Answer) → is_implementation o' ≡ true → throws_for (threw_in o.registered (ran_with threw)) name o' ≡ threw
        step None h = cc
        step (Some (Implementation version script)) h =
            threw_with threw name version script
            ∙ ap₂ (λ (before named : Bool). and_row before threw named) threw_before (alike name)
            ∙ and_named threw
        step (Some Missing) h = cc
        step (Some Failed) h = cc
        step (Some GivenUp) h = cc

    pub stage_ran : (threw : Bool) → IsStage (after threw) past (log ++ row ∷ [])
    stage_ran threw =
        stage_goes_on (after threw) past log row (stage_others before (threw_in o.registered (ran_with threw)) past log stage (agree threw))
        (ap next_row (sym (progress_same before (threw_in o.registered (ran_with threw)) past log (agree threw))) ∙ next)

    pub seen_ran_on : (threw : Bool) (t t' : Progress) → HasSeen before past log t → t' ≡ after_ran row threw t
        → HasSeen (after threw) past (log ++ row ∷ []) t'
    seen_ran_on threw t t' s e =
        seen_ran (after threw) past log row t t' (seen_same before (threw_in o.registered (ran_with threw)) past log t (agree threw) s)
        (e ∙ ap (λ (b : Bool). after_ran row b t) (sym (throws_row threw)))
